-- The statement, proved over the definitions for every circuit that the circuit check accepts.
-- Assumes nothing.
use Rattle.std.specs.Prelude.{Ok}
use Prim.Native.Nat.{ℕ, ◌+◌, ◌*◌, ◌/◌, ◌≤◌}
use mathlib.Core.Path.{◌≡◌, sym, ap, ◌∙◌}
use mathlib.Core.Bool.{true, false}
use mathlib.Core.List.{List, [], map, append-nil}
use native.Mathlib.Omega.{arith}
use borrow.Author.Tests.{eq-eqb, ne_eqb, le-leb}
use lib.ListN.{length}
use Rattle.laws.proofs.Areas.{length-encodes}
use Rattle.circuit.specs.declared.records.Output.{Output}
use Rattle.circuit.specs.Records.{encode_node, encode_output, nodes_of, output_wires}
use Rattle.circuit.specs.Check.{nodes_in, wires_in, topological_fault}
use Rattle.graphs.specs.Graph.{Vertex, cells_of, fit_list, InOrder, ListsAll}
use Rattle.circuit.specs.Graph.{graph_of}
use Rattle.circuit.specs.declared.records.TheConstants.{NODE_WORDS, OUTPUT_WORDS}
use Rattle.circuit.specs.Circuits.{Circuit, wires_out, KeepsRules}
use Rattle.graphs.specs.declared.TheConstants.{READS}
use Rattle.circuit.proofs.Codes.{node_wide, output_wide, nodes_of_area, outputs_of_area, wires_of_outputs}
use Rattle.circuit.proofs.Checks.{is_whole, circuit-sound}
use Rattle.ordering.specs.Schedule.{key_at, schedule_of}
use Rattle.schedule.specs.Call.{graph_in, order_in, room, call_fault}
use Rattle.schedule.specs.Promises.{Promised}
use Rattle.ordering.proofs.Order.{schedule_fit}
use Rattle.schedule.proofs.Theorems.{validated_records, promised}
use Rattle.values.specs.Assignments.{wrong_assignment}
use Rattle.values.specs.Calls.{assignment_fault, room_fault, evaluate_fault}
use Rattle.values.proofs.Storage.{monotone, evaluate_same}
use Rattle.values.proofs.Inputs.{assigned, assigned_bits}
use Rattle.values.proofs.Calls.{has_room}
use Rattle.runs.specs.Calls.{order_fault, run_fault}
use Rattle.runs.proofs.Along.{along}
use Rattle.assurance.specs.Assurance.{Question, Areas, asked_fault, node_records, output_records, order_of, Lent, Assured}

-- ---- the records of a circuit, as areas

module _ (c : Circuit) where
  node_length : length (node_records c) ≡ length c.nodes * NODE_WORDS
  node_length = length-encodes encode_node NODE_WORDS node_wide c.nodes

  output_length : length (output_records c) ≡ length c.outputs * OUTPUT_WORDS
  output_length = length-encodes encode_output OUTPUT_WORDS output_wide c.outputs

  pub node_count : length (node_records c) / NODE_WORDS ≡ length c.nodes
  node_count = omega (arith, node_length)

  pub output_count : length (output_records c) / OUTPUT_WORDS ≡ length c.outputs
  output_count = omega (arith, output_length)

  pub nodes-in : KeepsRules c → nodes_in (node_records c) ≡ c.nodes
  nodes-in r = ap (nodes_of (node_records c)) node_count ∙ nodes_of_area (node_records c) c.nodes [] r.padded (sym (append-nil (node_records c)))

  pub wires-in : wires_in (output_records c) ≡ wires_out c
  wires-in =
      ap (output_wires (output_records c)) output_count ∙ wires_of_outputs (output_records c) (length c.outputs)
      ∙ ap (map (λ (o : Output). o.wire)) (outputs_of_area (output_records c) c.outputs [] (sym (append-nil (output_records c))))

  pub topological : KeepsRules c → topological_fault (node_records c) (output_records c) ≡ Ok tt
  unfolding topological_fault
  topological r = rw (is_whole (node_records c) (output_records c) (omega (arith, node_length)) (omega (arith, output_length)), nodes-in r, wires-in, r.checked)

-- ---- the statement

module _ (c : Circuit) (q : Question) (before : Areas) (rules : KeepsRules c) (lent : Lent c q before) where
  pub graph-in : graph_in (node_records c) (length (node_records c) / NODE_WORDS) ≡ graph_of c.nodes
  unfolding graph_in
  graph-in = ap graph_of (nodes-in c rules)

  pub order-in : order_in (node_records c) (length (node_records c) / NODE_WORDS) q.window q.keys ≡ order_of c q
  unfolding order_in
  order-in = ap (λ (g : List Vertex). schedule_of g q.window (key_at q.keys)) graph-in

  rooms : room (length (node_records c) / NODE_WORDS) (length before.ready) (length before.successors) (length before.order) ≡ true
  unfolding room
  rooms =
      rw (node_count c, le-leb (3 * length c.nodes) (length before.ready) lent.ready_room, le-leb (READS * length c.nodes + 1) (length before.successors) lent.successors_room)
      (le-leb (length c.nodes) (length before.order) lent.order_room)

  call_sound : call_fault (node_records c) (output_records c) q.window q.keys (length before.ready) (length before.successors) (length before.order) ≡ Ok tt
  unfolding call_fault
  call_sound =
      let n : 3 * (length (node_records c) / NODE_WORDS) ≡ 3 * length c.nodes = ap (λ (k : ℕ). 3 * k) (node_count c) in
      rw (
        validated_records (node_records c) (output_records c) (topological c rules),
        ne_eqb q.window 0 (λ z. omega (arith, z, lent.window_is)),
        eq-eqb (length q.keys) (3 * (length (node_records c) / NODE_WORDS)) (lent.keys_are ∙ sym n),
        rooms,
      )

  promise : Promised (node_records c) (output_records c) q.window q.keys (length before.ready) (length before.successors) (length before.order)
  promise = promised (node_records c) (output_records c) q.window q.keys (length before.ready) (length before.successors) (length before.order) call_sound

  pub accepted : asked_fault (node_records c) (output_records c) q before ≡ Ok tt
  accepted = promise.validated (topological c rules)

  ordered : InOrder (graph_of c.nodes) (order_of c q)
  ordered = rw graph-in at promise.order_promised.in_order

  listed : ListsAll (graph_of c.nodes) (order_of c q)
  listed = rw (graph-in, order-in) at (promise.every accepted)

  pub number : length (order_of c q) ≡ length (cells_of (graph_of c.nodes))
  number = rw (graph-in, order-in) at (promise.number accepted)

  pub fits : fit_list (graph_of c.nodes) (order_of c q) ≡ true
  unfolding fit_list
  fits = rw (schedule_fit (graph_of c.nodes) q.window (key_at q.keys), eq-eqb (length (order_of c q)) (length (cells_of (graph_of c.nodes))) number)

  roomy : (answers : ℕ) → length c.outputs ≤ answers → (Ok tt) ≡ room_fault (node_records c) (output_records c) (length before.values) answers
  roomy answers h = has_room (node_records c) (output_records c) (length before.values) answers (omega (arith, node_count c, lent.store_room)) (omega (arith, output_count c, h))

  runs : run_fault (node_records c) (output_records c) (order_of c q) q.assignment (length before.values) (length before.answers) ≡ Ok tt
  unfolding run_fault assignment_fault order_fault
  runs = rw (topological c rules, nodes-in c rules, lent.values_are, fits) (sym (roomy (length before.answers) lent.answers_room))

  pub evaluable : wrong_assignment 1 c.nodes q.assignment ≡ false → length c.outputs ≤ length before.evaluated
      → evaluate_fault (node_records c) (output_records c) q.assignment (length before.values) (length before.evaluated) ≡ Ok tt
  unfolding evaluate_fault assignment_fault
  evaluable e h = rw (topological c rules, nodes-in c rules, e) (sym (roomy (length before.evaluated) h))

  pub assured : Assured c q before
  assured = record {
    rules = rules;
    scheduled = accepted;
    run_accepted = runs;
    in_order = ordered;
    lists_all = listed;
    outputs = along c.nodes (wires_out c) q.assignment (circuit-sound c.nodes (wires_out c) rules.checked) (order_of c q) before.values lent.store_room fits;
    evaluate_accepted = evaluable;
    evaluates = λ e. sym (evaluate_same c.nodes (wires_out c) q.assignment (assigned_bits q.assignment (assigned 1 c.nodes q.assignment e).1));
    keeps = λ other agree j known. monotone c.nodes (wires_out c) q.assignment other agree j known;
  }
