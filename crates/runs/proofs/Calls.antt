-- The first refusal of a run, and what an accepted one has: a sound cell at each entry of the list.
-- Assumes nothing.
use Rattle.std.specs.Prelude.{Err, Ok}
use mathlib.Core.Path.{◌≡◌, sym, ap, ◌∙◌}
use mathlib.Core.List.{List, [], ◌∷◌, ◌++◌}
use mathlib.Core.Bool.{true, false, not}
use Prim.Native.Nat.{ℕ, ◌/◌, ◌<◌, ◌≤◌}
use native.Mathlib.Omega.{arith}
use lib.Dec.{eqb}
use borrow.Author.Tests.{eqb-true, not-false}
use lib.ListN.{length}
use Rattle.std.proofs.lemmas.Bool.{and_parts}
use Rattle.laws.specs.Stretches.{All}
use Rattle.circuit.specs.declared.records.TheConstants.{NODE_WORDS}
use Rattle.circuit.specs.declared.refusals.Refusal.{Refusal}
use Rattle.circuit.specs.declared.refusals.Refusal.TheVariants.{WrongValues, UnfitOrder}
use Rattle.circuit.specs.Refusals.{Try, refuse_if}
use Rattle.circuit.specs.Records.{node_at, nodes_of, is_cell_node, wires_of}
use Rattle.circuit.specs.Check.{some_not_below, node_broken, whole, check_nodes, check_circuit, nodes_in, wires_in, topological_fault}
use Rattle.circuit.specs.Graph.{graph_of}
use Rattle.graphs.specs.Graph.{Vertex, is_cell, cells_of, fit, fit_list}
use Rattle.graphs.proofs.Graph.{ready-waits, waits-cell, cell_below}
use Rattle.circuit.proofs.Codes.{node_of, length_nodes}
use Rattle.circuit.proofs.Checks.{no_fault, not_refused, all_below_more}
use Rattle.circuit.proofs.Circuits.{cell-at, length_graph}
use Rattle.values.specs.Assignments.{input_count, wrong_assignment}
use Rattle.values.specs.Calls.{assignment_fault, room_fault}
use Rattle.values.specs.Inner.{SoundCell}
use Rattle.values.proofs.Inputs.{assigned}
use Rattle.values.proofs.Calls.{Room, room_of}
use Rattle.runs.specs.Calls.{order_fault, run_fault}
use Rattle.runs.specs.Inner.{SoundCells, cells_or_fault}
use Rattle.runs.proofs.Entries.{accepted_at}

-- ---- a circuit that the check accepts, in its areas

module _ (nodes outputs : List ℕ) (e : topological_fault nodes outputs ≡ Ok tt) where
  checked : (check_nodes (length nodes / NODE_WORDS) 0 (nodes_in nodes) ≡ Ok tt) × (some_not_below (length nodes / NODE_WORDS) (wires_in outputs) ≡ false)
  unfolding topological_fault check_circuit
  checked =
      let both = no_fault (refuse_if (not (whole nodes outputs)) _) (check_circuit (nodes_in nodes) (wires_in outputs)) e in
      let parts = no_fault (check_nodes (length (nodes_in nodes)) 0 (nodes_in nodes)) (refuse_if (some_not_below (length (nodes_in nodes)) (wires_in outputs)) _) both.1 in
      let size = length_nodes nodes (length nodes / NODE_WORDS) in
      (ap (λ (m : ℕ). check_nodes m 0 (nodes_in nodes)) (sym size) ∙ parts.0, ap (λ (m : ℕ). some_not_below m (wires_in outputs)) (sym size) ∙ not_refused _ _ parts.1)

-- ---- the first refusal

module _ (nodes outputs order assignment : List ℕ) (store answers : ℕ) where
  pub run_unchecked : (r : Refusal) → Err r ≡ topological_fault nodes outputs → Err r ≡ run_fault nodes outputs order assignment store answers
  unfolding run_fault
  run_unchecked r e = rw (sym e)

  module _ (e : Ok tt ≡ topological_fault nodes outputs) where
    pub run_unassigned : true ≡ wrong_assignment 2 (nodes_in nodes) assignment → Err WrongValues ≡ run_fault nodes outputs order assignment store answers
    unfolding run_fault assignment_fault
    run_unassigned a = rw (sym e, sym a)

    module _ (a : false ≡ wrong_assignment 2 (nodes_in nodes) assignment) where
      pub run_unfit : false ≡ fit_list (graph_of (nodes_in nodes)) order → Err UnfitOrder ≡ run_fault nodes outputs order assignment store answers
      unfolding run_fault assignment_fault order_fault
      run_unfit f = rw (sym e, sym a, sym f)

      pub run-fit : true ≡ fit_list (graph_of (nodes_in nodes)) order → room_fault nodes outputs store answers ≡ run_fault nodes outputs order assignment store answers
      unfolding run_fault assignment_fault order_fault
      run-fit f = rw (sym e, sym a, sym f)

-- ---- an accepted run

-- a fit list has cells alone
fit_cells : (c : List Vertex) (taken xs : List ℕ) → fit c taken xs ≡ true → All (λ x. is_cell c x ≡ true) xs
unfolding fit
fit_cells c taken [] e = tt
fit_cells c taken (x ∷ xs) e =
    let p = and_parts _ _ e in
    (waits-cell c taken x (ready-waits c taken x p.0), fit_cells c (taken ++ x ∷ []) xs p.1)

each : (P Q : ℕ → Type 0) → ((x : ℕ) → P x → Q x) → (xs : List ℕ) → All P xs → All Q xs
each P Q f [] h = tt
each P Q f (x ∷ xs) h = (f x h.0, each P Q f xs h.1)

module _ (nodes : List ℕ) (m store : ℕ) (ok : check_nodes m 0 (nodes_of nodes m) ≡ Ok tt) (h : m ≤ store) where
  entry_sound : (x : ℕ) → is_cell (graph_of (nodes_of nodes m)) x ≡ true → (x < m) × SoundCell store (node_at nodes x)
  unfolding node_broken
  entry_sound x e =
      let ns = nodes_of nodes m in
      let below : x < m = omega (arith, cell_below (graph_of ns) x e, length_graph ns, length_nodes nodes m) in
      let p = accepted_at nodes m ok x below in
      let c : is_cell_node (node_at nodes x) ≡ true = ap is_cell_node (sym (node_of nodes m x below)) ∙ sym (cell-at ns x) ∙ e in
      (below, record { cell = c; sound = rw (p.rules, all_below_more m store h (wires_of (node_at nodes x)) p.inside) })

  order_sound : (order : List ℕ) → fit (graph_of (nodes_of nodes m)) [] order ≡ true → SoundCells nodes m store order
  order_sound order f = each _ _ entry_sound order (fit_cells (graph_of (nodes_of nodes m)) [] order f)

module _ (nodes outputs order assignment : List ℕ) (store answers : ℕ) where
  -- what the run needs, and how many cells it works out
  pub record Runnable : Type 0 where
    pub room : Room nodes outputs store answers
    pub inputs : length assignment ≡ input_count (nodes_in nodes)
    pub sound : SoundCells nodes (length nodes / NODE_WORDS) store order
    pub wired : some_not_below store (wires_in outputs) ≡ false
    pub cells : length order ≡ length (cells_of (graph_of (nodes_in nodes)))

  pub runnable : run_fault nodes outputs order assignment store answers ≡ Ok tt → Runnable
  unfolding run_fault assignment_fault order_fault fit_list
  runnable h =
      let m = length nodes / NODE_WORDS in
      let c = graph_of (nodes_in nodes) in
      let p = no_fault (topological_fault nodes outputs) _ h in
      let q = no_fault (assignment_fault 2 nodes assignment) _ p.1 in
      let r = no_fault (order_fault nodes order) _ q.1 in
      let f = and_parts (fit c [] order) (eqb (length order) (length (cells_of c))) (not-false (fit_list c order) (not_refused _ UnfitOrder r.0)) in
      let room = room_of nodes outputs store answers r.1 in
      record {
        room = room;
        inputs = (assigned 2 (nodes_in nodes) assignment (not_refused _ WrongValues q.0)).0;
        sound = order_sound nodes m store (checked nodes outputs p.0).0 room.store_room order f.0;
        wired = all_below_more m store room.store_room (wires_in outputs) (checked nodes outputs p.0).1;
        cells = eqb-true (length order) (length (cells_of c)) f.1;
      }

  pub accepted_answer : run_fault nodes outputs order assignment store answers ≡ Ok tt → ◌≡◌ {A = Try ℕ} (Ok (length order)) (cells_or_fault nodes outputs order assignment store answers)
  accepted_answer h = rw (h, (runnable h).cells)
