-- The exported calls one after the other, from the definition of each.
-- Assumes nothing.
use Rattle.std.specs.Prelude.{Ok}
use Prim.Native.Nat.{ℕ, ◌≤◌}
use mathlib.Core.Path.{◌≡◌, sym, ap, ◌∙◌}
use mathlib.Core.Bool.{false}
use mathlib.Core.List.{List}
use lib.ListN.{length, take, replicate, length-replicate}
use lib.Seq.{take_at}
use Rattle.graphs.specs.Graph.{cells_of}
use Rattle.circuit.specs.Records.{encode_node, encode_output}
use Rattle.circuit.specs.declared.records.TheConstants.{NODE_WORDS, OUTPUT_WORDS}
use Rattle.circuit.specs.Refusals.{Try, checked_number}
use Rattle.circuit.specs.Graph.{graph_of}
use Rattle.circuit.specs.Circuits.{Circuit, filled, read_answer, node_words, output_words, KeepsRules}
use Rattle.circuit.proofs.Codes.{node_wide, output_wide}
use Rattle.schedule.specs.Call.{Left, leaves, schedule_call}
use Rattle.values.specs.Assignments.{wrong_assignment}
use Rattle.values.specs.Calls.{CallResult, after_call, evaluate_call}
use Rattle.runs.specs.Calls.{run_call}
use Rattle.blif.specs.Blif.{blif}
use Rattle.bench.specs.Bench.{bench}
use Rattle.bristol.specs.Bristol.{bristol}
use Rattle.blif.proofs.Sound.{blif-sound}
use Rattle.bench.proofs.Sound.{bench-sound}
use Rattle.bristol.proofs.Sound.{bristol-sound}
use Rattle.assurance.specs.Assurance.{Question, Areas, node_records, output_records, order_of, outputs_of, Lent, Assured as IsAssured}
use Rattle.assurance.proofs.Assuring.{output_count, nodes-in, wires-in, graph-in, order-in, accepted, number, assured}
use Rattle.assurance.proofs.Composing.{records_front}
use Rattle.relay.specs.Answers.{read_nodes, read_outputs, count_of, result_of}
use Rattle.relay.specs.Assured.{Answers, Called, CallsAssured, AssuredOf, JoinedAssured, BlifAssured, BenchAssured, BristolAssured}

-- ---- the schedule, the run and `evaluate`

module _ (c : Circuit) (q : Question) (before : Areas) (rules : KeepsRules c) (lent : Lent c q before) where
  claims : IsAssured c q before
  claims = assured c q before rules lent

  schedule_is : schedule_call (node_records c) (output_records c) q.window q.keys before.ready before.successors before.order
      ≡ leaves (Ok (length (cells_of (graph_of c.nodes)))) (replicate (length before.ready) 0) (replicate (length before.successors) 0) (filled (order_of c q) (length before.order))
  unfolding schedule_call
  schedule_is = rw (accepted c q before rules lent, graph-in c q before rules lent, order-in c q before rules lent)

  run_is : run_call (node_records c) (output_records c) (order_of c q) q.assignment before.values before.answers
      ≡ record { number = 0; count = length (cells_of (graph_of c.nodes)); store = replicate (length before.values) 0; outputs = filled (outputs_of c q.assignment) (length before.answers) }
  unfolding run_call after_call
  run_is = rw (claims.run_accepted, nodes-in c rules, wires-in c, claims.outputs)

  evaluate_is : (mid : List ℕ) → length mid ≡ length before.values → wrong_assignment 1 c.nodes q.assignment ≡ false → length c.outputs ≤ length before.evaluated
      → evaluate_call (node_records c) (output_records c) q.assignment mid before.evaluated
      ≡ record { number = 0; count = length c.outputs; store = replicate (length before.values) 0; outputs = filled (outputs_of c q.assignment) (length before.evaluated) }
  unfolding evaluate_call after_call
  evaluate_is mid l e h = rw (l, claims.evaluate_accepted e h, nodes-in c rules, wires-in c, output_count c, claims.evaluates e)

  module _ (r : Answers) (mid : List ℕ) (after : Areas) (called : Called (node_records c) (output_records c) q before r mid after) where
    count_is : r.ordered.count ≡ length (cells_of (graph_of c.nodes))
    count_is = called.ordered.gives.count_is ∙ ap (λ (l : Left). count_of l.answer) schedule_is

    order_area : after.order ≡ filled (order_of c q) (length before.order)
    order_area = ap (λ (l : Left). l.order) (called.ordered.leaves ∙ schedule_is)

    order_front : take r.ordered.count after.order ≡ order_of c q
    order_front = ap (take r.ordered.count) order_area ∙ take_at (order_of c q) _ r.ordered.count (number c q before rules lent ∙ sym count_is)

    ran : result_of r.ran.number r.ran.count mid after.answers
        ≡ record { number = 0; count = length (cells_of (graph_of c.nodes)); store = replicate (length before.values) 0; outputs = filled (outputs_of c q.assignment) (length before.answers) }
    ran = (rw order_front at called.ran) ∙ run_is

    mid_length : length mid ≡ length before.values
    mid_length = ap (λ (l : CallResult). length l.store) ran ∙ length-replicate (length before.values) 0

    calls : CallsAssured c q before r after
    calls = record {
      assured = claims;
      order_accepted = called.ordered.gives.number_is ∙ ap (λ (l : Left). checked_number l.answer) schedule_is;
      order_is = order_area;
      run_accepted = ap (λ (l : CallResult). l.number) ran;
      run_cells = ap (λ (l : CallResult). l.count) ran;
      outputs_are = ap (λ (l : CallResult). l.outputs) ran;
      evaluate_is = λ e h. called.evaluated ∙ evaluate_is mid mid_length e h;
    }

-- ---- a reader before them

module _ (c : Circuit) (rules : KeepsRules c) (k l n o : ℕ) (nodes outputs : List ℕ) (count : k ≡ length c.nodes) (output_count : l ≡ length c.outputs)
    (nodes_are : nodes ≡ filled (node_records c) n) (outputs_are : outputs ≡ filled (output_records c) o) where
  after_reader : AssuredOf c k nodes l outputs
  after_reader q before r mid after lent called =
      calls c q before rules lent r mid after (rw (
        records_front encode_node NODE_WORDS node_wide c.nodes k n nodes nodes_are count,
        records_front encode_output OUTPUT_WORDS output_wide c.outputs l o outputs outputs_are output_count,
      ) at called)

joined-assured : (means : List ℕ → ℕ → ℕ → ℕ → ℕ → Try Circuit) → ((text : List ℕ) (j n m o : ℕ) (c : Circuit) → means text j n m o ≡ Ok c → KeepsRules c) → JoinedAssured means
joined-assured means sound text j n m o num k l joined nodes names outputs c call e =
    after_reader c (sound text j n m o c e) k l n o nodes outputs
    (call.gives.nodes_are ∙ ap (λ (t : Try Circuit). read_nodes (read_answer t)) e) (call.gives.outputs_are ∙ ap (λ (t : Try Circuit). read_outputs (read_answer t)) e)
    (call.leaves.nodes_is ∙ ap (λ (t : Try Circuit). filled (node_words t) n) e) (call.leaves.outputs_is ∙ ap (λ (t : Try Circuit). filled (output_words t) o) e)

pub blif-assured : BlifAssured
blif-assured = joined-assured blif blif-sound

pub bench-assured : BenchAssured
bench-assured = joined-assured bench bench-sound

pub bristol-assured : BristolAssured
unfolding bristol
bristol-assured text n o w num k l nodes outputs wires c call e =
    after_reader c (bristol-sound text n o w c e) k l n o nodes outputs
    (call.gives.nodes_are ∙ ap (λ (t : Try Circuit). read_nodes (read_answer t)) e) (call.gives.outputs_are ∙ ap (λ (t : Try Circuit). read_outputs (read_answer t)) e)
    (call.leaves.nodes_are ∙ ap (λ (t : Try Circuit). filled (node_words t) n) e) (call.leaves.outputs_are ∙ ap (λ (t : Try Circuit). filled (output_words t) o) e)
