-- The statement: what the schedule, the run and `evaluate` do together, for every circuit that keeps the rules.
-- Assumes nothing.
use Rattle.std.specs.Prelude.{ℕ, ◌+◌, ◌*◌, ◌≤◌, ◌<◌, ◌≡◌, false, List, length, get_or, Ok}
use Rattle.laws.specs.Areas.{encodes}
use Rattle.circuit.specs.Refusals.{Checked}
use Rattle.circuit.specs.Records.{encode_node, encode_output}
use Rattle.circuit.specs.Graph.{graph_of}
use Rattle.graphs.specs.declared.TheConstants.{READS}
use Rattle.graphs.specs.Graph.{InOrder, ListsAll}
use Rattle.circuit.specs.Circuits.{Circuit, wires_out, KeepsRules}
use Rattle.ordering.specs.Schedule.{key_at, schedule_of}
use Rattle.schedule.specs.Call.{schedule_fault}
use Rattle.values.specs.Values.{storage_outputs, evaluated}
use Rattle.values.specs.Assignments.{wrong_assignment}
use Rattle.values.specs.Calls.{evaluate_fault}
use Rattle.runs.specs.Runs.{run_outputs}
use Rattle.runs.specs.Calls.{run_fault}

-- ---- what is asked, and what is lent

-- An order for a window and keys, and a run for an assignment.
pub record Question : Type 0 where
  pub window : ℕ
  pub keys : List ℕ
  pub assignment : List ℕ

-- The contents of the six areas that are lent for writing: words of the schedule's three; bytes of the value store, of the run's outputs and of `evaluate`'s.
pub record Areas : Type 0 where
  pub ready : List ℕ
  pub successors : List ℕ
  pub order : List ℕ
  pub values : List ℕ
  pub answers : List ℕ
  pub evaluated : List ℕ

-- The schedule's refusal of what is asked of these records, in areas of these lengths.
abbrev pub asked_fault : List ℕ → List ℕ → Question → Areas → Checked
asked_fault nodes outputs q before =
    schedule_fault nodes outputs q.window q.keys (length before.ready) (length before.successors) (length before.order)

-- ---- of a circuit

-- The words of its records.
abbrev pub node_records : Circuit → List ℕ
node_records c = encodes encode_node c.nodes

abbrev pub output_records : Circuit → List ℕ
output_records c = encodes encode_output c.outputs

-- The schedule's order.
abbrev pub order_of : Circuit → Question → List ℕ
order_of c q = schedule_of (graph_of c.nodes) q.window (key_at q.keys)

-- The outputs of the storage order.
abbrev pub outputs_of : Circuit → List ℕ → List ℕ
outputs_of c assignment = storage_outputs c.nodes (wires_out c) assignment

-- An assignment that has what is known in the first.
abbrev pub Agrees : List ℕ → List ℕ → Type 0
Agrees a b = (p : ℕ) → get_or a p 0 < 2 → get_or b p 0 ≡ get_or a p 0

-- A window of at least 1, three keys for each node, a value 0, 1 or 2 (unknown) for each input, and areas that are long enough for the order and for the run.
-- What they hold is not looked at.
pub record Lent (c : Circuit) (q : Question) (before : Areas) : Type 0 where
  pub window_is : 1 ≤ q.window
  pub keys_are : length q.keys ≡ 3 * length c.nodes
  pub ready_room : 3 * length c.nodes ≤ length before.ready
  pub successors_room : READS * length c.nodes + 1 ≤ length before.successors
  pub order_room : length c.nodes ≤ length before.order
  pub values_are : wrong_assignment 2 c.nodes q.assignment ≡ false
  pub store_room : length c.nodes ≤ length before.values
  pub answers_room : length c.outputs ≤ length before.answers

-- ---- what is claimed

pub record Assured (c : Circuit) (q : Question) (before : Areas) : Type 0 where
  -- the circuit keeps the rules
  pub rules : KeepsRules c
  -- schedule and run don't refuse
  pub scheduled : asked_fault (node_records c) (output_records c) q before ≡ Ok tt
  pub run_accepted : run_fault (node_records c) (output_records c) (order_of c q) q.assignment
      (length before.values) (length before.answers) ≡ Ok tt
  -- the order has every cell once, after all it reads
  pub in_order : InOrder (graph_of c.nodes) (order_of c q)
  pub lists_all : ListsAll (graph_of c.nodes) (order_of c q)
  -- the run's outputs are the storage order's, whatever the store held
  pub outputs : run_outputs c.nodes (wires_out c) q.assignment (order_of c q) before.values ≡ outputs_of c q.assignment
  -- `evaluate` doesn't refuse if nothing is unknown and its area is long enough, and its outputs are then the same
  pub evaluate_accepted : wrong_assignment 1 c.nodes q.assignment ≡ false → length c.outputs ≤ length before.evaluated
      → evaluate_fault (node_records c) (output_records c) q.assignment (length before.values) (length before.evaluated) ≡ Ok tt
  pub evaluates : wrong_assignment 1 c.nodes q.assignment ≡ false
      → evaluated c.nodes (wires_out c) q.assignment ≡ outputs_of c q.assignment
  -- a known output stays under every assignment that agrees on the known inputs
  pub keeps : (other : List ℕ) → Agrees q.assignment other → (j : ℕ) → get_or (outputs_of c q.assignment) j 0 < 2
      → get_or (outputs_of c other) j 0 ≡ get_or (outputs_of c q.assignment) j 0
