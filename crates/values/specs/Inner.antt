-- What the functions under the calls ask and promise. No promise of an exported call speaks of it.
-- Assumes nothing.
use Rattle.std.specs.Prelude.{◌≡◌, true, false, Bool, List, [], ◌++◌, ℕ, ◌/◌, ◌<◌, ◌≤◌, if◌then◌else◌, ltb, length, get_or, drop, Err, Ok}
use Rattle.laws.specs.Lists.{some}
use Rattle.laws.specs.Stretches.{All}
use Rattle.circuit.specs.declared.records.BoolNode.{BoolNode}
use Rattle.circuit.specs.declared.records.TheConstants.{NODE_WORDS, OUTPUT_WORDS}
use Rattle.circuit.specs.declared.refusals.Refusal.{Refusal}
use Rattle.circuit.specs.Refusals.{Try, Checked, check_then}
use Rattle.circuit.specs.Records.{node_at, nodes_of, is_cell_node, wires_of}
use Rattle.circuit.specs.Check.{check_wires, check_node, check_nodes, node_broken, whole}
use Rattle.values.specs.Values.{values_from, entry_of}
use Rattle.values.specs.Assignments.{input_count}
use Rattle.values.specs.Calls.{evaluate_fault}

-- A cell that breaks no rule in a circuit of m nodes.
pub record SoundCell (m : ℕ) (n : BoolNode) : Type 0 where
  pub cell : is_cell_node n ≡ true
  pub sound : node_broken m n ≡ false

-- No value is unknown.
abbrev pub TwoValued : List ℕ → Type 0
TwoValued values = All (λ v. v < 2) values

-- The value of a node in storage order: p the inputs passed, the values so far.
abbrev pub value_of : (List ℕ → BoolNode → ℕ) → List ℕ → ℕ → List ℕ → BoolNode → ℕ
value_of rule assignment p values n = if is_cell_node n then rule values n else get_or assignment p 0

-- ---- `evaluate`, over m node records

-- The entry of cell i, or the first fault of its wires.
abbrev pub entry_or_fault : List ℕ → ℕ → ℕ → List ℕ → Try ℕ
entry_or_fault nodes m i before =
    check_then (check_wires m i (wires_of (node_at nodes i))) (Ok (entry_of before (node_at nodes i)))

-- The value of node i, or its first fault.
abbrev pub value_or_fault : List ℕ → ℕ → ℕ → List ℕ → ℕ → List ℕ → Try ℕ
value_or_fault nodes m i assignment p before =
    check_then (check_node m i (node_at nodes i)) (Ok (value_of entry_of assignment p before (node_at nodes i)))

-- The number of inputs, or the first fault of a node.
abbrev pub inputs_or_fault : List ℕ → ℕ → Try ℕ
inputs_or_fault nodes m = check_then (check_nodes m 0 (nodes_of nodes m)) (Ok (input_count (nodes_of nodes m)))

-- A store with the values of all nodes in front.
abbrev pub with_values : List ℕ → ℕ → List ℕ → List ℕ → List ℕ
with_values nodes m assignment store =
    values_from entry_of assignment 0 [] (nodes_of nodes m) ++ drop m store

-- ---- the call

-- What working out the nodes needs.
pub record Workable (nodes outputs assignment : List ℕ) (store : ℕ) : Type 0 where
  pub whole_records : whole nodes outputs ≡ true
  pub stored : length nodes / NODE_WORDS ≤ store
  pub known : some (ltb 1) assignment ≡ false

-- The nodes of a call can be worked out, or the call is refused with this fault.
pub record Begun (nodes outputs assignment : List ℕ) (store answers : ℕ) (result : Checked) : Type 0 where
  pub workable : result ≡ Ok tt → Workable nodes outputs assignment store
  pub refused : (e : Refusal) → result ≡ Err e → evaluate_fault nodes outputs assignment store answers ≡ Err e

-- The number of outputs, or the call's first refusal.
abbrev pub outputs_or_fault : List ℕ → List ℕ → List ℕ → ℕ → ℕ → Try ℕ
outputs_or_fault nodes outputs assignment store answers =
    check_then (evaluate_fault nodes outputs assignment store answers) (Ok (length outputs / OUTPUT_WORDS))

-- An area with these outputs in front, where the call is accepted; else as it was.
abbrev pub with_outputs : Bool → List ℕ → List ℕ → List ℕ
with_outputs accepted outputs area = if accepted then outputs ++ drop (length outputs) area else area
