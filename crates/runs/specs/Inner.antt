-- What the functions under the call ask and promise. No promise of the exported call speaks of it.
-- Assumes nothing.
use Rattle.std.specs.Prelude.{◌≡◌, List, ◌++◌, ℕ, ◌+◌, ◌<◌, if◌then◌else◌, length, get_or, set, drop, Ok}
use Rattle.laws.specs.Stretches.{All}
use Rattle.circuit.specs.declared.records.BoolNode.{BoolNode}
use Rattle.circuit.specs.Refusals.{Try, check_then}
use Rattle.circuit.specs.Records.{node_at, nodes_of, is_cell_node, output_wires}
use Rattle.circuit.specs.Check.{nodes_in}
use Rattle.circuit.specs.Graph.{graph_of}
use Rattle.graphs.specs.Graph.{cells_of}
use Rattle.values.specs.Inner.{SoundCell}
use Rattle.runs.specs.Runs.{run_outputs}
use Rattle.runs.specs.Calls.{run_fault}

-- A node passed while inputs are put in: an input has its value, the one at place p, and the next input's place is one more.
pub record InputPut (n : BoolNode) (k : ℕ) (assignment : List ℕ) (p : ℕ) (values : List ℕ) (next : ℕ) (after : List ℕ) : Type 0 where
  pub stored : after ≡ (if is_cell_node n then values else set values k (get_or assignment p 0))
  pub passed : next ≡ (if is_cell_node n then p else p + 1)

-- Each entry of a list is a node below m, a cell that breaks no rule and whose wires have places in the store.
abbrev pub SoundCells : List ℕ → ℕ → ℕ → List ℕ → Type 0
SoundCells nodes m store order = All (λ x. (x < m) × SoundCell store (node_at nodes x)) order

-- An area with the outputs of a run in front, over m node and j output records.
abbrev pub with_run : List ℕ → ℕ → List ℕ → ℕ → List ℕ → List ℕ → List ℕ → List ℕ → List ℕ
with_run nodes m outputs j assignment order old area =
    run_outputs (nodes_of nodes m) (output_wires outputs j) assignment order old ++ drop j area

-- The number of cells, or the call's first refusal.
abbrev pub cells_or_fault : List ℕ → List ℕ → List ℕ → List ℕ → ℕ → ℕ → Try ℕ
cells_or_fault nodes outputs order assignment store answers =
    check_then (run_fault nodes outputs order assignment store answers) (Ok (length (cells_of (graph_of (nodes_in nodes)))))
