-- The call of a run: its first refusal, and one definition of its answer and of what every lent area holds after it.
-- Assumes nothing.
use Rattle.std.specs.Prelude.{List, not, ℕ, length}
use Rattle.circuit.specs.declared.refusals.Refusal.TheVariants.{UnfitOrder}
use Rattle.circuit.specs.Refusals.{Checked, refuse_if, first_fault}
use Rattle.circuit.specs.Check.{nodes_in, wires_in, topological_fault}
use Rattle.circuit.specs.Graph.{graph_of}
use Rattle.graphs.specs.Graph.{cells_of, fit_list}
use Rattle.values.specs.Calls.{assignment_fault, room_fault, CallResult, after_call}
use Rattle.runs.specs.Runs.{run_outputs}

-- `UnfitOrder`: the list has not each cell once, after those it reads.
unfoldable pub order_fault : List ℕ → List ℕ → Checked
order_fault nodes order = refuse_if (not (fit_list (graph_of (nodes_in nodes)) order)) UnfitOrder

-- `Broken`, `NotEarlier`, `WrongValues`, `UnfitOrder`, `NoRoom`.
unfoldable pub run_fault : List ℕ → List ℕ → List ℕ → List ℕ → ℕ → ℕ → Checked
run_fault nodes outputs order assignment store answers =
    first_fault (topological_fault nodes outputs)
    (first_fault (assignment_fault 2 nodes assignment)
    (first_fault (order_fault nodes order) (room_fault nodes outputs store answers)))

-- The run returns how many cells it worked out: the cells of the circuit.
unfoldable pub run_call : List ℕ → List ℕ → List ℕ → List ℕ → List ℕ → List ℕ → CallResult
run_call nodes outputs order assignment store answers =
    after_call (run_fault nodes outputs order assignment (length store) (length answers))
    (length (cells_of (graph_of (nodes_in nodes))))
    (run_outputs (nodes_in nodes) (wires_in outputs) assignment order store) (length store) (length answers)
