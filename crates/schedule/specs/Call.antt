-- The call: its answer, and what every lent area holds after it.
-- Assumes nothing.
use Rattle.circuit.specs.declared.records.TheConstants.{NODE_WORDS}
use Rattle.ordering.specs.declared.widths.TheConstants.{KEY_WORDS, READY_WORDS}
use Rattle.std.specs.Prelude.{ℕ, ◌+◌, ◌-◌, ◌*◌, ◌/◌, Bool, not, ◌&&◌, List, ◌++◌, eqb, leb, length, replicate, Err, Ok}
use Rattle.circuit.specs.declared.refusals.Refusal.TheVariants.{NoWindow, WrongValues, NoRoom, Circle}
use Rattle.circuit.specs.Refusals.{Try, Checked, refuse_if, first_fault, check_then}
use Rattle.circuit.specs.Records.{nodes_of}
use Rattle.circuit.specs.Check.{records_fault}
use Rattle.graphs.specs.Graph.{Vertex, cells_of}
use Rattle.circuit.specs.Graph.{graph_of}
use Rattle.graphs.specs.declared.TheConstants.{READS}
use Rattle.ordering.specs.Schedule.{key_at, schedule_of}
use Rattle.ordering.specs.Promises.{leaves_out}

-- the number of cells that an answer gives: 0 on a refusal
abbrev pub ordered_cells : Try ℕ → ℕ
ordered_cells (Ok m) = m
ordered_cells (Err e) = 0

-- the graph of the first n records
unfoldable pub graph_in : List ℕ → ℕ → List Vertex
graph_in nodes n = graph_of (nodes_of nodes n)

-- the order of those records' cells
unfoldable pub order_in : List ℕ → ℕ → ℕ → List ℕ → List ℕ
order_in nodes n window keys = schedule_of (graph_in nodes n) window (key_at keys)

-- "Areas: ready and order one record per node each, successors 2 × nodes + 1": a ready record has three words
unfoldable pub room : ℕ → ℕ → ℕ → ℕ → Bool
room n ready successors order = leb (READY_WORDS * n) ready && (leb (READS * n + 1) successors && leb n order)

-- "Checks: 15, 18, 19, 3": before anything is ordered, the areas by their sizes
unfoldable pub call_fault : List ℕ → List ℕ → ℕ → List ℕ → ℕ → ℕ → ℕ → Checked
call_fault nodes outputs window keys ready successors order =
    first_fault (records_fault nodes outputs)
    (first_fault (refuse_if (eqb window 0) NoWindow)
    (first_fault (refuse_if (not (eqb (length keys) (KEY_WORDS * (length nodes / NODE_WORDS)))) WrongValues)
    (refuse_if (not (room (length nodes / NODE_WORDS) ready successors order)) NoRoom)))

-- "17 exactly if some cells read in a circle": these are never ready, and stay out of the order (specs/Promises: exactly if there is a circle)
unfoldable pub circle_fault : List ℕ → ℕ → ℕ → List ℕ → Checked
circle_fault nodes n window keys = refuse_if (leaves_out (order_in nodes n window keys) (cells_of (graph_in nodes n))) Circle

unfoldable pub schedule_fault : List ℕ → List ℕ → ℕ → List ℕ → ℕ → ℕ → ℕ → Checked
schedule_fault nodes outputs window keys ready successors order =
    first_fault (call_fault nodes outputs window keys ready successors order) (circle_fault nodes (length nodes / NODE_WORDS) window keys)

-- "the order is that many first records of its area", zeros after it; a refusal "zeros every area lent for writing"
abbrev pub order_area : Checked → List ℕ → ℕ → List ℕ
order_area (Ok u) order size = order ++ replicate (size - length order) 0
order_area (Err e) order size = replicate size 0

-- what a call leaves: "The .. ready and successor areas .. are work areas, zero after any call"
pub record Left : Type 0 where
  pub answer : Try ℕ
  pub ready : List ℕ
  pub successors : List ℕ
  pub order : List ℕ

abbrev pub leaves : Try ℕ → List ℕ → List ℕ → List ℕ → Left
leaves answer ready successors order = record { answer = answer; ready = ready; successors = successors; order = order }

-- the answer and the areas, by their sizes, after a call with this fault: "The number of cells is returned"
abbrev pub left_by : Checked → ℕ → List ℕ → ℕ → ℕ → ℕ → Left
left_by fault cells order ready successors size =
    leaves (check_then fault (Ok cells)) (replicate ready 0) (replicate successors 0) (order_area fault order size)

unfoldable pub schedule_call : List ℕ → List ℕ → ℕ → List ℕ → List ℕ → List ℕ → List ℕ → Left
schedule_call nodes outputs window keys ready successors order =
    left_by (schedule_fault nodes outputs window keys (length ready) (length successors) (length order))
    (length (cells_of (graph_in nodes (length nodes / NODE_WORDS)))) (order_in nodes (length nodes / NODE_WORDS) window keys)
    (length ready) (length successors) (length order)
