-- What is promised of the order, in the graph's terms, of every call that is not refused before the cells are ordered.
-- Assumes nothing.
use Rattle.circuit.specs.declared.records.TheConstants.{NODE_WORDS}
use Rattle.ordering.specs.declared.widths.TheConstants.{KEY_WORDS}
use Rattle.std.specs.Prelude.{◌-◌, ◌*◌, ◌++◌, true, replicate, ℕ, ◌/◌, ◌≡◌, List, length, Err, Ok}
use Rattle.circuit.specs.declared.refusals.Refusal.TheVariants.{Circle as InCircle}
use Rattle.circuit.specs.Check.{topological_fault}
use Rattle.graphs.specs.Graph.{cells_of, Circle, ListsAll}
use Rattle.ordering.specs.Schedule.{key_at}
use Rattle.ordering.specs.Promises.{OrderPromised}
use Rattle.schedule.specs.Call.{graph_in, order_in, room, call_fault, schedule_fault, leaves, schedule_call}

-- Of the call's order and of its refusal of a circle; a cell that reads itself is a circle, a forward read alone is none.
pub record Promised (nodes outputs : List ℕ) (window : ℕ) (keys : List ℕ) (ready successors order : ℕ) : Type 0 where
  -- the order is that of the netlist's graph, with all that is promised of any graph's
  pub order_promised : OrderPromised (graph_in nodes (length nodes / NODE_WORDS)) window (key_at keys)
  pub circle_refused : Circle (graph_in nodes (length nodes / NODE_WORDS)) → schedule_fault nodes outputs window keys ready successors order ≡ Err InCircle
  pub refused_circle : schedule_fault nodes outputs window keys ready successors order ≡ Err InCircle → Circle (graph_in nodes (length nodes / NODE_WORDS))
  pub accepted : (Circle (graph_in nodes (length nodes / NODE_WORDS)) → ⊥) → schedule_fault nodes outputs window keys ready successors order ≡ Ok tt
  -- otherwise every cell is listed, and their number is the length of the order
  pub every : schedule_fault nodes outputs window keys ready successors order ≡ Ok tt → ListsAll (graph_in nodes (length nodes / NODE_WORDS)) (order_in nodes (length nodes / NODE_WORDS) window keys)
  pub number : schedule_fault nodes outputs window keys ready successors order ≡ Ok tt → length (order_in nodes (length nodes / NODE_WORDS) window keys) ≡ length (cells_of (graph_in nodes (length nodes / NODE_WORDS)))
  -- a circuit that passes `validate_topological` is always ordered; with window 1 in storage order
  pub validated : topological_fault nodes outputs ≡ Ok tt → schedule_fault nodes outputs window keys ready successors order ≡ Ok tt
  pub storage : topological_fault nodes outputs ≡ Ok tt → window ≡ 1 → order_in nodes (length nodes / NODE_WORDS) window keys ≡ cells_of (graph_in nodes (length nodes / NODE_WORDS))

-- the same of every such call
abbrev pub SchedulePromised : Type 0
SchedulePromised =
    (nodes outputs : List ℕ) (window : ℕ) (keys : List ℕ) (ready successors order : ℕ)
    → call_fault nodes outputs window keys ready successors order ≡ Ok tt → Promised nodes outputs window keys ready successors order

-- every cell of the records, in storage order
abbrev pub stored_cells : List ℕ → List ℕ
stored_cells nodes = cells_of (graph_in nodes (length nodes / NODE_WORDS))

-- Of a circuit that the circuit check accepts, with a key for each node and room in every area, window 1 gives the cells in storage order, for all keys.
abbrev pub StoredAtWindowOne : Type 0
StoredAtWindowOne =
    (nodes outputs keys ready successors order : List ℕ) → topological_fault nodes outputs ≡ Ok tt → length keys ≡ KEY_WORDS * (length nodes / NODE_WORDS)
    → room (length nodes / NODE_WORDS) (length ready) (length successors) (length order) ≡ true
    → schedule_call nodes outputs 1 keys ready successors order
    ≡ leaves (Ok (length (stored_cells nodes))) (replicate (length ready) 0) (replicate (length successors) 0) (stored_cells nodes ++ replicate (length order - length (stored_cells nodes)) 0)
