-- Examples of the call, each computed from the definition.
-- Assumes nothing.
use Rattle.std.specs.Prelude.{Ok}
use mathlib.Core.Path.{◌≡◌, refl}
use mathlib.Core.List.{List, [], ◌∷◌}
use Prim.Native.Nat.{ℕ, zero, suc, ◌+◌, ◌*◌}
use lib.ListN.{length, replicate}
use Rattle.laws.specs.Areas.{encodes}
use Rattle.laws.specs.Lists.{numbers}
use Rattle.circuit.specs.declared.records.BoolWire.{BoolWire}
use Rattle.circuit.specs.declared.records.BoolWire.TheVariants.{Node}
use Rattle.circuit.specs.declared.records.Name.TheVariants.{Stretch}
use Rattle.circuit.specs.declared.records.BoolNode.{BoolNode}
use Rattle.circuit.specs.declared.records.Output.{Output}
use Rattle.circuit.specs.Records.{places, node_from, input_node, cell_node, encode_node, encode_output, is_cell_node, wires_of}
use Rattle.circuit.specs.Check.{cell_broken, record_broken, node_broken, circuit_broken, whole, records_fault}
use Rattle.circuit.specs.Graph.{nodes_read, vertex_of, graph_of}
use Rattle.graphs.specs.Graph.{outside, is_cell, reads_of, cells_of, waits, free, ready, ready_cells}
use Rattle.ordering.specs.Schedule.{key_at, above, best, pick, next, schedule_from, schedule_of}
use Rattle.circuit.specs.Refusals.{checked_number}
use Rattle.schedule.specs.Call.{ordered_cells, graph_in, order_in, room, call_fault, circle_fault, schedule_fault, Left, leaves, schedule_call}
use Rattle.ordering.specs.Promises.{leaves_out}

abbrev n : ℕ → BoolWire
n k = Node (record { 0 = k })

abbrev input : BoolNode
input = input_node (Stretch 0 1)

abbrev one : ℕ → BoolWire → BoolNode
one t a = cell_node (Stretch 2 1) t (a ∷ [])

abbrev two : ℕ → BoolWire → BoolWire → BoolNode
two t a b = cell_node (Stretch 4 1) t (a ∷ b ∷ [])

abbrev output : BoolWire → Output
output w = record { name = Stretch 6 1; wire = w }

-- the circuit of the worked example
abbrev listed : List BoolNode
listed = input ∷ input ∷ two 4 (n 0) (n 1) ∷ one 1 (n 0) ∷ two 8 (n 2) (n 3) ∷ []

-- keys (0, 0, node number), and keys that are all equal
abbrev numbered : ℕ → ℕ → List ℕ
numbered from zero = []
numbered from (suc m) = 0 ∷ 0 ∷ from ∷ numbered (suc from) m

abbrev equal : ℕ → List ℕ
equal m = replicate (3 * m) 5

-- * "that order": window 2, key (0, 0, node number), on areas that held something else: 3 2 4, zeros after it and elsewhere
pub starred-order :
    schedule_call (encodes encode_node listed) (encodes encode_output (output (n 4) ∷ [])) 2 (numbered 0 5) (replicate 16 7) (replicate 12 7) (replicate 6 7)
    ≡ leaves (Ok 3) (replicate 16 0) (replicate 12 0) (3 ∷ 2 ∷ 4 ∷ 0 ∷ 0 ∷ 0 ∷ [])
unfolding places node_from input_node cell_node encode_node schedule_call schedule_fault call_fault circle_fault room leaves_out graph_in order_in schedule_of schedule_from next pick best above key_at graph_of vertex_of nodes_read outside is_cell reads_of waits free ready ready_cells cells_of numbers records_fault whole circuit_broken node_broken record_broken cell_broken wires_of is_cell_node
starred-order = refl

-- number, count and order of a call with just enough room
abbrev gives : Left → List ℕ
gives l = checked_number l.answer ∷ ordered_cells l.answer ∷ l.order

abbrev by : List BoolNode → ℕ → List ℕ → List ℕ
by ns window keys = gives (schedule_call (encodes encode_node ns) [] window keys (replicate (3 * length ns) 7) (replicate (2 * length ns + 1) 7) (replicate (length ns) 7))

-- what is asked, and what the call gives
pub table :
    by listed 0 (numbered 0 5)
    ∷ by listed 1 (numbered 0 5)
    ∷ by listed 18446744073709551615 (equal 5)
    ∷ by (input ∷ one 1 (n 0) ∷ two 8 (n 1) (n 1) ∷ []) 2 (numbered 0 3)
    ∷ by (input ∷ two 8 (n 0) (n 1) ∷ []) 1 (numbered 0 2)
    ∷ by (two 8 (n 1) (n 2) ∷ one 1 (n 0) ∷ one 1 (n 1) ∷ []) 3 (numbered 0 3)
    ∷ by (two 8 (n 2) (n 1) ∷ one 1 (n 2) ∷ one 1 (n 3) ∷ input ∷ []) 3 (numbered 0 4)
    ∷ by (input ∷ one 1 (n 0) ∷ one 1 (n 0) ∷ one 1 (n 0) ∷ []) 2 (equal 4)
    ∷ by (input ∷ one 1 (n 0) ∷ one 1 (n 0) ∷ one 1 (n 0) ∷ []) 2 (numbered 0 4)
    ∷ by (input ∷ one 1 (n 0) ∷ one 1 (n 0) ∷ one 1 (n 0) ∷ []) 3 (0 ∷ 0 ∷ 0 ∷ 1 ∷ 0 ∷ 9 ∷ 1 ∷ 2 ∷ 0 ∷ 1 ∷ 2 ∷ 0 ∷ [])
    ∷ by [] 1 []
    ∷ by (one 1 (n 1) ∷ []) 0 []
    ∷ by listed 1 (numbered 0 4)
    ∷ gives (schedule_call (encodes encode_node listed) [] 1 (numbered 0 5) (replicate 14 7) (replicate 11 7) (replicate 5 7))
    ∷ gives (schedule_call (encodes encode_node listed) [] 1 (numbered 0 5) (replicate 15 7) (replicate 10 7) (replicate 5 7))
    ∷ gives (schedule_call (encodes encode_node listed) [] 1 (numbered 0 5) (replicate 15 7) (replicate 11 7) (replicate 4 7))
    ∷ []
    -- * window 0 is 18; window 1 is storage order; equal keys in any window: storage order
    ≡ (18 ∷ 0 ∷ 0 ∷ 0 ∷ 0 ∷ 0 ∷ 0 ∷ [])
    ∷ (0 ∷ 3 ∷ 2 ∷ 3 ∷ 4 ∷ 0 ∷ 0 ∷ [])
    ∷ (0 ∷ 3 ∷ 2 ∷ 3 ∷ 4 ∷ 0 ∷ 0 ∷ [])
    -- AND(t,t) waits for two reads of t; a cell that reads itself is 17, and so are three in a circle
    ∷ (0 ∷ 2 ∷ 1 ∷ 2 ∷ 0 ∷ [])
    ∷ (17 ∷ 0 ∷ 0 ∷ 0 ∷ [])
    ∷ (17 ∷ 0 ∷ 0 ∷ 0 ∷ 0 ∷ [])
    -- forward reads alone are ordered
    ∷ (0 ∷ 3 ∷ 2 ∷ 1 ∷ 0 ∷ 0 ∷ [])
    -- a tie takes the smallest number, the greatest key the largest in the window; the second number decides, then the smallest number
    ∷ (0 ∷ 3 ∷ 1 ∷ 2 ∷ 3 ∷ 0 ∷ [])
    ∷ (0 ∷ 3 ∷ 2 ∷ 3 ∷ 1 ∷ 0 ∷ [])
    ∷ (0 ∷ 3 ∷ 2 ∷ 3 ∷ 1 ∷ 0 ∷ [])
    -- no node; 15 before 18; 19; 3 for each area
    ∷ (0 ∷ 0 ∷ [])
    ∷ (15 ∷ 0 ∷ 0 ∷ [])
    ∷ (19 ∷ 0 ∷ 0 ∷ 0 ∷ 0 ∷ 0 ∷ 0 ∷ [])
    ∷ (3 ∷ 0 ∷ 0 ∷ 0 ∷ 0 ∷ 0 ∷ 0 ∷ [])
    ∷ (3 ∷ 0 ∷ 0 ∷ 0 ∷ 0 ∷ 0 ∷ 0 ∷ [])
    ∷ (3 ∷ 0 ∷ 0 ∷ 0 ∷ 0 ∷ 0 ∷ [])
    ∷ []
unfolding places node_from input_node cell_node encode_node schedule_call schedule_fault call_fault circle_fault room leaves_out graph_in order_in schedule_of schedule_from next pick best above key_at graph_of vertex_of nodes_read outside is_cell reads_of waits free ready ready_cells cells_of numbers records_fault whole circuit_broken node_broken record_broken cell_broken wires_of is_cell_node
table = refl
