-- Examples, each computed from the definitions: runs from old contents, unfit lists, refusals.
-- Assumes nothing.
use mathlib.Core.Path.{◌≡◌, refl}
use mathlib.Core.List.{List, [], ◌∷◌, map}
use Prim.Native.Nat.{ℕ}
use lib.ListN.{replicate}
use Rattle.laws.specs.Areas.{encodes}
use Rattle.laws.specs.Lists.{numbers}
use Rattle.circuit.specs.Records.{places, encode_node, encode_output, input_node, cell_node, no_node, node_from, is_cell_node, wires_of}
use Rattle.circuit.specs.Check.{cell_broken, record_broken, check_wires, check_node, check_nodes, check_circuit, whole, topological_fault}
use Rattle.circuit.specs.Graph.{nodes_read, vertex_of, graph_of}
use Rattle.graphs.specs.Graph.{outside, is_cell, reads_of, cells_of, waits, free, ready, fit, fit_list}
use Rattle.values.specs.Values.{answer_of, outputs_from}
use Rattle.values.specs.Assignments.{input_count, wrong_assignment}
use Rattle.values.specs.Calls.{assignment_fault, room_fault, CallResult, after_call}
use Rattle.values.proofs.Examples.{n, output, listed}
use Rattle.runs.specs.Runs.{put_in, step, steps, run_store, run_outputs}
use Rattle.runs.specs.Calls.{order_fault, run_fault, run_call}

-- the run over the areas of that circuit, with one output y
abbrev ran : List ℕ → List ℕ → List ℕ → List ℕ → CallResult
ran order assignment store answers = run_call (encodes encode_node listed) (encodes encode_output (output (n 4) ∷ [])) order assignment store answers

abbrev accepted : ℕ → List ℕ → CallResult
accepted v after = record { number = 0; count = 3; store = 0 ∷ 0 ∷ 0 ∷ 0 ∷ 0 ∷ after; outputs = v ∷ 0 ∷ [] }

-- along 3, 2, 4 and along storage order, from old contents of 255 and of 0, and from a store with a place to spare
pub along : ran (3 ∷ 2 ∷ 4 ∷ []) (2 ∷ 1 ∷ []) (replicate 5 255) (255 ∷ 255 ∷ []) ∷ ran (2 ∷ 3 ∷ 4 ∷ []) (2 ∷ 1 ∷ []) (replicate 5 0) (7 ∷ 7 ∷ [])
    ∷ ran (3 ∷ 2 ∷ 4 ∷ []) (2 ∷ 0 ∷ []) (replicate 6 255) (1 ∷ 1 ∷ []) ∷ []
    ≡ accepted 0 [] ∷ accepted 0 [] ∷ accepted 2 (0 ∷ []) ∷ []
unfolding run_call after_call run_fault assignment_fault order_fault room_fault wrong_assignment input_count topological_fault whole check_circuit check_nodes check_node check_wires record_broken cell_broken wires_of is_cell_node graph_of vertex_of nodes_read outside is_cell reads_of cells_of numbers waits free ready fit fit_list run_outputs run_store steps step put_in answer_of outputs_from no_node places input_node cell_node node_from encode_node
along = refl

abbrev refusal : List ℕ → List ℕ → List ℕ → List ℕ → ℕ
refusal order assignment store answers = (ran order assignment store answers).number

-- a cell twice, an input's number, a number past the nodes, a cell missing, a cell too early, an entry too many: 20, though store and output area are too short
pub unfit : map (λ (order : List ℕ). refusal order (2 ∷ 1 ∷ []) [] []) ((3 ∷ 2 ∷ 2 ∷ []) ∷ (3 ∷ 2 ∷ 0 ∷ []) ∷ (3 ∷ 2 ∷ 9 ∷ []) ∷ (3 ∷ 2 ∷ []) ∷ (3 ∷ 4 ∷ 2 ∷ []) ∷ (3 ∷ 2 ∷ 4 ∷ 4 ∷ []) ∷ [])
    ≡ 20 ∷ 20 ∷ 20 ∷ 20 ∷ 20 ∷ 20 ∷ []
unfolding run_call after_call run_fault assignment_fault order_fault room_fault wrong_assignment input_count topological_fault whole check_circuit check_nodes check_node check_wires record_broken cell_broken wires_of is_cell_node graph_of vertex_of nodes_read outside is_cell reads_of cells_of numbers waits free ready fit fit_list places input_node cell_node node_from encode_node
unfit = refl

-- an assignment too short, a value above 2, each before the order is looked at: 19; a store too short, an output area too short: 3
pub refused : refusal [] (2 ∷ []) [] [] ∷ refusal [] (3 ∷ 0 ∷ []) [] [] ∷ refusal (3 ∷ 2 ∷ 4 ∷ []) (2 ∷ 1 ∷ []) (replicate 4 0) (0 ∷ []) ∷ refusal (3 ∷ 2 ∷ 4 ∷ []) (2 ∷ 1 ∷ []) (replicate 5 0) [] ∷ []
    ≡ 19 ∷ 19 ∷ 3 ∷ 3 ∷ []
unfolding run_call after_call run_fault assignment_fault order_fault room_fault wrong_assignment input_count topological_fault whole check_circuit check_nodes check_node check_wires record_broken cell_broken wires_of is_cell_node graph_of vertex_of nodes_read outside is_cell reads_of cells_of numbers waits free ready fit fit_list places input_node cell_node node_from encode_node
refused = refl
