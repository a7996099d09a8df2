-- The run along a list of cells.
-- Assumes nothing.
use Rattle.std.specs.Prelude.{List, [], ◌∷◌, if◌then◌else◌, ℕ, suc, get_or, set}
use Rattle.circuit.specs.declared.records.BoolWire.{BoolWire}
use Rattle.circuit.specs.declared.records.BoolNode.{BoolNode}
use Rattle.circuit.specs.Records.{is_cell_node, no_node}
use Rattle.values.specs.Values.{answer_of, outputs_from}

-- The inputs put into a value store: node k is next, and p inputs are passed. A cell's value stays.
unfoldable pub put_in : List ℕ → ℕ → ℕ → List ℕ → List BoolNode → List ℕ
put_in assignment p k store [] = store
put_in assignment p k store (n ∷ ns) =
    if is_cell_node n then put_in assignment p (suc k) store ns
    else put_in assignment (suc p) (suc k) (set store k (get_or assignment p 0)) ns

-- A step: cell x is worked out from what stands in the store, and its answer is stored. No other value changes.
unfoldable pub step : List BoolNode → List ℕ → ℕ → List ℕ
step ns store x = set store x (answer_of store (get_or ns x no_node))

-- A step for each entry of a list, in turn.
unfoldable pub steps : List BoolNode → List ℕ → List ℕ → List ℕ
steps ns store [] = store
steps ns store (x ∷ xs) = steps ns (step ns store x) xs

-- A run starts from the old contents of the store, whatever they are, puts in the inputs, then goes along the list.
unfoldable pub run_store : List BoolNode → List ℕ → List ℕ → List ℕ → List ℕ
run_store ns assignment order old = steps ns (put_in assignment 0 0 old ns) order

-- What the outputs' wires then have.
unfoldable pub run_outputs : List BoolNode → List BoolWire → List ℕ → List ℕ → List ℕ → List ℕ
run_outputs ns wires assignment order old = outputs_from (run_store ns assignment order old) wires
