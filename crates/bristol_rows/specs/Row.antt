-- A gate row: the gates that it makes, by the wires driven so far.
-- Assumes nothing.
use Rattle.std.specs.Prelude.{ℕ, ◌+◌, List, [], ◌∷◌, map, eqb, leb, ltb, length, get_or, take, drop, Ok, Err}
use Rattle.circuit.specs.declared.refusals.Refusal.TheVariants.{NoDriver, WrongCount, Unknown, Malformed, OutputOutside}
use Rattle.circuit.specs.declared.records.WireNumber.{WireNumber}
use Rattle.circuit.specs.declared.records.BoolWire.{BoolWire}
use Rattle.circuit.specs.declared.records.Name.TheVariants.{Number}
use Rattle.circuit.specs.Refusals.{Try, and_then, need}
use Rattle.circuit.specs.Records.{no_wire, cell_node}
use Rattle.bristol_rows.specs.declared.gates.Gate.{Gate}
use Rattle.bristol_rows.specs.declared.gates.Gate.TheVariants.{Alias, Cell}
use Rattle.bristol_rows.specs.declared.slots.TheConstants.{UNDRIVEN}
use Rattle.bristol_rows.specs.declared.operation.Operation.{Operation}
use Rattle.bristol_rows.specs.declared.operation.Operation.TheVariants.{Copy, One, Two, Unlisted}
use Rattle.bristol_rows.specs.Numbers.{number, each_number}
use Rattle.bristol_rows.specs.Operation.{operation}
use Rattle.bristol_rows.specs.Slots.{wire_number, slot_of, driver_of_slot}

-- the circuit's wires that drive these wires of the file, or the refusal of one that nothing drives
unfoldable pub drivers : List ℕ → List WireNumber → Try (List BoolWire)
drivers wires [] = Ok []
drivers wires (w ∷ ws) =
    need (ltb UNDRIVEN (slot_of wires w)) NoDriver
    (and_then (drivers wires ws) (λ ds. Ok (driver_of_slot (slot_of wires w) ∷ ds)))

-- a wire gets another name
abbrev pub alias_gate : WireNumber → BoolWire → List Gate
alias_gate out d = Alias out d ∷ []

-- a cell is named by its output wire
abbrev pub cell_gate : WireNumber → ℕ → List BoolWire → List Gate
cell_gate out t ds = Cell out (cell_node (Number out) t ds) ∷ []

-- the gates of an operation on wires of the circuit, if they are as many as it takes: a copy of another number
-- is a wrong count, and no other operation has a name for another number
abbrev pub gates_on : WireNumber → List BoolWire → Operation → Try (List Gate)
gates_on out ds Copy = need (eqb (length ds) 1) WrongCount (Ok (alias_gate out (get_or ds 0 no_wire)))
gates_on out ds (One t) = need (eqb (length ds) 1) Unknown (Ok (cell_gate out t ds))
gates_on out ds (Two t) = need (eqb (length ds) 2) Unknown (Ok (cell_gate out t ds))
gates_on out ds Unlisted = Err Unknown

-- the gates of an operation, by the numbers of its input wires and its output wire: each operation so far looks up
-- what drives its inputs
unfoldable pub gates_of : List ℕ → List ℕ → WireNumber → Operation → Try (List Gate)
gates_of wires ins out op = and_then (drivers wires (map wire_number ins)) (λ ds. gates_on out ds op)

-- by the word of the output wire, once the input wires are numbers
unfoldable pub row_output : List ℕ → List ℕ → Operation → List ℕ → Try (List Gate)
row_output wires ins op word =
    and_then (number word) (λ out. need (ltb out (length wires)) OutputOutside (gates_of wires ins (wire_number out) op))

-- by the words after the arities, of an operation with so many inputs and one output
unfoldable pub row_wires : List ℕ → ℕ → Operation → List (List ℕ) → Try (List Gate)
row_wires wires inputs op ws =
    and_then (each_number (take inputs ws)) (λ ins. row_output wires ins op (get_or (drop inputs ws) 0 []))

-- the case of the operation, once the arities fit the number of words: each operation so far has one output
unfoldable pub operation_row : List ℕ → ℕ → ℕ → Operation → List (List ℕ) → Try (List Gate)
operation_row wires inputs outputs op ws = need (eqb outputs 1) WrongCount (row_wires wires inputs op ws)

-- the words after a row's arities and input wires: its output wires, and the operation's name
abbrev pub after_inputs : ℕ → List (List ℕ) → List (List ℕ)
after_inputs inputs ws = drop inputs (drop 2 ws)

-- a row has four words or more, numbers as arities, and as many words as they say; then its operation says what is checked
unfoldable pub row : List ℕ → List (List ℕ) → Try (List Gate)
row wires ws =
    need (leb 4 (length ws)) Malformed
    (and_then (number (get_or ws 0 [])) (λ inputs. and_then (number (get_or ws 1 [])) (λ outputs.
    need (eqb (length ws) (2 + inputs + outputs + 1)) Malformed
    (operation_row wires inputs outputs (operation (get_or (after_inputs inputs ws) outputs [])) (drop 2 ws)))))
