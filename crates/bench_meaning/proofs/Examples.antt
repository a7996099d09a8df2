-- Gates lowered after three inputs, and the values of their names, by computation.
-- Assumes nothing.
use Rattle.std.specs.Prelude.{Err, Ok}
use Prim.Native.Nat.{ℕ}
use mathlib.Core.Path.{◌≡◌, refl}
use mathlib.Core.List.{List, [], ◌∷◌, map}
use Rattle.laws.specs.Sums.{sum}
use Rattle.circuit.specs.Refusals.{Try}
use Rattle.circuit.specs.Records.{places, input_node, cell_node, is_cell_node, wires_of}
use Rattle.text.specs.declared.words.Word.{Word}
use Rattle.names.specs.Names.{Entry}
use Rattle.reading.specs.Reading.{Places, Held, add_name, add_node, add_alias, add_named, declared_input}
use Rattle.values.specs.Values.{answer_of, values_from, storage_values}
use Rattle.bench_gates.specs.declared.operations.Operation.{Operation}
use Rattle.bench_gates.specs.declared.operations.Operation.TheVariants.{Buf, Not, Chain}
use Rattle.bench_gates.specs.declared.operations.Binary.{Binary}
use Rattle.bench_gates.specs.declared.operations.Binary.TheVariants.{And, Nand, Or, Nor, Xor, Xnor}
use Rattle.bench_gates.specs.Gates.{chain, chained, lower_gate}
use Rattle.bench_meaning.specs.Operations.{conjunction, disjunction, odd, parity, operation_bit}
use Rattle.bench_meaning.specs.GateMeaning.{wire_value}

abbrev word : ℕ → Word
word at = record { start = at; len = 1 }

-- after INPUT(a), INPUT(b), INPUT(c), whose wires are 2, 3 and 4
three : Held
three = record { nodes = declared_input (word 0) ∷ declared_input (word 1) ∷ declared_input (word 2) ∷ []; names = [] }

abbrev room : Places
room = record { nodes = 8; names = 1; outputs = 0 }

-- the value of the newest name; 9 where there is none
abbrev newest : List ℕ → Held → List Entry → ℕ
newest a h [] = 9
newest a h (e ∷ es) = wire_value a h.nodes e.wire

abbrev value_in : List ℕ → Try Held → ℕ
value_in a (Err e) = 9
value_in a (Ok h) = newest a h h.names

-- a gate of these wires under an assignment of a, b and c
value_of : Operation → List ℕ → List ℕ → ℕ
value_of o xs a = value_in a (lower_gate room (word 3) o xs three)

-- what the names have under every assignment of bits, and what the operations say
triples : List (List ℕ)
triples = (0 ∷ 0 ∷ 0 ∷ []) ∷ (0 ∷ 0 ∷ 1 ∷ []) ∷ (0 ∷ 1 ∷ 0 ∷ []) ∷ (0 ∷ 1 ∷ 1 ∷ []) ∷ (1 ∷ 0 ∷ 0 ∷ []) ∷ (1 ∷ 0 ∷ 1 ∷ []) ∷ (1 ∷ 1 ∷ 0 ∷ []) ∷ (1 ∷ 1 ∷ 1 ∷ []) ∷ []

six : List Binary
six = And ∷ Nand ∷ Or ∷ Nor ∷ Xor ∷ Xnor ∷ []

says : List (List ℕ)
says = (0 ∷ 0 ∷ 0 ∷ 0 ∷ 0 ∷ 0 ∷ 0 ∷ 1 ∷ []) ∷ (1 ∷ 1 ∷ 1 ∷ 1 ∷ 1 ∷ 1 ∷ 1 ∷ 0 ∷ []) ∷ (0 ∷ 1 ∷ 1 ∷ 1 ∷ 1 ∷ 1 ∷ 1 ∷ 1 ∷ []) ∷ (1 ∷ 0 ∷ 0 ∷ 0 ∷ 0 ∷ 0 ∷ 0 ∷ 0 ∷ []) ∷ (0 ∷ 1 ∷ 1 ∷ 0 ∷ 1 ∷ 0 ∷ 0 ∷ 1 ∷ []) ∷ (1 ∷ 0 ∷ 0 ∷ 1 ∷ 0 ∷ 1 ∷ 1 ∷ 0 ∷ []) ∷ []

computed : map (λ (o : Binary). map (value_of (Chain o) (2 ∷ 3 ∷ 4 ∷ [])) triples) six ≡ says
unfolding places input_node cell_node value_of three triples six says lower_gate chained chain add_named add_node add_name wire_value storage_values values_from answer_of wires_of is_cell_node
computed = refl

meant : map (λ (o : Binary). map (operation_bit (Chain o)) triples) six ≡ says
unfolding triples six says conjunction disjunction odd parity sum
meant = refl

-- XOR(a, a): 0 where a is known, unknown where it is not
same_twice : map (value_of (Chain Xor) (2 ∷ 2 ∷ [])) ((0 ∷ 0 ∷ 0 ∷ []) ∷ (1 ∷ 0 ∷ 0 ∷ []) ∷ (2 ∷ 0 ∷ 0 ∷ []) ∷ []) ≡ 0 ∷ 0 ∷ 2 ∷ []
unfolding places input_node cell_node value_of three lower_gate chained chain add_named add_node add_name wire_value storage_values values_from answer_of wires_of is_cell_node
same_twice = refl

-- constants as inputs: NAND(TRUE, FALSE, TRUE), NAND(TRUE, TRUE, TRUE), BUFF(TRUE), NOT(TRUE), whatever the inputs of the circuit are
constants : map (λ (xs : List ℕ). value_of (Chain Nand) xs (2 ∷ 2 ∷ 2 ∷ [])) ((1 ∷ 0 ∷ 1 ∷ []) ∷ (1 ∷ 1 ∷ 1 ∷ []) ∷ []) ≡ 1 ∷ 0 ∷ []
unfolding places input_node cell_node value_of three lower_gate chained chain add_named add_node add_name wire_value storage_values values_from answer_of wires_of is_cell_node
constants = refl

ones : value_of Buf (1 ∷ []) (2 ∷ 2 ∷ 2 ∷ []) ∷ value_of Not (1 ∷ []) (2 ∷ 2 ∷ 2 ∷ []) ∷ value_of Buf (3 ∷ []) (0 ∷ 1 ∷ 0 ∷ []) ∷ value_of Not (3 ∷ []) (0 ∷ 1 ∷ 0 ∷ []) ∷ [] ≡ 1 ∷ 0 ∷ 1 ∷ 0 ∷ []
unfolding places input_node cell_node value_of three lower_gate add_alias add_named add_node add_name wire_value storage_values values_from answer_of wires_of is_cell_node
ones = refl
