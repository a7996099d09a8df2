-- Examples, each computed from the definition: areas for 10 nodes, 2 outputs and 8 wires.
-- Assumes nothing.
use Rattle.std.specs.Prelude.{Err, Ok}
use Prim.Native.Nat.{ℕ}
use Prim.Native.Char.{code}
use Prim.Native.String.{String, [] as empty, ◌∷◌ as ◌then◌}
use mathlib.Core.Path.{◌≡◌, refl}
use mathlib.Core.Bool.{Bool, true, ◌&&◌}
use mathlib.Core.List.{List, [], ◌∷◌}
use Rattle.laws.specs.Areas.{capacity}
use Rattle.laws.specs.Stretches.{stretch, same_bytes}
use Rattle.laws.specs.Sums.{sum}
use Rattle.circuit.specs.declared.records.BoolWire.{BoolWire}
use Rattle.circuit.specs.declared.records.BoolWire.TheVariants.{Node}
use Rattle.circuit.specs.declared.records.BoolNode.{BoolNode}
use Rattle.circuit.specs.declared.records.Name.TheVariants.{Number}
use Rattle.circuit.specs.declared.records.Output.{Output}
use Rattle.circuit.specs.declared.records.Sizes.{Sizes}
use Rattle.circuit.specs.Refusals.{Try, number_of}
use Rattle.circuit.specs.Records.{cell_node}
use Rattle.text.specs.Blanks.{is_blank, trim_start, trim_end, trim}
use Rattle.text.specs.Bytes.{is_ascii, upper}
use Rattle.text.specs.Words.{words, split_whitespace}
use Rattle.text.specs.Lines.{raw_lines, uncommented, kept, kept_of, kept_lines}
use Rattle.text.specs.Numbers.{all_digits, value_from, digits_from, digits, parse_usize, parse_each}
use Rattle.reading.specs.Reading.{add_node, each}
use Rattle.bristol_rows.specs.Numbers.{number, each_number}
use Rattle.bristol_rows.specs.Header.{grouped_wire_count, groups, group_lines, two_numbers, header}
use Rattle.bristol_rows.specs.Operation.{is_alias, inverts, operation}
use Rattle.bristol_rows.specs.Slots.{wire_number}
use Rattle.bristol_rows.specs.Row.{drivers, gates_of, row_output, row_wires, operation_row, row}
use Rattle.bristol.specs.Bristol.{wire_input, drive, store_cell, store_gate, row_step, outputs_from, start, body, circuit, bristol_circuit, bristol}

-- a quoted text as bytes
unfoldable pub bytes : String → List ℕ
bytes empty = []
bytes (c then s) = code c ∷ bytes s

-- of a refusal its number, of a circuit 0 and its counts
unfoldable pub answered : Try Sizes → List ℕ
answered (Err e) = number_of e ∷ []
answered (Ok s) = 0 ∷ s.nodes ∷ s.outputs ∷ []

pub record Case : Type 0 where
  pub text : String
  pub answer : List ℕ

unfoldable pub right : List Case → Bool
unfolding answered bytes
right [] = true
right (c ∷ cs) = same_bytes (answered (bristol (bytes c.text) 90 10 8).answer) c.answer && right cs

unfoldable pub cases : List Case
cases =
    -- accepted: no rows and no outputs; a full adder; a `+` and leading zeros, an alias of an alias; blanks, comments and line ends; the six operations of two
    record { text = "0 1\n1 1\n0\n"; answer = 0 ∷ 1 ∷ 0 ∷ [] } ∷
    record { text = "5 8\n3 1 1 1\n1 2\n\n2 1 0 1 3 XOR\n2 1 3 2 6 xor\n2 1 0 1 4 AND # carry\n2 1 3 2 5 And\n2 1 4 5 7 OR\n"; answer = 0 ∷ 8 ∷ 2 ∷ [] } ∷
    record { text = "2 4\n+1 002\n1 1\n1 1 0 2 EQW\n1 1 2 3 NOT\n"; answer = 0 ∷ 3 ∷ 1 ∷ [] } ∷
    record { text = "\r\n# counts\n 2\t4 \r\n1 2 # inputs\n\n1 1\n1 1 1 2 buf\n1 1 2 3 eq"; answer = 0 ∷ 2 ∷ 1 ∷ [] } ∷
    record { text = "6 8\n1 2\n1 2\n2 1 0 1 2 and\n2 1 0 1 3 nand\n2 1 0 1 4 or\n2 1 0 1 5 nor\n2 1 0 1 6 xor\n2 1 0 1 7 xnor\n"; answer = 0 ∷ 8 ∷ 2 ∷ [] } ∷
    -- 2, 3 (wires; outputs)
    record { text = "0 1 \u{80}"; answer = 2 ∷ [] } ∷
    record { text = "0 9\n1 1\n0\n"; answer = 3 ∷ [] } ∷
    record { text = "3 6\n1 3\n1 3\n1 1 0 3 EQW\n1 1 0 4 EQW\n1 1 0 5 EQW\n"; answer = 3 ∷ [] } ∷
    -- 5: an input wire not driven; one past the wires; an output wire not driven
    record { text = "1 3\n1 1\n1 1\n1 1 1 2 INV\n"; answer = 5 ∷ [] } ∷
    record { text = "1 3\n2 1 1\n1 1\n2 1 0 7 2 XOR\n"; answer = 5 ∷ [] } ∷
    record { text = "1 3\n1 1\n2 1 1\n1 1 0 1 INV\n"; answer = 5 ∷ [] } ∷
    -- 6: two outputs; none; an alias of two
    record { text = "1 4\n2 1 1\n1 1\n1 2 0 2 3 XOR\n"; answer = 6 ∷ [] } ∷
    record { text = "1 3\n2 1 1\n1 1\n2 0 0 1 XOR\n"; answer = 6 ∷ [] } ∷
    record { text = "1 3\n2 1 1\n1 1\n2 1 0 1 2 EQ\n"; answer = 6 ∷ [] } ∷
    record { text = "1 3\n2 1 1\n1 1\n0 1 2 EQW\n"; answer = 6 ∷ [] } ∷
    -- 8: another operation; INV of two; AND of one; of three; of none
    record { text = "1 3\n2 1 1\n1 1\n2 1 0 1 2 FOO\n"; answer = 8 ∷ [] } ∷
    record { text = "1 3\n2 1 1\n1 1\n2 1 0 1 2 INV\n"; answer = 8 ∷ [] } ∷
    record { text = "1 3\n2 1 1\n1 1\n1 1 0 2 AND\n"; answer = 8 ∷ [] } ∷
    record { text = "1 3\n2 1 1\n1 1\n3 1 0 1 0 2 AND\n"; answer = 8 ∷ [] } ∷
    record { text = "1 3\n2 1 1\n1 1\n0 1 2 AND\n"; answer = 8 ∷ [] } ∷
    -- 9: two lines; three counts; one; under four words; a word too few; a word too many; no outputs in three words
    record { text = "1 3\n2 1 1\n"; answer = 9 ∷ [] } ∷
    record { text = "1 3 4\n2 1 1\n1 1\n"; answer = 9 ∷ [] } ∷
    record { text = "1\n2 1 1\n1 1\n"; answer = 9 ∷ [] } ∷
    record { text = "1 3\n2 1 1\n1 1\n2 1 XOR\n"; answer = 9 ∷ [] } ∷
    record { text = "1 3\n2 1 1\n1 1\n2 1 0 1 XOR\n"; answer = 9 ∷ [] } ∷
    record { text = "1 3\n2 1 1\n1 1\n2 1 0 1 2 2 XOR\n"; answer = 9 ∷ [] } ∷
    record { text = "1 3\n2 1 1\n1 1\n0 0 XOR\n"; answer = 9 ∷ [] } ∷
    -- 11: a group count; the other; the sum; the number of rows, too few and too many
    record { text = "1 3\n2 1\n1 1\n"; answer = 11 ∷ [] } ∷
    record { text = "1 3\n2 1 1\n2 1\n"; answer = 11 ∷ [] } ∷
    record { text = "1 3\n2 1 1\n1 2\n"; answer = 11 ∷ [] } ∷
    record { text = "2 3\n2 1 1\n1 1\n2 1 0 1 2 XOR\n"; answer = 11 ∷ [] } ∷
    record { text = "0 3\n2 1 1\n1 1\n2 1 0 1 2 XOR\n"; answer = 11 ∷ [] } ∷
    -- 12: each line of the header, an arity, an input wire, the output wire; `+` alone, `-0`
    record { text = "x 3\n2 1 1\n1 1\n"; answer = 12 ∷ [] } ∷
    record { text = "1 3\n2 1 +\n1 1\n"; answer = 12 ∷ [] } ∷
    record { text = "1 3\n2 1 1\n1 -0\n"; answer = 12 ∷ [] } ∷
    record { text = "1 3\n2 1 1\n1 1\nx 1 0 1 2 XOR\n"; answer = 12 ∷ [] } ∷
    record { text = "1 3\n2 1 1\n1 1\n2 x 0 1 2 XOR\n"; answer = 12 ∷ [] } ∷
    record { text = "1 3\n2 1 1\n1 1\n2 1 0 +x 2 XOR\n"; answer = 12 ∷ [] } ∷
    record { text = "1 3\n2 1 1\n1 1\n2 1 0 1 y XOR\n"; answer = 12 ∷ [] } ∷
    -- 13 and 14: an output wire past the wires; a wire driven twice, by cells, by an alias, an input's
    record { text = "1 3\n2 1 1\n1 1\n2 1 0 1 3 XOR\n"; answer = 13 ∷ [] } ∷
    record { text = "2 3\n2 1 1\n1 1\n2 1 0 1 2 XOR\n2 1 0 1 2 AND\n"; answer = 14 ∷ [] } ∷
    record { text = "2 3\n2 1 1\n1 1\n2 1 0 1 2 XOR\n1 1 0 2 EQW\n"; answer = 14 ∷ [] } ∷
    record { text = "1 3\n2 1 1\n1 1\n1 1 0 1 BUF\n"; answer = 14 ∷ [] } ∷
    -- which comes first: 9 for few words before 12; 12 of an arity before 9 for the width; 9 before 6; 6 before 12; 12 before 13; 13 before 5; 5 before 8; 8 before 14; group numbers (12) before group counts (11); a row before the number of rows
    record { text = "1 3\n2 1 1\n1 1\nx 1 XOR\n"; answer = 9 ∷ [] } ∷
    record { text = "1 3\n2 1 1\n1 1\nx 1 0 1 2 3 4 XOR\n"; answer = 12 ∷ [] } ∷
    record { text = "1 3\n2 1 1\n1 1\n2 2 0 1 2 XOR\n"; answer = 9 ∷ [] } ∷
    record { text = "1 3\n2 1 1\n1 1\n1 2 x 1 2 XOR\n"; answer = 6 ∷ [] } ∷
    record { text = "1 3\n2 1 1\n1 1\n2 1 0 x 3 XOR\n"; answer = 12 ∷ [] } ∷
    record { text = "1 3\n2 1 1\n1 1\n2 1 0 9 3 XOR\n"; answer = 13 ∷ [] } ∷
    record { text = "1 3\n2 1 1\n1 1\n2 1 0 9 2 FOO\n"; answer = 5 ∷ [] } ∷
    record { text = "1 3\n2 1 1\n1 1\n2 1 0 1 1 FOO\n"; answer = 8 ∷ [] } ∷
    record { text = "1 3\n9 1 1\nx 1\n"; answer = 12 ∷ [] } ∷
    record { text = "9 3\n2 1 1\n1 1\n2 1 0 9 2 XOR\n"; answer = 5 ∷ [] } ∷
    -- the largest number in every place, where it is an answer at once; and one more, which is no number
    record { text = "18446744073709551615 3\n2 1 1\n1 1\n2 1 0 1 2 XOR\n"; answer = 11 ∷ [] } ∷
    record { text = "1 18446744073709551615\n2 1 1\n1 1\n"; answer = 3 ∷ [] } ∷
    record { text = "1 3\n18446744073709551615 1 1\n1 1\n"; answer = 11 ∷ [] } ∷
    record { text = "1 3\n2 1 1\n18446744073709551615 1\n"; answer = 11 ∷ [] } ∷
    record { text = "1 3\n2 1 18446744073709551615\n1 1\n"; answer = 11 ∷ [] } ∷
    record { text = "1 3\n2 2 18446744073709551615\n1 1\n"; answer = 11 ∷ [] } ∷
    record { text = "1 18446744073709551615\n2 1 18446744073709551615\n1 1\n"; answer = 11 ∷ [] } ∷
    record { text = "1 3\n1 1\n1 18446744073709551615\n"; answer = 11 ∷ [] } ∷
    record { text = "1 18446744073709551615\n1 18446744073709551615\n1 18446744073709551615\n"; answer = 11 ∷ [] } ∷
    record { text = "1 3\n2 1 1\n1 1\n18446744073709551615 1 0 1 2 XOR\n"; answer = 9 ∷ [] } ∷
    record { text = "1 3\n2 1 1\n1 1\n2 18446744073709551615 0 1 2 XOR\n"; answer = 9 ∷ [] } ∷
    record { text = "1 3\n2 1 1\n1 1\n18446744073709551615 18446744073709551615 0 1 2 XOR\n"; answer = 9 ∷ [] } ∷
    record { text = "1 3\n2 1 1\n1 1\n2 1 0 18446744073709551615 2 XOR\n"; answer = 5 ∷ [] } ∷
    record { text = "1 3\n2 1 1\n1 1\n2 1 0 1 18446744073709551615 XOR\n"; answer = 13 ∷ [] } ∷
    record { text = "18446744073709551616 3\n2 1 1\n1 1\n"; answer = 12 ∷ [] } ∷
    record { text = "1 18446744073709551616\n2 1 1\n1 1\n"; answer = 12 ∷ [] } ∷
    record { text = "1 3\n18446744073709551616 1 1\n1 1\n"; answer = 12 ∷ [] } ∷
    record { text = "1 3\n2 1 1\n1 18446744073709551616\n"; answer = 12 ∷ [] } ∷
    record { text = "1 3\n2 1 1\n1 1\n18446744073709551616 1 0 1 2 XOR\n"; answer = 12 ∷ [] } ∷
    record { text = "1 3\n2 1 1\n1 1\n2 18446744073709551616 0 1 2 XOR\n"; answer = 12 ∷ [] } ∷
    record { text = "1 3\n2 1 1\n1 1\n2 1 0 18446744073709551616 2 XOR\n"; answer = 12 ∷ [] } ∷
    record { text = "1 3\n2 1 1\n1 1\n2 1 0 1 18446744073709551616 XOR\n"; answer = 12 ∷ [] } ∷
    []

pub all_right : right cases ≡ true
unfolding right cases answered bytes bristol bristol_circuit circuit body start outputs_from row_step store_cell drive each add_node store_gate row operation_row row_wires row_output gates_of drivers operation inverts is_alias header two_numbers group_lines groups grouped_wire_count each_number number parse_each parse_usize digits digits_from value_from all_digits kept_lines kept_of kept uncommented raw_lines split_whitespace words upper is_ascii trim trim_end trim_start is_blank sum stretch same_bytes capacity
all_right = refl

-- ---- the areas: nodes for two inputs and a cell, one place short for the cell, for the inputs; a wire driven twice is told after that; words that
-- make no whole record do not count; outputs; wires

abbrev xor : String
xor = "1 3\n2 1 1\n1 1\n2 1 0 1 2 XOR\n"

abbrev twice : String
twice = "2 3\n2 1 1\n1 1\n2 1 0 1 2 XOR\n2 1 0 1 2 AND\n"

unfoldable pub at : String → ℕ → ℕ → ℕ → ℕ
unfolding answered bytes
at text nodes outputs wires = first (answered (bristol (bytes text) nodes outputs wires).answer)
  where
    first : List ℕ → ℕ
    first [] = 0
    first (k ∷ ks) = k

pub rooms : at xor 27 5 3 ∷ at xor 26 5 3 ∷ at xor 17 5 3 ∷ at twice 27 5 3 ∷ at twice 36 5 3 ∷ at xor 27 4 3 ∷ at xor 27 5 2 ∷ at "1 3\n1 2\n1 1\n1 1 0 1 INV\n" 18 0 3 ∷ []
    ≡ 0 ∷ 3 ∷ 3 ∷ 3 ∷ 14 ∷ 3 ∷ 3 ∷ 3 ∷ []
unfolding at answered bytes bristol bristol_circuit circuit body start outputs_from row_step store_cell drive each add_node store_gate row operation_row row_wires row_output gates_of drivers operation inverts is_alias header two_numbers group_lines groups grouped_wire_count each_number number parse_each parse_usize digits digits_from value_from all_digits kept_lines kept_of kept uncommented raw_lines split_whitespace words upper is_ascii trim trim_end trim_start is_blank sum stretch same_bytes capacity
rooms = refl

-- ---- the full adder's circuit, record by record

abbrev n : ℕ → BoolWire
n k = Node (record { 0 = k })

abbrev gate : ℕ → ℕ → BoolWire → BoolWire → BoolNode
gate w t a b = cell_node (Number (wire_number w)) t (a ∷ b ∷ [])

abbrev output : ℕ → BoolWire → Output
output w a = record { name = Number (record { 0 = w }); wire = a }

abbrev adder : String
adder = "5 8\n3 1 1 1\n1 2\n\n2 1 0 1 3 XOR\n2 1 3 2 6 xor\n2 1 0 1 4 AND # carry\n2 1 3 2 5 And\n2 1 4 5 7 OR\n"

pub adder_is : bristol_circuit (bytes adder) 90 10 8 ≡ Ok (record {
  nodes = wire_input 0 ∷ wire_input 1 ∷ wire_input 2 ∷ gate 3 6 (n 0) (n 1) ∷ gate 6 6 (n 3) (n 2) ∷ gate 4 8 (n 0) (n 1) ∷ gate 5 8 (n 3) (n 2) ∷ gate 7 14 (n 5) (n 6) ∷ [];
  outputs = output 6 (n 4) ∷ output 7 (n 7) ∷ [];
})
unfolding bytes bristol_circuit circuit body start outputs_from row_step store_cell drive each add_node store_gate row operation_row row_wires row_output gates_of drivers operation inverts is_alias header two_numbers group_lines groups grouped_wire_count each_number number parse_each parse_usize digits digits_from value_from all_digits kept_lines kept_of kept uncommented raw_lines split_whitespace words upper is_ascii trim trim_end trim_start is_blank sum stretch same_bytes capacity
adder_is = refl
