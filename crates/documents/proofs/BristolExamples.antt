-- What the page says of texts, computed: a full adder, every gate, and a text with a gate that the page does not have.
-- Assumes nothing.
use Prim.Native.Nat.{ℕ}
use Prim.Native.Char.{code}
use Prim.Native.String.{String, [] as empty, ◌∷◌ as ◌then◌}
use mathlib.Core.Path.{◌≡◌, refl}
use mathlib.Core.Bool.{true, false}
use mathlib.Core.List.{List, [], ◌∷◌, map}
use Rattle.laws.specs.Stretches.{stretch, same_bytes}
use Rattle.laws.specs.Sums.{sum}
use Rattle.text.specs.Blanks.{is_blank, trim_start, trim_end, trim}
use Rattle.text.specs.Words.{words, split_whitespace}
use Rattle.text.specs.Lines.{raw_lines, uncommented, kept, kept_of, kept_lines}
use Rattle.text.specs.Numbers.{all_digits, value_from, digits_from, digits, parse_usize}
use Rattle.documents.specs.BristolFashion.{num, input_words, output_word, name_word, gate_step, gate_steps, widths, wire_count, input_bits, output_bits, meaning, is_page_gate, all_page_gates, read_alike}

-- a quoted text as bytes
unfoldable pub bytes : String → List ℕ
bytes empty = []
bytes (c then s) = code c ∷ bytes s

-- sum and carry of three bits, each input a value of its own
abbrev adder : String
adder = "5 8\n3 1 1 1\n2 1 1\n\n2 1 0 1 3 XOR\n2 1 0 1 4 AND\n2 1 3 2 5 AND\n2 1 3 2 6 XOR\n2 1 4 5 7 XOR\n"

pub adds : map (meaning (bytes adder))
    ((0 ∷ 0 ∷ 0 ∷ []) ∷ (0 ∷ 0 ∷ 1 ∷ []) ∷ (0 ∷ 1 ∷ 0 ∷ []) ∷ (0 ∷ 1 ∷ 1 ∷ []) ∷ (1 ∷ 0 ∷ 0 ∷ []) ∷ (1 ∷ 0 ∷ 1 ∷ []) ∷ (1 ∷ 1 ∷ 0 ∷ []) ∷ (1 ∷ 1 ∷ 1 ∷ []) ∷ [])
    ≡ (0 ∷ 0 ∷ []) ∷ (1 ∷ 0 ∷ []) ∷ (1 ∷ 0 ∷ []) ∷ (0 ∷ 1 ∷ []) ∷ (1 ∷ 0 ∷ []) ∷ (0 ∷ 1 ∷ []) ∷ (0 ∷ 1 ∷ []) ∷ (1 ∷ 1 ∷ []) ∷ []
unfolding bytes meaning wire_count input_bits output_bits widths gate_steps gate_step input_words output_word name_word num kept_lines kept_of kept uncommented raw_lines trim trim_start trim_end is_blank split_whitespace words stretch same_bytes sum parse_usize digits digits_from all_digits value_from
adds = refl

-- a gate later in the file sees the wires before it; INV and EQW; the counts of bits
abbrev chain : String
chain = "3 5\n1 2\n1 1\n1 1 1 2 INV\n1 1 2 3 EQW\n2 1 0 3 4 AND\n"

pub chained : map (meaning (bytes chain)) ((0 ∷ 0 ∷ []) ∷ (1 ∷ 0 ∷ []) ∷ (1 ∷ 1 ∷ []) ∷ []) ≡ (0 ∷ []) ∷ (1 ∷ []) ∷ (0 ∷ []) ∷ []
unfolding bytes meaning wire_count input_bits output_bits widths gate_steps gate_step input_words output_word name_word num kept_lines kept_of kept uncommented raw_lines trim trim_start trim_end is_blank split_whitespace words stretch same_bytes sum parse_usize digits digits_from all_digits value_from
chained = refl

pub counted : input_bits (kept_lines (bytes chain)) ∷ output_bits (kept_lines (bytes chain)) ∷ input_bits (kept_lines (bytes adder)) ∷ output_bits (kept_lines (bytes adder)) ∷ [] ≡ 2 ∷ 1 ∷ 3 ∷ 2 ∷ []
unfolding bytes input_bits output_bits widths num kept_lines kept_of kept uncommented raw_lines trim trim_start trim_end is_blank split_whitespace words stretch sum parse_usize digits digits_from all_digits value_from
counted = refl

-- what the page and the Rust read alike
pub alike : read_alike (bytes adder) ∷ read_alike (bytes chain) ∷ read_alike (bytes "1 2\n1 1\n1 1\n1 1 0 1 EQ\n") ∷ read_alike (bytes "1 3\n1 2\n1 1\n2 1 0 1 2 OR\n") ∷ [] ≡ true ∷ true ∷ false ∷ false ∷ []
unfolding bytes all_page_gates is_page_gate name_word num kept_lines kept_of kept uncommented raw_lines trim trim_start trim_end is_blank split_whitespace words stretch same_bytes parse_usize digits digits_from all_digits value_from
alike = refl
