-- What a Bristol Fashion gate list means, from the format's public page: wires hold bits; the first wires are the inputs, the last ones the outputs;
-- the gates work in the order of the file. The page's gates of one output are XOR, AND, INV, EQW and EQ, which sets a constant and which the Rust reads as a copy.
-- Assumes nothing.
use Rattle.std.specs.Prelude.{ℕ, ◌+◌, ◌-◌, ◌*◌, ◌%◌, Bool, true, cond, ◌&&◌, ◌||◌, List, [], ◌∷◌, ◌++◌, map, length, get_or, set, take, drop, replicate}
use Rattle.std.proofs.Math.Option.{Option, none, some}
use Rattle.laws.specs.Stretches.{same_bytes}
use Rattle.laws.specs.Sums.{sum}
use Rattle.text.specs.Words.{split_whitespace}
use Rattle.text.specs.Lines.{kept_lines}
use Rattle.text.specs.Numbers.{parse_usize}

-- the number that a word writes
abbrev pub written : Option ℕ → ℕ
written none = 0
written (some n) = n

unfoldable pub num : List ℕ → ℕ
num w = written (parse_usize w)

-- ---- a gate

-- INV and EQW of one bit, XOR and AND of two
abbrev pub gate_bit : List ℕ → List ℕ → ℕ
gate_bit name [] = 0
gate_bit name (x ∷ []) = cond (same_bytes name (73 ∷ 78 ∷ 86 ∷ [])) (1 - x) x
gate_bit name (x ∷ y ∷ []) = cond (same_bytes name (88 ∷ 79 ∷ 82 ∷ [])) ((x + y) % 2) (x * y)
gate_bit name (x ∷ y ∷ z ∷ zs) = 0

-- the line's words: the numbers of input and output wires, the input wires, the output wire, the gate's name
unfoldable pub input_words : List (List ℕ) → List (List ℕ)
input_words ws = take (num (get_or ws 0 [])) (drop 2 ws)

unfoldable pub output_word : List (List ℕ) → List ℕ
output_word ws = get_or (drop (num (get_or ws 0 [])) (drop 2 ws)) 0 []

unfoldable pub name_word : List (List ℕ) → List ℕ
name_word ws = get_or (drop (num (get_or ws 0 [])) (drop 2 ws)) 1 []

-- the output wire takes the gate's bit; the bits are those of the wires before
unfoldable pub gate_step : List ℕ → List (List ℕ) → List ℕ
gate_step bits ws = set bits (num (output_word ws)) (gate_bit (name_word ws) (map (λ (w : List ℕ). get_or bits (num w) 0) (input_words ws)))

-- "the gates work in the order of the file"
unfoldable pub gate_steps : List ℕ → List (List ℕ) → List ℕ
gate_steps bits [] = bits
gate_steps bits (l ∷ ls) = gate_steps (gate_step bits (split_whitespace l)) ls

-- ---- the list

-- the numbers of wires of a line's values, after their count
unfoldable pub widths : List ℕ → List ℕ
widths line = map num (drop 1 (split_whitespace line))

-- the first line: the numbers of gates and of wires; then a line for the input values and one for the output values
unfoldable pub wire_count : List (List ℕ) → ℕ
wire_count ls = num (get_or (split_whitespace (get_or ls 0 [])) 1 [])

unfoldable pub input_bits : List (List ℕ) → ℕ
input_bits ls = sum (widths (get_or ls 1 []))

unfoldable pub output_bits : List (List ℕ) → ℕ
output_bits ls = sum (widths (get_or ls 2 []))

-- the bits of the last wires, where the first have the input bits
unfoldable pub meaning : List ℕ → List ℕ → List ℕ
meaning text ins =
    let ls = kept_lines text in
    drop (wire_count ls - output_bits ls) (gate_steps (ins ++ replicate (wire_count ls - length ins) 0) (drop 3 ls))

-- ---- what the page and the Rust read alike: XOR, AND, INV, EQW, as the page writes them

unfoldable pub is_page_gate : List (List ℕ) → Bool
is_page_gate ws =
    same_bytes (name_word ws) (88 ∷ 79 ∷ 82 ∷ [])
    || (same_bytes (name_word ws) (65 ∷ 78 ∷ 68 ∷ [])
    || (same_bytes (name_word ws) (73 ∷ 78 ∷ 86 ∷ [])
    || same_bytes (name_word ws) (69 ∷ 81 ∷ 87 ∷ [])))

unfoldable pub all_page_gates : List (List ℕ) → Bool
all_page_gates [] = true
all_page_gates (l ∷ ls) = is_page_gate (split_whitespace l) && all_page_gates ls

abbrev pub read_alike : List ℕ → Bool
read_alike text = all_page_gates (drop 3 (kept_lines text))
