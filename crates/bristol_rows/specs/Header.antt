-- The header of a Bristol text: its first three lines.
-- Assumes nothing.
use Rattle.std.specs.Prelude.{ℕ, ◌+◌, cond, List, [], ◌∷◌, eqb, leb, length, Err, Ok}
use Rattle.std.proofs.Math.Option.{Option, none, some}
use Rattle.laws.specs.Sums.{sum}
use Rattle.circuit.specs.declared.refusals.Refusal.TheVariants.{Malformed, HeaderMismatch}
use Rattle.circuit.specs.Refusals.{Try, and_then, need}
use Rattle.text.specs.Words.{split_whitespace}
use Rattle.bristol_rows.specs.declared.answers.Head.{Head}
use Rattle.bristol_rows.specs.Numbers.{or_refuse, each_number}

-- `grouped_wire_count`: "Group count not the number of widths" gives none, else the true sum of the widths; a kept line has a word, so [] does not occur
unfoldable pub grouped_wire_count : List ℕ → Option ℕ
grouped_wire_count [] = none
grouped_wire_count (groups ∷ widths) = cond (eqb groups (length widths)) (some (sum widths)) none

-- "Group count not the number of widths: 11, inputs first. True sum of both totals above the wire count 11."
unfoldable pub groups : ℕ → ℕ → List ℕ → List ℕ → Try Head
groups gates wires is os =
    and_then (or_refuse HeaderMismatch (grouped_wire_count is)) (λ i. and_then (or_refuse HeaderMismatch (grouped_wire_count os)) (λ o.
    need (leb (i + o) wires) HeaderMismatch (Ok (record { gates = gates; wires = wires; inputs = i; outputs = o }))))

-- "Numbers of lines two and three 12."
unfoldable pub group_lines : ℕ → ℕ → List ℕ → List ℕ → Try Head
group_lines gates wires b c =
    and_then (each_number (split_whitespace b)) (λ is. and_then (each_number (split_whitespace c)) (λ os. groups gates wires is os))

-- "not two numbers 9"
unfoldable pub two_numbers : List ℕ → (ℕ → ℕ → Try Head) → Try Head
two_numbers [] k = Err Malformed
two_numbers (gates ∷ []) k = Err Malformed
two_numbers (gates ∷ wires ∷ []) k = k gates wires
two_numbers (gates ∷ wires ∷ n ∷ ns) k = Err Malformed

-- "Under three lines 9. First line: 12, not two numbers 9."
unfoldable pub header : List (List ℕ) → Try Head
header [] = Err Malformed
header (a ∷ []) = Err Malformed
header (a ∷ b ∷ []) = Err Malformed
header (a ∷ b ∷ c ∷ rows) = and_then (each_number (split_whitespace a)) (λ ns. two_numbers ns (λ gates wires. group_lines gates wires b c))
