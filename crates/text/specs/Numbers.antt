-- Unsigned 64-bit numbers of words.
-- Assumes nothing.
use Rattle.std.specs.Prelude.{ℕ, ◌+◌, ◌-◌, ◌*◌, ◌^◌, Bool, true, cond, ◌&&◌, List, [], ◌∷◌, eqb, leb, ltb, Some, None, Option as Answer}
use Rattle.std.proofs.Math.Option.{Option, none, some}
use Prim.Native.Char.{code}
use Rattle.text.specs.declared.numbers.TheConstants.{BASE}
use Rattle.text.specs.Words.{split_whitespace}

-- the numbers are those of 64 bits
abbrev pub number_end : ℕ
number_end = 2 ^ 64

abbrev pub is_digit : ℕ → Bool
is_digit b = leb (code "0") b && leb b (code "9")

unfoldable pub all_digits : List ℕ → Bool
all_digits [] = true
all_digits (b ∷ bs) = is_digit b && all_digits bs

-- the value of digits after others with the value v
unfoldable pub value_from : ℕ → List ℕ → ℕ
value_from v [] = v
value_from v (b ∷ bs) = value_from (v * BASE + (b - code "0")) bs

unfoldable pub digits_from : ℕ → List ℕ → Option ℕ
digits_from v ds = cond (all_digits ds && ltb (value_from v ds) number_end) (some (value_from v ds)) none

-- one digit or more, of a value that has 64 bits
unfoldable pub digits : List ℕ → Option ℕ
digits [] = none
digits (b ∷ bs) = digits_from 0 (b ∷ bs)

-- an unsigned 64-bit number, before which a `+` may stand
unfoldable pub parse_usize : List ℕ → Option ℕ
parse_usize [] = none
parse_usize (b ∷ bs) = cond (eqb b (code "+")) (digits bs) (digits (b ∷ bs))

abbrev pub and_then : {A B : Type 0} → Option A → (A → Option B) → Option B
and_then none f = none
and_then (some a) f = f a

-- the number of each word, if all are numbers
unfoldable pub parse_each : List (List ℕ) → Option (List ℕ)
parse_each [] = some []
parse_each (w ∷ ws) = and_then (parse_usize w) (λ n. and_then (parse_each ws) (λ ns. some (n ∷ ns)))

-- `parse_usize_words`: the numbers of a line
unfoldable pub parse_usize_words : List ℕ → Option (List ℕ)
parse_usize_words line = parse_each (split_whitespace line)

-- the code's answer
abbrev pub number_of : Answer ℕ → Option ℕ
number_of (Some n) = some n
number_of None = none
