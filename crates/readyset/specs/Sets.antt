-- What a set of numbers in words of 64 bits holds, and the summaries after the words.
-- Assumes nothing.
use Rattle.std.specs.Prelude.{ℕ, suc, ◌+◌, ◌*◌, ◌/◌, ◌%◌, ◌≤◌, ◌<◌, ◌≡◌, Bool, true, false, not, List, eqb, get_or, drop, Option, MatchOption}
use Rattle.laws.specs.Digits.{is_set, updated}

-- whether the set has the number k
unfoldable pub member : List ℕ → ℕ → Bool
unfolding is_set
member area k = is_set (get_or area (k / 64) 0) (k % 64)

-- what follows the words of a set of numbers below n says which of them are not 0
abbrev pub Summary : List ℕ → ℕ → Type 0
Summary area n = (w : ℕ) → w < n / 64 + 1 → member (drop (n / 64 + 1) area) w ≡ not (eqb (get_or area w 0) 0)

-- and so on for that set, up to a level of a single word
pub data Levels : List ℕ → ℕ → Type 0 where
  single : {area : List ℕ} {n : ℕ} → n < 64 → Levels area n
  level : {area : List ℕ} {n : ℕ} → 64 ≤ n → Summary area n → Levels (drop (n / 64 + 1) area) (n / 64 + 1) → Levels area n

-- r is the first number from k on that passes; none below n passes where r is not below n
pub record First (p : ℕ → Bool) (k n r : ℕ) : Type 0 where
  pub from : k ≤ r
  pub none : (j : ℕ) → k ≤ j → j < r → j < n → p j ≡ false
  pub here : r < n → p r ≡ true

-- the first number from k on, below n, that passes, or none
abbrev pub FirstIs : (ℕ → Bool) → ℕ → ℕ → Option ℕ → Type 0
FirstIs p k n r = MatchOption r (First p k n n) (λ x. (x < n) × First p k n x)

-- e is the end of the numbers below k that pass: the last one and 1, or 0
pub record Last (p : ℕ → Bool) (k e : ℕ) : Type 0 where
  pub upto : e ≤ k
  pub none : (j : ℕ) → e ≤ j → j < k → p j ≡ false
  pub here : (x : ℕ) → e ≡ suc x → p x ≡ true

-- the last number below k that passes, or none
abbrev pub LastIs : (ℕ → Bool) → ℕ → Option ℕ → Type 0
LastIs p k r = MatchOption r (Last p k 0) (λ x. Last p k (suc x))

-- the set with k, or without; the words after the set and its summaries stay
pub record Marked (up : Bool) (before : List ℕ) (n k : ℕ) (after : List ℕ) : Type 0 where
  pub levels : Levels after n
  pub members : (j : ℕ) → j < n → member after j ≡ updated up (member before j) (eqb j k)
  pub beyond : (i : ℕ) → 2 * (n / 64 + 1) ≤ i → get_or after i 0 ≡ get_or before i 0
