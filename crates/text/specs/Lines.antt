-- Lines: at byte 10; what is kept of them; and the places of the lines of a text.
-- Assumes nothing.
use Rattle.std.specs.Prelude.{ℕ, ◌+◌, ◌-◌, ◌≤◌, ◌≡◌, cond, List, [], ◌∷◌, length, eqb}
use Rattle.laws.specs.Stretches.{stretch, run, is_not, is_empty}
use Rattle.text.specs.Blanks.{trim}
use Rattle.text.specs.Words.{words, bytes_of}
use Rattle.text.specs.declared.words.Word.{Word}

-- a byte in front of the first line
abbrev pub add_first : ℕ → List (List ℕ) → List (List ℕ)
add_first b [] = (b ∷ []) ∷ []
add_first b (l ∷ ls) = (b ∷ l) ∷ ls

-- "A line ends at byte 10."
unfoldable pub raw_lines : List ℕ → List (List ℕ)
raw_lines [] = []
raw_lines (b ∷ bs) = cond (eqb b 10) ([] ∷ raw_lines bs) (add_first b (raw_lines bs))

-- the places of lines that stand one after the other from position `at` on, each with its byte 10
unfoldable pub places : ℕ → List (List ℕ) → List Word
places at [] = []
places at (l ∷ ls) = record { start = at; len = length l } ∷ places (at + length l + 1) ls

-- the lines of bytes that stand from position `at` on
unfoldable pub lines : ℕ → List ℕ → List Word
lines at bytes = places at (raw_lines bytes)

abbrev pub line_words : List ℕ → Word → List Word
line_words t l = words l.start (bytes_of t l)

-- "Cut at the first `#`"
unfoldable pub uncommented : List ℕ → List ℕ
uncommented [] = []
uncommented (b ∷ bs) = cond (eqb b 35) [] (b ∷ uncommented bs)

-- "Cut at the first `#`, trim"
unfoldable pub kept : List ℕ → List ℕ
kept raw = trim (uncommented raw)

-- "skip if empty"
unfoldable pub kept_of : List (List ℕ) → List (List ℕ)
kept_of [] = []
kept_of (raw ∷ rest) = cond (is_empty (kept raw)) (kept_of rest) (kept raw ∷ kept_of rest)

-- "Bristol text is treated so too, with no continuation."
unfoldable pub kept_lines : List ℕ → List (List ℕ)
kept_lines text = kept_of (raw_lines text)

-- the place of the first `#` of a text from a place on; its end if there is none
abbrev pub FirstComment : List ℕ → ℕ → ℕ → Type 0
FirstComment t at comment = comment ≡ at + run (is_not 35) (stretch t at (length t - at))

-- the same from some place on that is not past `at`
pub record EarlierComment (t : List ℕ) (at comment : ℕ) : Type 0 where
  pub from : ℕ
  pub before : from ≤ at
  pub first : FirstComment t from comment
