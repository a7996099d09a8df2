-- Blanks, and bytes without the blanks at their ends.
-- Assumes nothing.
use Rattle.std.specs.Prelude.{ℕ, ◌+◌, Bool, cond, ◌&&◌, ◌||◌, not, List, [], ◌∷◌, length, eqb, leb}
use Prim.Native.Char.{code}
use Rattle.laws.specs.Stretches.{stretch, run}
use Rattle.text.specs.declared.words.Word.{Word}

-- the blanks: a space, and what ASCII has from the tab to the carriage return
unfoldable pub is_blank : ℕ → Bool
is_blank b = eqb b (code " ") || (leb (code "\t") b && leb b (code "\r"))

abbrev pub not_blank : ℕ → Bool
not_blank b = not (is_blank b)

-- "trim": without the blanks in front, without those behind, without both
unfoldable pub trim_start : List ℕ → List ℕ
trim_start [] = []
trim_start (b ∷ bs) = cond (is_blank b) (trim_start bs) (b ∷ bs)

abbrev pub before : ℕ → List ℕ → List ℕ
before b [] = cond (is_blank b) [] (b ∷ [])
before b (c ∷ cs) = b ∷ c ∷ cs

unfoldable pub trim_end : List ℕ → List ℕ
trim_end [] = []
trim_end (b ∷ bs) = before b (trim_end bs)

unfoldable pub trim : List ℕ → List ℕ
trim l = trim_end (trim_start l)

-- the place of what `trim` leaves of a stretch
unfoldable pub trimmed : List ℕ → Word → Word
trimmed t w =
    let l = stretch t w.start w.len in
    record { start = w.start + run is_blank l; len = length (trim l) }
