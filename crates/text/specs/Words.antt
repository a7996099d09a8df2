-- The words of a line, by their places and by their bytes.
-- Assumes nothing.
use Rattle.std.specs.Prelude.{ℕ, suc, ◌+◌, ◌-◌, ◌≤◌, ◌<◌, ◌≡◌, false, cond, List, [], ◌∷◌, map, get_or}
use Rattle.laws.specs.Stretches.{stretch, run}
use Rattle.text.specs.Blanks.{is_blank, not_blank}
use Rattle.text.specs.declared.words.Word.{Word}

abbrev pub bytes_of : List ℕ → Word → List ℕ
bytes_of t w = stretch t w.start w.len

-- the stretch from one place up to another
abbrev pub between : ℕ → ℕ → Word
between from end = record { start = from; len = end - from }

-- the words of bytes that stand from position `at` on, each by its place: `within s n` has read n bytes of a word that starts at s
unfoldable mutual
  pub words : ℕ → List ℕ → List Word
  words at [] = []
  words at (b ∷ bs) = cond (is_blank b) (words (suc at) bs) (within at 1 bs)

  pub within : ℕ → ℕ → List ℕ → List Word
  within s n [] = record { start = s; len = n } ∷ []
  within s n (b ∷ bs) = cond (is_blank b) (record { start = s; len = n } ∷ words (s + suc n) bs) (within s (suc n) bs)

-- the words of a text between two positions
abbrev pub words_between : List ℕ → ℕ → ℕ → List Word
words_between t from end = words from (stretch t from (end - from))

-- the bytes of each word of a line
unfoldable pub split_whitespace : List ℕ → List (List ℕ)
split_whitespace l = map (bytes_of l) (words 0 l)

-- the next word of a text from a position up to an end; of length 0 if there is none
unfoldable pub next_word : List ℕ → ℕ → ℕ → Word
next_word t from end =
    let s = from + run is_blank (stretch t from (end - from)) in
    record { start = s; len = run not_blank (stretch t s (end - s)) }

-- a word is not empty, lies between two positions of a text and holds no blank
pub record IsWord (t : List ℕ) (from end : ℕ) (w : Word) : Type 0 where
  pub some : 0 < w.len
  pub after : from ≤ w.start
  pub inside : w.start + w.len ≤ end
  pub no_blank : (i : ℕ) → i < w.len → is_blank (get_or t (w.start + i) 0) ≡ false
