-- Bytes of a text: those below 128, and letters as capitals.
-- Assumes nothing.
use Rattle.std.specs.Prelude.{ℕ, ◌+◌, ◌-◌, ◌<◌, ◌≡◌, Bool, true, not, cond, ◌&&◌, List, [], ◌∷◌, map, eqb, leb, ltb, Option, Some, None}
use Rattle.laws.specs.Stretches.{stretch, run, is_not, same_bytes}
use Rattle.text.specs.declared.words.Word.{Word}
use Rattle.text.specs.declared.bytes.TheConstants.{ASCII_END}

-- each byte of a text is ASCII
unfoldable pub is_ascii : List ℕ → Bool
is_ascii [] = true
is_ascii (b ∷ bs) = ltb b ASCII_END && is_ascii bs

-- a test that code runs on bytes, by its answers: it passes just where p fails, and so ends a run of p
abbrev pub EndsRun : (ℕ → Bool → Type 0) → (ℕ → Bool) → Type 0
EndsRun answers p = (b : ℕ) (r : Bool) → b < 256 → answers b r → r ≡ not (p b)

-- a byte that is x
abbrev pub is_byte : ℕ → ℕ → Bool
is_byte x b = eqb b x

-- "Letters in any case": a letter as a capital, any other byte as it is
unfoldable pub upper : ℕ → ℕ
upper b = cond (leb 97 b && leb b 122) (b - 32) b

-- a word is a name of capital letters, in any case of its own letters
abbrev pub is_named : List ℕ → List ℕ → Bool
is_named w name = same_bytes (map upper w) name

-- the place of the first x in a stretch of a text, if there is one
unfoldable pub first_place : ℕ → List ℕ → Word → Option ℕ
first_place x t w =
    let n = run (is_not x) (stretch t w.start w.len) in
    cond (ltb n w.len) (Some (w.start + n)) None
