-- Bytes taken together as one number, and the bytes between two others.
-- Assumes nothing.
use Rattle.std.specs.Prelude.{ℕ, ◌+◌, ◌*◌, ◌%◌, ◌<◌, ◌≡◌, Bool, true, not, ◌&&◌, List, [], ◌∷◌, leb, length, get_or}
use Rattle.laws.specs.Digits.{is_set}
use Rattle.laws.specs.Stretches.{All}
use Rattle.text.specs.declared.bytes.TheConstants.{ASCII_END}

-- bytes as one number, the first lowest
unfoldable pub word_of : List ℕ → ℕ
word_of [] = 0
word_of (b ∷ bs) = b + 256 * word_of bs

-- eight bytes of a text so, from a place on
abbrev pub eight_at : List ℕ → ℕ → ℕ
eight_at t s =
    get_or t s 0 + get_or t (s + 1) 0 * 256 + get_or t (s + 2) 0 * 65536 + get_or t (s + 3) 0 * 16777216 + (get_or t (s + 4) 0 + get_or t (s + 5) 0 * 256 + get_or t (s + 6) 0 * 65536 + get_or t (s + 7) 0 * 16777216) * 4294967296

-- a byte that does not lie from `low` to `high`
abbrev pub outside : ℕ → ℕ → ℕ → Bool
outside low high b = not (leb low b && leb b high)

-- of eight bytes, bit 7 of each says whether it lies from `low` to `high`, and no other bit is set
pub record Between (low high : ℕ) (bs : List ℕ) (bits : ℕ) : Type 0 where
  pub lane : (i : ℕ) → i < 8 → is_set bits (8 * i + 7) ≡ not (outside low high (get_or bs i 0))
  pub only : (t : ℕ) → is_set bits t ≡ true → t % 8 ≡ 7

-- the same of whatever eight bytes of ASCII a number has
abbrev pub BetweenOf : ℕ → ℕ → ℕ → ℕ → Type 0
BetweenOf low high word bits =
    (bs : List ℕ) → length bs ≡ 8 → All (λ b. b < ASCII_END) bs → word ≡ word_of bs → Between low high bs bits
