-- A bit of a number as a test, and a number with one bit set or cleared.
-- Assumes nothing.
use Rattle.std.specs.Prelude.{ℕ, ◌≡◌, Bool, true, false, not, ◌&&◌, ◌||◌, eqb}
use Rattle.laws.specs.Bits.{bit}

-- whether bit b of a number is 1
unfoldable pub is_set : ℕ → ℕ → Bool
is_set x b = eqb (bit x b) 1

-- a test after one place was set (or cleared): what it was before, and whether it is that place
abbrev pub updated : Bool → Bool → Bool → Bool
updated true was this = was || this
updated false was this = was && not this

-- y is x with bit b set (or cleared)
abbrev pub Turned : Bool → ℕ → ℕ → ℕ → Type 0
Turned up x b y = (j : ℕ) → is_set y j ≡ updated up (is_set x j) (eqb j b)
