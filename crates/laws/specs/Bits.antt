-- The bits of a number, and a number with one bit set anew.
-- Assumes nothing.
use Rattle.std.specs.Prelude.{ℕ, ◌+◌, ◌*◌, ◌/◌, ◌%◌, ◌^◌}

-- bit j, bit 0 the lowest
abbrev pub bit : ℕ → ℕ → ℕ
bit t j = t / 2 ^ j % 2

-- the number with bit j set to b: the bits above j, b, the bits below
unfoldable pub set_bit : ℕ → ℕ → ℕ → ℕ
set_bit t j b = (t / 2 ^ j / 2 * 2 + b) * 2 ^ j + t % 2 ^ j
