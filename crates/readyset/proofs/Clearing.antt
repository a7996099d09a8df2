-- A word with one bit cleared, as `word & !(1 << b)` computes it.
-- Assumes nothing.
use Prim.Native.Nat.{ℕ, ◌-◌, ◌*◌, ◌%◌, ◌^◌, ◌<◌, ◌≤◌}
use mathlib.Core.Path.{◌≡◌, refl, sym}
use mathlib.Core.Bool.{Bool, true, false, ◌&&◌, not}
use native.Mathlib.Omega.{arith}
use lib.Bits.{bit_and, and_le_l}
use lib.Dec.{eqb, ltb}
use borrow.Author.Tests.{eqb-true, eqb-false, ltb-true, ltb-false}
use Rattle.std.specs.Int.{w64}
use Rattle.std.proofs.lemmas.Nat.Bits.{bit_at_clear_same, bit_at_clear_other, bit_at_above}
use Rattle.std.proofs.Math.Bool.{and-false, and-true}
use Rattle.laws.specs.Digits.{is_set, Turned}

pub cleared : (x b : ℕ) → b < 64 → x < 2 ^ 64 → (up : Bool) → up ≡ false → Turned up x b (bit_and x (18446744073709551615 - 1 * 2 ^ b % 18446744073709551616))
unfolding is_set
cleared x b h f up e j = rw e (go (eqb j b) refl (ltb j 64) refl)
  where
    y : ℕ
    y = bit_and x (18446744073709551615 - 1 * 2 ^ b % 18446744073709551616)

    go : (s : Bool) → eqb j b ≡ s → (t : Bool) → ltb j 64 ≡ t → is_set y j ≡ is_set x j && not s
    go true q t r = let z : j ≡ b = eqb-true j b q in rw (z, bit_at_clear_same w64 x b h) (sym (and-false _))
    go false q true r = rw (bit_at_clear_other w64 x b h j (ltb-true j 64 r) (eqb-false j b q)) (sym (and-true _))
    go false q false r = let l : 64 ≤ j = ltb-false j 64 r in rw (bit_at_above y 64 j (omega (arith, and_le_l x (18446744073709551615 - 1 * 2 ^ b % 18446744073709551616))) l, bit_at_above x 64 j f l)
