-- An area of zeros is the empty set.
-- Assumes nothing.
use Prim.Native.Nat.{ℕ, zero, suc, ◌+◌, ◌-◌, ◌/◌, ◌%◌, ◌≤◌}
use mathlib.Core.Path.{◌≡◌, refl}
use mathlib.Core.Bool.{Bool, true, false}
use native.Mathlib.Omega.{arith}
use lib.Dec.{ltb}
use lib.ListN.{replicate}
use borrow.Author.Tests.{ltb-true, ltb-false}
use Rattle.laws.proofs.Filling.{zero_at}
use Rattle.std.proofs.lemmas.List.{drop-replicate}
use Rattle.laws.proofs.Digits.{bit-zero}
use Rattle.readyset.specs.Sets.{member, Levels, single, level}

pub empty-none : (len k : ℕ) → member (replicate len 0) k ≡ false
unfolding member
empty-none len k = rw (zero_at len (k / 64)) (bit-zero (k % 64))

pub empty_levels : (len n : ℕ) → Levels (replicate len 0) n
empty_levels len n = down n n len (omega arith)
  where
    down : (fuel n len : ℕ) → n ≤ fuel → Levels (replicate len 0) n
    down zero n len h = single {n = n} (omega arith)
    down (suc fuel) n len h = go (ltb n 64) refl (down fuel (n / 64 + 1) (len - (n / 64 + 1)))
      where
        go : (t : Bool) → ltb n 64 ≡ t → (n / 64 + 1 ≤ fuel → Levels (replicate (len - (n / 64 + 1)) 0) (n / 64 + 1)) → Levels (replicate len 0) n
        go true e rest = single (ltb-true n 64 e)
        go false e rest =
            let big : 64 ≤ n = ltb-false n 64 e in
            level {area = replicate len 0} big (λ w l. rw (drop-replicate {X = ℕ} (n / 64 + 1) len 0, zero_at len w) (empty-none (len - (n / 64 + 1)) w)) (rw (drop-replicate {X = ℕ} (n / 64 + 1) len 0) (rest (omega arith)))
