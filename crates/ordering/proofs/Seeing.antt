-- The bits of a word that are left after a member.
-- Assumes nothing.
use Prim.Native.Nat.{ℕ, ◌+◌, ◌/◌, ◌%◌, ◌^◌, ◌≤◌, ◌<◌}
use mathlib.Core.Path.{◌≡◌, refl, sym, ap, ap₂, subst, ◌∙◌}
use mathlib.Core.Bool.{Bool, true, false}
use mathlib.Core.List.{List}
use native.Mathlib.Omega.{arith}
use native.Mathlib.Nat.{lt_of_lt_of_le}
use lib.Count.{count_trailing_zeros}
use lib.Dec.{ltb}
use lib.ListN.{get_or}
use lib.Pow.{pow_mono, shr_lt, shr-shr}
use borrow.Author.Tests.{ltb-true, ltb-false}
use Rattle.readyset.specs.Sets.{member, First}
use Rattle.readyset.proofs.Levels.{first_here}
use Rattle.ordering.specs.Areas.{RestIs}

-- nothing is left of 64 bits past the last
none_left : (w m : ℕ) → w < 2 ^ 64 → 64 ≤ m → w / 2 ^ m ≡ 0
none_left w m f l =
    let b : w < 2 ^ (0 + m) = lt_of_lt_of_le f (pow_mono {i = 64} {j = 0 + m} (omega arith)) in
    omega (arith, shr_lt {n = w} 0 m b)

-- after the member t places on
pub rest_next : (s : List ℕ) (i t : ℕ) → get_or s (i / 64) 0 < 2 ^ 64 → RestIs s (i + t + 1) (get_or s (i / 64) 0 / 2 ^ (i % 64) / 2 ^ t / 2)
rest_next s i t f nz = go (ltb (i % 64 + t + 1) 64) refl
  where
    e : get_or s (i / 64) 0 / 2 ^ (i % 64) / 2 ^ t / 2 ≡ get_or s (i / 64) 0 / 2 ^ (i % 64 + t + 1)
    e = ap (λ (x : ℕ). x / 2) (shr-shr (get_or s (i / 64) 0) (i % 64) t) ∙ shr-shr (get_or s (i / 64) 0) (i % 64 + t) 1

    go : (b : Bool) → ltb (i % 64 + t + 1) 64 ≡ b → get_or s (i / 64) 0 / 2 ^ (i % 64) / 2 ^ t / 2 ≡ get_or s ((i + t + 1) / 64) 0 / 2 ^ ((i + t + 1) % 64)
    go true q =
        let l : i % 64 + t + 1 < 64 = ltb-true _ _ q in
        let d : i / 64 ≡ (i + t + 1) / 64 = omega arith in
        let m : i % 64 + t + 1 ≡ (i + t + 1) % 64 = omega arith in
        e ∙ ap₂ (λ (x y : ℕ). get_or s x 0 / 2 ^ y) d m
    go false q = absurd (nz (e ∙ none_left (get_or s (i / 64) 0) (i % 64 + t + 1) f (ltb-false _ _ q)))

module _ (s : List ℕ) (n i rest : ℕ) (h : RestIs s i rest) (nz : rest ≡ 0 → ⊥) (f : get_or s (i / 64) 0 < 2 ^ 64) where
  onwards : get_or s (i / 64) 0 / 2 ^ (i % 64) ≡ 0 → ⊥
  onwards z = nz (h nz ∙ z)

  pub seen_here : First (member s) i n (i + count_trailing_zeros 64 rest)
  seen_here = subst (λ (r : ℕ). First (member s) i n (i + count_trailing_zeros 64 r)) (sym (h nz)) (first_here s n i f onwards)

  pub seen_rest : RestIs s (i + count_trailing_zeros 64 rest + 1) (rest / 2 ^ count_trailing_zeros 64 rest / 2)
  seen_rest = subst (λ (r : ℕ). RestIs s (i + count_trailing_zeros 64 r + 1) (r / 2 ^ count_trailing_zeros 64 r / 2)) (sym (h nz)) (rest_next s i (count_trailing_zeros 64 (get_or s (i / 64) 0 / 2 ^ (i % 64))) f)

-- a member found in another word
pub fresh_rest : (s : List ℕ) (node : ℕ) → get_or s (node / 64) 0 < 2 ^ 64 → RestIs s (node + 1) (get_or s (node / 64) 0 / 2 ^ (node % 64) / 2)
fresh_rest s node f =
    let z : node + 0 + 1 ≡ node + 1 = omega arith in
    let d : get_or s (node / 64) 0 / 2 ^ (node % 64) / 2 ^ 0 ≡ get_or s (node / 64) 0 / 2 ^ (node % 64) = omega arith in
    subst (λ (r : ℕ). RestIs s (node + 1) (r / 2)) d (subst (λ (j : ℕ). RestIs s j (get_or s (node / 64) 0 / 2 ^ (node % 64) / 2 ^ 0 / 2)) z (rest_next s node 0 f))
