-- The decimal digits of a 64-bit number are what the library prints of it.
-- Assumes nothing.
use Prim.Native.Nat.{ℕ, zero, suc, ◌+◌, ◌/◌, ◌%◌, ◌^◌, ◌≤◌, ◌<◌}
use mathlib.Core.Path.{◌≡◌, refl, sym, ap, ◌∙◌}
use mathlib.Core.Bool.{Bool, true, false, cond}
use mathlib.Core.List.{List, [], ◌∷◌, ◌++◌}
use native.Mathlib.Omega.{arith}
use lib.Dec.{ltb}
use borrow.Author.Tests.{ltb-true, ltb-false}
use Rattle.std.specs.Fmt.{decimal as printed}
use Rattle.std.proofs.lemmas.Fmt.{decimal_digit, decimal_step}
use Rattle.listing.specs.Decimal.{digits_below, decimal}

digits_are : (most n : ℕ) → n < most → n < 2 ^ 64 → digits_below most n ≡ printed n
unfolding digits_below
digits_are zero n h k = absurd (omega arith)
digits_are (suc most) n h k = go (ltb n 10) refl (λ q. digits_are most (n / 10) (omega arith) (omega arith))
  where
    go : (t : Bool) → ltb n 10 ≡ t → (10 ≤ n → digits_below most (n / 10) ≡ printed (n / 10))
        → cond t ((48 + n) ∷ []) (digits_below most (n / 10) ++ ((48 + n % 10) ∷ [])) ≡ printed n
    go true e below = sym (decimal_digit n (ltb-true n 10 e))
    go false e below = ap (λ (l : List ℕ). l ++ ((48 + n % 10) ∷ [])) (below (ltb-false n 10 e)) ∙ sym (decimal_step n (ltb-false n 10 e) k)

pub decimal_is : (n : ℕ) → n < 2 ^ 64 → decimal n ≡ printed n
unfolding decimal
decimal_is n k = digits_are (suc n) n (omega arith) k
