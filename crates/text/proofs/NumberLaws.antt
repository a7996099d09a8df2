-- Laws of numbers: what is left of a list's digits.
-- Assumes nothing.
use Prim.Native.Nat.{ℕ, ◌+◌, ◌-◌, ◌*◌, ◌^◌, ◌≤◌, ◌<◌}
use mathlib.Core.Path.{◌≡◌, refl, sym, ◌∙◌}
use mathlib.Core.Bool.{Bool, true, false, cond, ◌&&◌, false≢true}
use Rattle.std.specs.Cmp.Lexicographic.{pointwise}
use mathlib.Core.List.{List, [], ◌∷◌}
use mathlib.Core.Option.{none, some}
use native.Mathlib.Omega.{arith}
use native.Mathlib.Numerals.{add-one}
use lib.ListN.{length, get_or, take, drop}
use lib.Seq.{drop-cons}
use lib.Dec.{eqb}
use borrow.Author.Tests.{lt-ltb, le-ltb}
use Rattle.text.specs.Numbers.{is_digit, all_digits, value_from, digits_from, digits, parse_usize}

value_grows : (v : ℕ) (l : List ℕ) → v ≤ value_from v l
unfolding value_from
value_grows v [] = omega arith
value_grows v (b ∷ bs) = omega (arith, value_grows (v * 10 + (b - 48)) bs)

either_way : (d : Bool) (v : ℕ) → none ≡ cond (d && false) (some v) none
either_way true v = refl
either_way false v = refl

-- byte by byte, over what is left of a list
module _ (l : List ℕ) (i v b : ℕ) (eb : b ≡ get_or l i 0) (h : i < length l) where
  split : drop i l ≡ b ∷ drop (i + 1) l
  split = rw (eb, add-one) (drop-cons l i 0 h)

  pub digit_step : is_digit b ≡ true → digits_from (v * 10 + (b - 48)) (drop (i + 1) l) ≡ digits_from v (drop i l)
  unfolding digits_from all_digits value_from
  digit_step p = rw (split, p)

  pub digit_not : is_digit b ≡ false → none ≡ digits_from v (drop i l)
  unfolding digits_from all_digits
  digit_not p = rw (split, p)

  pub digit_over : 2 ^ 64 ≤ v * 10 + (b - 48) → none ≡ digits_from v (drop i l)
  unfolding digits_from value_from
  digit_over p =
      let r : List ℕ = drop (i + 1) l in
      let w : ℕ = v * 10 + (b - 48) in
      let big : 2 ^ 64 ≤ value_from w r = omega (arith, value_grows w r) in
      rw (split, le-ltb (value_from w r) (2 ^ 64) big) (either_way (all_digits (b ∷ r)) (value_from w r))

pub digits_end : (v : ℕ) → v < 2 ^ 64 → some v ≡ digits_from v []
unfolding digits_from all_digits value_from
digits_end v k = rw (lt-ltb v (2 ^ 64) k)

pub digits-some : (l : List ℕ) → (length l ≡ 0 → ⊥) → digits_from 0 l ≡ digits l
unfolding digits
digits-some [] z = absurd (z refl)
digits-some (b ∷ bs) z = refl

pub digits-none : (l : List ℕ) → length l ≡ 0 → none ≡ digits l
unfolding digits
digits-none [] e = refl
digits-none (b ∷ bs) e = absurd (omega arith)

with_true : (t : Bool) → (t && true) ≡ t
with_true true = refl
with_true false = refl

pub number_plus : (l : List ℕ) → pointwise eqb (take 1 l) (43 ∷ []) ≡ true → digits (drop 1 l) ≡ parse_usize l
unfolding parse_usize
number_plus [] e = absurd (false≢true e)
number_plus (b ∷ bs) e = rw (sym (with_true (eqb b 43)) ∙ e) refl

pub number_plain : (l : List ℕ) → pointwise eqb (take 1 l) (43 ∷ []) ≡ false → digits l ≡ parse_usize l
unfolding digits parse_usize
number_plain [] e = refl
number_plain (b ∷ bs) e = rw (sym (with_true (eqb b 43)) ∙ e) refl
