-- The bits of a number as tests: after a shift, of a power, of `or` and `and`, and the lowest bit that is 1.
-- Assumes nothing.
use Prim.Native.Nat.{ℕ, zero, suc, ◌+◌, ◌-◌, ◌*◌, ◌/◌, ◌%◌, ◌^◌, ◌≤◌, ◌<◌, max, min}
use mathlib.Core.Path.{◌≡◌, refl, sym, ap, ◌∙◌}
use mathlib.Core.Logic.{◌≢◌}
use mathlib.Core.Bool.{Bool, true, false, not, ◌&&◌, ◌||◌, false≢true}
use native.Mathlib.Omega.{arith}
use native.Mathlib.Nat.{zero-div, div-eq_of_lt, lt_of_not-le, pow-suc}
use lib.Dec.{eqb, eqb-suc-suc, eqb-zero-suc, eqb-suc-zero}
use lib.Pow.{shr-shr}
use lib.Bits.{bit_and, bit_or, and_shr, or_shr, and_step, or_step}
use lib.Count.{count_trailing_zeros, under}
use borrow.Author.Tests.{eq-eqb}
use Rattle.std.proofs.Math.Bool.{or-true}
use Rattle.laws.specs.Digits.{is_set, Turned}
use Rattle.laws.proofs.Rows.{two_bits, shifted_one}

pub bit-zero : (b : ℕ) → is_set 0 b ≡ false
unfolding is_set
bit-zero b = rw (zero-div (2 ^ b))

pub bit_shift : (x s b : ℕ) → is_set (x / 2 ^ s) b ≡ is_set x (s + b)
unfolding is_set
bit_shift x s b = ap (λ (z : ℕ). eqb (z % 2) 1) (shr-shr x s b)

pub bit-suc : (x b : ℕ) → is_set x (suc b) ≡ is_set (x / 2) b
bit-suc x b = let e : 1 + b ≡ suc b = omega arith in sym (bit_shift x 1 b ∙ ap (is_set x) e)

-- what is left of a number above its bits
pub bit_high : (x s b : ℕ) → x / 2 ^ s ≡ 0 → s ≤ b → is_set x b ≡ false
bit_high x s b h l =
    let e : s + (b - s) ≡ b = omega arith in
    ap (is_set x) (sym e) ∙ sym (bit_shift x s (b - s)) ∙ ap (λ (z : ℕ). is_set z (b - s)) h ∙ bit-zero (b - s)

pub bit_below : (x k b : ℕ) → x < 2 ^ k → is_set x b ≡ true → b < k
bit_below x k b h t = lt_of_not-le (λ (l : k ≤ b). false≢true (sym (bit_high x k b (div-eq_of_lt h) l) ∙ t))

pub bit-some : (x b : ℕ) → is_set x b ≡ true → x ≢ 0
bit-some x b t e = false≢true (sym (bit-zero b) ∙ ap (λ (z : ℕ). is_set z b) (sym e) ∙ t)

-- a power has one bit
pub bit_power : (s b : ℕ) → is_set (2 ^ s) b ≡ eqb b s
unfolding is_set
bit_power zero zero = refl
bit_power zero (suc b) = bit-suc 1 b ∙ bit-zero b ∙ sym (eqb-suc-zero b)
bit_power (suc s) zero = let e : 2 ^ suc s / 2 ^ 0 % 2 ≡ 0 = omega (arith, pow-suc 2 s) in rw (e, eqb-zero-suc s)
bit_power (suc s) (suc b) =
    let e : 2 ^ suc s / 2 ≡ 2 ^ s = omega (arith, pow-suc 2 s) in
    bit-suc (2 ^ suc s) b ∙ ap (λ (z : ℕ). is_set z b) e ∙ bit_power s b ∙ sym (eqb-suc-suc b s)

-- the bits of two numbers, taken together one by one

-- where an operation takes bits p and q to f p q, a test of the result's bit goes by the tests of the two
by_bit : (f : ℕ → ℕ → ℕ) (g : Bool → Bool → Bool) → eqb (f 0 0) 1 ≡ g false false → eqb (f 0 1) 1 ≡ g false true → eqb (f 1 0) 1 ≡ g true false → eqb (f 1 1) 1 ≡ g true true → (p q : ℕ) → p < 2 → q < 2 → eqb (f p q) 1 ≡ g (eqb p 1) (eqb q 1)
by_bit f g a b c d = two_bits (λ (p q : ℕ). eqb (f p q) 1 ≡ g (eqb p 1) (eqb q 1)) a b c d

pub bit-or : (x y b : ℕ) → is_set (bit_or x y) b ≡ is_set x b || is_set y b
unfolding is_set
bit-or x y b =
    let u = x / 2 ^ b in
    let v = y / 2 ^ b in
    let e : bit_or x y / 2 ^ b % 2 ≡ max (u % 2) (v % 2) = omega (arith, or_shr x y b, or_step u v) in
    ap (λ (z : ℕ). eqb z 1) e ∙ by_bit max ◌||◌ refl refl refl refl (u % 2) (v % 2) (omega arith) (omega arith)

pub bit-and : (x y b : ℕ) → is_set (bit_and x y) b ≡ is_set x b && is_set y b
unfolding is_set
bit-and x y b =
    let u = x / 2 ^ b in
    let v = y / 2 ^ b in
    let e : bit_and x y / 2 ^ b % 2 ≡ min (u % 2) (v % 2) = omega (arith, and_shr x y b, and_step u v) in
    ap (λ (z : ℕ). eqb z 1) e ∙ by_bit min ◌&&◌ refl refl refl refl (u % 2) (v % 2) (omega arith) (omega arith)

-- the lowest bit that is 1
pub record Lowest (x t : ℕ) : Type 0 where
  pub at : is_set x t ≡ true
  pub below : (b : ℕ) → b < t → is_set x b ≡ false

pub lowest : (k x : ℕ) → x < 2 ^ k → x ≢ 0 → Lowest x (count_trailing_zeros k x)
unfolding count_trailing_zeros is_set
lowest zero x h n = absurd (n (omega arith))
lowest (suc k) x h n = go (x % 2) refl (lowest k (x / 2) (omega (arith, pow-suc 2 k)))
  where
    go : (d : ℕ) → x % 2 ≡ d → (x / 2 ≢ 0 → Lowest (x / 2) (count_trailing_zeros k (x / 2))) → Lowest x (under d (count_trailing_zeros k (x / 2)))
    go zero e rest =
        let r = rest (λ z. n (omega arith)) in
        record { at = bit-suc x _ ∙ r.at; below = down r.below }
      where
        down : ((b : ℕ) → b < count_trailing_zeros k (x / 2) → is_set (x / 2) b ≡ false) → (b : ℕ) → b < suc (count_trailing_zeros k (x / 2)) → is_set x b ≡ false
        down f zero l = let q : x / 2 ^ 0 % 2 ≡ 0 = omega arith in rw q
        down f (suc b) l = bit-suc x b ∙ f b (omega arith)
    go (suc d) e rest = let q : x / 2 ^ 0 % 2 ≡ 1 = omega arith in record { at = rw q; below = λ b l. absurd (omega arith) }

-- one bit set

pub turned_on : (x b : ℕ) → b < 64 → (up : Bool) → up ≡ true → Turned up x b (bit_or x (1 * 2 ^ b % 18446744073709551616))
turned_on x b h up e j = rw (shifted_one 64 b h, e) (bit-or x (2 ^ b) j ∙ ap (λ (t : Bool). is_set x j || t) (bit_power b j))

-- where the bit was cleared, a number that is left was there before; where it was set, there is one

below_power : (x : ℕ) → x < 2 ^ x
below_power zero = omega arith
below_power (suc x) = omega (arith, pow-suc 2 x, below_power x)

pub off_some : (x b y : ℕ) → Turned false x b y → y ≢ 0 → x ≢ 0
off_some x b y t h =
    let l = lowest y y (below_power y) h in
    bit-some x (count_trailing_zeros y y) (left (is_set x (count_trailing_zeros y y)) (eqb (count_trailing_zeros y y) b) (sym (t (count_trailing_zeros y y)) ∙ l.at))
  where
    left : (s t : Bool) → s && not t ≡ true → s ≡ true
    left true t e = refl
    left false t e = e

pub on_some : (x b y : ℕ) → Turned true x b y → y ≢ 0
on_some x b y t = bit-some y b (t b ∙ rw (eq-eqb b b refl) (or-true (is_set x b)))
