-- What rows and tables lean on: a bit's two cases, and the bits of zero and of ones.
-- Assumes nothing.
use Prim.Native.Nat.{ℕ, zero, suc, ◌+◌, ◌-◌, ◌*◌, ◌/◌, ◌%◌, ◌^◌, ◌≤◌, ◌<◌}
use mathlib.Core.Path.{◌≡◌, ap, ◌∙◌}
use native.Mathlib.Nat.{zero-div}
use native.Mathlib.Omega.{arith}
use lib.Arith.{digits_mod}
use lib.Pow.{shl_exact, ones_split, ones_lt, high}
use Rattle.laws.specs.Bits.{bit}

-- what holds of 0 and of 1 holds of a bit, and what holds of the four pairs of bits of two
pub one_bit : (P : ℕ → Type 0) → P 0 → P 1 → (x : ℕ) → x < 2 → P x
one_bit P a b zero h = a
one_bit P a b (suc zero) h = b
one_bit P a b (suc (suc x)) h = absurd (omega arith)

pub two_bits : (P : ℕ → ℕ → Type 0) → P 0 0 → P 0 1 → P 1 0 → P 1 1 → (x y : ℕ) → x < 2 → y < 2 → P x y
two_bits P a b c d x y h k =
    one_bit (λ (x : ℕ). (y : ℕ) → y < 2 → P x y) (one_bit (λ (y : ℕ). P 0 y) a b) (one_bit (λ (y : ℕ). P 1 y) c d) x h y k

pub zero_bit : (k : ℕ) → bit 0 k ≡ 0
zero_bit k = ap (λ (x : ℕ). x % 2) (zero-div (2 ^ k))

-- what `1 << n` gives, at a width of w bits
pub shifted_one : (w n : ℕ) → n < w → (1 * 2 ^ n) % 2 ^ w ≡ 2 ^ n
shifted_one w n h = shl_exact {a = 1} 1 n w (omega arith) (omega arith) ∙ omega arith

-- w ones, all but m shifted out
pub shifted_ones : (w m : ℕ) → m ≤ w → (2 ^ w - 1) / 2 ^ (w - m) ≡ 2 ^ m - 1
shifted_ones w m h =
    let k : ℕ = w - m in
    let e : w ≡ m + k = omega arith in
    ap (λ (x : ℕ). x / 2 ^ k) (ap (λ (v : ℕ). 2 ^ v - 1) e ∙ ones_split m k) ∙ high (2 ^ m - 1) k (ones_lt k)

pub ones_bit : (m k : ℕ) → k < m → bit (2 ^ m - 1) k ≡ 1
ones_bit m k h =
    let j : ℕ = m - k - 1 in
    let e : m ≡ j + 1 + k = omega arith in
    ap (λ (x : ℕ). x / 2 ^ k % 2) (ap (λ (w : ℕ). 2 ^ w - 1) e ∙ ones_split (j + 1) k)
    ∙ ap (λ (x : ℕ). x % 2) (high (2 ^ (j + 1) - 1) k (ones_lt k) ∙ ones_split j 1)
    ∙ digits_mod (2 ^ j - 1) (omega arith)
