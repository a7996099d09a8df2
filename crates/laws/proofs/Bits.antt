-- What shifts and masks compute is a bit, and a number with a bit set; and the bits after a set.
-- Assumes nothing.
use mathlib.Core.Path.{◌≡◌, sym, ap, ap₂, ◌∙◌, subst}
use mathlib.Core.Logic.{◌≢◌, ◌⊎◌, inl, inr, ⊎_elim}
use Prim.Native.Nat.{ℕ, ◌+◌, ◌-◌, ◌*◌, ◌/◌, ◌%◌, ◌^◌, ◌≤◌, ◌<◌}
use native.Mathlib.Nat.{mod-eq_of_lt, mod-lt, add-mul, add-zero}
use native.Mathlib.Omega.{arith}
use native.Mathlib.Decide.{dec_lt}
use lib.Arith.{digits_lt, digits_div, digits_mod}
use lib.Pow.{pow_pos, pow_mono, pow-add, split, high, low, shl_exact, shr_lt, shr-shr, field, mod-mod-pow, ones_lt}
use lib.Bits.{bit_and, bit_or, and_mask, and_high, and_block, or_block, or_shifted, or_zero_r}
use Rattle.laws.specs.Bits.{bit, set_bit}

-- the code of a get
pub get_bits : (t j : ℕ) → bit_and (t / 2 ^ j) 1 ≡ bit t j
get_bits t j = and_mask (t / 2 ^ j) 1

-- all ones but bit j, at a width of m + 1 + j, in two parts
mask_parts : (m j : ℕ) → 2 ^ (m + 1 + j) - 1 - 2 ^ j ≡ (2 ^ (m + 1) - 2 ^ 1) * 2 ^ j + (2 ^ j - 1)
mask_parts m j =
    let p = pow_pos j in
    let two : 2 ≤ 2 ^ (m + 1) = pow_mono {i = 1} {j = m + 1} (omega arith) in
    let R = 2 ^ (m + 1) - 2 in
    let e : (R + 2) * 2 ^ j ≡ R * 2 ^ j + 2 * 2 ^ j = add-mul R 2 (2 ^ j) in
    let q : R + 2 ≡ 2 ^ (m + 1) = omega arith in
    let f : 2 ^ (m + 1) * 2 ^ j ≡ R * 2 ^ j + 2 * 2 ^ j = subst (λ (x : ℕ). x * 2 ^ j ≡ R * 2 ^ j + 2 * 2 ^ j) q e in
    omega (arith, pow-add 2 (m + 1) j)

-- the bit at j cleared
clear_bits : (t m j : ℕ) → t < 2 ^ (m + 1 + j) → bit_and t (2 ^ (m + 1 + j) - 1 - 2 ^ j) ≡ t / 2 ^ j / 2 * 2 * 2 ^ j + t % 2 ^ j
clear_bits t m j h =
    let q = t / 2 ^ j in
    let qs : q < 2 ^ (m + 1) = shr_lt (m + 1) j h in
    ap₂ bit_and (sym (split t j)) (mask_parts m j)
    ∙ and_block j q (2 ^ (m + 1) - 2 ^ 1) (t % 2 ^ j) (2 ^ j - 1) (mod-lt t (pow_pos j)) (ones_lt j)
    ∙ ap₂ (λ (x y : ℕ). x * 2 ^ j + y)
    (and_high q m 1 ∙ ap (λ (x : ℕ). x * 2) (mod-eq_of_lt (shr_lt m 1 qs)))
    (and_mask (t % 2 ^ j) j ∙ mod-eq_of_lt (mod-lt t (pow_pos j)))

-- the code of a set, at a width of w bits
pub set_bits : (w t j b : ℕ) → t < 2 ^ w → j < w → b < 2
    → bit_or (bit_and t (2 ^ w - 1 - (1 * 2 ^ j) % 2 ^ w)) ((b * 2 ^ j) % 2 ^ w) ≡ set_bit t j b
unfolding set_bit
set_bits w t j b ht hj hb =
    let m = w - (1 + j) in
    let ew : w ≡ m + 1 + j = omega arith in
    let one : (1 * 2 ^ j) % 2 ^ w ≡ 2 ^ j = shl_exact {a = 1} 1 j w (omega arith) (omega arith) ∙ omega arith in
    let put : (b * 2 ^ j) % 2 ^ w ≡ b * 2 ^ j = shl_exact 1 j w hb (omega arith) in
    ap₂ (λ (x y : ℕ). bit_or (bit_and t (2 ^ w - 1 - x)) y) one put
    ∙ ap (λ (x : ℕ). bit_or x (b * 2 ^ j))
    (subst (λ (v : ℕ). bit_and t (2 ^ v - 1 - 2 ^ j) ≡ t / 2 ^ j / 2 * 2 * 2 ^ j + t % 2 ^ j) (sym ew)
    (clear_bits t m j (subst (λ (v : ℕ). t < 2 ^ v) ew ht)))
    ∙ ap (λ (x : ℕ). bit_or (t / 2 ^ j / 2 * 2 * 2 ^ j + t % 2 ^ j) x) (sym (add-zero (b * 2 ^ j)))
    ∙ or_block j (t / 2 ^ j / 2 * 2) b (t % 2 ^ j) 0 (mod-lt t (pow_pos j)) (pow_pos j)
    ∙ ap₂ (λ (x y : ℕ). x * 2 ^ j + y) (or_shifted (t / 2 ^ j / 2) 1 b hb) (or_zero_r (t % 2 ^ j))

-- ---- the bits after a set

pub bit-set_same : (t j b : ℕ) → b < 2 → bit (set_bit t j b) j ≡ b
unfolding set_bit
bit-set_same t j b h =
    ap (λ (x : ℕ). x % 2) (high (t / 2 ^ j / 2 * 2 + b) j (mod-lt t (pow_pos j))) ∙ digits_mod (t / 2 ^ j / 2) h

-- a bit below j is of what the number leaves modulo 2 ^ j, one above of what is left of it past j
bit_below : (x y j k : ℕ) → k < j → x % 2 ^ j ≡ y % 2 ^ j → bit x k ≡ bit y k
bit_below x y j k h e = side x ∙ ap (λ (v : ℕ). v % 2 ^ (1 + k) / 2 ^ k) e ∙ sym (side y)
  where
    side : (z : ℕ) → bit z k ≡ z % 2 ^ j % 2 ^ (1 + k) / 2 ^ k
    side z =
        sym (field z 1 k)
        ∙ ap (λ (v : ℕ). v / 2 ^ k)
        (subst (λ (n : ℕ). z % 2 ^ (1 + k) ≡ z % 2 ^ n % 2 ^ (1 + k)) {x = j - (1 + k) + (1 + k)} {y = j} (omega arith) (sym (mod-mod-pow z (j - (1 + k)) (1 + k))))

bit-above : (x y j k : ℕ) → j < k → x / 2 ^ j / 2 ≡ y / 2 ^ j / 2 → bit x k ≡ bit y k
bit-above x y j k h e = side x ∙ ap (λ (v : ℕ). v / 2 ^ (k - (j + 1)) % 2) e ∙ sym (side y)
  where
    side : (z : ℕ) → bit z k ≡ z / 2 ^ j / 2 / 2 ^ (k - (j + 1)) % 2
    side z =
        sym (ap (λ (v : ℕ). v / 2 ^ (k - (j + 1)) % 2) (shr-shr z j 1)
        ∙ ap (λ (v : ℕ). v % 2) (shr-shr z (j + 1) (k - (j + 1)))
        ∙ ap (λ (n : ℕ). z / 2 ^ n % 2) (omega arith))

sides : (m n : ℕ) → Dec (m < n) → m ≢ n → (m < n) ⊎ (n < m)
sides m n (yes l) p = inl l
sides m n (no g) p = inr (omega arith)

pub bit-set_other : (t j b k : ℕ) → b < 2 → k ≢ j → bit (set_bit t j b) k ≡ bit t k
unfolding set_bit
bit-set_other t j b k h ne = ⊎_elim below above (sides k j (dec_lt k j) ne)
  where
    below : k < j → bit (set_bit t j b) k ≡ bit t k
    below l = bit_below (set_bit t j b) t j k l (low (t / 2 ^ j / 2 * 2 + b) j (mod-lt t (pow_pos j)))

    above : j < k → bit (set_bit t j b) k ≡ bit t k
    above l =
        bit-above (set_bit t j b) t j k l
        (ap (λ (x : ℕ). x / 2) (high (t / 2 ^ j / 2 * 2 + b) j (mod-lt t (pow_pos j))) ∙ digits_div (t / 2 ^ j / 2) h)

-- a number of n bits stays one
pub set-fits : (n t j b : ℕ) → t < 2 ^ n → j < n → b < 2 → set_bit t j b < 2 ^ n
unfolding set_bit
set-fits n t j b ht hj hb =
    let m = n - (1 + j) in
    let ew : n ≡ m + 1 + j = omega arith in
    let q : t / 2 ^ j / 2 < 2 ^ m = shr_lt m 1 (shr_lt (m + 1) j (subst (λ (v : ℕ). t < 2 ^ v) ew ht)) in
    subst (λ (v : ℕ). (t / 2 ^ j / 2 * 2 + b) * 2 ^ j + t % 2 ^ j < v)
    (sym (ap (λ (v : ℕ). 2 ^ v) ew ∙ pow-add 2 (m + 1) j ∙ ap (λ (v : ℕ). v * 2 ^ j) (pow-add 2 m 1)))
    (digits_lt (digits_lt q hb) (mod-lt t (pow_pos j)))

pub bit_small : (t j : ℕ) → bit t j < 2
bit_small t j = mod-lt (t / 2 ^ j) (omega arith)
