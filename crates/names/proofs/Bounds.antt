-- A search comes to no more records than its name has digits and one, whatever other names the table has.
-- Assumes nothing.
use Rattle.std.proofs.Common.{◌≡◌, ℕ, zero, suc, ◌+◌, ◌-◌, ◌*◌, ◌/◌, ◌%◌, ◌^◌, ◌<◌, ◌≤◌, List, length, get_or, sym, refl, ◌∙◌, ap₂, arith}
use Rattle.std.proofs.lemmas.Grind.{same_number_lists}
use Rattle.std.proofs.lemmas.Nat.{mod-pow-add}
use Rattle.laws.proofs.Stretches.{length-stretch}
use Rattle.names.specs.Chains.{key_of, digit_in, entry, name_at, reached, Alike, Table}
use Rattle.names.specs.Bounds.{Bytes, digit_count, FewReached}
use Rattle.names.specs.declared.records.TheConstants.{HALF, KEY_DIGITS, BYTE_DIGITS}
use Rattle.names.proofs.Words.{bytes_stretch}
use Rattle.names.proofs.Links.{key_length, digit_high, digit_low}
use Rattle.names.proofs.Searches.{reached_at, back_to}

-- ---- digits tell names apart

-- the lower half of a number, by sixteen digits
low_same : (x y n : ℕ) → ((i : ℕ) → i < n → x / 2 ^ (i * 2) % 4 ≡ y / 2 ^ (i * 2) % 4) → x % 2 ^ (n * 2) ≡ y % 2 ^ (n * 2)
low_same x y zero h = omega arith
low_same x y (suc n) h =
    let p : suc n * 2 ≡ 2 + n * 2 = omega arith in
    rw p (mod-pow-add x 2 (n * 2) ∙ ap₂ (λ (a b : ℕ). a * 2 ^ (n * 2) + b) (h n (omega arith)) (low_same x y n (λ i l. h i (omega arith))) ∙ sym (mod-pow-add y 2 (n * 2)))

same_length : (v w : List ℕ) → length v < HALF → length w < HALF → Alike v w KEY_DIGITS → length v ≡ length w
same_length v w l m a = sym (key_length v _ refl l) ∙ low_same (key_of v) (key_of w) 16 each ∙ key_length w _ refl m
  where
    each : (i : ℕ) → i < 16 → key_of v / 2 ^ (i * 2) % 4 ≡ key_of w / 2 ^ (i * 2) % 4
    each i l =
        let e : KEY_DIGITS - 1 - (KEY_DIGITS - 1 - i) ≡ i = omega arith in
        let d : KEY_DIGITS - 1 - i < KEY_DIGITS = omega arith in
        rw e at (sym (digit_high v (KEY_DIGITS - 1 - i) d) ∙ a.1 (KEY_DIGITS - 1 - i) d ∙ digit_high w (KEY_DIGITS - 1 - i) d)

byte_same : (x y : ℕ) → x < 256 → y < 256 → x / 2 ^ 6 % 4 ≡ y / 2 ^ 6 % 4 → x / 2 ^ 4 % 4 ≡ y / 2 ^ 4 % 4 → x / 2 ^ 2 % 4 ≡ y / 2 ^ 2 % 4 → x / 2 ^ 0 % 4 ≡ y / 2 ^ 0 % 4 → x ≡ y
byte_same x y l m p q r s = omega arith

-- names that are alike in all digits of one are the same
pub same_name : (v w : List ℕ) → Bytes v → Bytes w → length v < HALF → length w < HALF → Alike v w (digit_count w) → v ≡ w
same_name v w f g l m a = same_number_lists v w len each
  where
    len : length v ≡ length w
    len = same_length v w l m (a.0, λ i n. a.1 i (omega arith))

    at : (i j : ℕ) → i < length w → j < BYTE_DIGITS → digit_in (get_or v i 0) BYTE_DIGITS j ≡ digit_in (get_or w i 0) BYTE_DIGITS j
    at i j n k =
        let d = KEY_DIGITS + i * BYTE_DIGITS + j in
        let b : (d - KEY_DIGITS) / BYTE_DIGITS ≡ i = omega arith in
        let r : (d - KEY_DIGITS) % BYTE_DIGITS ≡ j = omega arith in
        rw (b, r) at (sym (digit_low v d (omega arith)) ∙ a.1 d (omega arith) ∙ digit_low w d (omega arith))

    each : (i : ℕ) → i < length v → get_or v i 0 ≡ get_or w i 0
    each i n =
        let o : i < length w = omega (arith, len) in
        byte_same (get_or v i 0) (get_or w i 0) (f i) (g i) (at i 0 o (omega arith)) (at i 1 o (omega arith)) (at i 2 o (omega arith)) (at i 3 o (omega arith))

-- ---- the records that a search comes to

name_bytes : (text names : List ℕ) (k : ℕ) → Bytes text → Bytes (name_at text names k)
unfolding name_at
name_bytes text names k f = bytes_stretch text _ _ f

name_short : {text heads names : List ℕ} {count : ℕ} → Table text heads names count → (k : ℕ) → k < count → length (name_at text names k) < HALF
unfolding name_at entry
name_short ok k l = omega (arith, length-stretch _ _ _ (ok.inside k l), ok.inside k l, ok.sized)

-- after as many links as a name has digits and one, a search for it is at its end
pub few_reached : FewReached
few_reached text heads names count ok f w g m = go (reached heads names w (suc (digit_count w))) refl
  where
    has : (d k : ℕ) → digit_count w ≤ d → reached heads names w d ≡ suc k → name_at text names k ≡ w
    has d k l r =
        let a = ok.alike w d k r in
        same_name (name_at text names k) w (name_bytes text names k f) g (omega (arith, name_short ok k (reached_at ok w d k r))) m (a.0, λ i n. a.1 i (omega arith))

    go : (x : ℕ) → reached heads names w (suc (digit_count w)) ≡ x → x ≡ 0
    go zero q = refl
    go (suc k) q =
        let b = back_to ok w (digit_count w) (suc (digit_count w)) k (omega arith) q in
        let same = ok.once b.0 k (reached_at ok w (digit_count w) b.0 b.1) (reached_at ok w (suc (digit_count w)) k q) (has (digit_count w) b.0 (omega arith) b.1 ∙ sym (has (suc (digit_count w)) k (omega arith) q)) in
        absurd (omega (arith, b.2, same))
