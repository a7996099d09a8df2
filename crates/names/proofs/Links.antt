-- Laws of a link that is set, and of the keys of names.
-- Assumes nothing.
use Rattle.std.proofs.Common.{◌≡◌, ℕ, zero, suc, ◌+◌, ◌-◌, ◌*◌, ◌/◌, ◌%◌, ◌^◌, ◌<◌, ◌≤◌, Bool, true, false, List, length, get_or, set, refl, ap, arith}
use borrow.Author.Tests.{lt-ltb, le-ltb}
use Rattle.laws.specs.Stretches.{same_bytes}
use Rattle.laws.proofs.Stretches.{same_eq}
use Rattle.names.specs.Chains.{key_of, digit_in, digit_of, headed, link_place, linked, LinkFits}
use Rattle.names.specs.declared.records.TheConstants.{NAME_WORDS, HALF_BITS, HALF, WORD_LINKS, KEY_DIGITS, BYTE_DIGITS}

-- names of another key are others
pub other_key : (a b : List ℕ) (x y : ℕ) → x ≡ key_of a → y ≡ key_of b → (x ≡ y → ⊥) → false ≡ same_bytes a b
other_key a b x y p q ne = go (same_bytes a b) refl
  where
    go : (t : Bool) → same_bytes a b ≡ t → false ≡ t
    go false e = refl
    go true e = absurd (ne (omega (arith, p, q, ap key_of (same_eq a b e))))

-- the length that a key has in its lower half
pub key_length : (w : List ℕ) (x : ℕ) → x ≡ key_of w → length w < HALF → x % HALF ≡ length w
unfolding key_of
key_length w x e l = omega arith

-- ---- the two kinds of digits

pub digit_high : (w : List ℕ) (d : ℕ) → d < KEY_DIGITS → digit_of w d ≡ digit_in (key_of w) KEY_DIGITS d
unfolding digit_of
digit_high w d l = rw (lt-ltb d KEY_DIGITS l)

pub digit_low : (w : List ℕ) (d : ℕ) → KEY_DIGITS ≤ d
    → digit_of w d ≡ digit_in (get_or w ((d - KEY_DIGITS) / BYTE_DIGITS) 0) BYTE_DIGITS ((d - KEY_DIGITS) % BYTE_DIGITS)
unfolding digit_of
digit_low w d l = rw (le-ltb d KEY_DIGITS l)

-- ---- a link set behind a head, and behind a record

pub at_head : (heads names : List ℕ) (b last digit n : ℕ) → last ≡ 0 → (set heads b n ≡ headed heads b last n) × (names ≡ linked names last digit n)
unfolding headed linked
at_head heads names b zero digit n e = (refl, refl)
at_head heads names b (suc k) digit n e = absurd (omega arith)

pub at_record : (heads names : List ℕ) (b last digit n u : ℕ) → (last ≡ 0 → ⊥) → LinkFits names last digit n → u ≡ n * 2 ^ (digit % WORD_LINKS * HALF_BITS) % 18446744073709551616
    → (heads ≡ headed heads b last n) × (set names (link_place ((last - 1) * NAME_WORDS) digit) (get_or names (link_place ((last - 1) * NAME_WORDS) digit) 0 + u) ≡ linked names last digit n)
unfolding headed linked
at_record heads names b zero digit n u e f q = absurd (e refl)
at_record heads names b (suc k) digit n u e f q =
    let r : suc k - 1 ≡ k = omega arith in
    let v : u ≡ n * 2 ^ (digit % WORD_LINKS * HALF_BITS) = omega (arith, f.1, q) in
    (refl, rw (r, v))
