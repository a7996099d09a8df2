-- Laws of the bytes of a stretch as numbers.
-- Assumes nothing.
use Rattle.std.proofs.Common.{◌≡◌, ℕ, zero, suc, ◌+◌, ◌-◌, ◌*◌, ◌/◌, ◌%◌, ◌^◌, ◌<◌, ◌≤◌, eqb, List, [], ◌∷◌, length, get_or, take, drop, refl, ap, ◌∙◌, ap₂, arith, get_or-drop}
use Rattle.std.specs.Cmp.Lexicographic.{pointwise}
use Rattle.std.specs.Simd.{first_chunks}
use Rattle.std.specs.Int.{from_le_bytes, w32}
use lib.Seq.{drop-drop}
use Rattle.laws.specs.Stretches.{stretch, same_bytes}
use Rattle.laws.proofs.Stretches.{rest_step, head_step, stretch-none, drop-stretch}
use Rattle.text.proofs.ByteLaws.{same_pointwise}
use Rattle.names.specs.Chains.{four_bytes, word_of}
use Rattle.names.specs.Bounds.{Bytes}

bytes_rest : (a : ℕ) (l : List ℕ) → Bytes (a ∷ l) → Bytes l
bytes_rest a l f i = f (suc i)

-- a byte and what is above it
pub lowest : (a q : ℕ) → a < 256 → ((a + q * 256) % 256 ≡ a) × ((a + q * 256) / 256 ≡ q)
lowest a q f = (omega arith, omega arith)

-- ---- the number of a short stretch

pub word_none : (t : List ℕ) (p : ℕ) → 0 ≡ word_of (stretch t p 0)
unfolding word_of
word_none t p = rw (stretch-none t p 0 refl)

pub word-one : (t : List ℕ) (p : ℕ) → p + 1 ≤ length t → get_or t p 0 ≡ word_of (stretch t p 1)
unfolding word_of
word-one t p h = rw (head_step t p 1 (omega arith) h, stretch-none t (p + 1) 0 refl) (omega arith)

pub word_two : (t : List ℕ) (p : ℕ) → p + 2 ≤ length t → get_or t p 0 + get_or t (p + 1) 0 * 256 ≡ word_of (stretch t p 2)
unfolding word_of
word_two t p h = rw (head_step t p 2 (omega arith) h) (ap (λ (x : ℕ). get_or t p 0 + x * 256) (word-one t (p + 1) (omega arith)))

pub word_three : (t : List ℕ) (p : ℕ) → p + 3 ≤ length t → get_or t p 0 + get_or t (p + 1) 0 * 256 + get_or t (p + 2) 0 * 65536 ≡ word_of (stretch t p 3)
unfolding word_of
word_three t p h =
    let e : p + 1 + 1 ≡ p + 2 = omega arith in
    let w : get_or t (p + 1) 0 + get_or t (p + 2) 0 * 256 ≡ word_of (stretch t (p + 1) 2) = rw e at (word_two t (p + 1) (omega arith)) in
    rw (head_step t p 3 (omega arith) h) (omega (arith, w))

-- the bytes that are too many cut off
pub word_cut : (t : List ℕ) (p n : ℕ) → Bytes t → n < 4 → p + 4 ≤ length t → four_bytes t p % (1 * 2 ^ (n * 8) % 2 ^ 32) ≡ word_of (stretch t p n)
word_cut t p zero f l h = omega (arith, word_none t p)
word_cut t p (suc zero) f l h = omega (arith, word-one t p (omega arith), f p)
word_cut t p (suc (suc zero)) f l h = omega (arith, word_two t p (omega arith), f p, f (p + 1))
word_cut t p (suc (suc (suc zero))) f l h = omega (arith, word_three t p (omega arith), f p, f (p + 1), f (p + 2))
word_cut t p (suc (suc (suc (suc n)))) f l h = absurd (omega arith)

-- ---- stretches compared

bytes_take : (n : ℕ) (l : List ℕ) → Bytes l → Bytes (take n l)
bytes_take zero l f i = omega arith
bytes_take (suc n) [] f i = f i
bytes_take (suc n) (x ∷ xs) f zero = f 0
bytes_take (suc n) (x ∷ xs) f (suc i) = bytes_take n xs (bytes_rest x xs f) i

pub bytes_stretch : (t : List ℕ) (s n : ℕ) → Bytes t → Bytes (stretch t s n)
unfolding stretch
bytes_stretch t s n f = bytes_take n (drop s t) (λ i. rw (get_or-drop s t i 0) (f (s + i)))

-- four bytes further in a stretch
pub four_rest : (t : List ℕ) (s n i : ℕ) → i < n / 4 → s + n ≤ length t
    → stretch t (s + i * 4) (n - i * 4)
    ≡ get_or t (s + i * 4) 0 ∷ get_or t (s + i * 4 + 1) 0 ∷ get_or t (s + i * 4 + 2) 0 ∷ get_or t (s + i * 4 + 3) 0 ∷ stretch t (s + (i + 1) * 4) (n - (i + 1) * 4)
four_rest t s n i h k =
    let one : s + (i * 4 + 1) ≡ s + i * 4 + 1 = omega arith in
    let two : s + (i * 4 + 1 + 1) ≡ s + i * 4 + 2 = omega arith in
    let three : s + (i * 4 + 1 + 1 + 1) ≡ s + i * 4 + 3 = omega arith in
    let four : i * 4 + 1 + 1 + 1 + 1 ≡ (i + 1) * 4 = omega arith in
    rest_step t s n (i * 4) (omega arith) k
    ∙ ap (λ (l : List ℕ). get_or t (s + i * 4) 0 ∷ l) (
    rest_step t s n (i * 4 + 1) (omega arith) k
    ∙ ap₂ ◌∷◌ (ap (λ (x : ℕ). get_or t x 0) one) (
    rest_step t s n (i * 4 + 1 + 1) (omega arith) k
    ∙ ap₂ ◌∷◌ (ap (λ (x : ℕ). get_or t x 0) two) (
    rest_step t s n (i * 4 + 1 + 1 + 1) (omega arith) k
    ∙ ap₂ ◌∷◌ (ap (λ (x : ℕ). get_or t x 0) three) (ap (λ (x : ℕ). stretch t (s + x) (n - x)) four))))

-- four bytes of a stretch as its chunks have them
chunk_at : (k i : ℕ) (l : List ℕ) → i < k → get_or (first_chunks 4 k l) i [] ≡ take 4 (drop (i * 4) l)
chunk_at zero i l h = absurd (omega arith)
chunk_at (suc k) zero l h = refl
chunk_at (suc k) (suc i) l h =
    let e : 4 + i * 4 ≡ suc i * 4 = omega arith in
    chunk_at k i (drop 4 l) (omega arith) ∙ ap (take 4) (drop-drop (i * 4) 4 l ∙ ap (λ (n : ℕ). drop n l) e)

pub chunk_number : (t : List ℕ) (s n i : ℕ) (bytes : List ℕ) (chunks : List (List ℕ)) → i < n / 4 → s + n ≤ length t → bytes ≡ stretch t s n → length bytes ≡ n
    → chunks ≡ first_chunks 4 (length bytes / 4) bytes → from_le_bytes w32 (get_or chunks i []) ≡ four_bytes t (s + i * 4)
chunk_number t s n i bytes chunks h k eb en ec =
    rw (ec, en, eb, chunk_at (n / 4) i (stretch t s n) h, drop-stretch (i * 4) t s n, four_rest t s n i h k) (omega arith)

-- `==` of a part of a text and other bytes
pub equal_part : (t : List ℕ) (a n : ℕ) (bytes : List ℕ) → pointwise eqb (take (a + n - a) (drop a t)) bytes ≡ same_bytes (stretch t a n) bytes
unfolding stretch
equal_part t a n bytes =
    let e : a + n - a ≡ n = omega arith in
    rw e (same_pointwise (take n (drop a t)) bytes)
