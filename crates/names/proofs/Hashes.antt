-- Laws of the sums of a name's bytes: four bytes further, and at the end; and of the halves of the mix, alone and in a key.
-- Assumes nothing.
use Rattle.std.proofs.Common.{◌≡◌, ℕ, ◌+◌, ◌-◌, ◌*◌, ◌/◌, ◌%◌, ◌^◌, ◌<◌, ◌≤◌, List, [], ◌∷◌, length, get_or, refl, ap, ◌∙◌, arith}
use Rattle.std.specs.Int.{rotate_left, w32}
use Rattle.std.proofs.lemmas.Nat.{or_shifted}
use Rattle.laws.specs.Stretches.{stretch}
use Rattle.names.specs.declared.records.TheConstants.{HALF}
use Rattle.names.specs.Chains.{wrapping_sum, sum_in, four_bytes, word_of, mix_in, mixed, hash_of, key_of}
use Rattle.names.specs.Bounds.{Bytes}
use Rattle.names.proofs.Words.{lowest, four_rest}

-- the four bytes of a number, added one after the other
pub sum_bytes : (s w a b c d : ℕ) → a ≡ w % 256 → b ≡ w / 256 % 256 → c ≡ w / 65536 % 256 → d ≡ w / 16777216
    → ((((s + a) % 2 ^ 32 + b) % 2 ^ 32 + c) % 2 ^ 32 + d) % 2 ^ 32 ≡ sum_in s w
unfolding sum_in wrapping_sum
sum_bytes s w a b c d e f g h = rw (e, f, g, h) refl

four_sum : (s a b c d : ℕ) → a < 256 → b < 256 → c < 256 → d < 256
    → sum_in s (a + b * 256 + c * 65536 + d * 16777216) ≡ ((((s + a) % 2 ^ 32 + b) % 2 ^ 32 + c) % 2 ^ 32 + d) % 2 ^ 32
unfolding sum_in wrapping_sum
four_sum s a b c d p q r t =
    let u = c + d * 256 in
    let v = b + u * 256 in
    let w = a + v * 256 in
    let is : a + b * 256 + c * 65536 + d * 16777216 ≡ w = omega arith in
    let k = lowest a v p in
    let l = lowest b u q in
    let m = lowest c d r in
    let two : w / 65536 ≡ u = omega (arith, k.1, l.1) in
    let three : w / 16777216 ≡ d = omega (arith, two, m.1) in
    rw (is, two, three, k.0, k.1, l.0, m.0) refl

pub sum_step : (t : List ℕ) (s n i a b : ℕ) → Bytes t → i < n / 4 → s + n ≤ length t → b ≡ sum_in a (four_bytes t (s + i * 4))
    → wrapping_sum b (stretch t (s + (i + 1) * 4) (n - (i + 1) * 4)) ≡ wrapping_sum a (stretch t (s + i * 4) (n - i * 4))
unfolding wrapping_sum
sum_step t s n i a b f h k e =
    rw (four_rest t s n i h k)
    (ap (λ (x : ℕ). wrapping_sum x (stretch t (s + (i + 1) * 4) (n - (i + 1) * 4)))
    (e ∙ four_sum a _ _ _ _ (f (s + i * 4)) (f (s + i * 4 + 1)) (f (s + i * 4 + 2)) (f (s + i * 4 + 3))))

pub mix_step : (t : List ℕ) (s n i a b : ℕ) → i < n / 4 → s + n ≤ length t → b ≡ mix_in a (four_bytes t (s + i * 4))
    → mixed b (stretch t (s + (i + 1) * 4) (n - (i + 1) * 4)) ≡ mixed a (stretch t (s + i * 4) (n - i * 4))
unfolding mixed word_of
mix_step t s n i a b h k e =
    let p = s + i * 4 in
    let w : four_bytes t p ≡ get_or t p 0 + (get_or t (p + 1) 0 + (get_or t (p + 2) 0 + (get_or t (p + 3) 0 + 0 * 256) * 256) * 256) * 256 = omega arith in
    rw (four_rest t s n i h k) (ap (λ (x : ℕ). mixed x (stretch t (s + (i + 1) * 4) (n - (i + 1) * 4))) (e ∙ ap (mix_in a) w))

-- ---- fewer than four bytes, at once

pub sum_short : (s : ℕ) (l : List ℕ) → s < 2 ^ 32 → Bytes l → length l < 4 → sum_in s (word_of l) ≡ wrapping_sum s l
unfolding wrapping_sum word_of
sum_short s [] h f k = four_sum s 0 0 0 0 (omega arith) (omega arith) (omega arith) (omega arith) ∙ omega arith
sum_short s (a ∷ []) h f k =
    let e : a + 0 * 256 ≡ a + 0 * 256 + 0 * 65536 + 0 * 16777216 = omega arith in
    rw e (four_sum s a 0 0 0 (f 0) (omega arith) (omega arith) (omega arith) ∙ omega arith)
sum_short s (a ∷ b ∷ []) h f k =
    let e : a + (b + 0 * 256) * 256 ≡ a + b * 256 + 0 * 65536 + 0 * 16777216 = omega arith in
    rw e (four_sum s a b 0 0 (f 0) (f 1) (omega arith) (omega arith) ∙ omega arith)
sum_short s (a ∷ b ∷ c ∷ []) h f k =
    let e : a + (b + (c + 0 * 256) * 256) * 256 ≡ a + b * 256 + c * 65536 + 0 * 16777216 = omega arith in
    rw e (four_sum s a b c 0 (f 0) (f 1) (f 2) (omega arith) ∙ omega arith)
sum_short s (a ∷ b ∷ c ∷ d ∷ l) h f k = absurd (omega arith)

pub mix_short : (s : ℕ) (l : List ℕ) → length l < 4 → mix_in s (word_of l) ≡ mixed s l
unfolding mixed word_of
mix_short s [] k = refl
mix_short s (a ∷ []) k = refl
mix_short s (a ∷ b ∷ []) k = refl
mix_short s (a ∷ b ∷ c ∷ []) k = refl
mix_short s (a ∷ b ∷ c ∷ d ∷ l) k = absurd (omega arith)

-- ---- the halves of the mix, in each other's place

pub rotate_left-half : (m : ℕ) → m < 2 ^ 32 → rotate_left w32 m 16 ≡ m / 65536 + m % 65536 * 65536
rotate_left-half m l =
    let up : m * 2 ^ 16 % 2 ^ 32 ≡ m % 65536 * 2 ^ 16 = omega arith in
    rw up (or_shifted (m % 65536) 16 (m / 65536) (omega arith) ∙ omega arith)

-- ---- the mix in a key

mix_few : (s w : ℕ) → mix_in s w < 2 ^ 32
unfolding mix_in
mix_few s w = omega arith

-- the mix of bytes has 32 bits
pub mixed_few : (s : ℕ) (l : List ℕ) → mixed s l < 2 ^ 32
unfolding mixed
mixed_few s [] = mix_few s 0
mixed_few s (a ∷ []) = mix_few s (word_of (a ∷ []))
mixed_few s (a ∷ b ∷ []) = mix_few s (word_of (a ∷ b ∷ []))
mixed_few s (a ∷ b ∷ c ∷ []) = mix_few s (word_of (a ∷ b ∷ c ∷ []))
mixed_few s (a ∷ b ∷ c ∷ d ∷ l) = mixed_few (mix_in s (word_of (a ∷ b ∷ c ∷ d ∷ []))) l

-- a key of which only the lower half of its hash is kept: the name's length, and the upper half of the mix
pub key_sixteen : (l : List ℕ) → length l < HALF → key_of l % HALF + key_of l / HALF % 65536 * HALF ≡ length l + mixed 0 l / 65536 * HALF
unfolding key_of hash_of
key_sixteen l h = go (length l) (mixed 0 l) h (mixed_few 0 l)
  where
    go : (n m : ℕ) → n < HALF → m < 2 ^ 32
        → (n % HALF + (m / 65536 + m % 65536 * 65536) * HALF) % HALF + (n % HALF + (m / 65536 + m % 65536 * 65536) * HALF) / HALF % 65536 * HALF ≡ n + m / 65536 * HALF
    go n m a b = omega arith
