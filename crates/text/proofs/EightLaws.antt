-- Eight bytes in one number: bit 7 of each byte, after sums that carry nothing from byte to byte.
-- Assumes nothing.
use Prim.Native.Nat.{ℕ, zero, suc, ◌+◌, ◌-◌, ◌*◌, ◌/◌, ◌%◌, ◌^◌, ◌≤◌, ◌<◌, min}
use mathlib.Core.Path.{◌≡◌, refl, sym, ap, ◌∙◌, subst}
use mathlib.Core.Logic.{◌≢◌}
use mathlib.Core.Bool.{Bool, true, false, cond, not, ◌&&◌, false≢true}
use mathlib.Core.List.{List, [], ◌∷◌, map}
use native.Mathlib.Omega.{arith}
use native.Mathlib.Nat.{not-suc-le-zero}
use lib.Dec.{T, eqb, leb, ltb}
use lib.Bits.{bit_and, and_le_r}
use lib.Count.{count_trailing_zeros}
use lib.ListN.{length, get_or, drop, replicate}
use lib.Seq.{drop-drop}
use borrow.Author.Tests.{eq-eqb, eqb-true, leb-true, leb-false, le-leb, lt-leb, ltb-true, ltb-false}
use Rattle.std.proofs.Math.Bool.{and-true}
use Rattle.laws.specs.Digits.{is_set}
use Rattle.laws.specs.Stretches.{stretch, run, All}
use Rattle.laws.specs.Table.{every}
use Rattle.laws.proofs.Digits.{bit_shift, bit-and, bit_below, bit-zero, lowest}
use Rattle.laws.proofs.Stretches.{rest_step, rest_end, all_map, all_at, length-stretch, get_or-stretch}
use Rattle.laws.proofs.Table.{at}
use Rattle.text.specs.declared.bytes.TheConstants.{ASCII_END}
use Rattle.text.specs.declared.eights.TheConstants.{EACH, HIGH_BITS, LOW_BITS}
use Rattle.text.specs.Eights.{word_of, eight_at, outside, Between, BetweenOf}
use Rattle.text.proofs.RunLaws.{run_at, run_full, run_take, run_past}

-- a number of at most 255 in front of others: its bit 7, and the bits after it
lane_front : (b w : ℕ) → b < 256 → is_set (b + 256 * w) 7 ≡ leb ASCII_END b
unfolding is_set
lane_front b w h = go (leb ASCII_END b) refl
  where
    go : (t : Bool) → leb ASCII_END b ≡ t → eqb ((b + 256 * w) / 2 ^ 7 % 2) 1 ≡ t
    go true e = let l = leb-true ASCII_END b e in let q : (b + 256 * w) / 2 ^ 7 % 2 ≡ 1 = omega (arith, h, l) in rw q
    go false e = let l = leb-false ASCII_END b e in let q : (b + 256 * w) / 2 ^ 7 % 2 ≡ 0 = omega (arith, h, l) in rw q

lane_back : (b w j : ℕ) → b < 256 → is_set (b + 256 * w) (8 + j) ≡ is_set w j
lane_back b w j h =
    let e : (b + 256 * w) / 2 ^ 8 ≡ w = omega arith in
    sym (bit_shift (b + 256 * w) 8 j) ∙ ap (λ (x : ℕ). is_set x j) e

pub lane_bit : (bs : List ℕ) → All (λ b. b < 256) bs → (i : ℕ) → i < length bs → is_set (word_of bs) (8 * i + 7) ≡ leb ASCII_END (get_or bs i 0)
unfolding word_of
lane_bit [] h i l = absurd (not-suc-le-zero l)
lane_bit (b ∷ bs) h zero l = lane_front b (word_of bs) h.0
lane_bit (b ∷ bs) h (suc i) l =
    let e : 8 * suc i + 7 ≡ 8 + (8 * i + 7) = omega arith in
    ap (is_set (word_of (b ∷ bs))) e ∙ lane_back b (word_of bs) (8 * i + 7) h.0 ∙ lane_bit bs h.1 i (omega arith)

-- sums byte by byte
sum_lanes : (c : ℕ) (bs : List ℕ) → word_of bs + word_of (replicate (length bs) c) ≡ word_of (map (λ b. b + c) bs)
unfolding word_of
sum_lanes c [] = refl
sum_lanes c (b ∷ bs) = omega (arith, sum_lanes c bs)

less_lanes : (c : ℕ) (bs : List ℕ) → All (λ b. b ≤ c) bs → word_of (map (λ b. c - b) bs) + word_of bs ≡ word_of (replicate (length bs) c)
unfolding word_of
less_lanes c [] h = refl
less_lanes c (b ∷ bs) h = omega (arith, h.0, less_lanes c bs h.1)

all_eight : (c : ℕ) → word_of (replicate 8 c) ≡ c * EACH
unfolding word_of
all_eight c = omega arith

-- the eight bytes of a text
module _ (t : List ℕ) (s : ℕ) (h : s + 8 ≤ length t) where
  eight_step : (k : ℕ) → k < 8 → word_of (stretch t (s + k) (8 - k)) ≡ get_or t (s + k) 0 + 256 * word_of (stretch t (s + (k + 1)) (8 - (k + 1)))
  unfolding word_of
  eight_step k l = ap word_of (rest_step t s 8 k l h)

  pub eight_word : eight_at t s ≡ word_of (stretch t s 8)
  unfolding word_of
  eight_word =
      let f : s + 0 ≡ s = omega arith in
      let z : word_of (stretch t (s + 8) 0) ≡ 0 = ap word_of (rest_end t (s + 8) 8 8 (omega arith)) in
      let a : word_of (stretch t (s + 0) 8) ≡ get_or t (s + 0) 0 + 256 * word_of (stretch t (s + 1) 7) = eight_step 0 (omega arith) in
      let a' = subst (λ (x : ℕ). word_of (stretch t x 8) ≡ get_or t x 0 + 256 * word_of (stretch t (s + 1) 7)) f a in
      omega (arith, a', eight_step 1 (omega arith), eight_step 2 (omega arith), eight_step 3 (omega arith), eight_step 4 (omega arith), eight_step 5 (omega arith), eight_step 6 (omega arith), eight_step 7 (omega arith), z)

-- ---- the highest bits: bit 7 of each byte

same_test : (a b : Bool) → T (cond a b (not b)) → a ≡ b
same_test true true t = refl
same_test true false t = absurd t
same_test false true t = absurd t
same_test false false t = refl

abbrev mask_test : ℕ → ℕ → Bool
mask_test t x = cond (is_set HIGH_BITS t) (eqb (t % 8) 7) (not (eqb (t % 8) 7))

mask_tests : T (every mask_test 0 (replicate 64 0))
unfolding is_set
mask_tests = tt

mask_bit : (t : ℕ) → t < 64 → is_set HIGH_BITS t ≡ eqb (t % 8) 7
mask_bit t h = same_test (is_set HIGH_BITS t) (eqb (t % 8) 7) (at mask_test (replicate 64 0) mask_tests t h)

mask_lane : (i : ℕ) → i < 8 → is_set HIGH_BITS (8 * i + 7) ≡ true
mask_lane i h = let e : (8 * i + 7) % 8 ≡ 7 = omega arith in mask_bit (8 * i + 7) (omega arith) ∙ eq-eqb _ _ e

mask_only : (t : ℕ) → is_set HIGH_BITS t ≡ true → t % 8 ≡ 7
mask_only t e = eqb-true (t % 8) 7 (sym (mask_bit t (bit_below HIGH_BITS 64 t (omega arith) e)) ∙ e)

-- ---- eight bytes of ASCII

all_lanes : (P : ℕ → Type 0) (bs : List ℕ) → ((i : ℕ) → i < length bs → P (get_or bs i 0)) → All P bs
all_lanes P [] f = tt
all_lanes P (b ∷ bs) f = (f 0 (omega arith), all_lanes P bs (λ i h. f (suc i) (omega arith)))

and_first : (a b : Bool) → a && b ≡ true → a ≡ true
and_first true b h = refl
and_first false b h = h

and_second : (a b : Bool) → a && b ≡ true → b ≡ true
and_second true b h = h
and_second false b h = absurd (false≢true h)

and_right : (a b : Bool) → a && b ≡ false → b ≡ true → a ≡ false
and_right true b h e = sym e ∙ h
and_right false b h e = refl

pub below_half : (bs : List ℕ) → length bs ≡ 8 → All (λ b. b < 256) bs → bit_and (word_of bs) HIGH_BITS ≡ 0 → All (λ b. b < ASCII_END) bs
below_half bs n h e = all_lanes (λ b. b < ASCII_END) bs small
  where
    small : (i : ℕ) → i < length bs → get_or bs i 0 < ASCII_END
    small i l =
        let z : is_set (word_of bs) (8 * i + 7) && is_set HIGH_BITS (8 * i + 7) ≡ false = sym (bit-and (word_of bs) HIGH_BITS (8 * i + 7)) ∙ ap (λ (x : ℕ). is_set x (8 * i + 7)) e ∙ bit-zero (8 * i + 7) in
        let o : is_set (word_of bs) (8 * i + 7) ≡ false = and_right _ _ z (mask_lane i (omega (arith, n, l))) in
        leb-false ASCII_END (get_or bs i 0) (sym (lane_bit bs h i l) ∙ o)

-- such bytes have none of the highest bits
pub half_masked : (bs : List ℕ) → length bs ≡ 8 → All (λ b. b < ASCII_END) bs → bit_and (word_of bs) HIGH_BITS ≢ 0 → ⊥
half_masked bs n h z =
    let x = bit_and (word_of bs) HIGH_BITS in
    let s : x < 2 ^ 64 = omega (arith, and_le_r (word_of bs) HIGH_BITS) in
    let t = count_trailing_zeros 64 x in
    let f : is_set x t ≡ true = (lowest 64 x s z).at in
    let g : is_set (word_of bs) t && is_set HIGH_BITS t ≡ true = sym (bit-and (word_of bs) HIGH_BITS t) ∙ f in
    let m : t % 8 ≡ 7 = mask_only t (and_second (is_set (word_of bs) t) (is_set HIGH_BITS t) g) in
    let w : t < 64 = bit_below x 64 t s f in
    let e : 8 * (t / 8) + 7 ≡ t = omega (arith, m) in
    let l : t / 8 < length bs = omega (arith, w, n) in
    let b : leb ASCII_END (get_or bs (t / 8) 0) ≡ true = sym (lane_bit bs (all_map bs (λ b q. omega (arith, q)) h) (t / 8) l) ∙ ap (is_set (word_of bs)) e ∙ and_first (is_set (word_of bs) t) (is_set HIGH_BITS t) g in
    let u : get_or bs (t / 8) 0 < ASCII_END = all_at (λ b. b < ASCII_END) bs (t / 8) h l in
    omega (arith, leb-true ASCII_END (get_or bs (t / 8) 0) b, u)

pub half_word : (bs : List ℕ) → length bs ≡ 8 → All (λ b. b < ASCII_END) bs → word_of bs ≤ LOW_BITS
half_word bs n h =
    let l = less_lanes 127 bs (all_map bs (λ b k. omega (arith, k)) h) in
    let r : word_of (replicate (length bs) 127) ≡ LOW_BITS = rw n (all_eight 127) in
    omega (arith, l, r)

map_at : (f : ℕ → ℕ) (bs : List ℕ) (i : ℕ) → i < length bs → get_or (map f bs) i 0 ≡ f (get_or bs i 0)
map_at f [] i h = absurd (not-suc-le-zero h)
map_at f (b ∷ bs) zero h = refl
map_at f (b ∷ bs) (suc i) h = map_at f bs i (omega arith)

map_all : (P : ℕ → Type 0) (f : ℕ → ℕ) (bs : List ℕ) → All (λ b. P (f b)) bs → All P (map f bs)
map_all P f [] h = tt
map_all P f (b ∷ bs) h = (h.0, map_all P f bs h.1)

length_lanes : (f : ℕ → ℕ) (bs : List ℕ) → length (map f bs) ≡ length bs
length_lanes f [] = refl
length_lanes f (b ∷ bs) = ap suc (length_lanes f bs)

not_twice : (t : Bool) → t ≡ not (not t)
not_twice true = refl
not_twice false = refl

raised : (low b : ℕ) → low < ASCII_END → leb ASCII_END (b + (ASCII_END - low)) ≡ leb low b
raised low b h = go (leb low b) refl
  where
    go : (t : Bool) → leb low b ≡ t → leb ASCII_END (b + (ASCII_END - low)) ≡ t
    go true e = le-leb ASCII_END (b + (ASCII_END - low)) (omega (arith, h, leb-true low b e))
    go false e = lt-leb ASCII_END (b + (ASCII_END - low)) (omega (arith, h, leb-false low b e))

lowered : (high b : ℕ) → b < ASCII_END → leb ASCII_END (high + ASCII_END - b) ≡ leb b high
lowered high b h = go (leb b high) refl
  where
    go : (t : Bool) → leb b high ≡ t → leb ASCII_END (high + ASCII_END - b) ≡ t
    go true e = le-leb ASCII_END (high + ASCII_END - b) (omega (arith, h, leb-true b high e))
    go false e = lt-leb ASCII_END (high + ASCII_END - b) (omega (arith, h, leb-false b high e))

module _ (low high : ℕ) (l : low < ASCII_END) (k : high < ASCII_END) (bs : List ℕ) (n : length bs ≡ 8) (h : All (λ b. b < ASCII_END) bs) where
  abbrev up : List ℕ
  up = map (λ b. b + (ASCII_END - low)) bs

  abbrev down : List ℕ
  down = map (λ b. high + ASCII_END - b) bs

  above_word : word_of bs + (ASCII_END - low) * EACH ≡ word_of up
  above_word =
      let e : word_of (replicate (length bs) (ASCII_END - low)) ≡ (ASCII_END - low) * EACH = rw n (all_eight (ASCII_END - low)) in
      omega (arith, e, sum_lanes (ASCII_END - low) bs)

  below_word : (high + ASCII_END) * EACH - word_of bs ≡ word_of down
  below_word =
      let e : word_of (replicate (length bs) (high + ASCII_END)) ≡ (high + ASCII_END) * EACH = rw n (all_eight (high + ASCII_END)) in
      omega (arith, e, less_lanes (high + ASCII_END) bs (all_map bs (λ b q. omega (arith, q)) h))

  up_lane : (i : ℕ) → i < 8 → is_set (word_of up) (8 * i + 7) ≡ leb low (get_or bs i 0)
  up_lane i q =
      lane_bit up (map_all (λ b. b < 256) (λ b. b + (ASCII_END - low)) bs (all_map bs (λ b r. omega (arith, r)) h)) i (omega (arith, q, n, length_lanes (λ b. b + (ASCII_END - low)) bs))
      ∙ ap (leb ASCII_END) (map_at (λ b. b + (ASCII_END - low)) bs i (omega (arith, q, n))) ∙ raised low (get_or bs i 0) l

  down_lane : (i : ℕ) → i < 8 → is_set (word_of down) (8 * i + 7) ≡ leb (get_or bs i 0) high
  down_lane i q =
      lane_bit down (map_all (λ b. b < 256) (λ b. high + ASCII_END - b) bs (all_map bs (λ b r. omega (arith, r, k)) h)) i (omega (arith, q, n, length_lanes (λ b. high + ASCII_END - b) bs))
      ∙ ap (leb ASCII_END) (map_at (λ b. high + ASCII_END - b) bs i (omega (arith, q, n))) ∙ lowered high (get_or bs i 0) (all_at (λ b. b < ASCII_END) bs i h (omega (arith, q, n)))

  lanes : Between low high bs (bit_and (bit_and (word_of up) (word_of down)) HIGH_BITS)
  lanes = record {
    lane = λ i q.
        let j = 8 * i + 7 in
        bit-and (bit_and (word_of up) (word_of down)) HIGH_BITS j
        ∙ ap (λ (t : Bool). t && is_set HIGH_BITS j) (bit-and (word_of up) (word_of down) j)
        ∙ ap (λ (t : Bool). (is_set (word_of up) j && is_set (word_of down) j) && t) (mask_lane i q) ∙ and-true (is_set (word_of up) j && is_set (word_of down) j)
        ∙ ap (λ (t : Bool). t && is_set (word_of down) j) (up_lane i q) ∙ ap (λ (t : Bool). leb low (get_or bs i 0) && t) (down_lane i q)
        ∙ not_twice (leb low (get_or bs i 0) && leb (get_or bs i 0) high);
    only = λ t e. mask_only t (and_second (is_set (bit_and (word_of up) (word_of down)) t) (is_set HIGH_BITS t) (sym (bit-and (bit_and (word_of up) (word_of down)) HIGH_BITS t) ∙ e));
  }

pub between-bits : (low high word : ℕ) → low < ASCII_END → high < ASCII_END → BetweenOf low high word (bit_and (bit_and (word + (ASCII_END - low) * EACH) ((high + ASCII_END) * EACH - word)) HIGH_BITS)
between-bits low high word l k bs n h e =
    subst (λ (x : ℕ). Between low high bs (bit_and (bit_and (x + (ASCII_END - low) * EACH) ((high + ASCII_END) * EACH - x)) HIGH_BITS)) (sym e)
    (subst (λ (x : ℕ). Between low high bs (bit_and (bit_and x ((high + ASCII_END) * EACH - word_of bs)) HIGH_BITS)) (sym (above_word low high l k bs n h))
    (subst (λ (x : ℕ). Between low high bs (bit_and (bit_and (word_of (up low high l k bs n h)) x) HIGH_BITS)) (sym (below_word low high l k bs n h)) (lanes low high l k bs n h)))

-- ---- the first of them

not_no : (t : Bool) → false ≡ not t → t ≡ true
not_no true e = refl
not_no false e = e

not_yes : (t : Bool) → true ≡ not t → t ≡ false
not_yes true e = absurd (false≢true (sym e))
not_yes false e = refl

module _ (low high : ℕ) (bs : List ℕ) (n : length bs ≡ 8) (bits : ℕ) (b : Between low high bs bits) where
  pub none_between : bits ≡ 0 → 8 ≡ run (outside low high) bs
  none_between e =
      sym n ∙ run_full (outside low high) bs (λ j q. not_no _ (sym (bit-zero (8 * j + 7)) ∙ ap (λ (x : ℕ). is_set x (8 * j + 7)) (sym e) ∙ b.lane j (omega (arith, q, n))))

  pub first-between : bits < 2 ^ 64 → bits ≢ 0 → count_trailing_zeros 64 bits / 8 ≡ run (outside low high) bs
  first-between s z =
      let f = lowest 64 bits s z in
      let t = count_trailing_zeros 64 bits in
      let m : t % 8 ≡ 7 = b.only t f.at in
      let w : t < 64 = bit_below bits 64 t s f.at in
      let e : 8 * (t / 8) + 7 ≡ t = omega (arith, m) in
      run_at (outside low high) bs (t / 8) (omega (arith, w, n)) (λ j q. not_no _ (sym (f.below (8 * j + 7) (omega (arith, q, m))) ∙ b.lane j (omega (arith, q, w))))
      (not_yes _ (sym (ap (is_set bits) e ∙ f.at) ∙ b.lane (t / 8) (omega (arith, w))))

-- of a text, from a place on
module _ (t : List ℕ) (s : ℕ) (room : s + 8 ≤ length t) (small : (i : ℕ) → get_or t i 0 < 256) (word : ℕ) (w : word ≡ eight_at t s) (e : bit_and word HIGH_BITS ≡ 0) where
  abbrev bytes : List ℕ
  bytes = stretch t s 8

  word-is : word ≡ word_of bytes
  word-is = w ∙ eight_word t s room

  all_small : All (λ b. b < ASCII_END) bytes
  all_small =
      below_half bytes (length-stretch t s 8 room)
      (all_lanes (λ b. b < 256) bytes (λ i l. subst (λ (x : ℕ). x < 256) (sym (get_or-stretch t s 8 i (omega (arith, l, length-stretch t s 8 room)))) (small (s + i))))
      (ap (λ (x : ℕ). bit_and x HIGH_BITS) (sym word-is) ∙ e)

  pub word_small : word ≤ LOW_BITS
  word_small = omega (arith, word-is, half_word bytes (length-stretch t s 8 room) all_small)

  module _ (low high bits : ℕ) (b : BetweenOf low high word bits) where
    pub none_here : bits ≡ 0 → 8 ≡ run (outside low high) bytes
    none_here = none_between low high bytes (length-stretch t s 8 room) bits (b bytes (length-stretch t s 8 room) all_small word-is)

    pub first_here : bits < 2 ^ 64 → bits ≢ 0 → count_trailing_zeros 64 bits / 8 ≡ run (outside low high) bytes
    first_here = first-between low high bytes (length-stretch t s 8 room) bits (b bytes (length-stretch t s 8 room) all_small word-is)

pub zeros_below : (bits : ℕ) → bits < 2 ^ 64 → bits ≢ 0 → count_trailing_zeros 64 bits < 64
zeros_below bits s z = bit_below bits 64 (count_trailing_zeros 64 bits) s (lowest 64 bits s z).at

-- ---- the loop over a text

module _ (p : ℕ → Bool) (t : List ℕ) (i end : ℕ) (h : i < end) where
  front : (n : ℕ) → run p (stretch t i n) ≡ min n (run p (drop i t))
  unfolding stretch
  front n = run_take p n (drop i t)

  pub stop_in : (n : ℕ) → n ≡ run p (stretch t i 8) → n < 8 → min (i + n) end ≡ i + run p (stretch t i (end - i))
  stop_in n e l = omega (arith, h, e, l, front 8, front (end - i))

  pub pass_eight : (n : ℕ) → n ≡ run p (stretch t i 8) → 8 ≤ n → min (i + 8) end + run p (stretch t (i + 8) (end - (i + 8))) ≡ i + run p (stretch t i (end - i))
  unfolding stretch
  pass_eight n e l =
      let o : 8 ≤ run p (drop i t) = omega (arith, e, l, front 8) in
      let q : run p (drop (i + 8) t) + 8 ≡ run p (drop i t) = omega (arith, o, run_past p 8 (drop i t) o, ap (run p) (drop-drop 8 i t)) in
      sums end (run p (drop i t)) (run p (drop (i + 8) t)) h q (front (end - i)) (run_take p (end - (i + 8)) (drop (i + 8) t))
    where
      sums : (e r r' : ℕ) {a b : ℕ} → i < e → r' + 8 ≡ r → a ≡ min (e - i) r → b ≡ min (e - (i + 8)) r' → min (i + 8) e + b ≡ i + a
      sums e r r' {a} {b} h q u v = go (ltb e (i + 8)) refl
        where
          go : (s : Bool) → ltb e (i + 8) ≡ s → min (i + 8) e + b ≡ i + a
          go true x = let y = ltb-true e (i + 8) x in omega (arith, y, h, q, u, v)
          go false x = let y = ltb-false e (i + 8) x in omega (arith, y, h, q, u, v)
