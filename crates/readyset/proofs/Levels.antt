-- A set in words and the summaries above them: where the next member is, and what a changed word changes.
-- Assumes nothing.
use Prim.Native.Nat.{ℕ, ◌+◌, ◌-◌, ◌*◌, ◌/◌, ◌%◌, ◌^◌, ◌≤◌, ◌<◌}
use mathlib.Core.Path.{◌≡◌, refl, sym, ap, ap₂, ◌∙◌}
use mathlib.Core.Logic.{◌≢◌}
use mathlib.Core.Bool.{Bool, true, false, not, beq, false≢true, true≢false}
use mathlib.Core.List.{List}
use native.Mathlib.Omega.{arith}
use lib.Dec.{eqb, ltb}
use lib.ListN.{length, get_or, set, drop, take, length-set, length-drop}
use lib.Seq.{get_or-set_same, get_or-set_other, get_or-drop, drop-set-lt}
use lib.Pow.{shr_le}
use borrow.Rule.Slice.PartMut.{put_mid, mid_of}
use lib.Count.{count_trailing_zeros}
use borrow.Author.Tests.{eqb-true, eqb-false, eq-eqb, ne_eqb, ltb-true, ltb-false}
use Rattle.std.proofs.lemmas.List.{take_rest}
use Rattle.laws.specs.Digits.{is_set, Turned, updated}
use Rattle.laws.proofs.Digits.{bit-zero, bit_shift, bit_below, Lowest, lowest, on_some, off_some}
use Rattle.laws.proofs.Parts.{put_rest, put_words}
use Rattle.std.specs.Bool.{then_some}
use Rattle.readyset.specs.Sets.{member, Summary, Levels, single, level, First, FirstIs, Marked}

module _ {area : List ℕ} {n : ℕ} (big : 64 ≤ n) where
  pub levels_summary : Levels area n → Summary area n
  levels_summary (single h) = absurd (omega arith)
  levels_summary (level h s r) = s

  pub levels_rest : Levels area n → Levels (drop (n / 64 + 1) area) (n / 64 + 1)
  levels_rest (single h) = absurd (omega arith)
  levels_rest (level h s r) = r

-- ---- a member at a bit of its word

pub member_at : (area : List ℕ) (j w b : ℕ) → j / 64 ≡ w → j % 64 ≡ b → member area j ≡ is_set (get_or area w 0) b
unfolding member
member_at area j w b e f = rw (e, f)

pub member-none : (area : List ℕ) (j : ℕ) → get_or area (j / 64) 0 ≡ 0 → member area j ≡ false
unfolding member
member-none area j e = rw e (bit-zero (j % 64))

pub zero-none : (area : List ℕ) (n w : ℕ) → Summary area n → w < n / 64 + 1 → member (drop (n / 64 + 1) area) w ≡ false → get_or area w 0 ≡ 0
zero-none area n w s h e = go (eqb (get_or area w 0) 0) refl (sym (s w h) ∙ e)
  where
    go : (t : Bool) → eqb (get_or area w 0) 0 ≡ t → not (eqb (get_or area w 0) 0) ≡ false → get_or area w 0 ≡ 0
    go true q z = eqb-true (get_or area w 0) 0 q
    go false q z = absurd (true≢false (rw q at z))

pub some-not-zero : (area : List ℕ) (n w : ℕ) → Summary area n → w < n / 64 + 1 → member (drop (n / 64 + 1) area) w ≡ true → get_or area w 0 ≢ 0
some-not-zero area n w s h e z = false≢true (ap not (sym (eq-eqb (get_or area w 0) 0 z)) ∙ sym (s w h) ∙ e)

-- ---- the next member

module _ (area : List ℕ) (n k : ℕ) where
  -- k's own word from k's bit on
  abbrev onwards : ℕ
  onwards = get_or area (k / 64) 0 / 2 ^ (k % 64)

  pub member_onwards : (j : ℕ) → k ≤ j → j / 64 ≡ k / 64 → member area j ≡ is_set onwards (j - k)
  member_onwards j h e =
      let f : k % 64 + (j - k) ≡ j % 64 = omega arith in
      member_at area j (k / 64) (j % 64) e refl ∙ ap (is_set (get_or area (k / 64) 0)) (sym f) ∙ sym (bit_shift (get_or area (k / 64) 0) (k % 64) (j - k))

  module _ (fits : get_or area (k / 64) 0 < 2 ^ 64) (some : onwards ≢ 0) where
    low : Lowest onwards (count_trailing_zeros 64 onwards)
    low = lowest 64 onwards (omega (arith, shr_le (get_or area (k / 64) 0) (k % 64))) some

    pub first-room : k % 64 + count_trailing_zeros 64 onwards < 64
    first-room = bit_below (get_or area (k / 64) 0) 64 _ fits (sym (bit_shift (get_or area (k / 64) 0) (k % 64) (count_trailing_zeros 64 onwards)) ∙ low.at)

    pub first_here : First (member area) k n (k + count_trailing_zeros 64 onwards)
    first_here =
        record {
          from = omega arith;
          none = λ j a b c. member_onwards j a (omega (arith, first-room)) ∙ low.below (j - k) (omega arith);
          here = λ z. member_onwards (k + count_trailing_zeros 64 onwards) (omega arith) (omega (arith, first-room)) ∙ ap (is_set onwards) (back (count_trailing_zeros 64 onwards)) ∙ low.at;
        }
      where
        back : (t : ℕ) → k + t - k ≡ t
        back t = omega arith

  -- k's own word has none
  module _ (none : onwards ≡ 0) where
    pub first_single : k ≤ n → n < 64 → First (member area) k n n
    first_single h l =
        record {
          from = h;
          none = λ j a b c. member_onwards j a (omega arith) ∙ rw none (bit-zero (j - k));
          here = λ z. absurd (omega arith);
        }

    module _ (below : k < n) (big : 64 ≤ n) (levels : Levels area n) (found : ℕ) (first : First (member (drop (n / 64 + 1) area)) (k / 64 + 1) (n / 64 + 1) found) where
      -- what lies before the word that was found
      before : (j : ℕ) → k ≤ j → j < n → j / 64 < found → member area j ≡ false
      before j a b c = go (eqb (j / 64) (k / 64)) refl
        where
          go : (t : Bool) → eqb (j / 64) (k / 64) ≡ t → member area j ≡ false
          go true e = member_onwards j a (eqb-true (j / 64) (k / 64) e) ∙ rw none (bit-zero (j - k))
          go false e =
              let u : (j / 64 ≡ k / 64) → ⊥ = eqb-false (j / 64) (k / 64) e in
              member-none area j (zero-none area n (j / 64) (levels_summary big levels) (omega arith) (first.none (j / 64) (omega (arith, u)) c (omega arith)))

      pub first_past : n / 64 + 1 ≤ found → First (member area) k n n
      first_past h = record { from = omega arith; none = λ j a b c. before j a c (omega arith); here = λ z. absurd (omega arith) }

      module _ (near : found < n / 64 + 1) (fits : get_or area found 0 < 2 ^ 64) where
        word : Lowest (get_or area found 0) (count_trailing_zeros 64 (get_or area found 0))
        word = lowest 64 (get_or area found 0) fits (some-not-zero area n found (levels_summary big levels) near (first.here near))

        pub found_room : count_trailing_zeros 64 (get_or area found 0) < 64
        found_room = bit_below (get_or area found 0) 64 _ fits word.at

        pub first_found : First (member area) k n (64 * found + count_trailing_zeros 64 (get_or area found 0))
        first_found =
            record {
              from = omega (arith, first.from);
              none = λ j a b c. split j a b c (eqb (j / 64) found) refl;
              here = λ z. member_at area _ found (count_trailing_zeros 64 (get_or area found 0)) (omega (arith, found_room)) (omega (arith, found_room)) ∙ word.at;
            }
          where
            split : (j : ℕ) → k ≤ j → j < 64 * found + count_trailing_zeros 64 (get_or area found 0) → j < n → (t : Bool) → eqb (j / 64) found ≡ t → member area j ≡ false
            split j a b c true e =
                let q : j / 64 ≡ found = eqb-true (j / 64) found e in
                member_at area j found (j % 64) q refl ∙ word.below (j % 64) (omega arith)
            split j a b c false e = before j a c (omega (arith, eqb-false (j / 64) found e, found_room))

-- one past n is none
pub first_beyond : (p : ℕ → Bool) (k n x : ℕ) → k ≤ n → n ≤ x → First p k n x → First p k n n
first_beyond p k n x l f h = record { from = l; none = λ j a b c. h.none j a (omega arith) c; here = λ z. absurd (omega arith) }

-- what is tested of it to be below n
pub first_or : (p : ℕ → Bool) (k n x : ℕ) → k ≤ n → First p k n x → FirstIs p k n (then_some (ltb x n) x)
first_or p k n x l h = go (ltb x n) refl
  where
    go : (t : Bool) → ltb x n ≡ t → FirstIs p k n (then_some t x)
    go true e = (ltb-true x n e, h)
    go false e = first_beyond p k n x l (ltb-false x n e) h

-- ---- a word of a set that is changed

-- after is area with v for word w, as far as the first m words go
pub record Wrote (area : List ℕ) (m w v : ℕ) (after : List ℕ) : Type 0 where
  pub at : get_or after w 0 ≡ v
  pub off : (i : ℕ) → i < m → i ≢ w → get_or after i 0 ≡ get_or area i 0

pub wrote_set : (area : List ℕ) (m w v : ℕ) → w < length area → Wrote area m w v (set area w v)
wrote_set area m w v h = record { at = get_or-set_same area w v 0 h; off = λ i l n. get_or-set_other area w i v 0 n }

keeps : (up t : Bool) → updated up t false ≡ t
keeps true true = refl
keeps true false = refl
keeps false true = refl
keeps false false = refl

-- the members after a word was changed: outside the word those before, inside its bits
pub members_by : (area after : List ℕ) (n k v : ℕ) (up : Bool) → Turned up (get_or area (k / 64) 0) (k % 64) v → Wrote area (n / 64 + 1) (k / 64) v after → (j : ℕ) → j < n → member after j ≡ updated up (member area j) (eqb j k)
members_by area after n k v up bits wrote j h = go (eqb (j / 64) (k / 64)) refl
  where
    same : j / 64 ≡ k / 64 → (t : Bool) → eqb (j % 64) (k % 64) ≡ t → eqb j k ≡ t
    same e true q = eq-eqb j k (omega (arith, eqb-true (j % 64) (k % 64) q))
    same e false q = ne_eqb j k (λ z. eqb-false (j % 64) (k % 64) q (ap (λ (i : ℕ). i % 64) z))

    go : (t : Bool) → eqb (j / 64) (k / 64) ≡ t → member after j ≡ updated up (member area j) (eqb j k)
    go true e =
        let q : j / 64 ≡ k / 64 = eqb-true (j / 64) (k / 64) e in
        member_at after j (k / 64) (j % 64) q refl ∙ ap (λ (x : ℕ). is_set x (j % 64)) wrote.at ∙ bits (j % 64) ∙ ap₂ (updated up) (sym (member_at area j (k / 64) (j % 64) q refl)) (sym (same q (eqb (j % 64) (k % 64)) refl))
    go false e =
        let u : j / 64 ≢ k / 64 = eqb-false (j / 64) (k / 64) e in
        let d : eqb j k ≡ false = ne_eqb j k (λ z. u (ap (λ (i : ℕ). i / 64) z)) in
        member_at after j (j / 64) (j % 64) refl refl ∙ ap (λ (x : ℕ). is_set x (j % 64)) (wrote.off (j / 64) (omega arith) u) ∙ sym (member_at area j (j / 64) (j % 64) refl refl) ∙ sym (rw d (keeps up (member area j)))

pub rest_room : (n : ℕ) (l : List ℕ) → 64 ≤ n → n ≤ length l → n / 64 + 1 ≤ length (take (length l - (n / 64 + 1)) (drop (n / 64 + 1) l))
rest_room n l big h = rw (take_rest l (n / 64 + 1)) (omega (arith, length-drop (n / 64 + 1) l))

pub rest_levels : (n : ℕ) (l : List ℕ) → 64 ≤ n → Levels l n → Levels (take (length l - (n / 64 + 1)) (drop (n / 64 + 1) l)) (n / 64 + 1)
rest_levels n l big t = rw (take_rest l (n / 64 + 1)) (levels_rest big t)

module _ (area : List ℕ) (n k v : ℕ) (room : n ≤ length area) (below : k < n) (levels : Levels area n) where
  rest_same : drop (n / 64 + 1) (set area (k / 64) v) ≡ drop (n / 64 + 1) area
  rest_same = drop-set-lt (n / 64 + 1) area (k / 64) v (omega arith)

  module _ (big : 64 ≤ n) where
    pub part_room : n / 64 + 1 ≤ length (take (length (set area (k / 64) v) - (n / 64 + 1)) (drop (n / 64 + 1) (set area (k / 64) v)))
    part_room = rest_room n (set area (k / 64) v) big (omega (arith, length-set area (k / 64) v))

    pub part_levels : Levels (take (length (set area (k / 64) v) - (n / 64 + 1)) (drop (n / 64 + 1) (set area (k / 64) v))) (n / 64 + 1)
    part_levels = rw (take_rest (set area (k / 64) v) (n / 64 + 1), rest_same) (levels_rest big levels)

module _ (up : Bool) (area : List ℕ) (n k v : ℕ) (room : n ≤ length area) (below : k < n) (levels : Levels area n) (bits : Turned up (get_or area (k / 64) 0) (k % 64) v) where
  wrote : Wrote area (n / 64 + 1) (k / 64) v (set area (k / 64) v)
  wrote = wrote_set area (n / 64 + 1) (k / 64) v (omega arith)

  past : (i : ℕ) → 2 * (n / 64 + 1) ≤ i → get_or (set area (k / 64) v) i 0 ≡ get_or area i 0
  past i h = get_or-set_other area (k / 64) i v 0 (omega arith)

  pub mark_single : n < 64 → Marked up area n k (set area (k / 64) v)
  mark_single h = record { levels = single h; members = members_by area (set area (k / 64) v) n k v up bits wrote; beyond = past }

  pub mark_same : eqb v 0 ≡ eqb (get_or area (k / 64) 0) 0 → Marked up area n k (set area (k / 64) v)
  mark_same e = record { levels = go (ltb n 64) refl; members = members_by area (set area (k / 64) v) n k v up bits wrote; beyond = past }
    where
      summary : Summary area n → (w : ℕ) → w < n / 64 + 1 → (t : Bool) → eqb w (k / 64) ≡ t → member (drop (n / 64 + 1) (set area (k / 64) v)) w ≡ not (eqb (get_or (set area (k / 64) v) w 0) 0)
      summary s w h true q =
          let z : w ≡ k / 64 = eqb-true w (k / 64) q in
          rw (rest_same area n k v room below levels) (s w h ∙ ap (λ (i : ℕ). not (eqb (get_or area i 0) 0)) z ∙ sym (ap (λ (i : ℕ). not (eqb (get_or (set area (k / 64) v) i 0) 0)) z ∙ ap (λ (x : ℕ). not (eqb x 0)) wrote.at ∙ ap not e))
      summary s w h false q = rw (rest_same area n k v room below levels) (s w h ∙ sym (ap (λ (x : ℕ). not (eqb x 0)) (wrote.off w h (eqb-false w (k / 64) q))))

      go : (t : Bool) → ltb n 64 ≡ t → Levels (set area (k / 64) v) n
      go true q = single (ltb-true n 64 q)
      go false q =
          let big : 64 ≤ n = ltb-false n 64 q in
          level big (λ w h. summary (levels_summary big levels) w h (eqb w (k / 64)) refl) (rw (rest_same area n k v room below levels) (levels_rest big levels))

  -- the summary was changed too
  module _ (big : 64 ≤ n) (part : List ℕ) (by : Marked up (take (length (set area (k / 64) v) - (n / 64 + 1)) (drop (n / 64 + 1) (set area (k / 64) v))) (n / 64 + 1) (k / 64) part) (flips : updated up (not (eqb (get_or area (k / 64) 0) 0)) true ≡ not (eqb v 0)) where
    abbrev after : List ℕ
    after = put_mid (n / 64 + 1) (length (set area (k / 64) v) - (n / 64 + 1)) (set area (k / 64) v) part

    size : n / 64 + 1 ≤ length (set area (k / 64) v)
    size = omega (arith, length-set area (k / 64) v)

    rest_after : drop (n / 64 + 1) after ≡ part
    rest_after = put_rest (n / 64 + 1) (set area (k / 64) v) part size

    words-after : (i : ℕ) → i < n / 64 + 1 → get_or after i 0 ≡ get_or (set area (k / 64) v) i 0
    words-after = put_words (n / 64 + 1) (set area (k / 64) v) part size

    wrote_after : Wrote area (n / 64 + 1) (k / 64) v after
    wrote_after = record { at = words-after (k / 64) (omega arith) ∙ wrote.at; off = λ i h u. words-after i h ∙ wrote.off i h u }

    rest_members : (j : ℕ) → j < n / 64 + 1 → member part j ≡ updated up (member (drop (n / 64 + 1) area) j) (eqb j (k / 64))
    rest_members = rw (take_rest (set area (k / 64) v) (n / 64 + 1), rest_same area n k v room below levels) at by.members

    summary_after : (w : ℕ) → w < n / 64 + 1 → (t : Bool) → eqb w (k / 64) ≡ t → member part w ≡ not (eqb (get_or after w 0) 0)
    summary_after w h true q =
        let z : w ≡ k / 64 = eqb-true w (k / 64) q in
        rest_members w h ∙ ap₂ (updated up) (levels_summary big levels w h ∙ ap (λ (i : ℕ). not (eqb (get_or area i 0) 0)) z) q ∙ flips ∙ sym (ap (λ (i : ℕ). not (eqb (get_or after i 0) 0)) z ∙ ap (λ (x : ℕ). not (eqb x 0)) wrote_after.at)
    summary_after w h false q =
        rest_members w h ∙ ap (updated up (member (drop (n / 64 + 1) area) w)) q ∙ keeps up _ ∙ levels_summary big levels w h ∙ sym (ap (λ (x : ℕ). not (eqb x 0)) (wrote_after.off w h (eqb-false w (k / 64) q)))

    past_after : (i : ℕ) → 2 * (n / 64 + 1) ≤ i → get_or after i 0 ≡ get_or area i 0
    past_after i h =
        let e : n / 64 + 1 + (i - (n / 64 + 1)) ≡ i = omega arith in
        at_rest after i e ∙ ap (λ (l : List ℕ). get_or l (i - (n / 64 + 1)) 0) rest_after ∙ by.beyond (i - (n / 64 + 1)) (omega arith)
        ∙ ap (λ (l : List ℕ). get_or l (i - (n / 64 + 1)) 0) (take_rest (set area (k / 64) v) (n / 64 + 1) ∙ rest_same area n k v room below levels) ∙ sym (at_rest area i e)
      where
        at_rest : (l : List ℕ) (i : ℕ) → n / 64 + 1 + (i - (n / 64 + 1)) ≡ i → get_or l i 0 ≡ get_or (drop (n / 64 + 1) l) (i - (n / 64 + 1)) 0
        at_rest l i e = sym (get_or-drop (n / 64 + 1) l (i - (n / 64 + 1)) 0 ∙ ap (λ (j : ℕ). get_or l j 0) e)

    mark_deep : Marked up area n k after
    mark_deep =
        record {
          levels = level {area = after} big (λ w h. rw rest_after (summary_after w h (eqb w (k / 64)) refl)) (rw rest_after by.levels);
          members = members_by area after n k v up bits wrote_after;
          beyond = past_after;
        }

-- ---- whether the summary changes: where the word was 0 and is not, or the other way round

pub same_test : (s t : Bool) → beq s t ≡ true → t ≡ s
same_test true true e = refl
same_test false false e = refl
same_test true false e = absurd (false≢true e)
same_test false true e = absurd (false≢true e)

pub other_test : (s t : Bool) → beq s t ≡ false → t ≢ s
other_test s t e q = absurd (false≢true (sym e ∙ ap (beq s) q ∙ itself s))
  where
    itself : (s : Bool) → beq s s ≡ true
    itself true = refl
    itself false = refl

flips_by : (up : Bool) (x b v : ℕ) → Turned up x b v → eqb v 0 ≢ eqb x 0 → updated up (not (eqb x 0)) true ≡ not (eqb v 0)
flips_by up x b v t n = go up t (eqb x 0) (eqb v 0) refl refl n
  where
    go : (up : Bool) → Turned up x b v → (s w : Bool) → eqb x 0 ≡ s → eqb v 0 ≡ w → w ≢ s → updated up (not s) true ≡ not w
    go up t true true e f n = absurd (n refl)
    go up t false false e f n = absurd (n refl)
    go true t true false e f n = refl
    go false t false true e f n = refl
    go true t false true e f n = absurd (on_some x b v t (eqb-true v 0 f))
    go false t true false e f n = absurd (off_some x b v t (eqb-false v 0 f) (eqb-true x 0 e))

module _ (up : Bool) (area : List ℕ) (n k v : ℕ) (room : n ≤ length area) (below : k < n) (levels : Levels area n) (bits : Turned up (get_or area (k / 64) 0) (k % 64) v) where
  pub mark_rest : 64 ≤ n → (part : List ℕ) → Marked up (mid_of (n / 64 + 1) (length (set area (k / 64) v) - (n / 64 + 1)) (set area (k / 64) v)) (n / 64 + 1) (k / 64) part → eqb v 0 ≢ eqb (get_or area (k / 64) 0) 0 → Marked up area n k (put_mid (n / 64 + 1) (length (set area (k / 64) v) - (n / 64 + 1)) (set area (k / 64) v) part)
  mark_rest big part by h = mark_deep up area n k v room below levels bits big part by (flips_by up (get_or area (k / 64) 0) (k % 64) v bits h)
