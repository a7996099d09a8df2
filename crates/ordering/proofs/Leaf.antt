-- What the scan of a word's members keeps: the entry of those before a place, and the bits from there on.
-- Assumes nothing.
use Prim.Native.Nat.{ℕ, suc, ◌+◌, ◌-◌, ◌*◌, ◌/◌, ◌%◌, ◌^◌, ◌≤◌, ◌<◌}
use mathlib.Core.Path.{◌≡◌, refl, sym, ap, subst, ◌∙◌}
use mathlib.Core.Logic.{◌⊎◌, inl, inr}
use mathlib.Core.Bool.{Bool, true, false}
use mathlib.Core.List.{List}
use native.Mathlib.Omega.{arith}
use native.Mathlib.Nat.{lt_of_lt_of_le}
use native.Mathlib.Numerals.{add-one}
use lib.Count.{count_trailing_zeros}
use lib.Dec.{ltb, eqb}
use lib.ListN.{get_or}
use lib.Pow.{pow_mono, shr_lt, shr-shr}
use borrow.Author.Tests.{ltb-true, ltb-false, eqb-true, eqb-false}
use Rattle.laws.specs.Digits.{is_set}
use Rattle.laws.proofs.Digits.{bit-zero, bit_shift, bit_below, Lowest, lowest}
use Rattle.laws.proofs.Tests.{clash}
use Rattle.readyset.specs.Sets.{member}
use Rattle.readyset.proofs.Levels.{member_at}
use Rattle.ordering.specs.Schedule.{key_at}
use Rattle.ordering.specs.Tree.{ahead, InWord, Winner}
use Rattle.ordering.proofs.Winners.{winner_none, winner_one, winner_same, winner_join, ahead_bound}

pub record Scanned (ready keys : List ℕ) (limit w best i rest : ℕ) : Type 0 where
  pub low : 64 * w ≤ i
  pub high : i ≤ 64 * w + 64
  pub inside : (i ≡ 64 * w) ⊎ (i ≤ limit)
  pub bits : (k : ℕ) → i ≤ k → k / 64 ≡ w → member ready k ≡ is_set rest (k - i)
  pub fits : rest < 2 ^ (64 * w + 64 - i)
  pub small : best ≤ limit
  pub winner : Winner (key_at keys) (InWord ready i w) best

module _ (ready keys : List ℕ) (limit w : ℕ) where
  pub scanned_start : get_or ready w 0 < 2 ^ 64 → Scanned ready keys limit w 0 (64 * w) (get_or ready w 0)
  scanned_start f =
      let e : 64 ≡ 64 * w + 64 - 64 * w = omega arith in
      record {
        low = omega arith;
        high = omega arith;
        inside = inl refl;
        bits = λ k a b. let c : k % 64 ≡ k - 64 * w = omega arith in member_at ready k w (k - 64 * w) b c;
        fits = subst (λ (m : ℕ). get_or ready w 0 < 2 ^ m) e f;
        small = omega arith;
        winner = winner_none (key_at keys) (InWord ready (64 * w) w) (λ k h. omega (arith, h.word, h.below));
      }

  module _ (best i rest : ℕ) (s : Scanned ready keys limit w best i rest) where
    word_fits : rest < 2 ^ 64
    word_fits = lt_of_lt_of_le s.fits (pow_mono {i = 64 * w + 64 - i} {j = 64} (omega (arith, s.low)))

    -- members from i on, up to the limit, there are none
    over : ((k : ℕ) → i ≤ k → k / 64 ≡ w → k < limit → member ready k ≡ false) → Winner (key_at keys) (InWord ready limit w) best
    over none = winner_same (key_at keys) (InWord ready i w) (InWord ready limit w) best (λ k h. up k h s.inside) (λ k h. down k h (ltb k i) refl) s.winner
      where
        up : (k : ℕ) → InWord ready i w k → (i ≡ 64 * w) ⊎ (i ≤ limit) → InWord ready limit w k
        up k h (inl e) = absurd (omega (arith, h.word, h.below))
        up k h (inr e) = record { here = h.here; word = h.word; below = omega (arith, h.below) }

        down : (k : ℕ) → InWord ready limit w k → (t : Bool) → ltb k i ≡ t → InWord ready i w k
        down k h true e = record { here = h.here; word = h.word; below = ltb-true k i e }
        down k h false e = absurd (clash h.here (none k (ltb-false k i e) h.word h.below))

    pub scanned_over : rest ≡ 0 → Winner (key_at keys) (InWord ready limit w) best
    scanned_over z = over (λ k a b c. s.bits k a b ∙ rw z (bit-zero (k - i)))

    module _ (some : rest ≡ 0 → ⊥) where
      abbrev t : ℕ
      t = count_trailing_zeros 64 rest

      low_bit : Lowest rest t
      low_bit = lowest 64 rest word_fits some

      pub bit-room : i + t < 64 * w + 64
      bit-room = omega (arith, s.high, bit_below rest (64 * w + 64 - i) t s.fits low_bit.at)

      gap : (k : ℕ) → i ≤ k → k / 64 ≡ w → k < i + t → member ready k ≡ false
      gap k a b c = s.bits k a b ∙ low_bit.below (k - i) (omega arith)

      pub scanned_limit : limit ≤ i + t → Winner (key_at keys) (InWord ready limit w) best
      scanned_limit h = over (λ k a b c. gap k a b (omega arith))

      in_word : (i + t) / 64 ≡ w
      in_word = omega (arith, bit-room, s.low)

      is_member : member ready (i + t) ≡ true
      is_member = s.bits (i + t) (omega arith) in_word ∙ ap (is_set rest) (back t) ∙ low_bit.at
        where
          back : (b : ℕ) → i + b - i ≡ b
          back b = omega arith

      next_rest : rest / 2 ^ t / 2 ≡ rest / 2 ^ (t + 1)
      next_rest = shr-shr rest t 1

      pub scanned_more : i + t < limit → Scanned ready keys limit w (ahead (key_at keys) best (i + t + 1)) (i + t + 1) (rest / 2 ^ t / 2)
      scanned_more h =
          record {
            low = omega (arith, s.low);
            high = omega (arith, bit-room);
            inside = inr (omega arith);
            bits = next_bits;
            fits = rw next_rest (shr_lt {n = rest} (64 * w + 64 - (i + t + 1)) (t + 1) (subst (λ (m : ℕ). rest < 2 ^ m) (span t bit-room) s.fits));
            small = ahead_bound (key_at keys) best (i + t + 1) limit s.small (omega arith);
            winner = subst (λ (e : ℕ). Winner (key_at keys) (InWord ready (i + t + 1) w) (ahead (key_at keys) best e)) (sym (add-one (i + t))) (winner_join (key_at keys) (InWord ready i w) (λ k. k ≡ i + t) (InWord ready (i + t + 1) w) best (suc (i + t)) split left right s.winner (winner_one (key_at keys) (i + t)));
          }
        where
          span : (b : ℕ) → i + b < 64 * w + 64 → 64 * w + 64 - i ≡ 64 * w + 64 - (i + b + 1) + (b + 1)
          span b l = omega arith

          next_bits : (k : ℕ) → i + t + 1 ≤ k → k / 64 ≡ w → member ready k ≡ is_set (rest / 2 ^ t / 2) (k - (i + t + 1))
          next_bits k a b =
              let e : t + 1 + (k - (i + t + 1)) ≡ k - i = omega arith in
              s.bits k (omega arith) b ∙ ap (is_set rest) (sym e) ∙ sym (bit_shift rest (t + 1) (k - (i + t + 1))) ∙ ap (λ (x : ℕ). is_set x (k - (i + t + 1))) (sym next_rest)

          split : (k : ℕ) → InWord ready (i + t + 1) w k → InWord ready i w k ⊎ (k ≡ i + t)
          split k g = fork (ltb k i) refl (eqb k (i + t)) refl
            where
              fork : (a : Bool) → ltb k i ≡ a → (b : Bool) → eqb k (i + t) ≡ b → InWord ready i w k ⊎ (k ≡ i + t)
              fork true e b f = inl (record { here = g.here; word = g.word; below = ltb-true k i e })
              fork false e true f = inr (eqb-true k (i + t) f)
              fork false e false f = absurd (clash g.here (gap k (ltb-false k i e) g.word (omega (arith, g.below, eqb-false k (i + t) f))))

          left : (k : ℕ) → InWord ready i w k → InWord ready (i + t + 1) w k
          left k g = record { here = g.here; word = g.word; below = omega (arith, g.below) }

          right : (k : ℕ) → k ≡ i + t → InWord ready (i + t + 1) w k
          right k e = subst (InWord ready (i + t + 1) w) (sym e) (record { here = is_member; word = in_word; below = omega arith })
