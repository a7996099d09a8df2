-- Where the last member below a number is.
-- Assumes nothing.
use Prim.Native.Nat.{ℕ, zero, suc, ◌+◌, ◌-◌, ◌*◌, ◌/◌, ◌%◌, ◌^◌, ◌≤◌, ◌<◌}
use mathlib.Core.Path.{◌≡◌, refl, sym, ap, ◌∙◌}
use mathlib.Core.Logic.{◌≢◌}
use mathlib.Core.Bool.{Bool, true, false, ◌&&◌}
use mathlib.Core.List.{List}
use native.Mathlib.Omega.{arith}
use lib.Bits.{bit_and}
use lib.Count.{count_leading_zeros, leading_top}
use lib.Dec.{eqb}
use lib.ListN.{get_or, drop}
use lib.Pow.{pow_pos, high, ones_lt}
use native.Mathlib.Nat.{pow-suc}
use borrow.Author.Tests.{eqb-true, eqb-false}
use Rattle.std.proofs.Math.Bool.{and-true}
use Rattle.std.proofs.lemmas.Bool.{and_parts, false_from_ne_true}
use Rattle.laws.specs.Digits.{is_set}
use Rattle.laws.proofs.Rows.{shifted_one}
use Rattle.laws.proofs.Digits.{bit-zero, bit-suc, bit_below, bit-and}
use Rattle.readyset.specs.Sets.{member, Levels, Last}
use Rattle.readyset.proofs.Levels.{levels_summary, member_at, member-none, zero-none, some-not-zero}

-- the highest bit that is 1
record Highest (x t : ℕ) : Type 0 where
  pub small : t < 64
  pub at : is_set x t ≡ true
  pub above : (b : ℕ) → t < b → is_set x b ≡ false

highest : (x : ℕ) → x < 2 ^ 64 → x ≢ 0 → Highest x (63 - count_leading_zeros 64 x)
unfolding is_set
highest x f n =
    let t = leading_top 64 x (omega arith) f in
    let e : 63 - count_leading_zeros 64 x ≡ t.0 = omega (arith, t.1) in
    rw e (record { small = omega (arith, t.1); at = top t.0 t.2 t.3; above = λ b h. false_from_ne_true (is_set x b) (λ q. omega (arith, bit_below x (suc t.0) b t.3 q)) })
  where
    top : (j : ℕ) → 2 ^ j ≤ x → x < 2 ^ suc j → is_set x j ≡ true
    top j l h =
        let p : 2 ^ suc j ≡ 2 ^ j * 2 = pow-suc 2 j in
        let lo : x - 2 ^ j < 2 ^ j = omega arith in
        let z : 1 * 2 ^ j + (x - 2 ^ j) ≡ x = omega arith in
        let q : x / 2 ^ j ≡ 1 = ap (λ (y : ℕ). y / 2 ^ j) (sym z) ∙ high 1 j lo in
        rw q

-- so at least one bit in 64 is no leading zero
pub leading_room : (x : ℕ) → x < 2 ^ 64 → x ≢ 0 → count_leading_zeros 64 x ≤ 63
leading_room x f n = let t = leading_top 64 x (omega arith) f in omega (arith, t.1)

-- the ones below a bit
ones : (s b : ℕ) → b < s → is_set (2 ^ s - 1) b ≡ true
unfolding is_set
ones zero b h = absurd (omega arith)
ones (suc s) zero h = let q : (2 ^ suc s - 1) / 2 ^ 0 % 2 ≡ 1 = omega (arith, pow-suc 2 s, pow_pos s) in rw q
ones (suc s) (suc b) h =
    let q : (2 ^ suc s - 1) / 2 ≡ 2 ^ s - 1 = omega (arith, pow-suc 2 s, pow_pos s) in
    bit-suc (2 ^ suc s - 1) b ∙ rw q (ones s b (omega arith))

module _ (area : List ℕ) (k : ℕ) where
  -- k's own word below k's bit
  abbrev pub before : ℕ
  before = bit_and (get_or area (k / 64) 0) (1 * 2 ^ (k % 64) % 18446744073709551616 - 1)

  bits : (b : ℕ) → is_set before b ≡ is_set (get_or area (k / 64) 0) b && is_set (2 ^ (k % 64) - 1) b
  bits b = bit-and (get_or area (k / 64) 0) (1 * 2 ^ (k % 64) % 18446744073709551616 - 1) b ∙ ap (λ (m : ℕ). is_set (get_or area (k / 64) 0) b && is_set (m - 1) b) (shifted_one 64 (k % 64) (omega arith))

  low_bit : (b : ℕ) → b < k % 64 → is_set before b ≡ is_set (get_or area (k / 64) 0) b
  low_bit b h = bits b ∙ ap (λ (t : Bool). is_set (get_or area (k / 64) 0) b && t) (ones (k % 64) b h) ∙ and-true _

  set-low : (b : ℕ) → is_set before b ≡ true → b < k % 64
  set-low b h = bit_below (2 ^ (k % 64) - 1) (k % 64) b (ones_lt (k % 64)) (and_parts (is_set (get_or area (k / 64) 0) b) (is_set (2 ^ (k % 64) - 1) b) (sym (bits b) ∙ h)).1

  module _ (fits : before < 2 ^ 64) (some : before ≢ 0) where
    pub last_here : Last (member area) k (suc (64 * (k / 64) + (63 - count_leading_zeros 64 before)))
    last_here =
        let t = highest before fits some in
        let r : 63 - count_leading_zeros 64 before < k % 64 = set-low (63 - count_leading_zeros 64 before) t.at in
        record {
          upto = omega arith;
          none = λ j a b. let l : j - 64 * (k / 64) < k % 64 = omega arith in member_at area j (k / 64) (j - 64 * (k / 64)) (omega arith) (omega arith) ∙ sym (low_bit (j - 64 * (k / 64)) l) ∙ t.above (j - 64 * (k / 64)) (omega arith);
          here = λ x e. let q : 63 - count_leading_zeros 64 before ≡ x - 64 * (k / 64) = omega arith in member_at area x (k / 64) (x - 64 * (k / 64)) (omega arith) (omega arith) ∙ sym (low_bit (x - 64 * (k / 64)) (omega arith)) ∙ ap (is_set before) (sym q) ∙ t.at;
        }

  -- k's own word has none
  module _ (none : before ≡ 0) where
    own : (j : ℕ) → j / 64 ≡ k / 64 → j < k → member area j ≡ false
    own j e h = member_at area j (k / 64) (j % 64) e refl ∙ sym (low_bit (j % 64) (omega arith)) ∙ rw none (bit-zero (j % 64))

    pub last_single : (n : ℕ) → k ≤ n → n < 64 → Last (member area) k 0
    last_single n a b = record { upto = omega arith; none = λ j c d. own j (omega arith) d; here = λ x e. absurd (omega arith) }

    module _ (n : ℕ) (below : k ≤ n) (big : 64 ≤ n) (levels : Levels area n) where
      -- the words after those with a member
      later : (end : ℕ) → Last (member (drop (n / 64 + 1) area)) (k / 64) end → (j : ℕ) → j < k → end ≤ j / 64 → member area j ≡ false
      later end last j h l = go (eqb (j / 64) (k / 64)) refl
        where
          go : (t : Bool) → eqb (j / 64) (k / 64) ≡ t → member area j ≡ false
          go true e = own j (eqb-true (j / 64) (k / 64) e) h
          go false e =
              let u : j / 64 ≢ k / 64 = eqb-false (j / 64) (k / 64) e in
              member-none area j (zero-none area n (j / 64) (levels_summary big levels) (omega arith) (last.none (j / 64) l (omega (arith, u))))

      pub last_none : Last (member (drop (n / 64 + 1) area)) (k / 64) 0 → Last (member area) k 0
      last_none last = record { upto = omega arith; none = λ j a b. later 0 last j b (omega arith); here = λ x e. absurd (omega arith) }

      module _ (found : ℕ) (last : Last (member (drop (n / 64 + 1) area)) (k / 64) (suc found)) (fits : get_or area found 0 < 2 ^ 64) where
        pub some_there : get_or area found 0 ≢ 0
        some_there = some-not-zero area n found (levels_summary big levels) (omega (arith, last.upto)) (last.here found refl)

        word : Highest (get_or area found 0) (63 - count_leading_zeros 64 (get_or area found 0))
        word = highest (get_or area found 0) fits some_there

        pub last_found : Last (member area) k (suc (64 * found + (63 - count_leading_zeros 64 (get_or area found 0))))
        last_found =
            record {
              upto = omega (arith, last.upto, word.small);
              none = λ j a b. split j a b (eqb (j / 64) found) refl;
              here = λ x e. let q : 63 - count_leading_zeros 64 (get_or area found 0) ≡ x - 64 * found = omega arith in member_at area x found (x - 64 * found) (omega (arith, word.small)) (omega (arith, word.small)) ∙ ap (is_set (get_or area found 0)) (sym q) ∙ word.at;
            }
          where
            split : (j : ℕ) → suc (64 * found + (63 - count_leading_zeros 64 (get_or area found 0))) ≤ j → j < k → (t : Bool) → eqb (j / 64) found ≡ t → member area j ≡ false
            split j a b true e =
                let q : j / 64 ≡ found = eqb-true (j / 64) found e in
                member_at area j found (j % 64) q refl ∙ word.above (j % 64) (omega arith)
            split j a b false e = let u : j / 64 ≢ found = eqb-false (j / 64) found e in later (suc found) last j b (omega (arith, u))
