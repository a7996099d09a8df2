-- Tables folded by a value, and what the least and the greatest entry say of the cell rule.
-- Assumes nothing.
use Rattle.std.proofs.Common.{ℕ, zero, suc, ◌+◌, ◌*◌, ◌/◌, ◌%◌, ◌-◌, ◌^◌, ◌<◌, ◌≤◌, ◌≡◌, min, max, cond, List, [], ◌∷◌, map, length, drop, get_or, refl, sym, ap, ap₂, ◌∙◌, arith, bit_and, add-one, length-drop, pow-suc}
use lib.Bits.{and_mask}
use lib.Dec.{eqb}
use borrow.Author.Tests.{ne_eqb}
use lib.Pow.{shr-shr, pow_mono}
use Rattle.std.proofs.lemmas.List.{map-append}
use Rattle.std.proofs.Math.Nat.{mod-eq_of_lt}
use lib.ListN.{drop_of_length-le}
use Rattle.std.specs.Int.RustNames.{bit_or}
use Rattle.std.proofs.lemmas.Nat.Bits.{bit_at_and, bit_at_or}
use Rattle.std.proofs.Math.Seq.{drop-cons}
use Rattle.cells.specs.Cells.{entry, fillings, agreed, cell_rule}
use Rattle.cells.proofs.Rule.{entry-bit}
use Rattle.cells.proofs.Fillings.{agreed-append, some_answer, both}
use Rattle.cells.specs.Folding.{least, most, Narrows}

-- an entry of a table moved down
moved : (t h j : ℕ) → entry (t / 2 ^ h) j ≡ entry t (h + j)
moved t h j = ap (λ (q : ℕ). q % 2) (shr-shr t h j)

-- ---- tables whose entries agree, from two places on

abbrev From : ℕ → ℕ → ℕ → ℕ → ℕ → Type 0
From t k u l n = (j : ℕ) → entry t (k * 2 ^ n + j) ≡ entry u (l * 2 ^ n + j)

twice : (k n : ℕ) → k * 2 ^ suc n ≡ 2 * (k * 2 ^ n)
twice k n = let e : 2 ^ suc n ≡ 2 ^ n * 2 = pow-suc 2 n in rw e (omega arith)

low : (t k u l n : ℕ) → From t k u l (suc n) → From t (2 * k) u (2 * l) n
low t k u l n h j =
    let p : 2 * k * 2 ^ n + j ≡ k * 2 ^ suc n + j = omega (arith, twice k n) in
    let q : 2 * l * 2 ^ n + j ≡ l * 2 ^ suc n + j = omega (arith, twice l n) in
    ap (entry t) p ∙ h j ∙ sym (ap (entry u) q)

high : (t k u l n : ℕ) → From t k u l (suc n) → From t (2 * k + 1) u (2 * l + 1) n
high t k u l n h j =
    let p : (2 * k + 1) * 2 ^ n + j ≡ k * 2 ^ suc n + (2 ^ n + j) = omega (arith, twice k n) in
    let q : (2 * l + 1) * 2 ^ n + j ≡ l * 2 ^ suc n + (2 ^ n + j) = omega (arith, twice l n) in
    ap (entry t) p ∙ h (2 ^ n + j) ∙ sym (ap (entry u) q)

end : (t k u l : ℕ) → From t k u l 0 → entry t k ≡ entry u l
end t k u l h = let p : k ≡ k * 2 ^ 0 + 0 = omega arith in let q : l ≡ l * 2 ^ 0 + 0 = omega arith in ap (entry t) p ∙ h 0 ∙ sym (ap (entry u) q)

least_same : (t k u l : ℕ) (vs : List ℕ) → From t k u l (length vs) → least t k vs ≡ least u l vs
unfolding least
least_same t k u l [] h = end t k u l h
least_same t k u l (zero ∷ vs) h = least_same t (2 * k) u (2 * l) vs (low t k u l (length vs) h)
least_same t k u l (suc zero ∷ vs) h = least_same t (2 * k + 1) u (2 * l + 1) vs (high t k u l (length vs) h)
least_same t k u l (suc (suc v) ∷ vs) h =
    ap₂ min (least_same t (2 * k) u (2 * l) vs (low t k u l (length vs) h)) (least_same t (2 * k + 1) u (2 * l + 1) vs (high t k u l (length vs) h))

most_same : (t k u l : ℕ) (vs : List ℕ) → From t k u l (length vs) → most t k vs ≡ most u l vs
unfolding most
most_same t k u l [] h = end t k u l h
most_same t k u l (zero ∷ vs) h = most_same t (2 * k) u (2 * l) vs (low t k u l (length vs) h)
most_same t k u l (suc zero ∷ vs) h = most_same t (2 * k + 1) u (2 * l + 1) vs (high t k u l (length vs) h)
most_same t k u l (suc (suc v) ∷ vs) h =
    ap₂ max (most_same t (2 * k) u (2 * l) vs (low t k u l (length vs) h)) (most_same t (2 * k + 1) u (2 * l + 1) vs (high t k u l (length vs) h))

-- ---- two tables put together

least_and : (t u k : ℕ) (vs : List ℕ) → least (bit_and t u) k vs ≡ min (least t k vs) (least u k vs)
unfolding least
least_and t u k [] = bit_at_and t u k
least_and t u k (zero ∷ vs) = least_and t u (2 * k) vs
least_and t u k (suc zero ∷ vs) = least_and t u (2 * k + 1) vs
least_and t u k (suc (suc v) ∷ vs) = ap₂ min (least_and t u (2 * k) vs) (least_and t u (2 * k + 1) vs) ∙ omega arith

most_or : (t u k : ℕ) (vs : List ℕ) → most (bit_or t u) k vs ≡ max (most t k vs) (most u k vs)
unfolding most
most_or t u k [] = bit_at_or t u k
most_or t u k (zero ∷ vs) = most_or t u (2 * k) vs
most_or t u k (suc zero ∷ vs) = most_or t u (2 * k + 1) vs
most_or t u k (suc (suc v) ∷ vs) = ap₂ max (most_or t u (2 * k) vs) (most_or t u (2 * k + 1) vs) ∙ omega arith

-- ---- a value

-- the upper half moved down
upper : (t h : ℕ) (vs : List ℕ) → h ≡ 2 ^ length vs → From (t / 2 ^ h) 0 t 1 (length vs)
upper t h vs e j = moved t h (0 * 2 ^ length vs + j) ∙ ap (entry t) (omega (arith, e))

module _ (t s h : ℕ) where
  pub narrows_low : (v : ℕ) → v ≡ 0 → Narrows t s v h t s
  unfolding least most
  narrows_low v e = rw e (record { least_kept = λ vs q. refl; most_kept = λ vs q. refl })

  pub narrows_high : (v : ℕ) → v ≡ 1 → Narrows t s v h (t / 2 ^ h) (s / 2 ^ h)
  unfolding least most
  narrows_high v e =
      rw e (record {
        least_kept = λ vs q. least_same (t / 2 ^ h) 0 t 1 vs (upper t h vs q);
        most_kept = λ vs q. most_same (s / 2 ^ h) 0 s 1 vs (upper s h vs q);
      })

  pub narrows_both : (v : ℕ) → (v ≡ 0 → ⊥) → (v ≡ 1 → ⊥) → Narrows t s v h (bit_and t (t / 2 ^ h)) (bit_or s (s / 2 ^ h))
  unfolding least most
  narrows_both zero p r = absurd (p refl)
  narrows_both (suc zero) p r = absurd (r refl)
  narrows_both (suc (suc v)) p r =
      record {
        least_kept = λ vs q. least_and t (t / 2 ^ h) 0 vs ∙ ap (min (least t 0 vs)) (least_same (t / 2 ^ h) 0 t 1 vs (upper t h vs q));
        most_kept = λ vs q. most_or s (s / 2 ^ h) 0 vs ∙ ap (max (most s 0 vs)) (most_same (s / 2 ^ h) 0 s 1 vs (upper s h vs q));
      }

-- ---- the rule by both

abbrev pub verdict : ℕ → ℕ → ℕ
verdict l m = cond (eqb l 1) 1 (cond (eqb m 0) 0 2)

bits : (P : ℕ → ℕ → Type 0) → P 0 0 → P 0 1 → P 1 1 → (l m : ℕ) → l ≤ m → m < 2 → P l m
bits P a b c zero zero p q = a
bits P a b c zero (suc zero) p q = b
bits P a b c (suc zero) zero p q = absurd (omega arith)
bits P a b c (suc zero) (suc zero) p q = c
bits P a b c l (suc (suc m)) p q = absurd (omega arith)
bits P a b c (suc (suc l)) m p q = absurd (omega arith)

joined : (l m k n : ℕ) → l ≤ m → m < 2 → k ≤ n → n < 2 → both (verdict l m) (verdict k n) ≡ verdict (min l k) (max m n)
joined l m k n p q r s =
    bits (λ l m. both (verdict l m) (verdict k n) ≡ verdict (min l k) (max m n))
    (bits (λ k n. both (verdict 0 0) (verdict k n) ≡ verdict (min 0 k) (max 0 n)) refl refl refl k n r s)
    (bits (λ k n. both (verdict 0 1) (verdict k n) ≡ verdict (min 0 k) (max 1 n)) refl refl refl k n r s)
    (bits (λ k n. both (verdict 1 1) (verdict k n) ≡ verdict (min 1 k) (max 1 n)) refl refl refl k n r s)
    l m p q

one_entry : (b : ℕ) → b < 2 → b ≡ verdict b b
one_entry zero h = refl
one_entry (suc zero) h = refl
one_entry (suc (suc b)) h = absurd (omega arith)

module _ (t : ℕ) where
  between : (k : ℕ) (vs : List ℕ) → (least t k vs ≤ most t k vs) × (most t k vs < 2)
  unfolding least most
  between k [] = (omega arith, entry-bit t k)
  between k (zero ∷ vs) = between (2 * k) vs
  between k (suc zero ∷ vs) = between (2 * k + 1) vs
  between k (suc (suc v) ∷ vs) =
      let a = between (2 * k) vs in
      let b = between (2 * k + 1) vs in
      (omega arith, omega arith)

  pub rule_by : (k : ℕ) (vs : List ℕ) → agreed (map (entry t) (fillings k vs)) ≡ verdict (least t k vs) (most t k vs)
  unfolding least most
  rule_by k [] = one_entry (entry t k) (entry-bit t k)
  rule_by k (zero ∷ vs) = rule_by (2 * k) vs
  rule_by k (suc zero ∷ vs) = rule_by (2 * k + 1) vs
  rule_by k (suc (suc v) ∷ vs) =
      let a = between (2 * k) vs in
      let b = between (2 * k + 1) vs in
      ap agreed (map-append (entry t) (fillings (2 * k) vs) (fillings (2 * k + 1) vs))
      ∙ agreed-append (map (entry t) (fillings (2 * k) vs)) (map (entry t) (fillings (2 * k + 1) vs)) (some_answer (entry t) (2 * k) vs) (some_answer (entry t) (2 * k + 1) vs)
      ∙ ap₂ both (rule_by (2 * k) vs) (rule_by (2 * k + 1) vs)
      ∙ joined (least t (2 * k) vs) (most t (2 * k) vs) (least t (2 * k + 1) vs) (most t (2 * k + 1) vs) a.0 a.1 b.0 b.1

-- ---- the pass

-- i values are read: what is left of both tables
pub record Folded (t : ℕ) (vs : List ℕ) (i all some half : ℕ) : Type 0 where
  pub halves : half ≡ 2 ^ (length vs - i)
  pub small : half ≤ 64
  pub least_left : least all 0 (drop i vs) ≡ least t 0 vs
  pub most_left : most some 0 (drop i vs) ≡ most t 0 vs

pub folded_start : (t : ℕ) (vs : List ℕ) → length vs ≤ 6 → Folded t vs 0 t t (1 * 2 ^ length vs % 18446744073709551616)
folded_start t vs h =
    let p : 2 ^ length vs ≤ 2 ^ 6 = pow_mono {i = length vs} {j = 6} h in
    let q : 1 * 2 ^ length vs < 18446744073709551616 = omega arith in
    let e : 1 * 2 ^ length vs % 18446744073709551616 ≡ 2 ^ length vs = mod-eq_of_lt q ∙ omega arith in
    let z : length vs ≡ length vs - 0 = omega arith in
    record { halves = e ∙ ap (λ (n : ℕ). 2 ^ n) z; small = omega (arith, e, p); least_left = refl; most_left = refl }

module _ (t : ℕ) (vs : List ℕ) (i all some half : ℕ) (f : Folded t vs i all some half) where
  pub folded_next : i < length vs → (a s : ℕ) → Narrows all some (get_or vs i 0) (half / 2) a s → Folded t vs (i + 1) a s (half / 2)
  folded_next h a s n =
      let cut : drop i vs ≡ get_or vs i 0 ∷ drop (i + 1) vs = rw add-one (drop-cons vs i 0 h) in
      let left : length vs - i ≡ suc (length vs - (i + 1)) = omega arith in
      let e : half ≡ 2 ^ (length vs - (i + 1)) * 2 = f.halves ∙ ap (λ (m : ℕ). 2 ^ m) left ∙ pow-suc 2 (length vs - (i + 1)) in
      let d : half / 2 ≡ 2 ^ (length vs - (i + 1)) = omega (arith, e) in
      let r : half / 2 ≡ 2 ^ length (drop (i + 1) vs) = d ∙ ap (λ (m : ℕ). 2 ^ m) (sym (length-drop (i + 1) vs)) in
      record {
        halves = d;
        small = omega (arith, f.small);
        least_left = n.least_kept (drop (i + 1) vs) r ∙ sym (ap (least all 0) cut) ∙ f.least_left;
        most_left = n.most_kept (drop (i + 1) vs) r ∙ sym (ap (most some 0) cut) ∙ f.most_left;
      }

  module _ (h : length vs ≤ i) where
    lowest : (u : ℕ) → bit_and u 1 ≡ entry u 0
    lowest u = and_mask u 1 ∙ omega arith

    pub folded_all : cell_rule t vs ≡ verdict (bit_and all 1) (bit_and some 1)
    unfolding least most
    folded_all =
        let none : drop i vs ≡ [] = drop_of_length-le vs h in
        rule_by t 0 vs
        ∙ ap₂ verdict (sym f.least_left ∙ ap (least all 0) none ∙ sym (lowest all)) (sym f.most_left ∙ ap (most some 0) none ∙ sym (lowest some))

pub verdict_one : (l m : ℕ) → l ≡ 1 → 1 ≡ verdict l m
verdict_one l m e = rw e

pub verdict_none : (l m : ℕ) → (l ≡ 1 → ⊥) → m ≡ 0 → 0 ≡ verdict l m
verdict_none l m n e = rw (ne_eqb l 1 n, e)

pub verdict_two : (l m : ℕ) → (l ≡ 1 → ⊥) → (m ≡ 0 → ⊥) → 2 ≡ verdict l m
verdict_two l m n e = rw (ne_eqb l 1 n, ne_eqb m 0 e)
