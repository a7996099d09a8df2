-- What two lists of answers agree on.
-- Assumes nothing.
use Rattle.std.proofs.Common.{ℕ, zero, suc, ◌+◌, ◌*◌, ◌<◌, ◌≡◌, Bool, true, false, cond, List, [], ◌∷◌, ◌++◌, map, length, refl, sym, ap, ◌∙◌, arith, length-append}
use lib.Dec.{eqb}
use borrow.Author.Tests.{eqb-true, eq-eqb, ne_eqb}
use Rattle.std.proofs.lemmas.List.{map-append}
use Rattle.cells.specs.Cells.{fillings, agreed}

-- what two numbers agree on
abbrev pub both : ℕ → ℕ → ℕ
both a b = cond (eqb a b) a 2

both_equal : (a b : ℕ) → a ≡ b → both a b ≡ a
both_equal a b e = rw (eq-eqb a b e)

both_other : (a b : ℕ) → (a ≡ b → ⊥) → both a b ≡ 2
both_other a b n = rw (ne_eqb a b n)

both_two : (a : ℕ) → both a 2 ≡ 2
both_two a = go (eqb a 2) refl
  where
    go : (t : Bool) → eqb a 2 ≡ t → both a 2 ≡ 2
    go true e = both_equal a 2 (eqb-true a 2 e) ∙ eqb-true a 2 e
    go false e = rw e

two_both : (a : ℕ) → both 2 a ≡ 2
two_both a = go (eqb 2 a) refl
  where
    go : (t : Bool) → eqb 2 a ≡ t → both 2 a ≡ 2
    go true e = rw e
    go false e = rw e

both_assoc : (a b c : ℕ) → both a (both b c) ≡ both (both a b) c
both_assoc a b c = go (eqb a b) (eqb b c) refl refl
  where
    go : (t u : Bool) → eqb a b ≡ t → eqb b c ≡ u → both a (both b c) ≡ both (both a b) c
    go true true p q =
        let x : a ≡ b = eqb-true a b p in
        let y : b ≡ c = eqb-true b c q in
        ap (both a) (both_equal b c y) ∙ both_equal a b x ∙ sym (ap (λ (m : ℕ). both m c) (both_equal a b x) ∙ both_equal a c (x ∙ y))
    go true false p q =
        let x : a ≡ b = eqb-true a b p in
        ap (both a) (cond_no q) ∙ both_two a ∙ sym (ap (λ (m : ℕ). both m c) (both_equal a b x ∙ x) ∙ cond_no q)
      where
        cond_no : eqb b c ≡ false → both b c ≡ 2
        cond_no e = rw e
    go false true p q =
        let y : b ≡ c = eqb-true b c q in
        ap (both a) (both_equal b c y) ∙ cond_no p ∙ sym (ap (λ (m : ℕ). both m c) (cond_no p) ∙ two_both c)
      where
        cond_no : eqb a b ≡ false → both a b ≡ 2
        cond_no e = rw e
    go false false p q = ap (both a) (no b c q) ∙ both_two a ∙ sym (ap (λ (m : ℕ). both m c) (no a b p) ∙ two_both c)
      where
        no : (x y : ℕ) → eqb x y ≡ false → both x y ≡ 2
        no x y e = rw e

-- two lists agree on what both agree on
pub agreed-append : (s t : List ℕ) → 0 < length s → 0 < length t → agreed (s ++ t) ≡ both (agreed s) (agreed t)
agreed-append [] t p q = absurd (omega arith)
agreed-append (b ∷ []) [] p q = absurd (omega arith)
agreed-append (b ∷ []) (c ∷ t) p q = refl
agreed-append (b ∷ c ∷ bs) t p q = ap (both b) (agreed-append (c ∷ bs) t (omega arith) q) ∙ both_assoc b (agreed (c ∷ bs)) (agreed t)

-- there is a filling, so there is an answer to agree on
pub some_answer : (f : ℕ → ℕ) (k : ℕ) (vs : List ℕ) → 0 < length (map f (fillings k vs))
some_answer f k [] = omega arith
some_answer f k (zero ∷ vs) = some_answer f (2 * k) vs
some_answer f k (suc zero ∷ vs) = some_answer f (2 * k + 1) vs
some_answer f k (suc (suc v) ∷ vs) = rw map-append (rw length-append (let h = some_answer f (2 * k) vs in omega arith))
