-- The table of answers: each passes the test, and so is the cell rule's, values above 1 being unknown.
-- Assumes nothing.
use Rattle.std.proofs.Common.{ℕ, zero, suc, ◌+◌, ◌*◌, ◌/◌, ◌%◌, ◌<◌, ◌≡◌, min, List, [], ◌∷◌, ◌++◌, map, get_or, refl, sym, ap, ap₂, ◌∙◌, arith}
use mathlib.Core.Path.{subst₃}
use lib.Dec.{eqb→eq}
use Rattle.laws.proofs.Table.{at}
use Rattle.cells.specs.Cells.{entry, fillings, agreed, cell_rule, right_answer, AnswersRight}
use Rattle.cells.specs.declared.pairs.TheConstants.{ANSWERS}

-- the one test of all of them, computed
pub answers_right : AnswersRight ANSWERS
unfolding right_answer
answers_right = tt

place : (t a b : ℕ) → t < 16 → a < 3 → b < 3 → cell_rule ((9 * t + 3 * a + b) / 9) ((9 * t + 3 * a + b) % 9 / 3 ∷ (9 * t + 3 * a + b) % 3 ∷ []) ≡ cell_rule t (a ∷ b ∷ [])
place t a b ht ha hb =
    let p : (9 * t + 3 * a + b) / 9 ≡ t = omega arith in
    let q : (9 * t + 3 * a + b) % 9 / 3 ≡ a = omega arith in
    let r : (9 * t + 3 * a + b) % 3 ≡ b = omega arith in
    subst₃ (λ (x y z : ℕ). cell_rule x (y ∷ z ∷ []) ≡ cell_rule t (a ∷ b ∷ [])) (sym p) (sym q) (sym r) refl

answer_at : (t a b : ℕ) → t < 16 → a < 3 → b < 3 → get_or ANSWERS (9 * t + 3 * a + b) 0 ≡ cell_rule t (a ∷ b ∷ [])
unfolding right_answer
answer_at t a b ht ha hb = eqb→eq _ _ (at right_answer ANSWERS answers_right (9 * t + 3 * a + b) (omega arith)) ∙ place t a b ht ha hb

-- a value above 1 is filled as 2 is
clamped : (k a : ℕ) (vs : List ℕ) → fillings k (min a 2 ∷ vs) ≡ fillings k (a ∷ vs)
clamped k zero vs = refl
clamped k (suc zero) vs = refl
clamped k (suc (suc a)) vs = let e : min (suc (suc a)) 2 ≡ 2 = omega arith in ap (λ (v : ℕ). fillings k (v ∷ vs)) e

clamped_second : (k a b : ℕ) → fillings k (a ∷ min b 2 ∷ []) ≡ fillings k (a ∷ b ∷ [])
clamped_second k zero b = clamped (2 * k) b []
clamped_second k (suc zero) b = clamped (2 * k + 1) b []
clamped_second k (suc (suc a)) b = ap₂ (λ (x y : List ℕ). x ++ y) (clamped (2 * k) b []) (clamped (2 * k + 1) b [])

pub pair_answer : (t a b x y : ℕ) → t < 16 → x ≡ min a 2 → y ≡ min b 2 → get_or ANSWERS (9 * t + 3 * x + y) 0 ≡ cell_rule t (a ∷ b ∷ [])
pair_answer t a b x y h p q =
    answer_at t x y h (omega (arith, p)) (omega (arith, q))
    ∙ rw (p, q) (ap (λ (l : List ℕ). agreed (map (entry t) l)) (clamped 0 a (min b 2 ∷ []) ∙ clamped_second 0 a b))
