-- The reads of the cells as the code links them: numbered from 1, each chain from the last read of a cell down.
-- Assumes nothing.
use Prim.Native.Nat.{ℕ, zero, suc, ◌+◌, ◌-◌, ◌*◌, ◌/◌, ◌≤◌, ◌<◌}
use mathlib.Core.Path.{◌≡◌, refl, sym, ap, ◌∙◌}
use mathlib.Core.Logic.{◌≢◌}
use mathlib.Core.Bool.{Bool, true, false, cond}
use native.Mathlib.Omega.{arith}
use lib.Dec.{eqb}
use borrow.Author.Tests.{ne_eqb, eq-eqb, eqb-true, eqb-false}
use lib.ListN.{length}
use mathlib.Core.List.{List, ◌∷◌}
use mathlib.Core.Bool.{false≢true}
use native.Mathlib.Numerals.{unary_clauses}
use Rattle.std.specs.List.{filter, range_with_len}
use Rattle.std.proofs.lemmas.Bool.{false_from_ne_true}
use Rattle.std.proofs.lemmas.List.{nil_from_length}
use Rattle.laws.specs.Lists.{elem, keep, numbers}
use Rattle.laws.proofs.Tests.{clash}
use Rattle.laws.proofs.Lists.{in_numbers, numbers_same, numbers-empty, one_less}
use Rattle.graphs.specs.declared.TheConstants.{READS}
use Rattle.ordering.specs.Areas.{last_of, passing}

-- the last read of a cell

pub last_le : (src : ℕ → ℕ) (x m : ℕ) → last_of src x m ≤ m
unfolding last_of
last_le src x zero = omega arith
last_le src x (suc e) = go (eqb (src (suc e)) (suc x)) (last_le src x e)
  where
    go : (t : Bool) → last_of src x e ≤ e → cond t (suc e) (last_of src x e) ≤ suc e
    go true h = omega arith
    go false h = omega arith

pub last_more : (src : ℕ → ℕ) (x e : ℕ) → src (suc e) ≡ suc x → last_of src x (suc e) ≡ suc e
unfolding last_of
last_more src x e h = rw (eq-eqb (src (suc e)) (suc x) h)

pub last_other : (src : ℕ → ℕ) (x e : ℕ) → src (suc e) ≢ suc x → last_of src x (suc e) ≡ last_of src x e
unfolding last_of
last_other src x e h = rw (ne_eqb (src (suc e)) (suc x) h)

pub last_reads : (src : ℕ → ℕ) (x m : ℕ) → last_of src x m ≢ 0 → src (last_of src x m) ≡ suc x
last_reads src x zero h = absurd (h zero_last)
  where
    zero_last : last_of src x zero ≡ 0
    zero_last = omega (arith, last_le src x zero)
last_reads src x (suc e) h = go (eqb (src (suc e)) (suc x)) refl (last_reads src x e)
  where
    go : (t : Bool) → eqb (src (suc e)) (suc x) ≡ t → (last_of src x e ≢ 0 → src (last_of src x e) ≡ suc x) → src (last_of src x (suc e)) ≡ suc x
    go true q below = let r = eqb-true (src (suc e)) (suc x) q in ap src (last_more src x e r) ∙ r
    go false q below =
        let r = last_other src x e (eqb-false (src (suc e)) (suc x) q) in
        ap src r ∙ below (λ z. h (r ∙ z))

pub last_top : (src : ℕ → ℕ) (x m e : ℕ) → src e ≡ suc x → 1 ≤ e → e ≤ m → e ≤ last_of src x m
last_top src x zero e h a b = absurd (omega arith)
last_top src x (suc m) e h a b = go (eqb (src (suc m)) (suc x)) refl (eqb e (suc m)) refl (λ l. last_top src x m e h a l)
  where
    go : (t : Bool) → eqb (src (suc m)) (suc x) ≡ t → (u : Bool) → eqb e (suc m) ≡ u → (e ≤ m → e ≤ last_of src x m) → e ≤ last_of src x (suc m)
    go true q u v below = omega (arith, last_more src x m (eqb-true (src (suc m)) (suc x) q))
    go false q true v below = absurd (eqb-false (src (suc m)) (suc x) q (ap src (sym (eqb-true e (suc m) v)) ∙ h))
    go false q false v below = omega (arith, last_other src x m (eqb-false (src (suc m)) (suc x) q), below (omega (arith, eqb-false e (suc m) v)))

-- the reads of a node

pub passing-same : (b d : ℕ → Bool) (q : ℕ) → ((e : ℕ) → READS * q < e → e ≤ READS * q + READS → b e ≡ d e) → passing b q ≡ passing d q
unfolding passing
passing-same b d q h = ap length (numbers_same d b (READS * q + 1) READS (λ k l m. h k (omega arith) (omega arith)))

pub passing-none : (b : ℕ → Bool) (q : ℕ) → ((e : ℕ) → READS * q < e → e ≤ READS * q + READS → b e ≡ false) → passing b q ≡ 0
unfolding passing
passing-none b q h = ap length (numbers-empty b (READS * q + 1) READS (λ k l m. h k (omega arith) (omega arith)))

pub passing-zero : (b : ℕ → Bool) (q : ℕ) → passing b q ≡ 0 → (e : ℕ) → READS * q < e → e ≤ READS * q + READS → b e ≡ false
unfolding passing
passing-zero b q z e l m =
    false_from_ne_true (b e) (λ t. false≢true (sym (ap (elem e) (nil_from_length (numbers b (READS * q + 1) READS) z)) ∙ in_numbers b (READS * q + 1) READS e t (omega arith) (omega arith)))

pub passing-drop : (b d : ℕ → Bool) (e q : ℕ) → 1 ≤ e → q ≡ (e - 1) / READS → b e ≡ true → d e ≡ false → ((k : ℕ) → 1 ≤ k → k ≢ e → d k ≡ b k) → passing b q ≡ suc (passing d q)
unfolding passing
passing-drop b d e q h at p r same =
    sym (ap suc (ap length (numbers_same but d (READS * q + 1) READS (λ k l m. sym (inside k (omega arith))))) ∙ one_less b but (READS * q + 1) READS e (omega arith) (omega arith) p (inside e h ∙ r) (λ k n. outside k n (eqb k 0) refl))
  where
    -- d, and b at 0
    but : ℕ → Bool
    but k = cond (eqb k 0) (b k) (d k)

    inside : (k : ℕ) → 1 ≤ k → but k ≡ d k
    inside k l = let n : k ≢ 0 = omega arith in rw (ne_eqb k 0 n)

    outside : (k : ℕ) → k ≢ e → (t : Bool) → eqb k 0 ≡ t → cond t (b k) (d k) ≡ b k
    outside k n true z = refl
    outside k n false z = same k (omega (arith, eqb-false k 0 z)) n

pub passing-kept : (b d : ℕ → Bool) (e q : ℕ) → 1 ≤ e → q ≢ (e - 1) / READS → ((k : ℕ) → 1 ≤ k → k ≢ e → d k ≡ b k) → passing d q ≡ passing b q
passing-kept b d e q h n same = passing-same d b q (λ k l m. same k (omega arith) (λ z. n (omega arith)))

pub passing-some : (b : ℕ → Bool) (e q : ℕ) → 1 ≤ e → q ≡ (e - 1) / READS → b e ≡ true → 1 ≤ passing b q
passing-some b e q h at p = go (eqb (passing b q) 0) refl
  where
    go : (t : Bool) → eqb (passing b q) 0 ≡ t → 1 ≤ passing b q
    go true z = absurd (clash p (passing-zero b q (eqb-true (passing b q) 0 z) e (omega arith) (omega arith)))
    go false z = omega (arith, eqb-false (passing b q) 0 z)

-- the numbers of a range that pass, kept one by one
pub kept_numbers : (p : ℕ → Bool) (i n : ℕ) → filter p (range_with_len i n) ≡ numbers p i n
unfolding numbers
kept_numbers p i zero = refl
kept_numbers p i (suc n) = simp unary_clauses (go (p i) (kept_numbers p (suc i) n))
  where
    go : (t : Bool) → filter p (range_with_len (suc i) n) ≡ numbers p (suc i) n → cond t (i ∷ filter p (range_with_len (suc i) n)) (filter p (range_with_len (suc i) n)) ≡ keep t i (numbers p (suc i) n)
    go true e = ap (λ (l : List ℕ). i ∷ l) e
    go false e = e

shifted : (b : ℕ → Bool) (f i n : ℕ) → length (numbers (λ k. b (f + k)) i n) ≡ length (numbers b (f + i) n)
unfolding numbers
shifted b f i zero = refl
shifted b f i (suc n) = let s : f + suc i ≡ suc (f + i) = omega arith in go (b (f + i)) (shifted b f (suc i) n ∙ ap (λ (k : ℕ). length (numbers b k n)) s)
  where
    go : (t : Bool) → length (numbers (λ k. b (f + k)) (suc i) n) ≡ length (numbers b (suc (f + i)) n) → length (keep t i (numbers (λ k. b (f + k)) (suc i) n)) ≡ length (keep t (f + i) (numbers b (suc (f + i)) n))
    go true e = ap suc e
    go false e = e

-- the reads of a node, counted by their positions
pub passing-counted : (b : ℕ → Bool) (q : ℕ) → length (filter (λ k. b (READS * q + 1 + k)) (range_with_len 0 READS)) ≡ passing b q
unfolding passing
passing-counted b q = ap length (kept_numbers (λ k. b (READS * q + 1 + k)) 0 READS) ∙ shifted b (READS * q + 1) 0 READS ∙ ap (λ (k : ℕ). length (numbers b k READS)) (omega arith)
