-- Fitness of a list, block by block: a fit list is fit in each block, and one that is fit in every block is fit.
-- Assumes nothing.
use mathlib.Core.Path.{◌≡◌, refl, sym, ap}
use mathlib.Core.Logic.{◌⊎◌, inl, inr}
use mathlib.Core.List.{List, [], ◌∷◌, ◌++◌}
use mathlib.Core.Bool.{Bool, true, false, not, ◌&&◌, false≢true}
use Prim.Native.Nat.{ℕ, zero, suc, ◌+◌, ◌≤◌}
use native.Mathlib.Omega.{arith}
use lib.Dec.{ltb}
use borrow.Author.Tests.{not-true, ltb-true, ltb-false, lt-ltb}
use lib.ListN.{length}
use Rattle.std.proofs.lemmas.Bool.{and_from, and_parts, false_from_ne_true}
use Rattle.laws.specs.Lists.{elem}
use Rattle.laws.proofs.Tests.{clash}
use Rattle.graphs.specs.Graph.{Vertex, is_cell, reads_of, waits, free, ready, fit}
use Rattle.graphs.proofs.Graph.{cell_below, waits-cell, waits_fresh, waits_makes, ready-waits, ready-free, ready_makes}
use Rattle.runs.specs.Fit.{free_in, ready_in, fit_in, within}
use Rattle.runs.proofs.Marking.{block_in}

and-false : (a b : Bool) → a && b ≡ false → a ≡ true → b ≡ false
and-false true b e q = e
and-false false b e q = absurd (false≢true q)

makes_false : (a b : Bool) → (a ≡ true → b ≡ true → ⊥) → a && b ≡ false
makes_false true true h = absurd (h refl refl)
makes_false true false h = refl
makes_false false b h = refl

module _ (c : List Vertex) where
  -- a fit list is fit in each block
  free_in_lem : (p : ℕ → Bool) (taken rs : List ℕ) → free c taken rs ≡ true → free_in p c taken rs ≡ true
  unfolding free free_in
  free_in_lem p taken [] h = refl
  free_in_lem p taken (r ∷ rs) h =
      let g = and_parts (not (waits c taken r)) (free c taken rs) h in
      and_from _ _ (ap not (makes_false (p r) (waits c taken r) (λ a b. clash b (not-true (waits c taken r) g.0)))) (free_in_lem p taken rs g.1)

  ready-in : (p : ℕ → Bool) (taken : List ℕ) (x : ℕ) → ready c taken x ≡ true → ready_in p c taken x ≡ true
  unfolding ready_in
  ready-in p taken x h =
      let w = ready-waits c taken x h in
      and_from _ _ (waits-cell c taken x w)
      (and_from _ _ (free_in_lem p taken (reads_of c x) (ready-free c taken x h)) (ap not (makes_false (p x) (elem x taken) (λ a b. clash b (waits_fresh c taken x w)))))

  pub fit-in : (p : ℕ → Bool) (taken l : List ℕ) → fit c taken l ≡ true → fit_in p c taken l ≡ true
  unfolding fit fit_in
  fit-in p taken [] h = refl
  fit-in p taken (x ∷ l) h =
      let g = and_parts (ready c taken x) (fit c (taken ++ x ∷ []) l) h in
      and_from _ _ (ready-in p taken x g.0) (fit-in p (taken ++ x ∷ []) l g.1)

  -- fit for two tests, fit for a third that passes nothing else
  module _ (p q u : ℕ → Bool) (split : (k : ℕ) → u k ≡ true → (p k ≡ true) ⊎ (q k ≡ true)) where
    covered : (b : ℕ → Bool) (k : ℕ) → p k && b k ≡ false → q k && b k ≡ false → u k && b k ≡ false
    covered b k e f = makes_false (u k) (b k) (λ h g. fork (split k h) g)
      where
        fork : (p k ≡ true) ⊎ (q k ≡ true) → b k ≡ true → ⊥
        fork (inl h) g = clash g (and-false (p k) (b k) e h)
        fork (inr h) g = clash g (and-false (q k) (b k) f h)

    free-join : (taken rs : List ℕ) → free_in p c taken rs ≡ true → free_in q c taken rs ≡ true → free_in u c taken rs ≡ true
    unfolding free_in
    free-join taken [] h g = refl
    free-join taken (r ∷ rs) h g =
        let a = and_parts (not (p r && waits c taken r)) (free_in p c taken rs) h in
        let b = and_parts (not (q r && waits c taken r)) (free_in q c taken rs) g in
        and_from _ _ (ap not (covered (waits c taken) r (not-true _ a.0) (not-true _ b.0))) (free-join taken rs a.1 b.1)

    ready-join : (taken : List ℕ) (x : ℕ) → ready_in p c taken x ≡ true → ready_in q c taken x ≡ true → ready_in u c taken x ≡ true
    unfolding ready_in
    ready-join taken x h g =
        let a = and_parts (is_cell c x) (free_in p c taken (reads_of c x) && not (p x && elem x taken)) h in
        let b = and_parts (is_cell c x) (free_in q c taken (reads_of c x) && not (q x && elem x taken)) g in
        let a' = and_parts (free_in p c taken (reads_of c x)) (not (p x && elem x taken)) a.1 in
        let b' = and_parts (free_in q c taken (reads_of c x)) (not (q x && elem x taken)) b.1 in
        and_from _ _ a.0
        (and_from _ _ (free-join taken (reads_of c x) a'.0 b'.0) (ap not (covered (λ k. elem k taken) x (not-true _ a'.1) (not-true _ b'.1))))

    pub fit-join : (taken l : List ℕ) → fit_in p c taken l ≡ true → fit_in q c taken l ≡ true → fit_in u c taken l ≡ true
    unfolding fit_in
    fit-join taken [] h g = refl
    fit-join taken (x ∷ l) h g =
        let a = and_parts (ready_in p c taken x) (fit_in p c (taken ++ x ∷ []) l) h in
        let b = and_parts (ready_in q c taken x) (fit_in q c (taken ++ x ∷ []) l) g in
        and_from _ _ (ready-join taken x a.0 b.0) (fit-join (taken ++ x ∷ []) l a.1 b.1)

  -- fit for a test that each cell passes
  module _ (u : ℕ → Bool) (all : (k : ℕ) → is_cell c k ≡ true → u k ≡ true) where
    free_of : (taken rs : List ℕ) → free_in u c taken rs ≡ true → free c taken rs ≡ true
    unfolding free_in free
    free_of taken [] h = refl
    free_of taken (r ∷ rs) h =
        let a = and_parts (not (u r && waits c taken r)) (free_in u c taken rs) h in
        and_from _ _ (ap not (false_from_ne_true (waits c taken r) (λ w. clash w (and-false (u r) (waits c taken r) (not-true _ a.0) (all r (waits-cell c taken r w)))))) (free_of taken rs a.1)

    ready_of : (taken : List ℕ) (x : ℕ) → ready_in u c taken x ≡ true → ready c taken x ≡ true
    unfolding ready_in
    ready_of taken x h =
        let a = and_parts (is_cell c x) (free_in u c taken (reads_of c x) && not (u x && elem x taken)) h in
        let b = and_parts (free_in u c taken (reads_of c x)) (not (u x && elem x taken)) a.1 in
        ready_makes c taken x (waits_makes c taken x a.0 (and-false (u x) (elem x taken) (not-true _ b.1) (all x a.0))) (free_of taken (reads_of c x) b.0)

    pub fit_of : (taken l : List ℕ) → fit_in u c taken l ≡ true → fit c taken l ≡ true
    unfolding fit_in fit
    fit_of taken [] h = refl
    fit_of taken (x ∷ l) h =
        let a = and_parts (ready_in u c taken x) (fit_in u c (taken ++ x ∷ []) l) h in
        and_from _ _ (ready_of taken x a.0) (fit_of (taken ++ x ∷ []) l a.1)

-- ---- block after block

-- the blocks below lo are fit, if there is one
abbrev pub Covered : List Vertex → List ℕ → ℕ → Type 0
Covered c order lo = 1 ≤ lo → fit_in (λ k. ltb k lo) c [] order ≡ true

pub covered_next : (c : List Vertex) (order : List ℕ) (lo size : ℕ) → Covered c order lo → fit_in (within lo size) c [] order ≡ true → Covered c order (lo + size)
covered_next c order zero size h f = λ l. fit-join c (within 0 size) (within 0 size) (λ k. ltb k (0 + size)) (λ k e. inl (block_in 0 size k (omega arith) (omega (arith, ltb-true k (0 + size) e)))) [] order f f
covered_next c order (suc lo) size h f =
    λ l. fit-join c (λ k. ltb k (suc lo)) (within (suc lo) size) (λ k. ltb k (suc lo + size)) split [] order (h (omega arith)) f
  where
    split : (k : ℕ) → ltb k (suc lo + size) ≡ true → (ltb k (suc lo) ≡ true) ⊎ (within (suc lo) size k ≡ true)
    split k e = go (ltb k (suc lo)) refl
      where
        go : (t : Bool) → ltb k (suc lo) ≡ t → (ltb k (suc lo) ≡ true) ⊎ (within (suc lo) size k ≡ true)
        go true q = inl q
        go false q = inr (block_in (suc lo) size k (ltb-false k (suc lo) q) (omega (arith, ltb-true k (suc lo + size) e, ltb-false k (suc lo) q)))

pub covered_end : (c : List Vertex) (order : List ℕ) (lo count : ℕ) → Covered c order lo → count ≤ lo → length c ≡ count → length order ≤ count → true ≡ fit c [] order
unfolding fit
covered_end c [] lo count h l e s = refl
covered_end c (x ∷ order) lo count h l e s =
    sym (fit_of c (λ k. ltb k lo) (λ k q. lt-ltb k lo (omega (arith, cell_below c k q, e))) [] (x ∷ order) (h (omega arith)))

pub block_unfit : (c : List Vertex) (p : ℕ → Bool) (order : List ℕ) → fit_in p c [] order ≡ false → false ≡ fit c [] order
block_unfit c p order e = sym (false_from_ne_true (fit c [] order) (λ h. clash (fit-in c p [] order h) e))
