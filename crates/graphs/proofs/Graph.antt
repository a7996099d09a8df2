-- The laws of a circuit's graph: what is ready, what a fit list tells, and that cells which are left read in a circle.
-- Assumes nothing.
use Prim.Native.Nat.{ℕ, zero, suc, ◌+◌, ◌≤◌, ◌<◌}
use mathlib.Core.Path.{◌≡◌, refl, sym, ap, ◌∙◌, subst}
use mathlib.Core.Logic.{◌⊎◌, inl, inr, ◌≢◌}
use mathlib.Core.Bool.{Bool, true, false, not, ◌&&◌, true≢false, false≢true}
use mathlib.Core.List.{List, [], ◌∷◌, ◌++◌, append_assoc, append-nil}
use native.Mathlib.Omega.{arith}
use lib.Dec.{ltb}
use lib.ListN.{length, get_or-eq_default}
use borrow.Author.Tests.{ltb-true, ltb-false, ne_eqb, not-true}
use Rattle.std.proofs.lemmas.Bool.{and_from, and_parts, false_from_ne_true, true_from_ne_false}
use Rattle.std.proofs.lemmas.List.{nil_from_length}
use Rattle.laws.specs.Lists.{elem, numbers}
use Rattle.laws.proofs.Tests.{clash}
use Rattle.laws.proofs.Lists.{elem_snoc_same, elem_snoc_other, elem-cons-split, elem_snoc_split, numbers_in, numbers-none, numbers_same, one_less, numbers-empty, elem-later, elem_here}
use Rattle.graphs.specs.Graph.{Vertex, outside, is_cell, reads_of, cells_of, waits, free, ready, ready_cells, fit, Reads, Leads, once, more, Circle, Forward, Placed, InOrder, ListsAll}

module _ (c : List Vertex) where
  pub cell_below : (k : ℕ) → is_cell c k ≡ true → k < length c
  unfolding is_cell outside
  cell_below k h = go (ltb k (length c)) refl
    where
      go : (t : Bool) → ltb k (length c) ≡ t → k < length c
      go true e = ltb-true k (length c) e
      go false e = absurd (false≢true (sym (ap (λ (n : Vertex). n.cell) (get_or-eq_default c outside (ltb-false k (length c) e))) ∙ h))

  -- ready, taken apart

  pub waits-cell : (taken : List ℕ) (k : ℕ) → waits c taken k ≡ true → is_cell c k ≡ true
  unfolding waits
  waits-cell taken k h = (and_parts (is_cell c k) (not (elem k taken)) h).0

  pub waits_fresh : (taken : List ℕ) (k : ℕ) → waits c taken k ≡ true → elem k taken ≡ false
  unfolding waits
  waits_fresh taken k h = not-true (elem k taken) (and_parts (is_cell c k) (not (elem k taken)) h).1

  pub waits_makes : (taken : List ℕ) (k : ℕ) → is_cell c k ≡ true → elem k taken ≡ false → waits c taken k ≡ true
  unfolding waits
  waits_makes taken k p q = rw (p, q)

  pub waits_taken : (taken : List ℕ) (k : ℕ) → elem k taken ≡ true → waits c taken k ≡ false
  waits_taken taken k h = false_from_ne_true (waits c taken k) (λ w. clash h (waits_fresh taken k w))

  pub taken_of : (taken : List ℕ) (k : ℕ) → is_cell c k ≡ true → waits c taken k ≡ false → elem k taken ≡ true
  taken_of taken k p w = true_from_ne_false (elem k taken) (λ q. clash (waits_makes taken k p q) w)

  pub ready-waits : (taken : List ℕ) (k : ℕ) → ready c taken k ≡ true → waits c taken k ≡ true
  unfolding ready
  ready-waits taken k h = (and_parts (waits c taken k) (free c taken (reads_of c k)) h).0

  pub ready-free : (taken : List ℕ) (k : ℕ) → ready c taken k ≡ true → free c taken (reads_of c k) ≡ true
  unfolding ready
  ready-free taken k h = (and_parts (waits c taken k) (free c taken (reads_of c k)) h).1

  pub ready_makes : (taken : List ℕ) (k : ℕ) → waits c taken k ≡ true → free c taken (reads_of c k) ≡ true → ready c taken k ≡ true
  unfolding ready
  ready_makes taken k p q = rw (p, q)

  pub free_at : (taken rs : List ℕ) (y : ℕ) → free c taken rs ≡ true → elem y rs ≡ true → waits c taken y ≡ false
  unfolding free
  free_at taken [] y f h = absurd (false≢true h)
  free_at taken (r ∷ rs) y f h = fork (elem-cons-split y r rs h) (and_parts (not (waits c taken r)) (free c taken rs) f) (free_at taken rs y)
    where
      fork : (y ≡ r) ⊎ (elem y rs ≡ true) → (not (waits c taken r) ≡ true) × (free c taken rs ≡ true) → (free c taken rs ≡ true → elem y rs ≡ true → waits c taken y ≡ false) → waits c taken y ≡ false
      fork (inl e) g below = ap (waits c taken) e ∙ not-true (waits c taken r) g.0
      fork (inr m) g below = below g.1 m

  pub free_makes : (taken rs : List ℕ) → ((y : ℕ) → elem y rs ≡ true → waits c taken y ≡ false) → free c taken rs ≡ true
  unfolding free
  free_makes taken [] h = refl
  free_makes taken (r ∷ rs) h = rw (h r (elem_here r r rs refl)) (free_makes taken rs (λ y m. h y (elem-later y r rs m)))

  pub free-not : (taken rs : List ℕ) → free c taken rs ≡ false → (y : ℕ) × (elem y rs ≡ true) × (waits c taken y ≡ true)
  unfolding free
  free-not taken [] f = absurd (true≢false f)
  free-not taken (r ∷ rs) f = go (waits c taken r) refl (free-not taken rs)
    where
      go : (t : Bool) → waits c taken r ≡ t → (free c taken rs ≡ false → (y : ℕ) × (elem y rs ≡ true) × (waits c taken y ≡ true)) → (y : ℕ) × (elem y (r ∷ rs) ≡ true) × (waits c taken y ≡ true)
      go true e below = (r, elem_here r r rs refl, e)
      go false e below = let b = below (rw e at f) in (b.0, elem-later b.0 r rs b.1, b.2)

  pub ready_placed : (before : List ℕ) (x : ℕ) → ready c before x ≡ true → Placed c before x
  ready_placed before x h =
      record {
        is_a_cell = waits-cell before x (ready-waits before x h);
        fresh = waits_fresh before x (ready-waits before x h);
        after = λ y r. taken_of before y r.source (free_at before (reads_of c x) y (ready-free before x h) r.among);
      }

  -- (i): a fit list is in order

  pub fit_at : (taken before rest : List ℕ) (x : ℕ) → fit c taken (before ++ x ∷ rest) ≡ true → ready c (taken ++ before) x ≡ true
  unfolding fit
  fit_at taken [] rest x h = rw append-nil (and_parts (ready c taken x) (fit c (taken ++ x ∷ []) rest) h).0
  fit_at taken (b ∷ before) rest x h =
      rw append_assoc at (fit_at (taken ++ b ∷ []) before rest x (and_parts (ready c taken b) (fit c (taken ++ b ∷ []) (before ++ x ∷ rest)) h).1)

  pub fit_in_order : (order : List ℕ) → fit c [] order ≡ true → InOrder c order
  fit_in_order order h before rest x e = ready_placed before x (fit_at [] before rest x (ap (fit c []) (sym e) ∙ h))

  pub fit_snoc : (taken l : List ℕ) (p : ℕ) → fit c taken l ≡ true → ready c (taken ++ l) p ≡ true → fit c taken (l ++ p ∷ []) ≡ true
  unfolding fit
  fit_snoc taken [] p f r = and_from _ _ (rw append-nil at r) refl
  fit_snoc taken (x ∷ l) p f r =
      let g = and_parts (ready c taken x) (fit c (taken ++ x ∷ []) l) f in
      and_from _ _ g.0 (fit_snoc (taken ++ x ∷ []) l p g.1 (rw append_assoc r))

  -- how many cells are left
  unfoldable pub left : List ℕ → ℕ
  left taken = length (numbers (waits c taken) 0 (length c))

  pub left_step : (taken : List ℕ) (p : ℕ) → waits c taken p ≡ true → suc (left (taken ++ p ∷ [])) ≡ left taken
  unfolding left waits
  left_step taken p h =
      one_less (waits c taken) (waits c (taken ++ p ∷ [])) 0 (length c) p (omega arith) (omega (arith, cell_below p (waits-cell taken p h))) h (waits_taken (taken ++ p ∷ []) p (elem_snoc_same p taken)) others
    where
      others : (k : ℕ) → k ≢ p → waits c (taken ++ p ∷ []) k ≡ waits c taken k
      others k n = rw (elem_snoc_other k p taken n)

  pub left_none : (taken : List ℕ) → left taken ≡ 0 → (k : ℕ) → waits c taken k ≡ false
  unfolding left
  left_none taken e k = false_from_ne_true (waits c taken k) (λ w. clash w (numbers-none (waits c taken) (length c) k (nil_from_length _ e) (cell_below k (waits-cell taken k w))))

  pub left_some : (taken : List ℕ) → left taken ≢ 0 → (x : ℕ) × (waits c taken x ≡ true)
  unfolding left
  left_some taken h = go (numbers (waits c taken) 0 (length c)) refl
    where
      go : (l : List ℕ) → numbers (waits c taken) 0 (length c) ≡ l → (x : ℕ) × (waits c taken x ≡ true)
      go [] e = absurd (h (ap length e))
      go (x ∷ xs) e = (x, (numbers_in (waits c taken) 0 (length c) x (ap (elem x) e ∙ elem_here x x xs refl)).0)

  pub left_fit : (taken xs : List ℕ) → fit c taken xs ≡ true → left (taken ++ xs) + length xs ≡ left taken
  unfolding fit
  left_fit taken [] h = rw append-nil (omega arith)
  left_fit taken (x ∷ xs) h =
      let g = and_parts (ready c taken x) (fit c (taken ++ x ∷ []) xs) h in
      omega (arith, left_step taken x (ready-waits taken x g.0), rw append_assoc at (left_fit (taken ++ x ∷ []) xs g.1))

  pub lists_left : (order : List ℕ) → ListsAll c order → left order ≡ 0
  unfolding left
  lists_left order h =
      ap length (numbers-empty (waits c order) 0 (length c) (λ k a b. false_from_ne_true (waits c order k) (λ w. clash (h k (waits-cell order k w)) (waits_fresh order k w))))

  pub left_start : left [] ≡ length (cells_of c)
  unfolding left cells_of waits
  left_start = ap length (numbers_same (is_cell c) (waits c []) 0 (length c) (λ k a b. same k))
    where
      and_end : (t : Bool) → t && true ≡ t
      and_end true = refl
      and_end false = refl

      same : (k : ℕ) → waits c [] k ≡ is_cell c k
      same k = and_end (is_cell c k)

  pub none-ready : (taken : List ℕ) → ((k : ℕ) → waits c taken k ≡ false) → ready_cells c taken ≡ []
  unfolding ready_cells
  none-ready taken h = numbers-empty (ready c taken) 0 (length c) (λ k a b. false_from_ne_true (ready c taken k) (λ r. clash (ready-waits taken k r) (h k)))

  -- where nothing is ready, each cell that waits reads one that waits
  pub stuck : (taken : List ℕ) → ready_cells c taken ≡ [] → (x : ℕ) → waits c taken x ≡ true → (y : ℕ) × Reads c x y × (waits c taken y ≡ true)
  unfolding ready_cells
  stuck taken e x w =
      let isc = waits-cell taken x w in
      let nr = numbers-none (ready c taken) (length c) x e (cell_below x isc) in
      let f = free-not taken (reads_of c x) (false_from_ne_true (free c taken (reads_of c x)) (λ t. clash (ready_makes taken x w t) nr)) in
      (f.0, record { reader = isc; source = waits-cell taken f.0 f.2; among = f.1 }, f.2)

  pub leads_on : {x y z : ℕ} → Leads c x y → Reads c y z → Leads c x z
  leads_on (once r) s = more r (once s)
  leads_on (more r l) s = more r (leads_on l s)

  pub leads_first : {x z : ℕ} → Leads c x z → (y : ℕ) × Reads c x y × ((y ≡ z) ⊎ Leads c y z)
  leads_first (once {y = y} r) = (y, r, inl refl)
  leads_first (more {y = y} r l) = (y, r, inr l)

  pub leads_round : {x : ℕ} → Leads c x x → (y : ℕ) × Reads c x y × Leads c y y
  leads_round {x} l = go (leads_first l)
    where
      go : (y : ℕ) × Reads c x y × ((y ≡ x) ⊎ Leads c y x) → (y : ℕ) × Reads c x y × Leads c y y
      go t = fork t.0 t.1 t.2
        where
          fork : (y : ℕ) → Reads c x y → (y ≡ x) ⊎ Leads c y x → (y : ℕ) × Reads c x y × Leads c y y
          fork y r (inl e) = (y, r, once (subst (λ (z : ℕ). Reads c z y) (sym e) r))
          fork y r (inr m) = (y, r, leads_on m r)

  -- (ii), one half: what waits when nothing is ready holds a circle
  pub unseen : List ℕ → ℕ → Bool
  unseen seen k = not (elem k seen)

  Walked : List ℕ → ℕ → Type 0
  Walked taken fuel = (seen : List ℕ) (x : ℕ) → waits c taken x ≡ true → ((s : ℕ) → elem s seen ≡ true → Leads c s x) → elem x seen ≡ false → length (numbers (unseen seen) 0 (length c)) ≤ fuel → Circle c

  walk_on : (taken : List ℕ) (fuel : ℕ) → ready_cells c taken ≡ [] → Walked taken fuel → Walked taken (suc fuel)
  unfolding Walked unseen
  walk_on taken fuel e below seen x w l fresh h = on (stuck taken e x w)
    where
      shorter : suc (length (numbers (unseen (x ∷ seen)) 0 (length c))) ≡ length (numbers (unseen seen) 0 (length c))
      shorter =
          one_less (unseen seen) (unseen (x ∷ seen)) 0 (length c) x (omega arith) (omega (arith, cell_below x (waits-cell taken x w))) (ap not fresh) (ap not (elem_here x x seen refl)) (λ k n. rw (ne_eqb k x n))

      go : (y : ℕ) → Reads c x y → waits c taken y ≡ true → (t : Bool) → elem y (x ∷ seen) ≡ t → Circle c
      go y r wy true m = fork (elem-cons-split y x seen m)
        where
          fork : (y ≡ x) ⊎ (elem y seen ≡ true) → Circle c
          fork (inl q) = record { start = x; around = once (subst (λ (z : ℕ). Reads c x z) q r) }
          fork (inr g) = record { start = y; around = leads_on (l y g) r }
      go y r wy false m = below (x ∷ seen) y wy reach m (omega (arith, shorter))
        where
          reach : (s : ℕ) → elem s (x ∷ seen) ≡ true → Leads c s y
          reach s g = fork (elem-cons-split s x seen g)
            where
              fork : (s ≡ x) ⊎ (elem s seen ≡ true) → Leads c s y
              fork (inl q) = once (subst (λ (z : ℕ). Reads c z y) (sym q) r)
              fork (inr k) = leads_on (l s k) r

      on : (y : ℕ) × Reads c x y × (waits c taken y ≡ true) → Circle c
      on t = go t.0 t.1 t.2 (elem t.0 (x ∷ seen)) refl

  walk : (taken : List ℕ) → ready_cells c taken ≡ [] → (fuel : ℕ) → Walked taken fuel
  unfolding Walked unseen
  walk taken e zero seen x w l fresh h =
      absurd (clash (ap not fresh) (numbers-none (unseen seen) (length c) x (nil_from_length _ (omega arith)) (cell_below x (waits-cell taken x w))))
  walk taken e (suc fuel) seen x w l fresh h = walk_on taken fuel e (walk taken e fuel) seen x w l fresh h

  pub waiting_circle : (taken : List ℕ) → ready_cells c taken ≡ [] → (x : ℕ) → waits c taken x ≡ true → Circle c
  unfolding Walked
  waiting_circle taken e x w = walk taken e (length (numbers (unseen []) 0 (length c))) [] x w (λ s m. absurd (false≢true m)) refl (omega arith)

  -- (ii), the other half: a cell on a circle is never taken
  pub circle_waits : (taken xs : List ℕ) → fit c taken xs ≡ true → ((z : ℕ) → Leads c z z → elem z taken ≡ false) → (z : ℕ) → Leads c z z → elem z (taken ++ xs) ≡ false
  unfolding fit
  circle_waits taken [] h off z l = rw append-nil (off z l)
  circle_waits taken (x ∷ xs) h off z l =
      let g = and_parts (ready c taken x) (fit c (taken ++ x ∷ []) xs) h in
      rw append_assoc at (circle_waits (taken ++ x ∷ []) xs g.1 (still (ready_placed taken x g.0)) z l)
    where
      still : Placed c taken x → (y : ℕ) → Leads c y y → elem y (taken ++ x ∷ []) ≡ false
      still q y m = false_from_ne_true (elem y (taken ++ x ∷ [])) (λ t. fork (elem_snoc_split y x taken t))
        where
          fork : (y ≡ x) ⊎ (elem y taken ≡ true) → ⊥
          fork (inl e) = let r = leads_round m in clash (q.after r.0 (subst (λ (k : ℕ). Reads c k r.0) e r.1)) (off r.0 r.2)
          fork (inr t) = clash t (off y m)

  pub leads_down : Forward c → {x y : ℕ} → Leads c x y → y < x
  leads_down f (once {x = x} {y = y} r) = f x y r
  leads_down f (more {x = x} {y = y} {z = z} r l) = omega (arith, f x y r, leads_down f l)

  pub forward_no_circle : Forward c → Circle c → ⊥
  forward_no_circle f o = omega (arith, leads_down f o.around)
