-- What the schedule does: it lists each cell once, after every cell that it reads, until those that are left read in a circle.
-- Assumes nothing.
use Prim.Native.Nat.{ℕ, zero, suc, ◌+◌, ◌≤◌}
use mathlib.Core.Path.{◌≡◌, refl, sym, ap, subst, ◌∙◌}
use mathlib.Core.Logic.{◌⊎◌, inl, inr, ◌≢◌}
use mathlib.Core.Bool.{Bool, true, false, cond}
use mathlib.Core.List.{List, [], ◌∷◌, ◌++◌, append_assoc, append-nil}
use mathlib.Core.Option.{Option, none, some}
use native.Mathlib.Omega.{arith}
use lib.ListN.{length, take}
use lib.Seq.{take-nil}
use Rattle.std.proofs.lemmas.Bool.{and_from, true_from_ne_false}
use Rattle.laws.specs.Lists.{elem, keep, numbers}
use Rattle.laws.proofs.Tests.{clash}
use Rattle.laws.proofs.Lists.{elem-cons-split, elem_here, elem-later, elem-take, numbers_in}
use Rattle.graphs.specs.Graph.{Vertex, is_cell, cells_of, waits, ready, ready_cells, fit, Leads, Circle, Forward, InOrder, ListsAll}
use Rattle.graphs.proofs.Graph.{waits_makes, ready-waits, fit_in_order, left_step, left_none, left_some, left_fit, lists_left, left_start, none-ready, waiting_circle, circle_waits, forward_no_circle, leads_round, left}
use Rattle.ordering.specs.Schedule.{Key, above, best, pick, next, onward, schedule_from, schedule_of}

pub best_in : (key : ℕ → Key) (b : ℕ) (ks : List ℕ) → elem (best key b ks) (b ∷ ks) ≡ true
unfolding best
best_in key b [] = elem_here b b [] refl
best_in key b (k ∷ ks) = go (above (key k) (key b)) (best_in key (cond (above (key k) (key b)) k b) ks)
  where
    go : (t : Bool) → elem (best key (cond t k b) ks) (cond t k b ∷ ks) ≡ true → elem (best key (cond t k b) ks) (b ∷ k ∷ ks) ≡ true
    go true h = elem-later (best key k ks) b (k ∷ ks) h
    go false h = fork (elem-cons-split (best key b ks) b ks h)
      where
        fork : (best key b ks ≡ b) ⊎ (elem (best key b ks) ks ≡ true) → elem (best key b ks) (b ∷ k ∷ ks) ≡ true
        fork (inl e) = elem_here (best key b ks) b (k ∷ ks) e
        fork (inr g) = elem-later (best key b ks) b (k ∷ ks) (elem-later (best key b ks) k ks g)

pick_in : (key : ℕ → Key) (l : List ℕ) (p : ℕ) → pick key l ≡ some p → elem p l ≡ true
unfolding pick
pick_in key [] p e = let z : ◌≡◌ {A = ℕ} 0 1 = cc in absurd (omega arith)
pick_in key (k ∷ ks) p e = let q : best key k ks ≡ p = cc in subst (λ (x : ℕ). elem x (k ∷ ks) ≡ true) q (best_in key k ks)

pick-none : (key : ℕ → Key) (w : ℕ) (l : List ℕ) → 1 ≤ w → pick key (take w l) ≡ none → l ≡ []
unfolding pick
pick-none key zero l h e = absurd (omega arith)
pick-none key (suc w) [] h e = refl
pick-none key (suc w) (x ∷ xs) h e = let z : ◌≡◌ {A = ℕ} 0 1 = cc in absurd (omega arith)

pub length-numbers : (p : ℕ → Bool) (from n : ℕ) → length (numbers p from n) ≤ n
unfolding numbers
length-numbers p from zero = omega arith
length-numbers p from (suc n) = go (p from) (length-numbers p (suc from) n)
  where
    go : (t : Bool) → length (numbers p (suc from) n) ≤ n → length (keep t from (numbers p (suc from) n)) ≤ suc n
    go true h = omega arith
    go false h = omega arith

module _ (c : List Vertex) (window : ℕ) (key : ℕ → Key) where
  pub next-ready : (taken : List ℕ) (p : ℕ) → next c window key taken ≡ some p → ready c taken p ≡ true
  unfolding next ready_cells
  next-ready taken p e = (numbers_in (ready c taken) 0 (length c) p (elem-take window p (ready_cells c taken) (pick_in key (take window (ready_cells c taken)) p e))).0

  pub next-none : (taken : List ℕ) → 1 ≤ window → next c window key taken ≡ none → ready_cells c taken ≡ []
  unfolding next
  next-none taken h e = pick-none key window (ready_cells c taken) h e

  schedule_rest : (fuel : ℕ) (taken : List ℕ) → (rest : List ℕ) × (schedule_from c window key fuel taken ≡ taken ++ rest) × (fit c taken rest ≡ true)
  unfolding schedule_from fit
  schedule_rest zero taken = ([], sym (append-nil taken), refl)
  schedule_rest (suc fuel) taken = go (next c window key taken) refl (λ p. schedule_rest fuel (taken ++ p ∷ []))
    where
      go : (o : Option ℕ) → next c window key taken ≡ o → ((p : ℕ) → (rest : List ℕ) × (schedule_from c window key fuel (taken ++ p ∷ []) ≡ taken ++ p ∷ [] ++ rest) × (fit c (taken ++ p ∷ []) rest ≡ true)) → (rest : List ℕ) × (onward (next c window key taken) taken (λ p. schedule_from c window key fuel (taken ++ p ∷ [])) ≡ taken ++ rest) × (fit c taken rest ≡ true)
      go none e below = ([], rw e (sym (append-nil taken)), refl)
      go (some p) e below = let b = below p in (p ∷ b.0, rw e (b.1 ∙ append_assoc taken (p ∷ []) b.0), and_from _ _ (next-ready taken p e) b.2)

  pub schedule_fit : fit c [] (schedule_of c window key) ≡ true
  unfolding schedule_of
  schedule_fit = let b = schedule_rest (length c) [] in ap (fit c []) b.1 ∙ b.2

  -- no cell twice, each after every cell that it reads
  pub schedule_in_order : InOrder c (schedule_of c window key)
  schedule_in_order = fit_in_order c (schedule_of c window key) schedule_fit

  ends : (fuel : ℕ) (taken : List ℕ) → 1 ≤ window → left c taken ≤ fuel → ready_cells c (schedule_from c window key fuel taken) ≡ []
  unfolding schedule_from
  ends zero taken h l = none-ready c taken (left_none c taken (omega arith))
  ends (suc fuel) taken h l = go (next c window key taken) refl (λ p. ends fuel (taken ++ p ∷ []) h)
    where
      go : (o : Option ℕ) → next c window key taken ≡ o → ((p : ℕ) → left c (taken ++ p ∷ []) ≤ fuel → ready_cells c (schedule_from c window key fuel (taken ++ p ∷ [])) ≡ []) → ready_cells c (onward (next c window key taken) taken (λ p. schedule_from c window key fuel (taken ++ p ∷ []))) ≡ []
      go none e below = rw e (next-none taken h e)
      go (some p) e below = rw e (below p (omega (arith, left_step c taken p (ready-waits c taken p (next-ready taken p e)))))

  -- it stops only where nothing is ready
  pub schedule_ends : 1 ≤ window → ready_cells c (schedule_of c window key) ≡ []
  unfolding schedule_of left
  schedule_ends h = ends (length c) [] h (length-numbers (waits c []) 0 (length c))

  -- what is left out reads in a circle, and what reads in a circle is left out
  pub short_circle : 1 ≤ window → (x : ℕ) → is_cell c x ≡ true → elem x (schedule_of c window key) ≡ false → Circle c
  short_circle h x i e = waiting_circle c (schedule_of c window key) (schedule_ends h) x (waits_makes c (schedule_of c window key) x i e)

  pub circle_short : (z : ℕ) → Leads c z z → elem z (schedule_of c window key) ≡ false
  circle_short z l = circle_waits c [] (schedule_of c window key) schedule_fit (λ y m. refl) z l

  -- the same by counting, as the code tells: all cells are listed exactly if their number is
  pub schedule_count : left c (schedule_of c window key) + length (schedule_of c window key) ≡ length (cells_of c)
  schedule_count = left_fit c [] (schedule_of c window key) schedule_fit ∙ left_start c

  pub count_no_circle : length (schedule_of c window key) ≡ length (cells_of c) → Circle c → ⊥
  count_no_circle e o =
      clash (waits_makes c (schedule_of c window key) o.start (leads_round c o.around).1.reader (circle_short o.start o.around)) (left_none c (schedule_of c window key) (omega (arith, schedule_count)) o.start)

  pub count_circle : 1 ≤ window → length (schedule_of c window key) ≢ length (cells_of c) → Circle c
  count_circle h n =
      let x = left_some c (schedule_of c window key) (λ z. n (omega (arith, schedule_count, z))) in
      waiting_circle c (schedule_of c window key) (schedule_ends h) x.0 x.1

  pub no_circle_lists : 1 ≤ window → (Circle c → ⊥) → ListsAll c (schedule_of c window key)
  no_circle_lists h no-circle x i = true_from_ne_false (elem x (schedule_of c window key)) (λ e. no-circle (short_circle h x i e))

  pub no_circle_count : 1 ≤ window → (Circle c → ⊥) → length (schedule_of c window key) ≡ length (cells_of c)
  no_circle_count h no-circle = omega (arith, schedule_count, lists_left c (schedule_of c window key) (no_circle_lists h no-circle))

  -- where every cell reads earlier nodes alone, every cell is listed
  pub forward_lists : 1 ≤ window → Forward c → ListsAll c (schedule_of c window key)
  forward_lists h f = no_circle_lists h (forward_no_circle c f)

  pub forward_count : 1 ≤ window → Forward c → length (schedule_of c window key) ≡ length (cells_of c)
  forward_count h f = no_circle_count h (forward_no_circle c f)

  -- where nothing is ready, nothing more is taken
  pub at-end : (fuel : ℕ) (taken : List ℕ) → ready_cells c taken ≡ [] → schedule_from c window key fuel taken ≡ taken
  unfolding schedule_from
  at-end zero taken e = refl
  at-end (suc fuel) taken e = rw (no_next taken e)
    where
      no_next : (taken : List ℕ) → ready_cells c taken ≡ [] → next c window key taken ≡ none
      no_next taken e = ap (λ (l : List ℕ). pick key (take window l)) e ∙ ap (pick key) (take-nil window)
