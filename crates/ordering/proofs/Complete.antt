-- Whether the schedule leaves out a cell: by counting, and exactly if some cells read in a circle.
-- Assumes nothing.
use Prim.Native.Nat.{ℕ, ◌≤◌}
use mathlib.Core.Path.{◌≡◌, refl, sym, ap, ◌∙◌}
use mathlib.Core.Logic.{◌⊎◌, inl, inr, ◌≢◌}
use mathlib.Core.Bool.{Bool, true, false, not, ◌||◌, false≢true}
use mathlib.Core.List.{List, [], ◌∷◌}
use native.Mathlib.Omega.{arith}
use lib.ListN.{length}
use Rattle.std.proofs.Math.Bool.{or-true}
use Rattle.std.proofs.lemmas.Bool.{true_from_ne_false}
use Rattle.laws.specs.Lists.{elem, some}
use Rattle.laws.proofs.Tests.{clash}
use Rattle.laws.proofs.Lists.{elem-cons-split, elem_here, elem-later, numbers_in, in_numbers}
use Rattle.graphs.specs.Graph.{Vertex, is_cell, cells_of, Circle, ListsAll}
use Rattle.graphs.proofs.Graph.{cell_below, waits-cell, waits_fresh, taken_of, left_none, left_some}
use Rattle.ordering.specs.Schedule.{Key, schedule_of}
use Rattle.ordering.specs.Promises.{leaves_out}
use Rattle.ordering.proofs.Order.{schedule_count, count_no_circle, count_circle}

some-none : (p : ℕ → Bool) (l : List ℕ) → ((k : ℕ) → elem k l ≡ true → p k ≡ false) → some p l ≡ false
some-none p [] h = refl
some-none p (x ∷ l) h = rw (h x (elem_here x x l refl)) (some-none p l (λ k m. h k (elem-later k x l m)))

some_in : (p : ℕ → Bool) (l : List ℕ) (k : ℕ) → elem k l ≡ true → p k ≡ true → some p l ≡ true
some_in p [] k m h = absurd (false≢true m)
some_in p (x ∷ l) k m h = go (elem-cons-split k x l m) (some_in p l k)
  where
    go : (k ≡ x) ⊎ (elem k l ≡ true) → (elem k l ≡ true → p k ≡ true → some p l ≡ true) → p x || some p l ≡ true
    go (inl e) below = rw (ap p (sym e) ∙ h)
    go (inr m) below = rw (below m h) (or-true (p x))

module _ (c : List Vertex) where
  pub cells_in : (k : ℕ) → elem k (cells_of c) ≡ true → is_cell c k ≡ true
  unfolding cells_of
  cells_in k m = (numbers_in (is_cell c) 0 (length c) k m).0

  pub in_cells : (k : ℕ) → is_cell c k ≡ true → elem k (cells_of c) ≡ true
  unfolding cells_of
  in_cells k h = in_numbers (is_cell c) 0 (length c) k h (omega arith) (omega (arith, cell_below c k h))

  module _ (window : ℕ) (key : ℕ → Key) where
    pub count_all : length (schedule_of c window key) ≡ length (cells_of c) → leaves_out (schedule_of c window key) (cells_of c) ≡ false
    unfolding leaves_out
    count_all e =
        some-none (λ k. not (elem k (schedule_of c window key))) (cells_of c)
        (λ k m. ap not (taken_of c (schedule_of c window key) k (cells_in k m) (left_none c (schedule_of c window key) (omega (arith, schedule_count c window key)) k)))

    pub count_some : length (schedule_of c window key) ≢ length (cells_of c) → leaves_out (schedule_of c window key) (cells_of c) ≡ true
    unfolding leaves_out
    count_some n =
        let x = left_some c (schedule_of c window key) (λ z. n (omega (arith, schedule_count c window key, z))) in
        some_in (λ k. not (elem k (schedule_of c window key))) (cells_of c) x.0 (in_cells x.0 (waits-cell c (schedule_of c window key) x.0 x.1))
        (ap not (waits_fresh c (schedule_of c window key) x.0 x.1))

    -- 17, the two ways
    pub out_circle : 1 ≤ window → leaves_out (schedule_of c window key) (cells_of c) ≡ true → Circle c
    out_circle h e = count_circle c window key h (λ q. clash e (count_all q))

    pub circle_out : Circle c → leaves_out (schedule_of c window key) (cells_of c) ≡ true
    circle_out o = count_some (λ q. count_no_circle c window key q o)

    pub none_out : leaves_out (schedule_of c window key) (cells_of c) ≡ false → ListsAll c (schedule_of c window key)
    unfolding leaves_out
    none_out e x h =
        true_from_ne_false (elem x (schedule_of c window key)) (λ z. clash (some_in (λ k. not (elem k (schedule_of c window key))) (cells_of c) x (in_cells x h) (ap not z)) e)
