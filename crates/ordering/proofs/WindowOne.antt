-- With window 1, whatever the keys, a circuit whose cells read earlier nodes alone is listed in storage order.
-- Assumes nothing.
use Prim.Native.Nat.{ℕ, zero, suc, ◌+◌, ◌≤◌, ◌<◌}
use mathlib.Core.Path.{◌≡◌, refl, sym, ap, ◌∙◌}
use mathlib.Core.Bool.{Bool, true, false}
use mathlib.Core.List.{List, [], ◌++◌, append-nil}
use mathlib.Core.Option.{some}
use native.Mathlib.Omega.{arith}
use native.Mathlib.Nat.{zero-add, add-zero, add-suc, suc-add}
use native.Mathlib.Numerals.{add-one}
use lib.ListN.{length}
use Rattle.std.proofs.lemmas.Bool.{false_from_ne_true}
use Rattle.laws.specs.Lists.{elem, keep, numbers}
use Rattle.laws.proofs.Tests.{clash}
use Rattle.laws.proofs.Lists.{in_numbers, numbers_in, numbers-empty}
use Rattle.graphs.specs.Graph.{Vertex, is_cell, reads_of, cells_of, waits, ready, ready_cells, Forward}
use Rattle.graphs.proofs.Graph.{cell_below, waits-cell, waits_fresh, waits_makes, ready-waits, ready_makes, free_makes, none-ready}
use Rattle.ordering.specs.Schedule.{Key, best, pick, next, schedule_from, schedule_of}
use Rattle.ordering.proofs.Order.{at-end}

pub numbers-append : (p : ℕ → Bool) (from n m : ℕ) → numbers p from (n + m) ≡ numbers p from n ++ numbers p (from + n) m
unfolding numbers
numbers-append p from zero m = rw (zero-add, add-zero)
numbers-append p from (suc n) m = rw (suc-add n m, add-suc from n, numbers-append p (suc from) n m, suc-add from n) (spread (p from))
  where
    spread : (t : Bool) → keep t from (numbers p (suc from) n ++ numbers p (suc (from + n)) m) ≡ keep t from (numbers p (suc from) n) ++ numbers p (suc (from + n)) m
    spread true = refl
    spread false = refl

module _ (c : List Vertex) (key : ℕ → Key) (forward : Forward c) where
  first : ℕ → List ℕ
  first i = numbers (is_cell c) 0 i

  -- what is below i is taken, and i itself is not
  first_taken : (i k : ℕ) → k < i → waits c (first i) k ≡ false
  unfolding first
  first_taken i k h = false_from_ne_true (waits c (first i) k) (λ w. clash (in_numbers (is_cell c) 0 i k (waits-cell c (first i) k w) (omega arith) (omega arith)) (waits_fresh c (first i) k w))

  first-ready : (i : ℕ) → is_cell c i ≡ true → ready c (first i) i ≡ true
  unfolding first
  first-ready i h =
      ready_makes c (first i) i (waits_makes c (first i) i h (false_from_ne_true (elem i (first i)) (λ t. omega (arith, (numbers_in (is_cell c) 0 i i t).2)))) (free_makes c (first i) (reads_of c i) reads)
    where
      reads : (y : ℕ) → elem y (reads_of c i) ≡ true → waits c (first i) y ≡ false
      reads y m = false_from_ne_true (waits c (first i) y) (λ w. clash w (first_taken i y (forward i y (record { reader = h; source = waits-cell c (first i) y w; among = m }))))

  first_head : (i m : ℕ) → i + suc m ≡ length c → is_cell c i ≡ true → next c 1 key (first i) ≡ some i
  unfolding next ready_cells pick best numbers
  first_head i m e h =
      rw (← e, numbers-append (ready c (first i)) 0 i (suc m), numbers-empty (ready c (first i)) 0 i below, zero-add, first-ready i h)
    where
      below : (k : ℕ) → 0 ≤ k → k < 0 + i → ready c (first i) k ≡ false
      below k a b = false_from_ne_true (ready c (first i) k) (λ r. clash (ready-waits c (first i) k r) (first_taken i k (omega arith)))

  first_more : (i : ℕ) → first (suc i) ≡ first i ++ keep (is_cell c i) i []
  unfolding first numbers
  first_more i = ap (numbers (is_cell c) 0) (sym (add-one i)) ∙ numbers-append (is_cell c) 0 i 1 ∙ ap (λ (k : ℕ). first i ++ keep (is_cell c k) k []) (zero-add i)

  Stored : ℕ → Type 0
  Stored m = (i fuel : ℕ) → i + m ≡ length c → m ≤ fuel → schedule_from c 1 key fuel (first i) ≡ first (length c)

  stored_more : (m : ℕ) → Stored m → Stored (suc m)
  unfolding Stored schedule_from
  stored_more m below i zero e h = absurd (omega arith)
  stored_more m below i (suc fuel) e h = go (is_cell c i) refl
    where
      go : (t : Bool) → is_cell c i ≡ t → schedule_from c 1 key (suc fuel) (first i) ≡ first (length c)
      go true q = rw (first_head i m e q, ← (ap (λ (t : Bool). first i ++ keep t i []) q), ← (first_more i)) (below (suc i) fuel (omega arith) (omega arith))
      go false q =
          let same : first (suc i) ≡ first i = first_more i ∙ ap (λ (t : Bool). first i ++ keep t i []) q ∙ append-nil (first i) in
          ap (schedule_from c 1 key (suc fuel)) (sym same) ∙ below (suc i) (suc fuel) (omega arith) (omega arith)

  stored : (m : ℕ) → Stored m
  unfolding Stored
  stored zero i fuel e h =
      let at : i ≡ length c = omega arith in
      ap (λ (k : ℕ). schedule_from c 1 key fuel (first k)) at ∙ at-end c 1 key fuel (first (length c)) (none-ready c (first (length c)) nothing)
    where
      nothing : (k : ℕ) → waits c (first (length c)) k ≡ false
      nothing k = false_from_ne_true (waits c (first (length c)) k) (λ w. clash w (first_taken (length c) k (cell_below c k (waits-cell c (first (length c)) k w))))
  stored (suc m) i fuel e h = stored_more m (stored m) i fuel e h

  pub window_one : schedule_of c 1 key ≡ cells_of c
  unfolding schedule_of cells_of first Stored numbers
  window_one = stored (length c) 0 (length c) (zero-add (length c)) (omega arith)
