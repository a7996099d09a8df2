-- What the schedule promises, of the definitions: each once after what it reads, all exactly if there is no circle, in the order of the file where that is an order.
-- Assumes nothing.
use Prim.Native.Nat.{ℕ, zero, suc, ◌+◌, ◌≤◌, ◌<◌}
use mathlib.Core.Path.{◌≡◌, refl, sym, ap, ◌∙◌}
use mathlib.Core.Logic.{◌≢◌}
use mathlib.Core.Bool.{Bool, true, false}
use mathlib.Core.List.{List, [], ◌∷◌}
use native.Mathlib.Omega.{arith}
use native.Mathlib.Numerals.{unary_clauses}
use lib.ListN.{length, get_or, drop}
use lib.Seq.{drop-cons}
use Rattle.std.specs.Prelude.{map}
use Rattle.std.specs.List.{range_with_len}
use Rattle.std.proofs.Common.{drop_of_length-le}
use Rattle.std.proofs.lemmas.List.FromFn.{length-range_with_len}
use Rattle.laws.specs.Lists.{numbers}
use Rattle.graphs.specs.Graph.{is_cell, cells_of, Forward, InOrder}
use Rattle.ordering.specs.Schedule.{Key}
use Rattle.ordering.proofs.Order.{schedule_in_order, no_circle_lists, no_circle_count}
use Rattle.ordering.proofs.Complete.{count_all, count_some, out_circle, circle_out}
use Rattle.ordering.proofs.WindowOne.{window_one}
use Rattle.placing.specs.Definitions.{Definition, definition_at, definition_graph}
use Rattle.placing.specs.Placing.{placing, placed_definitions}
use Rattle.placing.specs.Promises.{leaves_some, PlacedUnlessCircleOf}
use Rattle.placing.proofs.Graphs.{length-graph, each-cell}
use Rattle.placing.proofs.Windows.{by-schedule}

-- numbers that all pass
all-pass : (p : ℕ → Bool) (i n : ℕ) → ((k : ℕ) → i ≤ k → k < i + n → p k ≡ true) → numbers p i n ≡ range_with_len i n
unfolding numbers
all-pass p i zero h = refl
all-pass p i (suc n) h = simp unary_clauses (rw (h i (omega arith) (omega arith)) (ap (λ (l : List ℕ). i ∷ l) (all-pass p (suc i) n (λ k a b. h k (omega arith) (omega arith)))))

-- a list by its numbers
pub from-number : {A : Type 0} (d : A) (xs : List A) (i n : ℕ) → i + n ≡ length xs → map (λ k. get_or xs k d) (range_with_len i n) ≡ drop i xs
from-number d xs i zero e = sym (drop_of_length-le xs (omega arith))
from-number {A} d xs i (suc n) e = let h : i < length xs = omega arith in simp unary_clauses (rw (drop-cons xs i d h) (ap (λ (l : List A). get_or xs i d ∷ l) (from-number d xs (suc i) n (omega arith))))

module _ (ds : List Definition) where
  -- any keys
  equal : ℕ → Key
  equal k = record { first = 0; second = 0; third = 0 }

  cells-are : cells_of (definition_graph ds) ≡ range_with_len 0 (length ds)
  unfolding cells_of
  cells-are = ap (numbers (is_cell (definition_graph ds)) 0) (length-graph ds) ∙ all-pass (is_cell (definition_graph ds)) 0 (length ds) (λ k a b. each-cell ds k (omega arith))

  number-is : length (cells_of (definition_graph ds)) ≡ length ds
  number-is = ap length cells-are ∙ length-range_with_len 0 (length ds)

  pub in-order : InOrder (definition_graph ds) (placing ds)
  in-order = rw (by-schedule ds equal) (schedule_in_order (definition_graph ds) 1 equal)

  pub unless-circle : PlacedUnlessCircleOf ds
  unfolding leaves_some
  unless-circle =
      record {
        circle = (λ e. out_circle (definition_graph ds) 1 equal (omega arith) (rw (cells-are, ← (by-schedule ds equal)) e), λ o. rw (by-schedule ds equal, ← cells-are) (circle_out (definition_graph ds) 1 equal o));
        all = λ none. rw (by-schedule ds equal) (no_circle_lists (definition_graph ds) 1 equal (omega arith) none);
        number = λ none. ap length (by-schedule ds equal) ∙ no_circle_count (definition_graph ds) 1 equal (omega arith) none ∙ number-is;
      }

  -- whether all are placed, by their number
  pub leaves-none : length (placing ds) ≡ length ds → leaves_some ds ≡ false
  unfolding leaves_some
  leaves-none e =
      rw (by-schedule ds equal, ← cells-are)
      (count_all (definition_graph ds) 1 equal (ap length (sym (by-schedule ds equal)) ∙ e ∙ sym number-is))

  pub leaves-one : length (placing ds) ≢ length ds → leaves_some ds ≡ true
  unfolding leaves_some
  leaves-one n =
      rw (by-schedule ds equal, ← cells-are)
      (count_some (definition_graph ds) 1 equal (λ e. n (ap length (by-schedule ds equal) ∙ e ∙ number-is)))

  pub as-filed : Forward (definition_graph ds) → placing ds ≡ range_with_len 0 (length ds)
  as-filed forward = by-schedule ds equal ∙ window_one (definition_graph ds) equal forward ∙ cells-are

  pub filed-definitions : Forward (definition_graph ds) → placed_definitions ds ≡ ds
  unfolding placed_definitions
  filed-definitions forward = ap (map (definition_at ds)) (as-filed forward) ∙ from-number (record { output = []; inputs = []; table = 0 }) ds 0 (length ds) (omega arith)
