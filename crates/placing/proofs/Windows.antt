-- The earliest definition that can be placed is what a step of window 1 takes.
-- Assumes nothing.
use Prim.Native.Nat.{ℕ, zero, suc}
use mathlib.Core.Path.{◌≡◌, refl, sym, ap, ◌∙◌}
use mathlib.Core.Bool.{Bool, true, false, cond}
use mathlib.Core.List.{List, [], ◌∷◌, ◌++◌}
use mathlib.Core.Option.{Option, none, some}
use native.Mathlib.Omega.{arith}
use lib.ListN.{length, take}
use Rattle.laws.specs.Lists.{keep, numbers}
use Rattle.laws.proofs.Lists.{numbers_same}
use Rattle.graphs.specs.Graph.{ready, ready_cells}
use Rattle.ordering.specs.Schedule.{Key, best, pick, next, onward, schedule_from, schedule_of}
use Rattle.placing.specs.Definitions.{Definition, definition_graph}
use Rattle.placing.specs.Placing.{can_place, first_of, earliest, place, placing_from, placing}
use Rattle.placing.proofs.Graphs.{length-graph, ready-is}

-- of numbers in ascending order window 1 shows the first
first-picked : (key : ℕ → Key) (p : ℕ → Bool) (k n : ℕ) → pick key (take 1 (numbers p k n)) ≡ first_of p k n
unfolding pick best numbers
first-picked key p k zero = refl
first-picked key p k (suc n) = go (p k) (first-picked key p (suc k) n)
  where
    go : (t : Bool) → pick key (take 1 (numbers p (suc k) n)) ≡ first_of p (suc k) n → pick key (take 1 (keep t k (numbers p (suc k) n))) ≡ cond t (some k) (first_of p (suc k) n)
    go true e = refl
    go false e = e

module _ (ds : List Definition) (key : ℕ → Key) where
  earliest-next : (placed : List ℕ) → next (definition_graph ds) 1 key placed ≡ earliest ds placed
  unfolding next ready_cells earliest
  earliest-next placed =
      ap (λ (n : ℕ). pick key (take 1 (numbers (ready (definition_graph ds) placed) 0 n))) (length-graph ds)
      ∙ ap (λ (l : List ℕ). pick key (take 1 l)) (numbers_same (can_place ds placed) (ready (definition_graph ds) placed) 0 (length ds) (λ k a b. ready-is ds placed k (omega arith)))
      ∙ first-picked key (can_place ds placed) 0 (length ds)

  from-schedule : (n : ℕ) (placed : List ℕ) → placing_from ds n placed ≡ schedule_from (definition_graph ds) 1 key n placed
  unfolding placing_from schedule_from
  from-schedule zero placed = refl
  from-schedule (suc n) placed = rw (earliest-next placed) (go (earliest ds placed) (λ k. from-schedule n (placed ++ k ∷ [])))
    where
      go : (o : Option ℕ) → ((k : ℕ) → placing_from ds n (placed ++ k ∷ []) ≡ schedule_from (definition_graph ds) 1 key n (placed ++ k ∷ [])) → place o placed (placing_from ds n) ≡ onward o placed (λ p. schedule_from (definition_graph ds) 1 key n (placed ++ p ∷ []))
      go none below = refl
      go (some k) below = below k

  pub by-schedule : placing ds ≡ schedule_of (definition_graph ds) 1 key
  unfolding placing schedule_of
  by-schedule = from-schedule (length ds) [] ∙ ap (λ (n : ℕ). schedule_from (definition_graph ds) 1 key n []) (sym (length-graph ds))
