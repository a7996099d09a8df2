-- What holds while the cells are taken one after the other.
-- Assumes nothing.
use Rattle.std.specs.Prelude.{ℕ, ◌-◌, ◌≡◌, ◌⊎◌, true, List, [], length, take}
use Rattle.graphs.specs.Graph.{Vertex, fit}
use Rattle.ordering.specs.declared.window.Window.{Window}
use Rattle.ordering.specs.Schedule.{key_at, schedule_from, schedule_of}
use Rattle.ordering.specs.Areas.{Running, Startable, Scheduled}

-- none of the ready nodes are below the limit, or all
pub record FirstWindow (count number : ℕ) (at : Window) : Type 0 where
  pub same : at.number ≡ number
  pub sides : ((at.limit ≡ 0) × (at.inside ≡ 0)) ⊎ ((at.limit ≡ count) × (at.inside ≡ number))

-- the first `taken` cells of the order are taken, and the order goes on from there
pub record Taking (src : ℕ → ℕ) (c : List Vertex) (keys next : List ℕ) (window taken : ℕ) (order area : List ℕ) : Type 0 where
  pub running : Running src c (take taken order) area next
  pub fitting : fit c [] (take taken order) ≡ true
  pub same : schedule_from c window (key_at keys) (length c - taken) (take taken order) ≡ schedule_of c window (key_at keys)

-- the same of any circuit that the areas fitted at the start
abbrev pub Took : List ℕ → List ℕ → List ℕ → ℕ → ℕ → ℕ → List ℕ → List ℕ → Type 0
Took start next keys count window taken order area =
    (src : ℕ → ℕ) (c : List Vertex) → Running src c [] start next → length c ≡ count → Taking src c keys next window taken order area

-- there is a start from which the areas came
pub record Resumable (count : ℕ) (area next keys : List ℕ) (window taken : ℕ) (order : List ℕ) : Type 0 where
  pub start : List ℕ
  pub startable : Startable count start next
  pub took : Took start next keys count window taken order area

-- whatever the start was, r cells are taken in its order
abbrev pub Finished : ℕ → List ℕ → List ℕ → List ℕ → ℕ → ℕ → List ℕ → List ℕ → ℕ → Type 0
Finished count area next keys window taken order after r =
    (start : List ℕ) → Startable count start next → Took start next keys count window taken order area → Scheduled count start next keys window after r
