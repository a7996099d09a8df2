-- What is promised of the order in which definitions are placed.
-- Assumes nothing.
use Rattle.std.specs.Prelude.{ℕ, ◌≡◌, ◌↔◌, Bool, true, not, ◌&&◌, List, [], ◌∷◌, length}
use Rattle.std.specs.List.{list_all, range_with_len}
use Rattle.laws.specs.Lists.{some}
use Rattle.laws.specs.Stretches.{same_bytes}
use Rattle.graphs.specs.Graph.{Circle, Forward, InOrder, ListsAll}
use Rattle.ordering.specs.Schedule.{Key, schedule_of}
use Rattle.ordering.specs.Promises.{leaves_out}
use Rattle.placing.specs.Definitions.{Definition, definition_graph}
use Rattle.placing.specs.Placing.{placing, placed_definitions}

-- "the earliest again and again" is the schedule at window 1
abbrev pub PlacedBySchedule : Type 0
PlacedBySchedule = (ds : List Definition) (key : ℕ → Key) → placing ds ≡ schedule_of (definition_graph ds) 1 key

-- no definition twice, and each after every definition that it reads
abbrev pub PlacedInOrder : Type 0
PlacedInOrder = (ds : List Definition) → InOrder (definition_graph ds) (placing ds)

-- "Definitions that read in a circle are 17": some definition is never placed
unfoldable pub leaves_some : List Definition → Bool
leaves_some ds = leaves_out (placing ds) (range_with_len 0 (length ds))

-- 17 exactly if there is a circle; otherwise each is placed
pub record PlacedUnlessCircleOf (ds : List Definition) : Type 0 where
  pub circle : leaves_some ds ≡ true ↔ Circle (definition_graph ds)
  pub all : (Circle (definition_graph ds) → ⊥) → ListsAll (definition_graph ds) (placing ds)
  pub number : (Circle (definition_graph ds) → ⊥) → length (placing ds) ≡ length ds

abbrev pub PlacedUnlessCircle : Type 0
PlacedUnlessCircle = (ds : List Definition) → PlacedUnlessCircleOf ds

-- where each reads only earlier ones, the order of the file
abbrev pub PlacedAsFiled : Type 0
PlacedAsFiled = (ds : List Definition) → Forward (definition_graph ds) → (placing ds ≡ range_with_len 0 (length ds)) × (placed_definitions ds ≡ ds)

-- whether a word stands among words
unfoldable pub stands_among : List ℕ → List (List ℕ) → Bool
stands_among w ws = some (λ x. same_bytes x w) ws

-- a reader line by line, with these words defined before (the newest first), refuses none of the definitions: no output word defined before (4), each input word defined before (5)
unfoldable pub accepts : List (List ℕ) → List Definition → Bool
accepts known [] = true
accepts known (d ∷ ds) =
    not (stands_among d.output known) && (list_all (λ w. stands_among w known) d.inputs && accepts (d.output ∷ known) ds)

-- what such a reader accepts after the inputs of the circuit is placed in the order of the file
abbrev pub AcceptedAsFiled : Type 0
AcceptedAsFiled = (inputs : List (List ℕ)) (ds : List Definition) → accepts inputs ds ≡ true → Forward (definition_graph ds) × (placed_definitions ds ≡ ds)
