-- What is ready in the graph of the definitions is what can be placed.
-- Assumes nothing.
use Prim.Native.Nat.{ℕ, ◌<◌}
use mathlib.Core.Path.{◌≡◌, refl, ap, ap₂, ◌∙◌}
use mathlib.Core.Bool.{Bool, true, false, not, ◌&&◌}
use mathlib.Core.List.{List, [], ◌∷◌, ◌++◌}
use native.Mathlib.Omega.{arith}
use lib.ListN.{length, get_or}
use Rattle.std.proofs.lemmas.List.{length-map}
use Rattle.std.specs.List.{list_all}
use Rattle.std.proofs.lemmas.List.{get_or-map}
use Rattle.laws.specs.Lists.{elem}
use Rattle.laws.proofs.Lists.{elem_here, elem-later, numbers_in}
use Rattle.graphs.specs.Graph.{Vertex, outside, is_cell, reads_of, waits, free, ready}
use Rattle.placing.specs.Definitions.{Definition, definition_at, definers, definers_of, vertex_in, definition_graph}
use Rattle.placing.specs.Placing.{word_placed, can_place}

pub length-graph : (ds : List Definition) → length (definition_graph ds) ≡ length ds
unfolding definition_graph
length-graph ds = length-map ds (vertex_in ds)

module _ (ds : List Definition) where
  at : (k : ℕ) → k < length ds → get_or (definition_graph ds) k outside ≡ vertex_in ds (definition_at ds k)
  unfolding definition_graph
  at k h = get_or-map (vertex_in ds) ds k _ outside h

  pub each-cell : (k : ℕ) → k < length ds → is_cell (definition_graph ds) k ≡ true
  unfolding is_cell vertex_in
  each-cell k h = ap (λ (v : Vertex). v.cell) (at k h)

  pub reads-are : (k : ℕ) → k < length ds → reads_of (definition_graph ds) k ≡ definers_of ds (definition_at ds k).inputs
  unfolding reads_of vertex_in
  reads-are k h = ap (λ (v : Vertex). v.reads) (at k h)

  waits-are : (placed : List ℕ) (k : ℕ) → k < length ds → waits (definition_graph ds) placed k ≡ not (elem k placed)
  unfolding waits
  waits-are placed k h = rw (each-cell k h)

  -- reads of definitions that are all below the last
  free-all : (placed rs rest : List ℕ) → ((k : ℕ) → elem k rs ≡ true → k < length ds) → free (definition_graph ds) placed (rs ++ rest) ≡ list_all (λ j. elem j placed) rs && free (definition_graph ds) placed rest
  unfolding free
  free-all placed [] rest h = refl
  free-all placed (r ∷ rs) rest h = rw (waits-are placed r (h r (elem_here r r rs refl)), free-all placed rs rest (λ k m. h k (elem-later k r rs m))) (go (elem r placed))
    where
      go : (t : Bool) → not (not t) && (list_all (λ j. elem j placed) rs && free (definition_graph ds) placed rest) ≡ (t && list_all (λ j. elem j placed) rs) && free (definition_graph ds) placed rest
      go true = refl
      go false = refl

  free-words : (placed : List ℕ) (ws : List (List ℕ)) → free (definition_graph ds) placed (definers_of ds ws) ≡ list_all (word_placed ds placed) ws
  unfolding definers_of word_placed definers free
  free-words placed [] = refl
  free-words placed (w ∷ ws) = free-all placed (definers ds w) (definers_of ds ws) (λ k m. omega (arith, (numbers_in _ 0 (length ds) k m).2)) ∙ ap (λ (t : Bool). list_all (λ j. elem j placed) (definers ds w) && t) (free-words placed ws)

  pub ready-is : (placed : List ℕ) (k : ℕ) → k < length ds → ready (definition_graph ds) placed k ≡ can_place ds placed k
  unfolding ready can_place
  ready-is placed k h = ap₂ ◌&&◌ (waits-are placed k h) (ap (free (definition_graph ds) placed) (reads-are k h) ∙ free-words placed (definition_at ds k).inputs)
