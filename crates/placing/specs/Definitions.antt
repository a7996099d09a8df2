-- The definitions of a BLIF text, as they are collected, and the graph of which definition reads which.
-- Assumes nothing.
use Rattle.std.specs.Prelude.{ℕ, true, List, [], ◌∷◌, ◌++◌, map, length, slice_index_or}
use Rattle.laws.specs.Lists.{numbers}
use Rattle.laws.specs.Stretches.{same_bytes}
use Rattle.graphs.specs.Graph.{Vertex}

-- a definition (`.names` and its rows): the bytes of its output word and of its input words, and its table
pub record Definition : Type 0 where
  pub output : List ℕ
  pub inputs : List (List ℕ)
  pub table : ℕ

-- definition k; past the last one, one that reads nothing
abbrev pub definition_at : List Definition → ℕ → Definition
definition_at ds k = slice_index_or ds k (record { output = []; inputs = []; table = 0 })

-- the numbers of the definitions of a word: none of an input of the circuit
unfoldable pub definers : List Definition → List ℕ → List ℕ
definers ds w = numbers (λ j. same_bytes (definition_at ds j).output w) 0 (length ds)

-- the definitions among words, once per word
unfoldable pub definers_of : List Definition → List (List ℕ) → List ℕ
definers_of ds [] = []
definers_of ds (w ∷ ws) = definers ds w ++ definers_of ds ws

-- a definition, a constant or an alias too, reads the definitions among its inputs
unfoldable pub vertex_in : List Definition → Definition → Vertex
vertex_in ds d = record { cell = true; reads = definers_of ds d.inputs }

-- the graph of the definitions
unfoldable pub definition_graph : List Definition → List Vertex
definition_graph ds = map (vertex_in ds) ds
