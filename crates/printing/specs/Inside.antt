-- The records of a circuit that was read are inside the areas.
-- Assumes nothing.
use Rattle.std.specs.Prelude.{ℕ, ◌*◌, ◌≤◌, List, length, Ok, Err}
use Rattle.circuit.specs.declared.records.Sizes.{Sizes}
use Rattle.circuit.specs.declared.records.TheConstants.{NODE_WORDS, OUTPUT_WORDS}
use Rattle.circuit.specs.Refusals.{Try}
use Rattle.printing.specs.declared.rooms.TheConstants.{JOINED_AREA, NODES_AREA}

pub record Inside (n m : ℕ) (nodes outputs : List ℕ) : Type 0 where
  pub words_of_nodes : n * NODE_WORDS ≤ length nodes
  pub words_of_outputs : m * OUTPUT_WORDS ≤ length outputs

abbrev pub ReadInside : Try Sizes → List ℕ → List ℕ → Type 0
ReadInside (Ok s) nodes outputs = Inside s.nodes s.outputs nodes outputs
ReadInside (Err e) nodes outputs = Unit

-- what the areas of a list program hold, with a text of the names
pub record Listable (text nodes outputs : List ℕ) (r : Try Sizes) : Type 0 where
  pub text_size : length text ≤ JOINED_AREA
  pub node_size : length nodes ≤ NODES_AREA
  pub inside : ReadInside r nodes outputs
