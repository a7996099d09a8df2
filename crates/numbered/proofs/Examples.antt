-- Examples, each computed from the definitions.
-- Assumes nothing.
use mathlib.Core.Path.{◌≡◌, refl}
use mathlib.Core.List.{List, [], ◌∷◌, ◌++◌, map}
use Prim.Native.Nat.{ℕ}
use lib.ListN.{replicate}
use Rattle.laws.specs.Areas.{encodes}
use Rattle.circuit.specs.declared.records.Name.TheVariants.{Stretch}
use Rattle.circuit.specs.Records.{places, encode_node, input_node, node_from, is_cell_node, wires_of}
use Rattle.circuit.specs.Check.{cell_broken, record_broken, node_broken, circuit_broken, whole, records_fault}
use Rattle.values.specs.Assignments.{input_count}
use Rattle.numbered.specs.Numbered.{numbered, number_fault, exhaustive_fault, after_numbering, exhaustive_call}

-- so many inputs
abbrev inputs : ℕ → List ℕ
inputs k = encodes encode_node (replicate k (input_node (Stretch 0 1)))

-- the last number of 20 inputs; the next is 19, and of 21 inputs each is 21
pub numbered_last : exhaustive_call (inputs 20) [] 1048575 (replicate 21 7) ≡ record { number = 0; count = 20; assignment = replicate 20 1 ++ 0 ∷ [] }
unfolding exhaustive_call after_numbering exhaustive_fault number_fault records_fault whole circuit_broken node_broken record_broken cell_broken wires_of is_cell_node places input_node node_from encode_node input_count numbered
numbered_last = refl

pub too_far : map (λ (k : ℕ). (exhaustive_call (inputs k) [] 1048576 []).number) (20 ∷ 21 ∷ []) ≡ 19 ∷ 21 ∷ []
unfolding exhaustive_call after_numbering exhaustive_fault number_fault records_fault whole circuit_broken node_broken record_broken cell_broken wires_of is_cell_node places input_node node_from encode_node input_count
too_far = refl

-- the first input is the most significant
pub numbered_six : (exhaustive_call (inputs 3) [] 6 (replicate 3 7)).assignment ≡ 1 ∷ 1 ∷ 0 ∷ []
unfolding exhaustive_call after_numbering exhaustive_fault number_fault records_fault whole circuit_broken node_broken record_broken cell_broken wires_of is_cell_node places input_node node_from encode_node input_count numbered
numbered_six = refl
