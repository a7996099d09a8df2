-- The circuit check over a list of nodes and the outputs' words, by the definitions of the check over the areas.
-- Assumes nothing.
use Rattle.std.specs.Prelude.{ℕ, ◌%◌, ◌==◌, ◌≡◌, not, List, length}
use Rattle.laws.specs.Areas.{encodes}
use Rattle.circuit.specs.declared.records.TheConstants.{OUTPUT_WORDS}
use Rattle.circuit.specs.declared.records.BoolNode.{BoolNode}
use Rattle.circuit.specs.declared.refusals.Refusal.TheVariants.{Broken}
use Rattle.circuit.specs.Refusals.{Checked, refuse_if, first_fault}
use Rattle.circuit.specs.Records.{encode_node}
use Rattle.circuit.specs.Check.{check_circuit, wires_in, topological_fault}

-- An output area that ends in a part of a record is Broken.
abbrev pub length_fault : List ℕ → Checked
length_fault outputs = refuse_if (not (length outputs % OUTPUT_WORDS == 0)) Broken

-- The circuit check over a slice of nodes: the outputs' length, then the circuit.
unfoldable pub slice_fault : List BoolNode → List ℕ → Checked
slice_fault ns outputs = first_fault (length_fault outputs) (check_circuit ns (wires_in outputs))

-- The check over a slice of nodes is the check over the area of their words, whatever the nodes and the outputs' words.
abbrev pub SliceEncoded : Type 0
SliceEncoded =
    (ns : List BoolNode) (outputs : List ℕ)
    → slice_fault ns outputs ≡ topological_fault (encodes encode_node ns) outputs
