-- A circuit, and what a reader answers and leaves in the areas of nodes and outputs.
-- Assumes nothing.
use Rattle.std.specs.Prelude.{ℕ, ◌-◌, ◌<◌, ◌≡◌, List, [], ◌++◌, length, map, get_or, replicate, Ok, Err}
use Rattle.laws.specs.Areas.{encodes}
use Rattle.circuit.specs.declared.records.BoolNode.{BoolNode}
use Rattle.circuit.specs.declared.records.Output.{Output}
use Rattle.circuit.specs.declared.records.Sizes.{Sizes}
use Rattle.circuit.specs.Refusals.{Try}
use Rattle.circuit.specs.declared.records.BoolWire.{BoolWire}
use Rattle.circuit.specs.Records.{places, no_node, encode_node, encode_output}
use Rattle.circuit.specs.Check.{check_circuit}

pub record Circuit : Type 0 where
  pub nodes : List BoolNode
  pub outputs : List Output

-- The wires of its outputs.
abbrev pub wires_out : Circuit → List BoolWire
wires_out c = map (λ (o : Output). o.wire) c.outputs

-- A record has a wire, constant 0 where it needs none, in each of its places, as every record has that code makes or reads.
pub record Padded (n : BoolNode) : Type 0 where
  pub is : n.wires ≡ places n.wires

-- The circuit keeps the rules: the circuit check accepts it.
pub record KeepsRules (c : Circuit) : Type 0 where
  pub checked : check_circuit c.nodes (wires_out c) ≡ Ok tt
  pub padded : (k : ℕ) → k < length c.nodes → Padded (get_or c.nodes k no_node)

-- An area holds exactly these words, and zeros after them.
abbrev pub filled : List ℕ → ℕ → List ℕ
filled l size = l ++ replicate (size - length l) 0

-- the answer: the counts, or the refusal
abbrev pub read_answer : Try Circuit → Try Sizes
read_answer (Err e) = Err e
read_answer (Ok c) = Ok (record { nodes = length c.nodes; outputs = length c.outputs })

-- what areas of so many words hold at the exit
abbrev pub node_words : Try Circuit → List ℕ
node_words (Err e) = []
node_words (Ok c) = encodes encode_node c.nodes

abbrev pub output_words : Try Circuit → List ℕ
output_words (Err e) = []
output_words (Ok c) = encodes encode_output c.outputs
