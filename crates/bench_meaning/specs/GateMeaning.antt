-- What it means that a gate was lowered: its cells at the end of the circuit, its name, and the bit that the name's wire has.
-- Assumes nothing.
use Rattle.std.specs.Prelude.{ℕ, ◌<◌, ◌≡◌, true, List, [], ◌∷◌, ◌++◌}
use Rattle.laws.specs.Stretches.{All}
use Rattle.circuit.specs.declared.records.BoolNode.{BoolNode}
use Rattle.circuit.specs.Records.{wire_of, is_cell_node}
use Rattle.text.specs.declared.words.Word.{Word}
use Rattle.reading.specs.Reading.{Held, next_wire}
use Rattle.values.specs.Values.{signal_value, storage_values}
use Rattle.bench_gates.specs.declared.operations.Operation.{Operation}
use Rattle.bench_meaning.specs.Operations.{operation_bit}

-- "from node 0 up, an input has its assigned value and a cell the cell rule's answer on the values of its wires; a constant wire has its constant":
-- the value of the wire with this word
unfoldable pub wire_value : List ℕ → List BoolNode → ℕ → ℕ
wire_value assignment ns x = signal_value (storage_values ns assignment) (wire_of x)

-- the wire is a constant or a node that is there, and has a value
pub record Carries (assignment : List ℕ) (ns : List BoolNode) (x v : ℕ) : Type 0 where
  pub there : x < next_wire ns
  pub value : wire_value assignment ns x ≡ v

-- wires that have these values, one by one
abbrev pub CarryAll : List ℕ → List BoolNode → List ℕ → List ℕ → Type 0
CarryAll assignment ns [] [] = Unit
CarryAll assignment ns [] (v ∷ vs) = ⊥
CarryAll assignment ns (x ∷ xs) [] = ⊥
CarryAll assignment ns (x ∷ xs) (v ∷ vs) = Carries assignment ns x v × CarryAll assignment ns xs vs

-- a name was defined with cells of its own: they stand at the end, the one name more is for a wire that has the value, and every earlier wire has its value still
pub record Lowered (assignment : List ℕ) (out : Word) (v : ℕ) (h h' : Held) : Type 0 where
  pub cells : List BoolNode
  pub are_cells : All (λ n. is_cell_node n ≡ true) cells
  pub appended : h'.nodes ≡ h.nodes ++ cells
  pub wire : ℕ
  pub named : h'.names ≡ record { start = out.start; len = out.len; wire = wire } ∷ h.names
  pub carries : Carries assignment h'.nodes wire v
  pub kept : (x : ℕ) → x < next_wire h.nodes → wire_value assignment h'.nodes x ≡ wire_value assignment h.nodes x

abbrev pub Bits : List ℕ → Type 0
Bits vs = All (λ v. v < 2) vs

-- a gate of inputs with these values: where none is unknown, its name's wire has the operation's bit
pub record GateMeans (assignment : List ℕ) (out : Word) (o : Operation) (vs : List ℕ) (h h' : Held) : Type 0 where
  pub value : ℕ
  pub lowered : Lowered assignment out value h h'
  pub means : Bits vs → value ≡ operation_bit o vs
