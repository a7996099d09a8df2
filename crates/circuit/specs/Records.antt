-- Circuit records as lists of words, and back; a node's wires.
-- Assumes nothing.
use Rattle.std.specs.Prelude.{Bool, true, false, if◌then◌else◌, List, [], ◌∷◌, ◌++◌, ℕ, zero, suc, ◌+◌, ◌*◌, ◌^◌, ◌<◌, ◌==◌, length, map, get_or, take}
use Rattle.laws.specs.Areas.{up_from}
use Rattle.circuit.specs.declared.records.BoolWire.{BoolWire}
use Rattle.circuit.specs.declared.records.BoolWire.TheVariants.{Const, Node}
use Rattle.circuit.specs.declared.records.Name.{Name}
use Rattle.circuit.specs.declared.records.Name.TheVariants.{Stretch, Step, Number}
use Rattle.circuit.specs.declared.records.BoolNode.{BoolNode}
use Rattle.circuit.specs.declared.records.Output.{Output}
use Rattle.circuit.specs.declared.records.TheConstants.{WIRES, INPUT, CELL, COUNT_AT, TABLE_AT, NAME_AT, NAME_LEN, WIRES_AT, NODE_WORDS, OUTPUT_WORDS, FIRST_NODE}

-- A wire's word: 0 and 1 are the constants, and from FIRST_NODE on the nodes.
abbrev pub wire_word : BoolWire → ℕ
wire_word (Const b) = if b then 1 else 0
wire_word (Node n) = n.0 + FIRST_NODE

abbrev pub wire_of : ℕ → BoolWire
wire_of zero = Const false
wire_of (suc zero) = Const true
wire_of (suc (suc k)) = Node (record { 0 = k })

-- The wire's word fits in a word of the areas.
abbrev pub HasWord : BoolWire → Type 0
HasWord w = wire_word w < 2 ^ 64

-- What stands in a place of a record that no wire uses: constant 0.
abbrev pub no_wire : BoolWire
no_wire = Const false

-- A name's words: 1 a stretch of the joined text by start and length, 2 such a stretch with the step of its chain, 3 a Bristol wire by its number.
abbrev pub name_words : Name → List ℕ
name_words (Stretch s l) = 1 ∷ s ∷ l ∷ 0 ∷ []
name_words (Step s l k) = 2 ∷ s ∷ l ∷ k ∷ []
name_words (Number w) = 3 ∷ w.0 ∷ 0 ∷ 0 ∷ []

-- Any form but 1 and 2 is read as a number's.
abbrev pub name_from : ℕ → ℕ → ℕ → ℕ → Name
name_from zero a b c = Number (record { 0 = a })
name_from (suc zero) a b c = Stretch a b
name_from (suc (suc zero)) a b c = Step a b c
name_from (suc (suc (suc t))) a b c = Number (record { 0 = a })

-- The places for wires in a record: these wires, then constant 0.
unfoldable pub places : List BoolWire → List BoolWire
places ws = up_from (λ k. get_or ws k no_wire) 0 WIRES

-- A node's words: kind, wire count, table, name, then its places for wires.
unfoldable pub encode_node : BoolNode → List ℕ
encode_node n = n.kind ∷ n.count ∷ n.table ∷ (name_words n.name ++ map wire_word (places n.wires))

-- An input's record: its kind and its name, everything else zero.
unfoldable pub input_node : Name → BoolNode
input_node name = record { kind = INPUT; count = 0; table = 0; name = name; wires = places [] }

-- A cell's record: its wires fill the first places, the others are constant 0.
unfoldable pub cell_node : Name → ℕ → List BoolWire → BoolNode
cell_node name table ws =
    record { kind = CELL; count = length ws; table = table; name = name; wires = places ws }

-- What a number past the last node counts as: of no kind.
unfoldable pub no_node : BoolNode
no_node = record { kind = 0; count = 0; table = 0; name = Number (record { 0 = 0 }); wires = places [] }

-- The name that stands from a place on.
abbrev pub name_by : (ℕ → ℕ) → ℕ → Name
name_by f at = name_from (f at) (f (at + 1)) (f (at + 2)) (f (at + 3))

-- A node from its words, by their places in the record.
unfoldable pub node_from : (ℕ → ℕ) → BoolNode
node_from f = record {
  kind = f 0;
  count = f COUNT_AT;
  table = f TABLE_AT;
  name = name_by f NAME_AT;
  wires = up_from (λ k. wire_of (f (WIRES_AT + k))) 0 WIRES;
}

-- The node of record i of an area.
abbrev pub node_at : List ℕ → ℕ → BoolNode
node_at a i = node_from (λ j. get_or a (i * NODE_WORDS + j) 0)

-- An output's words: name, wire.
abbrev pub encode_output : Output → List ℕ
encode_output o = name_words o.name ++ (wire_word o.wire ∷ [])

abbrev pub output_from : (ℕ → ℕ) → Output
output_from f = record { name = name_by f 0; wire = wire_of (f NAME_LEN) }

-- The output of record j of an area.
abbrev pub output_at : List ℕ → ℕ → Output
output_at a j = output_from (λ k. get_or a (j * OUTPUT_WORDS + k) 0)

-- The first m records of an area.
abbrev pub nodes_of : List ℕ → ℕ → List BoolNode
nodes_of a m = up_from (node_at a) 0 m

abbrev pub outputs_of : List ℕ → ℕ → List Output
outputs_of a m = up_from (output_at a) 0 m

-- The wire of output record j, and the wires of the first m.
abbrev pub output_wire : List ℕ → ℕ → BoolWire
output_wire a j = wire_of (get_or a (j * OUTPUT_WORDS + NAME_LEN) 0)

abbrev pub output_wires : List ℕ → ℕ → List BoolWire
output_wires a m = up_from (output_wire a) 0 m

-- A node is a cell by its kind.
unfoldable pub is_cell_node : BoolNode → Bool
is_cell_node n = n.kind == CELL

-- The wires of a cell in turn: as many places as its record counts. An input has none.
unfoldable pub wires_of : BoolNode → List BoolWire
unfolding is_cell_node
wires_of n = if is_cell_node n then take n.count (places n.wires) else []
