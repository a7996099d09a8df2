-- The reader of Bristol texts: what it answers and leaves in each area, from the text and the areas' lengths.
-- Assumes nothing.
use Rattle.std.specs.Prelude.{ℕ, suc, ◌-◌, List, [], ◌∷◌, ◌++◌, eqb, leb, ltb, length, set, drop, replicate, Ok}
use Rattle.laws.specs.Areas.{up_from, capacity}
use Rattle.circuit.specs.declared.refusals.Refusal.TheVariants.{TextTooLong, NotAscii, NoRoom, NoDriver, HeaderMismatch, DrivenTwice}
use Rattle.circuit.specs.declared.records.WireNumber.{WireNumber}
use Rattle.circuit.specs.declared.records.BoolWire.{BoolWire}
use Rattle.circuit.specs.declared.records.BoolWire.TheVariants.{Node}
use Rattle.circuit.specs.declared.records.BoolNode.{BoolNode}
use Rattle.circuit.specs.declared.records.Name.TheVariants.{Number}
use Rattle.circuit.specs.declared.records.Output.{Output}
use Rattle.circuit.specs.declared.records.Sizes.{Sizes}
use Rattle.circuit.specs.declared.records.TheConstants.{NODE_WORDS, OUTPUT_WORDS}
use Rattle.circuit.specs.Refusals.{Try, and_then, need}
use Rattle.circuit.specs.Records.{input_node}
use Rattle.circuit.specs.Circuits.{Circuit, filled, read_answer, node_words, output_words}
use Rattle.text.specs.declared.TheConstants.{MOST_TEXT}
use Rattle.text.specs.Bytes.{is_ascii}
use Rattle.text.specs.Words.{split_whitespace}
use Rattle.text.specs.Lines.{kept_lines}
use Rattle.reading.specs.Reading.{add_node, each}
use Rattle.bristol_rows.specs.declared.answers.Head.{Head}
use Rattle.bristol_rows.specs.Header.{header}
use Rattle.bristol_rows.specs.declared.slots.TheConstants.{UNDRIVEN}
use Rattle.bristol_rows.specs.Slots.{wire_number, node_number, slot_of, slot_of_driver, slot_of_node, driver_of_slot}
use Rattle.bristol_rows.specs.declared.gates.Gate.{Gate}
use Rattle.bristol_rows.specs.declared.gates.Gate.TheVariants.{Alias, Cell}
use Rattle.bristol_rows.specs.Row.{row}

-- ---- the rows in turn

-- the nodes so far, and the slot of each wire of the file
pub record State : Type 0 where
  pub nodes : List BoolNode
  pub wires : List ℕ

-- the state of these nodes and slots
abbrev pub driven : List BoolNode → List ℕ → State
driven ns ws = record { nodes = ns; wires = ws }

-- a wire of the file gets its driver, a wire of the circuit, once
unfoldable pub drive : WireNumber → BoolWire → List ℕ → Try (List ℕ)
drive out w ws = need (eqb (slot_of ws out) UNDRIVEN) DrivenTwice (Ok (set ws out.0 (slot_of_driver w)))

-- the same, where these are the nodes then
abbrev pub drive_with : List BoolNode → WireNumber → BoolWire → List ℕ → Try State
drive_with ns out w ws = and_then (drive out w ws) (λ more. Ok (driven ns more))

-- a cell takes the next place in the circuit before it drives its wire
unfoldable pub store_cell : WireNumber → BoolNode → ℕ → State → Try State
store_cell out n room s =
    and_then (add_node room n s.nodes) (λ ns. drive_with ns out (Node (node_number (length s.nodes))) s.wires)

unfoldable pub store_gate : ℕ → Gate → State → Try State
store_gate room (Alias out w) s = drive_with s.nodes out w s.wires
store_gate room (Cell out n) s = store_cell out n room s

-- the gates of a row in turn
abbrev pub store : ℕ → List Gate → State → Try State
store room gs s = each (store_gate room) gs s

unfoldable pub row_step : ℕ → List ℕ → State → Try State
row_step room line s = and_then (row s.wires (split_whitespace line)) (λ gs. store room gs s)

abbrev pub rows : ℕ → List (List ℕ) → State → Try State
rows room ls s = each (row_step room) ls s

-- ---- the outputs

-- an output is named by its wire
abbrev pub output_of : WireNumber → ℕ → Output
output_of w slot = record { name = Number w; wire = driver_of_slot slot }

-- the outputs of wires k, k + 1, .., by their slots: each has a driver, then a place
unfoldable pub outputs_from : ℕ → ℕ → List ℕ → List Output → Try (List Output)
outputs_from room k [] os = Ok os
outputs_from room k (s ∷ ss) os =
    need (ltb UNDRIVEN s) NoDriver (need (ltb (length os) room) NoRoom
    (outputs_from room (suc k) ss (os ++ (output_of (wire_number k) s ∷ []))))

-- ---- the whole

-- the node of input k, named by its wire of the file
abbrev pub wire_input : ℕ → BoolNode
wire_input k = input_node (Number (wire_number k))

-- the slot of its wire
abbrev pub input_slot : ℕ → ℕ
input_slot k = slot_of_node (node_number k)

-- so many inputs are the first nodes and drive the first of these wires
abbrev pub with_inputs : ℕ → List ℕ → State
with_inputs n wires = record { nodes = up_from wire_input 0 n; wires = up_from input_slot 0 n ++ drop n wires }

-- before the rows: the inputs are the first nodes and drive the first wires of the file
unfoldable pub start : Head → State
start h = record {
  nodes = up_from wire_input 0 h.inputs;
  wires = up_from input_slot 0 h.inputs ++ replicate (h.wires - h.inputs) UNDRIVEN;
}

-- after the rows: as many as the header says; the outputs are the last wires
unfoldable pub body : ℕ → ℕ → Head → List (List ℕ) → Try Circuit
body nodeRoom outputRoom h ls =
    and_then (rows nodeRoom ls (start h)) (λ s. need (eqb (length ls) h.gates) HeaderMismatch
    (and_then (outputs_from outputRoom (h.wires - h.outputs) (drop (h.wires - h.outputs) s.wires) [])
    (λ os. Ok (record { nodes = s.nodes; outputs = os }))))

-- once the header is known, the wires and the inputs have their places, or there is no room
unfoldable pub circuit : ℕ → ℕ → ℕ → List (List ℕ) → Try Circuit
circuit nodeRoom outputRoom wireRoom ls =
    and_then (header ls) (λ h. need (leb h.wires wireRoom) NoRoom (need (leb h.inputs nodeRoom) NoRoom
    (body nodeRoom outputRoom h (drop 3 ls))))

-- the same in areas of so many words, for nodes, outputs and wires
abbrev pub body_in : Head → List (List ℕ) → ℕ → ℕ → ℕ → Try Circuit
body_in h ls nodes outputs wires = body (capacity NODE_WORDS nodes) (capacity OUTPUT_WORDS outputs) h ls

abbrev pub circuit_in : List (List ℕ) → ℕ → ℕ → ℕ → Try Circuit
circuit_in ls nodes outputs wires =
    circuit (capacity NODE_WORDS nodes) (capacity OUTPUT_WORDS outputs) (capacity 1 wires) ls

-- the text's own faults come first
unfoldable pub bristol_circuit : List ℕ → ℕ → ℕ → ℕ → Try Circuit
bristol_circuit text nodes outputs wires =
    need (leb (length text) MOST_TEXT) TextTooLong (need (is_ascii text) NotAscii
    (circuit_in (kept_lines text) nodes outputs wires))

-- what the call answers and leaves
pub record Left : Type 0 where
  pub answer : Try Sizes
  pub nodes : List ℕ
  pub outputs : List ℕ
  pub wires : List ℕ

-- a refusal leaves zeros in every area; the wires are a work area, zero after any call
abbrev pub leave : ℕ → ℕ → ℕ → Try Circuit → Left
leave n o w c = record {
  answer = read_answer c;
  nodes = filled (node_words c) n;
  outputs = filled (output_words c) o;
  wires = replicate w 0;
}

-- `parse_bristol`: what it answers and leaves in areas of so many words
unfoldable pub bristol : List ℕ → ℕ → ℕ → ℕ → Left
bristol text nodes outputs wires = leave nodes outputs wires (bristol_circuit text nodes outputs wires)
