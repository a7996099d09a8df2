-- The slots of the wire area: what it holds for each wire of the file.
-- Assumes nothing.
use Rattle.std.specs.Prelude.{ℕ, ◌+◌, ◌-◌, List, get_or}
use Rattle.circuit.specs.declared.records.NodeNumber.{NodeNumber}
use Rattle.circuit.specs.declared.records.WireNumber.{WireNumber}
use Rattle.circuit.specs.declared.records.BoolWire.{BoolWire}
use Rattle.circuit.specs.declared.records.BoolWire.TheVariants.{Node}
use Rattle.circuit.specs.Records.{wire_of, wire_word}
use Rattle.bristol_rows.specs.declared.slots.TheConstants.{UNDRIVEN}

-- a wire number counts the wires of the file
abbrev pub wire_number : ℕ → WireNumber
wire_number n = record { 0 = n }

-- a node number counts the places in the circuit
abbrev pub node_number : ℕ → NodeNumber
node_number n = record { 0 = n }

-- what stands at a wire of the file; a number past the last wire is like a wire that nothing drives
abbrev pub slot_of : List ℕ → WireNumber → ℕ
slot_of wires w = get_or wires w.0 UNDRIVEN

-- the slot of a wire of the file, by the wire of the circuit that drives it: one more than that one's word, since 0 says that none does
abbrev pub slot_of_driver : BoolWire → ℕ
slot_of_driver w = wire_word w + 1

-- the same, by the node that drives it
abbrev pub slot_of_node : NodeNumber → ℕ
slot_of_node n = slot_of_driver (Node n)

-- the wire of the circuit that a slot tells of
abbrev pub driver_of_slot : ℕ → BoolWire
driver_of_slot slot = wire_of (slot - 1)
