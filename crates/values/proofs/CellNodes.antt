-- The value of a cell that the constructor made: its table's entry, or its answer, on the values of its wires.
-- Assumes nothing.
use Rattle.std.proofs.Common.{ℕ, ◌≡◌, ◌≤◌, List, map, length, ap, ◌∙◌}
use Rattle.std.proofs.lemmas.Simd.{map-map}
use Rattle.circuit.specs.declared.records.BoolWire.{BoolWire}
use Rattle.circuit.specs.declared.records.Name.{Name}
use Rattle.circuit.specs.declared.records.TheConstants.{WIRES}
use Rattle.circuit.specs.Records.{wire_of, cell_node}
use Rattle.circuit.proofs.Places.{wires_of_cell}
use Rattle.cells.specs.Cells.{entry, index_from, cell_rule}
use Rattle.values.specs.Values.{signal_value, entry_of, answer_of}

module _ (values : List ℕ) (name : Name) (table : ℕ) where
  pub entry_of_cell : (ws : List BoolWire) → length ws ≤ WIRES → entry_of values (cell_node name table ws) ≡ entry table (index_from 0 (map (signal_value values) ws))
  unfolding entry_of cell_node
  entry_of_cell ws h = ap (λ (l : List BoolWire). entry table (index_from 0 (map (signal_value values) l))) (wires_of_cell name table ws h)

  pub answer_of_cell : (ws : List BoolWire) → length ws ≤ WIRES → answer_of values (cell_node name table ws) ≡ cell_rule table (map (signal_value values) ws)
  unfolding answer_of cell_node
  answer_of_cell ws h = ap (λ (l : List BoolWire). cell_rule table (map (signal_value values) l)) (wires_of_cell name table ws h)

  -- by the words of its wires
  pub entry_of_words : (xs : List ℕ) → length (map wire_of xs) ≤ WIRES → entry_of values (cell_node name table (map wire_of xs)) ≡ entry table (index_from 0 (map (λ x. signal_value values (wire_of x)) xs))
  entry_of_words xs h = entry_of_cell (map wire_of xs) h ∙ ap (λ (l : List ℕ). entry table (index_from 0 l)) (map-map (signal_value values) wire_of xs)

  pub answer_of_words : (xs : List ℕ) → length (map wire_of xs) ≤ WIRES → answer_of values (cell_node name table (map wire_of xs)) ≡ cell_rule table (map (λ x. signal_value values (wire_of x)) xs)
  answer_of_words xs h = answer_of_cell (map wire_of xs) h ∙ ap (cell_rule table) (map-map (signal_value values) wire_of xs)
