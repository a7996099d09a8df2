-- The values that are read of a node's wires, and the answer of a sound cell by them.
-- Assumes nothing.
use Rattle.std.proofs.Common.{ℕ, ◌<◌, ◌≡◌, true, false, List, [], ◌∷◌, map, length, get_or, refl, sym, ap, ◌∙◌, arith}
use borrow.Author.Tests.{eqb-true, leb-false}
use Rattle.std.proofs.lemmas.Bool.{or_parts}
use Rattle.laws.proofs.Lists.{none_at}
use Rattle.cells.specs.Cells.{cell_rule}
use Rattle.circuit.specs.declared.records.BoolWire.{BoolWire}
use Rattle.circuit.specs.declared.records.BoolWire.TheVariants.{Const, Node}
use Rattle.circuit.specs.declared.records.BoolNode.{BoolNode}
use Rattle.circuit.specs.Records.{no_wire, is_cell_node, wires_of}
use Rattle.circuit.specs.Check.{cell_broken, record_broken, not_below, some_not_below, node_broken}
use Rattle.circuit.proofs.Checks.{cell_wires}
use Rattle.circuit.proofs.Places.{few_places}
use Rattle.circuit.specs.declared.records.TheConstants.{CELL}
use Rattle.values.specs.Values.{signal_value, answer_of}
use Rattle.values.specs.Inner.{SoundCell, TwoValued}
use Rattle.values.proofs.Inputs.{known_at}

-- each wire of a node is a constant or of a node with a value
pub supplied : (m : ℕ) (n : BoolNode) → some_not_below m (wires_of n) ≡ false → (k : ℕ) → k < length (wires_of n) → not_below m (get_or (wires_of n) k no_wire) ≡ false
supplied m n e k h = none_at (not_below m) (wires_of n) no_wire k h e

module _ (m : ℕ) (n : BoolNode) (s : SoundCell m n) where
  kind : n.kind ≡ CELL
  unfolding is_cell_node
  kind = eqb-true n.kind CELL s.cell

  parts : (record_broken n ≡ false) × (some_not_below m (wires_of n) ≡ false)
  unfolding node_broken
  parts = or_parts (record_broken n) (some_not_below m (wires_of n)) s.sound

  pub cell_wired : some_not_below m (wires_of n) ≡ false
  cell_wired = parts.1

  pub small_table : n.count ≡ 2 → n.table < 16
  unfolding record_broken cell_broken
  small_table e = leb-false 16 n.table (rw (kind, e) at parts.0)

  pub two_wires : n.count ≡ 2 → length (wires_of n) ≡ 2
  two_wires e = rw (cell_wires n kind, e) (few_places n.wires 2)

  module _ (values : List ℕ) where
    pub answer_pair : n.count ≡ 2 → (a b r : ℕ) → a ≡ signal_value values (get_or (wires_of n) 0 no_wire) → b ≡ signal_value values (get_or (wires_of n) 1 no_wire)
        → (t : ℕ) → t ≡ n.table → r ≡ cell_rule t (a ∷ b ∷ []) → r ≡ answer_of values n
    unfolding answer_of
    answer_pair e a b r p q t f u = u ∙ rw (p, q, f) (sym (ap (λ (ws : List BoolWire). cell_rule n.table (map (signal_value values) ws)) (two_of (wires_of n) (two_wires e))))
      where
        two_of : (ws : List BoolWire) → length ws ≡ 2 → ws ≡ get_or ws 0 no_wire ∷ get_or ws 1 no_wire ∷ []
        two_of [] h = absurd (omega arith)
        two_of (x ∷ []) h = absurd (omega arith)
        two_of (x ∷ y ∷ []) h = refl
        two_of (x ∷ y ∷ z ∷ ws) h = absurd (omega arith)

    pub answer_filled : (read : List ℕ) (r : ℕ) → read ≡ map (signal_value values) (wires_of n) → (t : ℕ) → t ≡ n.table → r ≡ cell_rule t read → r ≡ answer_of values n
    unfolding answer_of
    answer_filled read r e t f q = q ∙ rw (f, e)

-- ---- values without unknowns

wire_known : (vs : List ℕ) → TwoValued vs → (w : BoolWire) → signal_value vs w < 2
wire_known vs h (Const true) = omega arith
wire_known vs h (Const false) = omega arith
wire_known vs h (Node n) = known_at vs h n.0

pub wires_known : (vs : List ℕ) → TwoValued vs → (ws : List BoolWire) → TwoValued (map (signal_value vs) ws)
wires_known vs h [] = tt
wires_known vs h (w ∷ ws) = (wire_known vs h w, wires_known vs h ws)
