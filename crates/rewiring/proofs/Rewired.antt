-- The theorem: wires that stand for a circuit's nodes have the values of those nodes.
-- Assumes nothing.
use Rattle.std.proofs.Common.{ℕ, zero, suc, ◌<◌, ◌≡◌, Bool, true, false, List, map, get_or, refl, sym, ap, ◌∙◌, arith}
use Rattle.circuit.specs.declared.records.BoolWire.{BoolWire}
use Rattle.circuit.specs.declared.records.BoolNode.{BoolNode}
use Rattle.circuit.specs.Records.{is_cell_node, wires_of}
use Rattle.cells.specs.Cells.{cell_rule}
use Rattle.values.specs.Values.{signal_value, answer_of, outputs_from, storage_values, storage_outputs}
use Rattle.rewiring.specs.Rewiring.{nth_node, ReadBy, rewired, Stands}
use Rattle.rewiring.proofs.Wires.{rewired_values, reads_below}
use Rattle.rewiring.proofs.NodeValues.{cell_value}

module _ (ns : List BoolNode) (x B : List ℕ) (D : ℕ → Type 0) (σ : ℕ → BoolWire) (s : Stands ns x B D σ) where
  abbrev A : List ℕ
  A = storage_values ns x

  -- by strong induction: below k all have their values, so node k reads wires that have them
  below : (m k : ℕ) → k < m → D k → signal_value B (σ k) ≡ get_or A k 0
  unfolding answer_of
  below zero k h d = absurd (omega arith)
  below (suc m) k h d = go (is_cell_node (nth_node ns k)) refl (below m)
    where
      ws : List BoolWire
      ws = wires_of (nth_node ns k)

      go : (t : Bool) → is_cell_node (nth_node ns k) ≡ t → ((j : ℕ) → j < m → D j → signal_value B (σ j) ≡ get_or A j 0) → signal_value B (σ k) ≡ get_or A k 0
      go false c earlier = s.input k d c
      go true c earlier =
          s.cell k d c
          ∙ ap (cell_rule (nth_node ns k).table) (rewired_values A B σ ws (λ j r. earlier j (omega (arith, (s.reads k j d r).1)) (s.reads k j d r).0))
          ∙ sym (cell_value ns k x c (reads_below k ws (λ j r. (s.reads k j d r).1)))

  pub stands_value : (k : ℕ) → D k → signal_value B (σ k) ≡ get_or A k 0
  stands_value k d = below (suc k) k (omega arith) d

  -- wires on nodes of D and on constants
  pub stands_wires : (ws : List BoolWire) → ((j : ℕ) → ReadBy ws j → D j) → map (signal_value B) (rewired σ ws) ≡ map (signal_value A) ws
  stands_wires ws h = rewired_values A B σ ws (λ j r. stands_value j (h j r))

  pub stands_outputs : (os : List BoolWire) → ((j : ℕ) → ReadBy os j → D j) → outputs_from B (rewired σ os) ≡ storage_outputs ns os x
  unfolding storage_outputs outputs_from
  stands_outputs os h = stands_wires os h
