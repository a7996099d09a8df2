-- Nodes under other wires, as many: what they are, that they keep the rules, and their values.
-- Assumes nothing.
use Rattle.std.proofs.Common.{ℕ, ◌<◌, ◌≤◌, ◌≡◌, ◌^◌, ◌&&◌, Bool, true, false, cond, List, map, length, refl, ap, ◌∙◌, arith, leb, eqb-true, leb-true, leb-false}
use Rattle.std.proofs.lemmas.List.{length-map}
use mathlib.Core.Bool.{true≢false}
use Rattle.std.proofs.lemmas.Bool.{and_parts}
use Rattle.circuit.specs.declared.records.BoolWire.{BoolWire}
use Rattle.circuit.specs.declared.records.BoolNode.{BoolNode}
use Rattle.circuit.specs.declared.records.Name.{Name}
use Rattle.circuit.specs.declared.records.TheConstants.{WIRES, CELL}
use Rattle.circuit.specs.Records.{is_cell_node, wires_of, input_node, cell_node}
use Rattle.circuit.specs.Check.{cell_broken, record_broken, some_not_below}
use Rattle.circuit.proofs.Checks.{cell_wires}
use Rattle.circuit.proofs.Places.{few_places, few_wires, wires_of_cell}
use Rattle.circuit.proofs.Sitting.{Sits, input_sits, cell_sits}
use Rattle.cells.specs.Cells.{cell_rule}
use Rattle.values.specs.Values.{signal_value, answer_of, storage_values}
use Rattle.rewiring.specs.Rewiring.{node_wire, nth_node, rewire, rewired, rewired_node}
use Rattle.rewiring.proofs.NodeValues.{cell_value}

pub made_cell : (name : Name) (table : ℕ) (ws : List BoolWire) → is_cell_node (cell_node name table ws) ≡ true
unfolding is_cell_node cell_node
made_cell name table ws = refl

pub made_input : (name : Name) → is_cell_node (input_node name) ≡ false
unfolding is_cell_node input_node
made_input name = refl

-- ---- a cell that keeps the rules

-- it has a wire, and its table has no bit above the entries that its wires pick
pub record SoundTable (n : BoolNode) : Type 0 where
  pub wired : 1 ≤ length (wires_of n)
  pub entries : n.table < 2 ^ 2 ^ length (wires_of n)

module _ (n : BoolNode) (c : is_cell_node n ≡ true) (e : record_broken n ≡ false) where
  kind : n.kind ≡ CELL
  unfolding is_cell_node
  kind = eqb-true n.kind CELL c

  pub sound_table : SoundTable n
  unfolding record_broken cell_broken
  sound_table =
      let r : cond (leb 1 n.count && leb n.count WIRES) (leb (2 ^ 2 ^ n.count) n.table) true ≡ false = rw kind at e in
      go (leb 1 n.count && leb n.count WIRES) refl r
    where
      count_is : n.count ≤ WIRES → length (wires_of n) ≡ n.count
      count_is h = ap length (cell_wires n kind) ∙ few_places n.wires n.count ∙ omega (arith, h)

      go : (t : Bool) → leb 1 n.count && leb n.count WIRES ≡ t → cond t (leb (2 ^ 2 ^ n.count) n.table) true ≡ false → SoundTable n
      go true p q =
          let parts = and_parts (leb 1 n.count) (leb n.count WIRES) p in
          let l : length (wires_of n) ≡ n.count = count_is (leb-true n.count WIRES parts.1) in
          record { wired = omega (arith, l, leb-true 1 n.count parts.0); entries = rw l (leb-false (2 ^ 2 ^ n.count) n.table q) }
      go false p q = absurd (true≢false q)

  -- its table under other wires, as many, of nodes before place k
  pub cell_again : (k : ℕ) (name : Name) (ws : List BoolWire) → length ws ≡ length (wires_of n) → some_not_below k ws ≡ false → Sits k (cell_node name n.table ws)
  cell_again k name ws l b =
      cell_sits k name n.table ws (omega (arith, l, sound_table.wired)) (omega (arith, l, few_wires n)) (rw l sound_table.entries) b

-- ---- a node rewired

module _ (σ : ℕ → BoolWire) (n : BoolNode) where
  pub few_rewired : length (rewired σ (wires_of n)) ≤ WIRES
  few_rewired = omega (arith, length-map (wires_of n) (rewire σ), few_wires n)

  pub rewired_kind : is_cell_node (rewired_node σ n) ≡ is_cell_node n
  rewired_kind = go (is_cell_node n)
    where
      go : (t : Bool) → is_cell_node (cond t (cell_node n.name n.table (rewired σ (wires_of n))) (input_node n.name)) ≡ t
      go true = made_cell n.name n.table (rewired σ (wires_of n))
      go false = made_input n.name

  -- it keeps the rules where its wires are of nodes before place k
  pub rewired_sits : (k : ℕ) → record_broken n ≡ false → some_not_below k (rewired σ (wires_of n)) ≡ false → Sits k (rewired_node σ n)
  rewired_sits k e b = go (is_cell_node n) refl
    where
      go : (t : Bool) → is_cell_node n ≡ t → Sits k (cond t (cell_node n.name n.table (rewired σ (wires_of n))) (input_node n.name))
      go true c = cell_again n c e k n.name (rewired σ (wires_of n)) (length-map (wires_of n) (rewire σ)) b
      go false c = input_sits k n.name

  -- where it stands in a circuit, under any name, its value is the answer on the rewired wires
  pub rewired_answer : (ms : List BoolNode) (y : List ℕ) (k : ℕ) (name : Name) → nth_node ms k ≡ cell_node name n.table (rewired σ (wires_of n)) → some_not_below k (rewired σ (wires_of n)) ≡ false
      → signal_value (storage_values ms y) (node_wire k) ≡ cell_rule n.table (map (signal_value (storage_values ms y)) (rewired σ (wires_of n)))
  unfolding answer_of cell_node
  rewired_answer ms y k name is b =
      let ws = rewired σ (wires_of n) in
      let own : wires_of (nth_node ms k) ≡ ws = ap wires_of is ∙ wires_of_cell name n.table ws few_rewired in
      cell_value ms k y (ap is_cell_node is ∙ made_cell name n.table ws) (ap (some_not_below k) own ∙ b)
      ∙ ap (answer_of (storage_values ms y)) is
      ∙ ap (λ (us : List BoolWire). cell_rule n.table (map (signal_value (storage_values ms y)) us)) (wires_of_cell name n.table ws few_rewired)
