-- A node bypassed: that the check accepts the circuit, and that every node keeps its value.
-- Assumes nothing.
use Rattle.std.proofs.Common.{ℕ, zero, suc, ◌<◌, ◌≤◌, ◌≡◌, Bool, true, false, cond, List, [], ◌∷◌, map, length, get_or, take, refl, sym, ap, ◌∙◌, subst, arith, eqb, eqb-true, ltb, ltb-true, ltb-false, Ok}
use Rattle.std.proofs.lemmas.List.{get_or-map, length-map, ext_get_or}
use borrow.Author.Tests.{lt-leb, leb-false, eq-eqb, ne_eqb}
use Rattle.circuit.specs.declared.records.BoolWire.{BoolWire}
use Rattle.circuit.specs.declared.records.BoolWire.TheVariants.{Const, Node}
use Rattle.circuit.specs.declared.records.BoolNode.{BoolNode}
use Rattle.circuit.specs.Records.{is_cell_node, wires_of, no_node, cell_node}
use Rattle.circuit.specs.Check.{not_below, some_not_below, check_circuit}
use Rattle.circuit.proofs.Checks.{Sounds, circuit-sound, below_more}
use Rattle.cells.specs.Cells.{cell_rule}
use Rattle.values.specs.Values.{signal_value, answer_of, storage_values}
use Rattle.values.specs.Assignments.{input_count}
use Rattle.values.proofs.NodeValues.{length-values}
use Rattle.rewiring.specs.Rewiring.{node_wire, nth_node, rewired, rewired_node, Stands}
use Rattle.rewiring.specs.Bypass.{instead, bypassed, IsBypassed}
use Rattle.rewiring.proofs.Wires.{rewired_below, rewired_same}
use Rattle.rewiring.proofs.NodeValues.{cell_inside, reads_earlier, input_value, no_value}
use Rattle.rewiring.proofs.Rewired.{stands_value}
use Rattle.rewiring.proofs.Accepted.{Fits, accepted}
use Rattle.rewiring.proofs.Cells.{rewired_kind, rewired_sits, rewired_answer}

-- rewired nodes are inputs where the nodes are
inputs_before : (σ : ℕ → BoolWire) (ns : List BoolNode) (k : ℕ) → input_count (take k (map (rewired_node σ) ns)) ≡ input_count (take k ns)
unfolding input_count
inputs_before σ [] zero = refl
inputs_before σ [] (suc k) = refl
inputs_before σ (n ∷ ns) zero = refl
inputs_before σ (n ∷ ns) (suc k) = rw (rewired_kind σ n, inputs_before σ ns k)

module _ (k : ℕ) (w : BoolWire) where
  instead_here : instead k w k ≡ w
  instead_here = rw (eq-eqb k k refl)

  instead_other : (j : ℕ) → (j ≡ k → ⊥) → instead k w j ≡ node_wire j
  instead_other j h = rw (ne_eqb j k h)

  -- the wire of an earlier node stays one
  instead_below : not_below k w ≡ false → (i j : ℕ) → j < i → not_below i (instead k w j) ≡ false
  instead_below low i j h = go (eqb j k) refl
    where
      go : (t : Bool) → eqb j k ≡ t → not_below i (cond t w (node_wire j)) ≡ false
      go true e = let is : j ≡ k = eqb-true j k e in below_more k i (omega arith) w low
      go false e = lt-leb i j h

module _ (ns : List BoolNode) (os : List BoolWire) (k : ℕ) (w : BoolWire) (checks : check_circuit ns os ≡ Ok tt) (low : not_below k w ≡ false) where
  abbrev σ : ℕ → BoolWire
  σ = instead k w

  sound : Sounds ns os
  sound = circuit-sound ns os checks

  length_bypassed : length (bypassed ns k w) ≡ length ns
  unfolding bypassed
  length_bypassed = length-map ns (rewired_node σ)

  node_is : (j : ℕ) → j < length ns → nth_node (bypassed ns k w) j ≡ rewired_node σ (nth_node ns j)
  unfolding bypassed
  node_is j h = get_or-map (rewired_node σ) ns j no_node no_node h

  same_inputs : (j : ℕ) → input_count (take j (bypassed ns k w)) ≡ input_count (take j ns)
  unfolding bypassed
  same_inputs j = inputs_before σ ns j

  reads_low : (j : ℕ) → some_not_below j (rewired σ (wires_of (nth_node ns j))) ≡ false
  reads_low j = rewired_below j σ (wires_of (nth_node ns j)) (λ i r. instead_below k w low j i (reads_earlier ns j os checks i r))

  -- ---- the check

  bypass_accepted : check_circuit (bypassed ns k w) os ≡ Ok tt
  bypass_accepted = accepted (bypassed ns k w) os (λ j h. one j (omega (arith, h, length_bypassed))) (ap (λ (l : ℕ). some_not_below l os) length_bypassed ∙ sound.outputs)
    where
      one : (j : ℕ) → j < length ns → Fits j (nth_node (bypassed ns k w) j)
      one j h =
          let s = rewired_sits σ (nth_node ns j) j (sound.nodes j h).rules (reads_low j) in
          subst (λ (n : BoolNode). Fits j n) (sym (node_is j h)) (record { rules = s.rules; earlier = s.earlier })

  -- ---- the values

  module _ (x : List ℕ) (agrees : signal_value (storage_values ns x) w ≡ get_or (storage_values ns x) k 0) where
    abbrev A : List ℕ
    A = storage_values ns x

    abbrev B : List ℕ
    B = storage_values (bypassed ns k w) x

    -- an input has its value of the assignment in both
    input_same : (j : ℕ) → is_cell_node (nth_node ns j) ≡ false → get_or B j 0 ≡ get_or A j 0
    input_same j c = go (ltb j (length ns)) refl
      where
        go : (t : Bool) → ltb j (length ns) ≡ t → get_or B j 0 ≡ get_or A j 0
        go true e =
            let h : j < length ns = ltb-true j (length ns) e in
            input_value (bypassed ns k w) j x (omega (arith, h, length_bypassed)) (ap is_cell_node (node_is j h) ∙ rewired_kind σ (nth_node ns j) ∙ c)
            ∙ ap (λ (p : ℕ). get_or x p 0) (same_inputs j)
            ∙ sym (input_value ns j x h c)
        go false e =
            let h : length ns ≤ j = ltb-false j (length ns) e in no_value (bypassed ns k w) j x (omega (arith, h, length_bypassed)) ∙ sym (no_value ns j x h)

    -- a cell has its answer on the rewired wires
    cell_here : (j : ℕ) → is_cell_node (nth_node ns j) ≡ true → get_or B j 0 ≡ cell_rule (nth_node ns j).table (map (signal_value B) (rewired σ (wires_of (nth_node ns j))))
    cell_here j c =
        let n = nth_node ns j in
        let is : nth_node (bypassed ns k w) j ≡ cell_node n.name n.table (rewired σ (wires_of n)) = node_is j (cell_inside ns j c) ∙ rw c in
        rewired_answer σ n (bypassed ns k w) x j n.name is (reads_low j)

    -- up to the node itself nothing reads it, so each node stands for itself
    front_stands : Stands ns x B (λ j. j ≤ k) node_wire
    front_stands = record {
      reads = λ j i d r. let h = reads_earlier ns j os checks i r in (omega arith, h);
      input = λ j d c. input_same j c;
      cell = λ j d c. cell_here j c ∙ ap (λ (ws : List BoolWire). cell_rule (nth_node ns j).table (map (signal_value B) ws)) (unchanged j d);
    }
      where
        unchanged : (j : ℕ) → j ≤ k → rewired σ (wires_of (nth_node ns j)) ≡ rewired node_wire (wires_of (nth_node ns j))
        unchanged j d =
            rewired_same σ (wires_of (nth_node ns j)) (λ i r. let h = reads_earlier ns j os checks i r in instead_other k w i (λ e. omega arith))
            ∙ sym (rewired_same node_wire (wires_of (nth_node ns j)) (λ i r. refl))

    front : (j : ℕ) → j ≤ k → get_or B j 0 ≡ get_or A j 0
    front j h = stands_value ns x B (λ j. j ≤ k) node_wire front_stands j h

    wire_same : signal_value B w ≡ signal_value A w
    wire_same = go w low
      where
        go : (u : BoolWire) → not_below k u ≡ false → signal_value B u ≡ signal_value A u
        go (Const b) e = refl
        go (Node n) e = front n.0 (let l : n.0 < k = leb-false k n.0 e in omega arith)

    -- the wire that stands for a node has the value of the node in the new circuit too
    own : (j : ℕ) → signal_value B (σ j) ≡ get_or B j 0
    own j = go (eqb j k) refl
      where
        go : (t : Bool) → eqb j k ≡ t → signal_value B (cond t w (node_wire j)) ≡ get_or B j 0
        go true e =
            let is : j ≡ k = eqb-true j k e in
            wire_same ∙ agrees ∙ sym (front k (omega arith)) ∙ ap (λ (i : ℕ). get_or B i 0) (sym is)
        go false e = refl

    all_stand : Stands ns x B (λ j. Unit) σ
    all_stand = record {
      reads = λ j i d r. (tt, reads_earlier ns j os checks i r);
      input = λ j d c. own j ∙ input_same j c;
      cell = λ j d c. own j ∙ cell_here j c;
    }

    pub values_same : B ≡ A
    unfolding storage_values
    values_same =
        ext_get_or 0 B A (length-values answer_of x (bypassed ns k w) ∙ length_bypassed ∙ sym (length-values answer_of x ns))
        (λ j h. sym (own j) ∙ stands_value ns x B (λ j. Unit) σ all_stand j tt)

  pub bypassed_is : IsBypassed ns os k w
  bypassed_is = record { accepted = bypass_accepted; same = values_same }
