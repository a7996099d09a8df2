-- The laws of the circuit check: a node's wires, the scans of wires and nodes, and what a check's answer tells.
-- Assumes nothing.
use Rattle.std.specs.Prelude.{cond, Err, Ok}
use mathlib.Core.Path.{◌≡◌, refl, sym, ap, ap₂, ◌∙◌, subst}
use mathlib.Core.List.{List, [], ◌∷◌}
use mathlib.Core.Bool.{Bool, true, false, ◌||◌}
use Prim.Native.Nat.{ℕ, zero, suc, ◌+◌, ◌-◌, ◌/◌, ◌%◌, ◌≤◌, ◌<◌, min}
use native.Mathlib.Nat.{zero-add}
use native.Mathlib.Numerals.{add-one}
use native.Mathlib.Omega.{arith}
use borrow.Author.Tests.{eq-eqb, ne_eqb, le-leb, lt-leb, leb-true, leb-false}
use lib.ListN.{length, get_or, take, drop, drop_of_length-le}
use lib.Seq.{drop-cons}
use Rattle.laws.specs.Areas.{up_from}
use Rattle.laws.proofs.Areas.{up_start, up_more, up_none}
use Rattle.laws.proofs.Lists.{none_narrower}
use Rattle.circuit.specs.declared.refusals.Refusal.{Refusal}
use Rattle.circuit.specs.declared.refusals.Refusal.TheVariants.{Broken, NotEarlier}
use Rattle.circuit.specs.Refusals.{Checked}
use Rattle.circuit.specs.declared.records.BoolWire.{BoolWire}
use Rattle.circuit.specs.declared.records.BoolWire.TheVariants.{Const, Node}
use Rattle.circuit.specs.declared.records.BoolNode.{BoolNode}
use Rattle.circuit.specs.Refusals.{refuse_if, first_fault}
use Rattle.circuit.specs.Records.{no_wire, no_node, node_at, nodes_of, is_cell_node, places, wires_of}
use Rattle.circuit.specs.declared.records.TheConstants.{CELL, NODE_WORDS, OUTPUT_WORDS}
use Rattle.circuit.specs.Check.{record_broken, not_below, some_not_below, wire_refusal, check_wires, check_node, check_nodes, check_circuit, some_broken, circuit_broken, whole, nodes_in, wires_in, topological_fault, records_fault}
use Rattle.circuit.proofs.Codes.{length_nodes}

-- ---- the first fault of two checks

pub no_fault : (a b : Checked) → first_fault a b ≡ Ok tt → (a ≡ Ok tt) × (b ≡ Ok tt)
no_fault (Ok u) b e = (refl, e)
no_fault (Err r) b e = absurd (apart e)
  where
    apart : ◌≡◌ {A = Checked} (Err r) (Ok tt) → ⊥
    apart q = let z : ◌≡◌ {A = ℕ} 0 1 = cc in omega arith

pub not_refused : (t : Bool) (e : Refusal) → refuse_if t e ≡ Ok tt → t ≡ false
not_refused true e q = let z : ◌≡◌ {A = ℕ} 0 1 = cc in absurd (omega arith)
not_refused false e q = refl

-- ---- the wires of a node

module _ (n : BoolNode) where
  pub cell_wires : n.kind ≡ CELL → wires_of n ≡ take n.count (places n.wires)
  unfolding wires_of is_cell_node
  cell_wires e = rw (eq-eqb n.kind CELL e)

  pub no-wires : (n.kind ≡ CELL → ⊥) → wires_of n ≡ []
  unfolding wires_of is_cell_node
  no-wires e = rw (ne_eqb n.kind CELL e)

-- a wire below k is below what is not less
pub below_more : (k m : ℕ) → k ≤ m → (w : BoolWire) → not_below k w ≡ false → not_below m w ≡ false
below_more k m h (Const b) e = refl
below_more k m h (Node n) e = lt-leb m n.0 (omega (arith, leb-false k n.0 e))

-- ---- the scan of a node's wires

module _ (m i : ℕ) (inside : i ≤ m) (ws : List BoolWire) (k : ℕ) where
  pub wire_late : k < length ws → not_below i (get_or ws k no_wire) ≡ true → check_wires m i (drop k ws) ≡ Err (wire_refusal m (get_or ws k no_wire))
  unfolding check_wires
  wire_late h e = rw (drop-cons ws k no_wire h, e) (go (not_below m (get_or ws k no_wire)))
    where
      go : (t : Bool) → ◌≡◌ {A = Checked} (cond t (Err Broken) (Err NotEarlier)) (Err (cond t Broken NotEarlier))
      go true = refl
      go false = refl

  pub wire_passed : k < length ws → not_below i (get_or ws k no_wire) ≡ false → check_wires m i (drop k ws) ≡ check_wires m i (drop (k + 1) ws)
  unfolding check_wires
  wire_passed h e = rw (drop-cons ws k no_wire h, below_more i m inside (get_or ws k no_wire) e, e, add-one k)

-- the same of any number i, one past the circuit too: an earlier node of the circuit is below i and below m
late_inside : (m i : ℕ) (w : BoolWire) → not_below (min i m) w ≡ true → not_below m w ≡ false → not_below i w ≡ true
late_inside m i (Const b) e f = e
late_inside m i (Node n) e f = le-leb i n.0 (omega (arith, leb-true (min i m) n.0 e, leb-false m n.0 f))

module _ (m i : ℕ) (ws : List BoolWire) (k : ℕ) (h : k < length ws) where
  pub wire_refused : not_below (min i m) (get_or ws k no_wire) ≡ true → check_wires m i (drop k ws) ≡ Err (wire_refusal m (get_or ws k no_wire))
  unfolding check_wires
  wire_refused e = rw (drop-cons ws k no_wire h) (go (not_below m w) refl)
    where
      w : BoolWire
      w = get_or ws k no_wire

      go : (t : Bool) → not_below m w ≡ t
          → ◌≡◌ {A = Checked} (cond t (Err Broken) (cond (not_below i w) (Err NotEarlier) (check_wires m i (drop (suc k) ws)))) (Err (cond t Broken NotEarlier))
      go true f = refl
      go false f = rw (late_inside m i w e f)

  pub wire_taken : not_below (min i m) (get_or ws k no_wire) ≡ false → check_wires m i (drop k ws) ≡ check_wires m i (drop (k + 1) ws)
  unfolding check_wires
  wire_taken e =
      let w = get_or ws k no_wire in
      rw (drop-cons ws k no_wire h, below_more (min i m) m (omega arith) w e, below_more (min i m) i (omega arith) w e, add-one k)

pub wires_passed : (m i : ℕ) (ws : List BoolWire) (k : ℕ) → length ws ≤ k → check_wires m i (drop k ws) ≡ Ok tt
unfolding check_wires
wires_passed m i ws k h = rw (drop_of_length-le ws h)

-- ---- the record, then the wires

module _ (m i : ℕ) (n : BoolNode) where
  pub record_fault : record_broken n ≡ true → check_node m i n ≡ Err Broken
  unfolding check_node
  record_fault e = rw e

  pub record_passed : record_broken n ≡ false → check_node m i n ≡ check_wires m i (wires_of n)
  unfolding check_node
  record_passed e = rw e

-- ---- the scan of the nodes

-- what the nodes from i on give
abbrev pub rest : List ℕ → ℕ → ℕ → Checked
rest a m i = check_nodes m i (up_from (node_at a) i (m - i))

pub scan_start : (a : List ℕ) (m : ℕ) → check_nodes m 0 (nodes_of a m) ≡ rest a m 0
scan_start a m = ap (check_nodes m 0) (up_start (node_at a) m)

pub scan_end : (a : List ℕ) (m i : ℕ) → m ≤ i → rest a m i ≡ Ok tt
unfolding check_nodes
scan_end a m i h = rw (up_none (node_at a) i m h)

module _ (a : List ℕ) (m i : ℕ) (h : i < m) (n : BoolNode) (e : n ≡ node_at a i) where
  turn : rest a m i ≡ first_fault (check_node m i n) (rest a m (i + 1))
  unfolding check_nodes
  turn =
      ap (check_nodes m i) (up_more (node_at a) i m h)
      ∙ ap₂ (λ (x : BoolNode) (j : ℕ). first_fault (check_node m i x) (check_nodes m j (up_from (node_at a) (i + 1) (m - (i + 1))))) (sym e) (sym (add-one i))

  pub scan_fault : (r : Refusal) → check_node m i n ≡ Err r → rest a m i ≡ Err r
  scan_fault r q = rw (turn, q)

  pub scan_passed : check_node m i n ≡ Ok tt → rest a m i ≡ rest a m (i + 1)
  scan_passed q = rw (turn, q)

-- ---- the checks over the areas

pub is_whole : (nodes outputs : List ℕ) → length nodes % NODE_WORDS ≡ 0 → length outputs % OUTPUT_WORDS ≡ 0 → whole nodes outputs ≡ true
unfolding whole
is_whole nodes outputs n o = rw (eq-eqb (length nodes % NODE_WORDS) 0 n, eq-eqb (length outputs % OUTPUT_WORDS) 0 o)

module _ (nodes outputs : List ℕ) where
  pub topological_partial : whole nodes outputs ≡ false → Err Broken ≡ topological_fault nodes outputs
  unfolding topological_fault
  topological_partial e = rw e

  pub records_partial : whole nodes outputs ≡ false → Err Broken ≡ records_fault nodes outputs
  unfolding records_fault
  records_partial e = rw e

  pub topological_whole : whole nodes outputs ≡ true
      → topological_fault nodes outputs ≡ first_fault (check_nodes (length nodes / NODE_WORDS) 0 (nodes_in nodes)) (refuse_if (some_not_below (length nodes / NODE_WORDS) (wires_in outputs)) Broken)
  unfolding topological_fault check_circuit
  topological_whole e = rw (e, length_nodes nodes (length nodes / NODE_WORDS))

  pub records_whole : whole nodes outputs ≡ true
      → records_fault nodes outputs ≡ refuse_if (some_broken (length nodes / NODE_WORDS) (nodes_in nodes) || some_not_below (length nodes / NODE_WORDS) (wires_in outputs)) Broken
  unfolding records_fault circuit_broken
  records_whole e = rw (e, length_nodes nodes (length nodes / NODE_WORDS))

-- ---- what the check's acceptance tells

pub all_below_more : (k m : ℕ) → k ≤ m → (ws : List BoolWire) → some_not_below k ws ≡ false → some_not_below m ws ≡ false
all_below_more k m h = none_narrower (not_below k) (not_below m) (below_more k m h)

wires_sound : (m i : ℕ) (ws : List BoolWire) → check_wires m i ws ≡ Ok tt → (some_not_below m ws ≡ false) × (some_not_below i ws ≡ false)
unfolding check_wires
wires_sound m i [] e = (refl, refl)
wires_sound m i (w ∷ ws) e = go (not_below m w) refl (not_below i w) refl (wires_sound m i ws)
  where
    refused : (r : Refusal) → ◌≡◌ {A = Checked} (Err r) (Ok tt) → ⊥
    refused r q = let z : ◌≡◌ {A = ℕ} 0 1 = cc in omega arith

    go : (a : Bool) → not_below m w ≡ a → (b : Bool) → not_below i w ≡ b → (check_wires m i ws ≡ Ok tt → (some_not_below m ws ≡ false) × (some_not_below i ws ≡ false))
        → (some_not_below m (w ∷ ws) ≡ false) × (some_not_below i (w ∷ ws) ≡ false)
    go true p b q below = absurd (refused Broken (rw p at e))
    go false p true q below = absurd (refused NotEarlier (rw (p, q) at e))
    go false p false q below = rw (p, q) (below (rw (p, q) at e))

-- of a node that the check passes: no rule is broken, its wires are below the count and earlier
pub record Passed (m i : ℕ) (n : BoolNode) : Type 0 where
  pub rules : record_broken n ≡ false
  pub inside : some_not_below m (wires_of n) ≡ false
  pub earlier : some_not_below i (wires_of n) ≡ false

pub node_passed : (m i : ℕ) (n : BoolNode) → check_node m i n ≡ Ok tt → Passed m i n
unfolding check_node
node_passed m i n e =
    let both = no_fault (refuse_if (record_broken n) Broken) (check_wires m i (wires_of n)) e in
    let wired = wires_sound m i (wires_of n) both.1 in
    record { rules = not_refused (record_broken n) Broken both.0; inside = wired.0; earlier = wired.1 }

pub nodes_passed : (m i : ℕ) (ns : List BoolNode) (j : ℕ) → check_nodes m i ns ≡ Ok tt → j < length ns → Passed m (i + j) (get_or ns j no_node)
unfolding check_nodes
nodes_passed m i [] j e h = absurd (omega arith)
nodes_passed m i (n ∷ ns) zero e h =
    let z : i ≡ i + 0 = omega arith in
    rw (← z) (node_passed m i n (no_fault (check_node m i n) (check_nodes m (suc i) ns) e).0)
nodes_passed m i (n ∷ ns) (suc j) e h =
    let z : suc i + j ≡ i + suc j = omega arith in
    rw (← z) (nodes_passed m (suc i) ns j (no_fault (check_node m i n) (check_nodes m (suc i) ns) e).1 (omega arith))

-- a circuit that the check accepts
pub record Sounds (ns : List BoolNode) (os : List BoolWire) : Type 0 where
  pub nodes : (j : ℕ) → j < length ns → Passed (length ns) j (get_or ns j no_node)
  pub outputs : some_not_below (length ns) os ≡ false

pub circuit-sound : (ns : List BoolNode) (os : List BoolWire) → check_circuit ns os ≡ Ok tt → Sounds ns os
unfolding check_circuit
circuit-sound ns os e =
    let both = no_fault (check_nodes (length ns) 0 ns) (refuse_if (some_not_below (length ns) os) Broken) e in
    record { nodes = λ j h. shift j (nodes_passed (length ns) 0 ns j both.0 h); outputs = not_refused (some_not_below (length ns) os) Broken both.1 }
  where
    shift : (j : ℕ) → Passed (length ns) (0 + j) (get_or ns j no_node) → Passed (length ns) j (get_or ns j no_node)
    shift j p = subst (λ (k : ℕ). Passed (length ns) k (get_or ns j no_node)) (zero-add j) p
