-- The values of a circuit's nodes as the reader of Bristol texts builds it, and that they follow the bits of the file's wires.
-- Assumes nothing.
use Prim.Native.Nat.{ℕ, zero, suc, ◌+◌, ◌-◌, ◌≤◌, ◌<◌}
use mathlib.Core.Path.{◌≡◌, refl, sym, ap, ◌∙◌, subst}
use mathlib.Core.Bool.{Bool, true, false}
use mathlib.Core.List.{List, [], ◌∷◌, ◌++◌, append_assoc, append-nil}
use native.Mathlib.Nat.{zero-add}
use native.Mathlib.Omega.{arith}
use lib.Dec.{eqb, ltb}
use lib.ListN.{length, get_or, set, length-append, length-set, length-replicate, replicate, get_or-append}
use lib.Seq.{get_or-set_same, get_or-set_other}
use borrow.Author.Tests.{eqb-true, eqb-false, ltb-true, ltb-false, leb-false, lt-leb}
use Rattle.laws.specs.Areas.{up_from}
use Rattle.laws.proofs.Areas.{length_up}
use Rattle.laws.proofs.Storing.{up_at}
use Rattle.laws.proofs.Sums.{front_at, past_front}
use Rattle.circuit.specs.declared.records.BoolWire.{BoolWire}
use Rattle.circuit.specs.declared.records.BoolWire.TheVariants.{Const, Node}
use Rattle.circuit.specs.declared.records.BoolNode.{BoolNode}
use Rattle.circuit.specs.Records.{wire_of, wire_word, is_cell_node, input_node}
use Rattle.circuit.specs.Check.{not_below}
use Rattle.circuit.proofs.Codes.{wire_back}
use Rattle.circuit.proofs.Checks.{below_more}
use Rattle.values.specs.Values.{signal_value, values_from, entry_of}
use Rattle.bristol_rows.specs.declared.answers.Head.{Head}
use Rattle.bristol.specs.Bristol.{State, wire_input, input_slot, start}
use Rattle.values.proofs.NodeValues.{values_snoc, length-values}

-- ---- the values of nodes

module _ (rule : List ℕ → BoolNode → ℕ) (a : List ℕ) where
  values-inputs : (m i p : ℕ) (vs : List ℕ) → values_from rule a p vs (up_from wire_input i m) ≡ vs ++ up_from (λ k. get_or a k 0) p m
  unfolding values_from is_cell_node input_node
  values-inputs zero i p vs = sym (append-nil vs)
  values-inputs (suc m) i p vs =
      values-inputs m (suc i) (suc p) (vs ++ get_or a p 0 ∷ []) ∙ append_assoc vs (get_or a p 0 ∷ []) (up_from (λ k. get_or a k 0) (suc p) m)

-- `evaluate`'s value of each node
unfoldable pub node_bits : List ℕ → List BoolNode → List ℕ
node_bits ins ns = values_from entry_of ins 0 [] ns

pub bits_length : (ins : List ℕ) (ns : List BoolNode) → length (node_bits ins ns) ≡ length ns
unfolding node_bits
bits_length ins ns = length-values entry_of ins ns

pub bits_snoc : (ins : List ℕ) (ns : List BoolNode) (n : BoolNode) → is_cell_node n ≡ true → node_bits ins (ns ++ (n ∷ [])) ≡ node_bits ins ns ++ (entry_of (node_bits ins ns) n ∷ [])
unfolding node_bits
bits_snoc ins ns n e = values_snoc entry_of ins ns n ∙ rw e refl

-- ---- the file's wires follow the bits of a list

-- what drives a wire is a constant or a node that is there, and has the wire's bit
pub record Drives (ins : List ℕ) (ns : List BoolNode) (w : BoolWire) (v : ℕ) : Type 0 where
  pub below : not_below (length ns) w ≡ false
  pub value : signal_value (node_bits ins ns) w ≡ v

abbrev pub driver : List ℕ → ℕ → BoolWire
driver wires i = wire_of (get_or wires i 0 - 1)

pub record Follows (ins : List ℕ) (s : State) (bits : List ℕ) : Type 0 where
  pub same_length : length bits ≡ length s.wires
  pub drives : (i : ℕ) → (get_or s.wires i 0 ≡ 0 → ⊥) → Drives ins s.nodes (driver s.wires i) (get_or bits i 0)
  pub known : (i : ℕ) → get_or bits i 0 < 2

-- a wire that is there has its value in longer lists too
signal_more : (vs tail : List ℕ) (w : BoolWire) → not_below (length vs) w ≡ false → signal_value (vs ++ tail) w ≡ signal_value vs w
signal_more vs tail (Const b) h = refl
signal_more vs tail (Node n) h = get_or-append vs tail 0 n.0 (leb-false (length vs) n.0 h)

-- with more nodes
drives_more : (ins : List ℕ) (ns more : List BoolNode) (tail : List ℕ) → node_bits ins more ≡ node_bits ins ns ++ tail → length ns ≤ length more → (w : BoolWire) (v : ℕ)
    → Drives ins ns w v → Drives ins more w v
drives_more ins ns more tail e h w v d = record {
  below = below_more (length ns) (length more) h w d.below;
  value = ap (λ (l : List ℕ). signal_value l w) e
      ∙ signal_more (node_bits ins ns) tail w (ap (λ (k : ℕ). not_below k w) (bits_length ins ns) ∙ d.below) ∙ d.value;
}

-- a wire is driven anew
pub follow_set : (ins : List ℕ) (s : State) (bits : List ℕ) → Follows ins s bits → (more : List BoolNode) (tail : List ℕ) → node_bits ins more ≡ node_bits ins s.nodes ++ tail
    → length s.nodes ≤ length more → (out : ℕ) → out < length s.wires → (w : BoolWire) (v : ℕ) → v < 2 → Drives ins more w v
    → Follows ins (record { nodes = more; wires = set s.wires out (wire_word w + 1) }) (set bits out v)
follow_set ins s bits f more tail e h out l w v b d = record {
  same_length = length-set bits out v ∙ f.same_length ∙ sym (length-set s.wires out (wire_word w + 1));
  drives = λ i nz. go i nz (eqb i out) refl;
  known = λ i. bit i (eqb i out) refl;
}
  where
    inside : out < length bits
    inside = omega (arith, f.same_length)

    go : (i : ℕ) → (get_or (set s.wires out (wire_word w + 1)) i 0 ≡ 0 → ⊥) → (t : Bool) → eqb i out ≡ t
        → Drives ins more (driver (set s.wires out (wire_word w + 1)) i) (get_or (set bits out v) i 0)
    go i nz true q =
        let p : i ≡ out = eqb-true i out q in
        let slot : get_or (set s.wires out (wire_word w + 1)) i 0 ≡ wire_word w + 1 = ap (λ (k : ℕ). get_or (set s.wires out (wire_word w + 1)) k 0) p ∙ get_or-set_same s.wires out (wire_word w + 1) 0 l in
        let less : get_or (set s.wires out (wire_word w + 1)) i 0 - 1 ≡ wire_word w = omega (arith, slot) in
        let new : driver (set s.wires out (wire_word w + 1)) i ≡ w = ap wire_of less ∙ wire_back w in
        let value : get_or (set bits out v) i 0 ≡ v = ap (λ (k : ℕ). get_or (set bits out v) k 0) p ∙ get_or-set_same bits out v 0 inside in
        subst (λ (z : BoolWire). Drives ins more z (get_or (set bits out v) i 0)) (sym new) (subst (Drives ins more w) (sym value) d)
    go i nz false q =
        let n = eqb-false i out q in
        let slot = get_or-set_other s.wires out i (wire_word w + 1) 0 n in
        let old = drives_more ins s.nodes more tail e h _ _ (f.drives i (λ k. nz (slot ∙ k))) in
        subst (λ (z : ℕ). Drives ins more (wire_of (z - 1)) (get_or (set bits out v) i 0)) (sym slot) (subst (Drives ins more (driver s.wires i)) (sym (get_or-set_other bits out i v 0 n)) old)

    bit : (i : ℕ) (t : Bool) → eqb i out ≡ t → get_or (set bits out v) i 0 < 2
    bit i true q =
        let p : i ≡ out = eqb-true i out q in
        let value : get_or (set bits out v) i 0 ≡ v = ap (λ (k : ℕ). get_or (set bits out v) k 0) p ∙ get_or-set_same bits out v 0 inside in
        omega (arith, value)
    bit i false q = omega (arith, get_or-set_other bits out i v 0 (eqb-false i out q), f.known i)

-- ---- the start: the inputs drive the first wires

input-bits : (ins : List ℕ) (m : ℕ) → node_bits ins (up_from wire_input 0 m) ≡ up_from (λ k. get_or ins k 0) 0 m
unfolding node_bits
input-bits ins m = values-inputs entry_of ins m 0 0 []

pub start_follows : (h : Head) (ins : List ℕ) → length ins ≡ h.inputs → h.inputs ≤ h.wires → ((i : ℕ) → get_or ins i 0 < 2)
    → Follows ins (start h) (ins ++ replicate (h.wires - length ins) 0)
unfolding start
start_follows h ins l k b = record {
  same_length = length-append ins (replicate (h.wires - length ins) 0)
      ∙ omega (arith, l, length-replicate {A = ℕ} (h.wires - length ins) 0, length-append (up_from input_slot 0 h.inputs) (replicate (h.wires - h.inputs) 0), length_up input_slot 0 h.inputs, length-replicate {A = ℕ} (h.wires - h.inputs) 0);
  drives = λ i nz. go i nz (ltb i h.inputs) refl;
  known = λ i. bit i (ltb i (length ins)) refl;
}
  where
    go : (i : ℕ) → (get_or (up_from input_slot 0 h.inputs ++ replicate (h.wires - h.inputs) 0) i 0 ≡ 0 → ⊥) → (t : Bool) → ltb i h.inputs ≡ t
        → Drives ins (up_from wire_input 0 h.inputs) (driver (up_from input_slot 0 h.inputs ++ replicate (h.wires - h.inputs) 0) i) (get_or (ins ++ replicate (h.wires - length ins) 0) i 0)
    go i nz true e =
        let m : i < h.inputs = ltb-true i h.inputs e in
        let slot = front_at input_slot h.inputs i (replicate (h.wires - h.inputs) 0) m in
        let less : get_or (up_from input_slot 0 h.inputs ++ replicate (h.wires - h.inputs) 0) i 0 - 1 ≡ suc (suc i) = omega (arith, slot) in
        let new : driver (up_from input_slot 0 h.inputs ++ replicate (h.wires - h.inputs) 0) i ≡ Node (record { 0 = i }) = ap wire_of less in
        let inside : i < length ins = omega (arith, l) in
        rw new (record {
          below = rw (length_up wire_input 0 h.inputs) (lt-leb h.inputs i m);
          value = ap (λ (x : List ℕ). get_or x i 0) (input-bits ins h.inputs) ∙ up_at (λ j. get_or ins j 0) 0 0 h.inputs i m ∙ ap (λ (j : ℕ). get_or ins j 0) (zero-add i)
              ∙ sym (get_or-append ins (replicate (h.wires - length ins) 0) 0 i inside);
        })
    go i nz false e = absurd (nz (past_front (up_from input_slot 0 h.inputs) (h.wires - h.inputs) i (omega (arith, ltb-false i h.inputs e, length_up input_slot 0 h.inputs))))

    bit : (i : ℕ) (t : Bool) → ltb i (length ins) ≡ t → get_or (ins ++ replicate (h.wires - length ins) 0) i 0 < 2
    bit i true e = omega (arith, get_or-append ins (replicate (h.wires - length ins) 0) 0 i (ltb-true i (length ins) e), b i)
    bit i false e = omega (arith, past_front ins (h.wires - length ins) i (ltb-false i (length ins) e))
