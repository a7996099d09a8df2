-- Every circuit that the reader of Bristol texts accepts passes the circuit check.
-- Assumes nothing.
use Rattle.std.specs.Prelude.{Ok}
use Prim.Native.Nat.{ℕ, zero, suc, ◌+◌, ◌-◌, ◌<◌, ◌≤◌, ◌^◌}
use mathlib.Core.Path.{◌≡◌, refl, sym, ap, ◌∙◌, subst}
use mathlib.Core.Bool.{Bool, true, false, cond}
use mathlib.Core.List.{List, [], ◌∷◌, ◌++◌, map}
use native.Mathlib.Nat.{zero-add}
use native.Mathlib.Omega.{arith}
use lib.Dec.{eqb, leb, ltb}
use lib.ListN.{length, get_or, set, drop, replicate}
use lib.Seq.{get_or-set_same, get_or-set_other, get_or-drop, set_out}
use borrow.Author.Tests.{eqb-true, eqb-false, ltb-true, ltb-false, leb-false, lt-leb}
use Rattle.std.proofs.lemmas.Bool.{or_parts}
use Rattle.laws.specs.Areas.{up_from, capacity}
use Rattle.laws.specs.Stretches.{All}
use Rattle.laws.proofs.Areas.{length_up}
use Rattle.laws.proofs.Filling.{length_snoc}
use Rattle.laws.proofs.Sums.{front_at, past_front}
use Rattle.circuit.specs.declared.records.Name.TheVariants.{Number}
use Rattle.circuit.specs.declared.records.TheConstants.{WIRES, NODE_WORDS, OUTPUT_WORDS}
use Rattle.circuit.specs.declared.refusals.Refusal.TheVariants.{NoRoom, Unknown, WrongCount}
use Rattle.circuit.specs.declared.records.WireNumber.{WireNumber}
use Rattle.circuit.specs.declared.records.BoolWire.{BoolWire}
use Rattle.circuit.specs.declared.records.BoolWire.TheVariants.{Const, Node}
use Rattle.circuit.specs.declared.records.BoolNode.{BoolNode}
use Rattle.circuit.specs.declared.records.Output.{Output}
use Rattle.circuit.specs.Refusals.{need}
use Rattle.circuit.specs.Records.{wire_of, wire_word, wires_of, no_wire}
use Rattle.circuit.specs.Check.{not_below, some_not_below}
use Rattle.circuit.specs.Circuits.{Circuit, KeepsRules}
use Rattle.circuit.proofs.Tries.{no_yes, yes_same, then_yes, need-yes}
use Rattle.circuit.proofs.Sitting.{each_padded, AllSit, Sits, sit_more, circuit_checked, word_below, input_sits, cell_sits}
use Rattle.circuit.proofs.Checks.{below_more, all_below_more}
use Rattle.reading.specs.Reading.{add_node, each}
use Rattle.reading.proofs.Sound.{each_keeps}
use Rattle.text.specs.declared.TheConstants.{MOST_TEXT}
use Rattle.text.specs.Bytes.{is_ascii, is_named}
use Rattle.text.specs.Words.{split_whitespace}
use Rattle.text.specs.Lines.{kept_lines}
use Rattle.bristol_rows.specs.declared.answers.Head.{Head}
use Rattle.bristol_rows.specs.Header.{header}
use Rattle.bristol_rows.specs.declared.gates.Gate.{Gate}
use Rattle.bristol_rows.specs.declared.gates.Gate.TheVariants.{Alias, Cell}
use Rattle.bristol_rows.specs.declared.operation.Operation.{Operation}
use Rattle.bristol_rows.specs.declared.operation.Operation.TheVariants.{Copy, One, Two, Unlisted}
use Rattle.bristol_rows.specs.Operation.{is_alias, inverts, operation}
use Rattle.bristol_rows.specs.Slots.{wire_number, node_number}
use Rattle.bristol_rows.specs.Row.{drivers, cell_gate, gates_on, row}
use Rattle.bristol_rows.proofs.Accepted.{Accepts, accepted}
use Rattle.bristol_rows.proofs.InputLaws.{front, drivers-nil}
use Rattle.bristol.specs.Bristol.{State, drive, drive_with, store_cell, store_gate, store, row_step, rows, output_of, outputs_from, wire_input, input_slot, start, body, circuit, bristol_circuit}

-- ---- the operation: a table with no bits above its entries

abbrev TableFits : Operation → Type 0
TableFits (One t) = t < 4
TableFits (Two t) = t < 16
TableFits Copy = Unit
TableFits Unlisted = Unit

table_fits : (w : List ℕ) → TableFits (operation w)
unfolding operation
table_fits w =
    either (is_named w (65 ∷ 78 ∷ 68 ∷ [])) _ _ (omega arith)
    (either (is_named w (78 ∷ 65 ∷ 78 ∷ 68 ∷ [])) _ _ (omega arith)
    (either (is_named w (79 ∷ 82 ∷ [])) _ _ (omega arith)
    (either (is_named w (78 ∷ 79 ∷ 82 ∷ [])) _ _ (omega arith)
    (either (is_named w (88 ∷ 79 ∷ 82 ∷ [])) _ _ (omega arith)
    (either (is_named w (88 ∷ 78 ∷ 79 ∷ 82 ∷ [])) _ _ (omega arith)
    (either (inverts w) _ _ (omega arith)
    (either (is_alias w) _ _ tt tt)))))))
  where
    either : (t : Bool) (x y : Operation) → TableFits x → TableFits y → TableFits (cond t x y)
    either true x y p q = p
    either false x y p q = q

-- ---- the drivers are there

-- each slot holds a wire of the circuit that is there
abbrev Wired : ℕ → List ℕ → Type 0
Wired m wires = (i : ℕ) → get_or wires i 0 < m + 3

slot_below : (m : ℕ) (wires : List ℕ) → Wired m wires → (n : ℕ) → not_below m (wire_of (get_or wires n 0 - 1)) ≡ false
slot_below m wires h n =
    let l : get_or wires n 0 - 1 < m + 2 = omega (arith, h n) in
    word_below m (get_or wires n 0 - 1) l

drivers_below : (m : ℕ) (wires : List ℕ) → Wired m wires → (ns : List ℕ) (ds : List BoolWire) → drivers wires (map wire_number ns) ≡ Ok ds → some_not_below m ds ≡ false
drivers_below m wires h [] ds e = rw (drivers-nil wires ds e)
drivers_below m wires h (n ∷ ns) ds e =
    let f = front wires n ns ds e in
    rw (f.all, slot_below m wires h n) (drivers_below m wires h ns f.tail f.is)

first_below : (m : ℕ) (ds : List BoolWire) → some_not_below m ds ≡ false → not_below m (get_or ds 0 no_wire) ≡ false
first_below m [] h = refl
first_below m (d ∷ ds) h = (or_parts (not_below m d) (some_not_below m ds) h).0

-- ---- a row

-- a gate whose wire is there, or whose cell keeps the rules
abbrev GateSound : ℕ → Gate → Type 0
GateSound m (Alias out w) = not_below m w ≡ false
GateSound m (Cell out n) = Sits m n

cell_sound : (m : ℕ) (out : WireNumber) (t k : ℕ) (ds : List BoolWire) → some_not_below m ds ≡ false → length ds ≡ k → 1 ≤ k → k ≤ WIRES → t < 2 ^ 2 ^ k
    → All (GateSound m) (cell_gate out t ds)
cell_sound m out t k ds b e l h f = (cell_sits m (Number out) t ds (omega arith) (omega arith) (rw e f) b, tt)

gates_sound : (m : ℕ) (wires : List ℕ) → Wired m wires → (ws : List (List ℕ)) (gs : List Gate) → Accepts wires ws gs → All (GateSound m) gs
gates_sound m wires h ws gs r = go (operation _) (table_fits _) r.gates_are
  where
    below : some_not_below m r.ds ≡ false
    below = drivers_below m wires h r.ins r.ds r.ds_are

    go : (op : Operation) → TableFits op → gates_on (wire_number r.out) r.ds op ≡ Ok gs → All (GateSound m) gs
    go Copy f q =
        let a = need-yes (eqb (length r.ds) 1) WrongCount _ gs q in
        subst (All (GateSound m)) (yes_same a.1) (first_below m r.ds below, tt)
    go (One t) f q =
        let a = need-yes (eqb (length r.ds) 1) Unknown _ gs q in
        subst (All (GateSound m)) (yes_same a.1) (cell_sound m (wire_number r.out) t 1 r.ds below (eqb-true (length r.ds) 1 a.0) (omega arith) (omega arith) f)
    go (Two t) f q =
        let a = need-yes (eqb (length r.ds) 2) Unknown _ gs q in
        subst (All (GateSound m)) (yes_same a.1) (cell_sound m (wire_number r.out) t 2 r.ds below (eqb-true (length r.ds) 2 a.0) (omega arith) (omega arith) f)
    go Unlisted f q = absurd (no_yes q)

-- ---- the rows in turn

record StateSound (s : State) : Type 0 where
  sits : AllSit 0 s.nodes
  wired : Wired (length s.nodes) s.wires

wired_set : (m : ℕ) (wires : List ℕ) → Wired m wires → (out v : ℕ) → v < m + 3 → Wired m (set wires out v)
wired_set m wires h out v l i = go (eqb i out) refl (ltb out (length wires)) refl
  where
    go : (a : Bool) → eqb i out ≡ a → (b : Bool) → ltb out (length wires) ≡ b → get_or (set wires out v) i 0 < m + 3
    go false e b f = omega (arith, get_or-set_other wires out i v 0 (eqb-false i out e), h i)
    go true e true f =
        let q : get_or (set wires out v) i 0 ≡ v = ap (λ (k : ℕ). get_or (set wires out v) k 0) (eqb-true i out e) ∙ get_or-set_same wires out v 0 (ltb-true out (length wires) f) in
        omega (arith, q)
    go true e false f =
        let q : set wires out v ≡ wires = set_out wires out v (ltb-false out (length wires) f) in
        omega (arith, ap (λ (l : List ℕ). get_or l i 0) q, h i)

wire_small : (m : ℕ) (w : BoolWire) → not_below m w ≡ false → wire_word w + 1 < m + 3
wire_small m (Const true) h = omega arith
wire_small m (Const false) h = omega arith
wire_small m (Node n) h = omega (arith, leb-false m n.0 h)

drive-sound : (out : WireNumber) (w : BoolWire) (ns : List BoolNode) (ws : List ℕ) (s : State) → AllSit 0 ns → Wired (length ns) ws → not_below (length ns) w ≡ false
    → drive_with ns out w ws ≡ Ok s → StateSound s × (length s.nodes ≡ length ns)
unfolding drive
drive-sound out w ns ws s a b c h =
    let d = then_yes (drive out w ws) _ s h in
    let e : set ws out.0 (wire_word w + 1) ≡ d.0 = yes_same (need-yes (eqb (get_or ws out.0 0) 0) _ _ d.0 d.1).1 in
    subst (λ (z : State). StateSound z × (length z.nodes ≡ length ns)) (yes_same d.2)
    (record { sits = a; wired = subst (Wired (length ns)) e (wired_set (length ns) ws b out.0 (wire_word w + 1) (wire_small (length ns) w c)) }, refl)

gate-sound : (room : ℕ) (g : Gate) (s s' : State) → StateSound s → GateSound (length s.nodes) g → store_gate room g s ≡ Ok s'
    → StateSound s' × (length s.nodes ≤ length s'.nodes)
unfolding store_gate store_cell add_node
gate-sound room (Alias out w) s s' k b h =
    let d = drive-sound out w s.nodes s.wires s' k.sits k.wired b h in
    (d.0, omega (arith, d.1))
gate-sound room (Cell out n) s s' k b h =
    let ns : List BoolNode = s.nodes ++ (n ∷ []) in
    let a = then_yes (need (ltb (length s.nodes) room) NoRoom (Ok ns)) _ s' h in
    let q : ns ≡ a.0 = yes_same (need-yes (ltb (length s.nodes) room) NoRoom (Ok ns) a.0 a.1).1 in
    let more : length ns ≡ suc (length s.nodes) = length_snoc s.nodes n in
    let d = drive-sound out (Node (node_number (length s.nodes))) ns s.wires s'
    (sit_more 0 s.nodes n k.sits (subst (λ (i : ℕ). Sits i n) (sym (zero-add (length s.nodes))) b))
    (λ i. omega (arith, k.wired i, more)) (lt-leb (length ns) (length s.nodes) (omega (arith, more)))
    (rw (← q) at a.2) in
    (d.0, omega (arith, d.1, more))

-- later gates of a row are stored among more nodes
still_sound : (k m : ℕ) → k ≤ m → (gs : List Gate) → All (GateSound k) gs → All (GateSound m) gs
still_sound k m l [] h = tt
still_sound k m l (Alias out w ∷ gs) h = (below_more k m l w h.0, still_sound k m l gs h.1)
still_sound k m l (Cell out n ∷ gs) h =
    (record { padded = h.0.padded; rules = h.0.rules; earlier = all_below_more k m l (wires_of n) h.0.earlier }, still_sound k m l gs h.1)

store-sound : (room : ℕ) (gs : List Gate) (s s' : State) → StateSound s → All (GateSound (length s.nodes)) gs → store room gs s ≡ Ok s' → StateSound s'
unfolding each
store-sound room [] s s' k b h = subst StateSound (yes_same h) k
store-sound room (g ∷ gs) s s' k b h =
    let a = then_yes (store_gate room g s) (each (store_gate room) gs) s' h in
    let c = gate-sound room g s a.0 k b.0 a.1 in
    store-sound room gs a.0 s' c.0 (still_sound (length s.nodes) (length a.0.nodes) c.1 gs b.1) a.2

row-sound : (room : ℕ) (l : List ℕ) (s s' : State) → StateSound s → row_step room l s ≡ Ok s' → StateSound s'
unfolding row_step
row-sound room l s s' k h =
    let ws = split_whitespace l in
    let b = then_yes (row s.wires ws) _ s' h in
    store-sound room b.0 s s' k (gates_sound (length s.nodes) s.wires k.wired ws b.0 (accepted s.wires ws b.0 b.1)) b.2

-- ---- the start

inputs_sit : (i m : ℕ) → AllSit i (up_from wire_input i m)
inputs_sit i zero = tt
inputs_sit i (suc m) = (input_sits i (Number (wire_number i)), inputs_sit (suc i) m)

start-sound : (h : Head) → StateSound (start h)
unfolding start
start-sound h = record { sits = inputs_sit 0 h.inputs; wired = λ i. go i (ltb i h.inputs) refl }
  where
    go : (i : ℕ) (t : Bool) → ltb i h.inputs ≡ t → get_or (up_from input_slot 0 h.inputs ++ replicate (h.wires - h.inputs) 0) i 0 < length (up_from wire_input 0 h.inputs) + 3
    go i true e = omega (arith, ltb-true i h.inputs e, front_at input_slot h.inputs i (replicate (h.wires - h.inputs) 0) (ltb-true i h.inputs e), length_up wire_input 0 h.inputs)
    go i false e =
        omega (arith, past_front (up_from input_slot 0 h.inputs) (h.wires - h.inputs) i (omega (arith, length_up input_slot 0 h.inputs, ltb-false i h.inputs e)))

-- ---- the outputs

abbrev out_wires : List Output → List BoolWire
out_wires os = map (λ (o : Output). o.wire) os

below_snoc : (m : ℕ) (os : List Output) (o : Output) → some_not_below m (out_wires os) ≡ false → not_below m o.wire ≡ false → some_not_below m (out_wires (os ++ (o ∷ []))) ≡ false
below_snoc m [] o h k = rw k
below_snoc m (p ∷ os) o h k =
    let a = or_parts (not_below m p.wire) _ h in
    rw a.0 (below_snoc m os o a.1 k)

outputs_below : (m room k : ℕ) (ss : List ℕ) → Wired m ss → (os os' : List Output) → outputs_from room k ss os ≡ Ok os'
    → some_not_below m (out_wires os) ≡ false → some_not_below m (out_wires os') ≡ false
unfolding outputs_from
outputs_below m room k [] h os os' e b = subst (λ (l : List Output). some_not_below m (out_wires l) ≡ false) (yes_same e) b
outputs_below m room k (s ∷ ss) h os os' e b =
    let p = need-yes (ltb 0 s) _ _ os' e in
    let q = need-yes (ltb (length os) room) _ _ os' p.1 in
    let l : s - 1 < m + 2 = omega (arith, h 0) in
    outputs_below m room (suc k) ss (λ i. h (suc i)) (os ++ (output_of (wire_number k) s ∷ [])) os' q.1
    (below_snoc m os (output_of (wire_number k) s) b (word_below m (s - 1) l))

none_yet : (m : ℕ) → some_not_below m (out_wires []) ≡ false
none_yet m = refl

-- ---- the whole

pub bristol-sound : (text : List ℕ) (nodes outputs wires : ℕ) (c : Circuit) → bristol_circuit text nodes outputs wires ≡ Ok c → KeepsRules c
unfolding bristol_circuit circuit body
bristol-sound text nodes outputs wires c e =
    let p = need-yes (leb (length text) MOST_TEXT) _ _ c e in
    let q = need-yes (is_ascii text) _ _ c p.1 in
    let h = then_yes (header (kept_lines text)) _ c q.1 in
    let n = need-yes (leb h.0.wires (capacity 1 wires)) _ _ c h.2 in
    let m = need-yes (leb h.0.inputs (capacity NODE_WORDS nodes)) _ _ c n.1 in
    let s = then_yes (rows (capacity NODE_WORDS nodes) (drop 3 (kept_lines text)) (start h.0)) _ c m.1 in
    let g = need-yes (eqb (length (drop 3 (kept_lines text))) h.0.gates) _ _ c s.2 in
    let from : ℕ = h.0.wires - h.0.outputs in
    let o = then_yes (outputs_from (capacity OUTPUT_WORDS outputs) from (drop from s.0.wires) []) _ c g.1 in
    let k = each_keeps StateSound (row_step (capacity NODE_WORDS nodes)) (row-sound (capacity NODE_WORDS nodes)) (drop 3 (kept_lines text)) (start h.0) s.0 (start-sound h.0) s.1 in
    let b = outputs_below (length s.0.nodes) (capacity OUTPUT_WORDS outputs) from (drop from s.0.wires) (λ i. omega (arith, get_or-drop from s.0.wires i 0, k.wired (from + i))) [] o.0 o.1 (none_yet (length s.0.nodes)) in
    subst KeepsRules (yes_same o.2) (record { checked = circuit_checked s.0.nodes (out_wires o.0) k.sits b; padded = each_padded 0 s.0.nodes k.sits })
