-- A row that the reader accepts and the page speaks of: the wires follow the page's bits.
-- Assumes nothing.
use Rattle.std.specs.Prelude.{Ok}
use Prim.Native.Nat.{ℕ, ◌+◌, ◌-◌, ◌*◌, ◌%◌, ◌<◌}
use mathlib.Core.Path.{◌≡◌, refl, sym, ap, ap₂, ◌∙◌, subst}
use mathlib.Core.Logic.{⊎_elim}
use mathlib.Core.Bool.{true}
use mathlib.Core.List.{List, [], ◌∷◌, ◌++◌, map, append-nil}
use mathlib.Core.Option.{Option, none, some}
use native.Mathlib.Omega.{arith}
use lib.Dec.{eqb, ltb}
use lib.ListN.{length, get_or, set, take, drop}
use borrow.Author.Tests.{eqb-true, lt-leb}
use Rattle.laws.specs.Stretches.{same_bytes}
use Rattle.std.proofs.lemmas.Bool.{or_cases}
use Rattle.laws.proofs.Rows.{one_bit, two_bits}
use Rattle.laws.proofs.Stretches.{same_eq}
use Rattle.laws.proofs.Filling.{length_snoc, snoc_last}
use Rattle.circuit.specs.declared.refusals.Refusal.{Refusal}
use Rattle.circuit.specs.declared.refusals.Refusal.TheVariants.{NoRoom, WrongCount, Unknown}
use Rattle.circuit.specs.declared.records.BoolWire.{BoolWire}
use Rattle.circuit.specs.declared.records.BoolWire.TheVariants.{Node}
use Rattle.circuit.specs.declared.records.BoolNode.{BoolNode}
use Rattle.circuit.specs.Refusals.{need}
use Rattle.circuit.specs.declared.records.Name.TheVariants.{Number}
use Rattle.circuit.specs.Records.{wire_word, no_wire, is_cell_node, cell_node}
use Rattle.circuit.proofs.Tries.{yes_same, then_yes, need-yes}
use Rattle.cells.specs.Cells.{entry, index_from}
use Rattle.text.specs.Bytes.{upper}
use Rattle.text.specs.Numbers.{parse_usize, parse_each, and_then as then}
use Rattle.values.specs.Values.{entry_of}
use Rattle.values.proofs.Storage.{entry_small}
use Rattle.values.proofs.CellNodes.{entry_of_cell}
use Rattle.reading.specs.Reading.{add_node, each}
use Rattle.bristol_rows.specs.declared.gates.Gate.{Gate}
use Rattle.bristol_rows.specs.declared.gates.Gate.TheVariants.{Alias, Cell}
use Rattle.bristol_rows.specs.declared.operation.Operation.{Operation}
use Rattle.bristol_rows.specs.declared.operation.Operation.TheVariants.{Copy, One, Two}
use Rattle.bristol_rows.specs.Operation.{is_alias, inverts, operation}
use Rattle.bristol_rows.specs.Slots.{wire_number, node_number}
use Rattle.bristol_rows.specs.Row.{drivers, alias_gate, cell_gate, gates_on, after_inputs, row}
use Rattle.bristol_rows.proofs.Accepted.{Accepts, accepted}
use Rattle.bristol_rows.proofs.InputLaws.{front, drivers-nil, drivers-length}
use Rattle.bristol.specs.Bristol.{State, driven, drive, drive_with, store_cell, store_gate, store}
use Rattle.documents.specs.BristolFashion.{num, gate_bit, input_words, output_word, name_word, gate_step, is_page_gate}
use Rattle.documents.proofs.BristolValues.{node_bits, bits_length, bits_snoc, Drives, driver, Follows, follow_set}

-- ---- numbers

pub num-is : (w : List ℕ) (n : ℕ) → parse_usize w ≡ some n → num w ≡ n
unfolding num
num-is w n e = rw e

-- the numbers of words, one by one, taken by f
pub nums_are : (f : ℕ → ℕ) (ws : List (List ℕ)) (ns : List ℕ) → parse_each ws ≡ some ns → map (λ (w : List ℕ). f (num w)) ws ≡ map f ns
unfolding parse_each
nums_are f [] ns h =
    let e : ns ≡ [] = cc in
    rw e
nums_are f (w ∷ ws) ns h = go (parse_usize w) refl (parse_each ws) refl h (nums_are f ws)
  where
    go : (x : Option ℕ) → parse_usize w ≡ x → (y : Option (List ℕ)) → parse_each ws ≡ y → then x (λ n. then y (λ ms. some (n ∷ ms))) ≡ some ns
        → ((ms : List ℕ) → parse_each ws ≡ some ms → map (λ (w : List ℕ). f (num w)) ws ≡ map f ms)
        → f (num w) ∷ map (λ (w : List ℕ). f (num w)) ws ≡ map f ns
    go none p y q h ih = cc
    go (some n) p none q h ih = cc
    go (some n) p (some ms) q h ih =
        let e : ns ≡ n ∷ ms = cc in
        rw e (ap₂ (λ (a : ℕ) (l : List ℕ). a ∷ l) (ap f (num-is w n p)) (ih ms q))

-- ---- the page's gates

xor_read : operation (88 ∷ 79 ∷ 82 ∷ []) ≡ Two 6
unfolding operation upper same_bytes
xor_read = refl

and_read : operation (65 ∷ 78 ∷ 68 ∷ []) ≡ Two 8
unfolding operation upper same_bytes
and_read = refl

inv_read : operation (73 ∷ 78 ∷ 86 ∷ []) ≡ One 1
unfolding operation inverts upper same_bytes
inv_read = refl

eqw_read : operation (69 ∷ 81 ∷ 87 ∷ []) ≡ Copy
unfolding operation inverts is_alias upper same_bytes
eqw_read = refl

-- ---- the tables on bits

xor_bit : (x y : ℕ) → x < 2 → y < 2 → entry 6 (index_from 0 (x ∷ y ∷ [])) ≡ (x + y) % 2
unfolding index_from
xor_bit = two_bits (λ (x y : ℕ). entry 6 (index_from 0 (x ∷ y ∷ [])) ≡ (x + y) % 2) refl refl refl refl

and-bit : (x y : ℕ) → x < 2 → y < 2 → entry 8 (index_from 0 (x ∷ y ∷ [])) ≡ x * y
unfolding index_from
and-bit = two_bits (λ (x y : ℕ). entry 8 (index_from 0 (x ∷ y ∷ [])) ≡ x * y) refl refl refl refl

inv_bit : (x : ℕ) → x < 2 → entry 1 (index_from 0 (x ∷ [])) ≡ 1 - x
unfolding index_from
inv_bit = one_bit (λ (x : ℕ). entry 1 (index_from 0 (x ∷ [])) ≡ 1 - x) refl refl

-- ---- a row of one gate

one_stored : (room : ℕ) (g : Gate) (s s' : State) → store room (g ∷ []) s ≡ Ok s' → store_gate room g s ≡ Ok s'
unfolding each
one_stored room g s s' h =
    let a = then_yes (store_gate room g s) _ s' h in
    a.1 ∙ ap Ok (yes_same a.2)

-- ---- the drivers of one or two wires

record OneDriven (ins : List ℕ) (s : State) (bits : List ℕ) (xs : List ℕ) (ds : List BoolWire) : Type 0 where
  x : ℕ
  d : BoolWire
  x_is : xs ≡ x ∷ []
  d_is : ds ≡ d ∷ []
  drives : Drives ins s.nodes d (get_or bits x 0)

record TwoDriven (ins : List ℕ) (s : State) (bits : List ℕ) (xs : List ℕ) (ds : List BoolWire) : Type 0 where
  x : ℕ
  y : ℕ
  d : BoolWire
  e : BoolWire
  xs_are : xs ≡ x ∷ y ∷ []
  ds_are : ds ≡ d ∷ e ∷ []
  drives : Drives ins s.nodes d (get_or bits x 0)
  drives_too : Drives ins s.nodes e (get_or bits y 0)

module _ (ins : List ℕ) (s : State) (bits : List ℕ) (f : Follows ins s bits) where
  one_driven : (xs : List ℕ) (ds : List BoolWire) → drivers s.wires (map wire_number xs) ≡ Ok ds → length xs ≡ 1 → OneDriven ins s bits xs ds
  one_driven [] ds h l = absurd (omega arith)
  one_driven (x ∷ []) ds h l =
      let a = front s.wires x [] ds h in
      record {
        x = x;
        d = driver s.wires x;
        x_is = refl;
        d_is = a.all ∙ ap (λ (z : List BoolWire). driver s.wires x ∷ z) (drivers-nil s.wires a.tail a.is);
        drives = f.drives x a.some;
      }
  one_driven (x ∷ y ∷ xs) ds h l = absurd (omega arith)

  two_driven : (xs : List ℕ) (ds : List BoolWire) → drivers s.wires (map wire_number xs) ≡ Ok ds → length xs ≡ 2 → TwoDriven ins s bits xs ds
  two_driven [] ds h l = absurd (omega arith)
  two_driven (x ∷ []) ds h l = absurd (omega arith)
  two_driven (x ∷ y ∷ []) ds h l =
      let a = front s.wires x (y ∷ []) ds h in
      let b = front s.wires y [] a.tail a.is in
      record {
        x = x;
        y = y;
        d = driver s.wires x;
        e = driver s.wires y;
        xs_are = refl;
        ds_are = a.all ∙ ap (λ (z : List BoolWire). driver s.wires x ∷ z) (b.all ∙ ap (λ (z : List BoolWire). driver s.wires y ∷ z) (drivers-nil s.wires b.tail b.is));
        drives = f.drives x a.some;
        drives_too = f.drives y b.some;
      }
  two_driven (x ∷ y ∷ z ∷ xs) ds h l = absurd (omega arith)

  -- ---- stored

  drive-yes : (out : ℕ) (w : BoolWire) (ns : List BoolNode) (s' : State) → drive_with ns (wire_number out) w s.wires ≡ Ok s'
      → driven ns (set s.wires out (wire_word w + 1)) ≡ s'
  unfolding drive
  drive-yes out w ns s' h =
      let d = then_yes (drive (wire_number out) w s.wires) _ s' h in
      ap (driven ns) (yes_same (need-yes (eqb (get_or s.wires out 0) 0) _ _ d.0 d.1).1) ∙ yes_same d.2

  follow_alias : (out : ℕ) (w : BoolWire) (v : ℕ) (room : ℕ) (s' : State) → out < length s.wires → v < 2 → Drives ins s.nodes w v
      → store room (alias_gate (wire_number out) w) s ≡ Ok s' → Follows ins s' (set bits out v)
  unfolding store_gate
  follow_alias out w v room s' l b d h =
      subst (λ (z : State). Follows ins z (set bits out v)) (drive-yes out w s.nodes s' (one_stored room (Alias (wire_number out) w) s s' h))
      (follow_set ins s bits f s.nodes [] (sym (append-nil (node_bits ins s.nodes))) (omega arith) out l w v b d)

  follow_cell : (out : ℕ) (n : BoolNode) (v : ℕ) (room : ℕ) (s' : State) → out < length s.wires → is_cell_node n ≡ true → entry_of (node_bits ins s.nodes) n ≡ v
      → store room (Cell (wire_number out) n ∷ []) s ≡ Ok s' → Follows ins s' (set bits out v)
  unfolding store_gate store_cell add_node
  follow_cell out n v room s' l c e h =
      let ns : List BoolNode = s.nodes in
      let more : List BoolNode = ns ++ (n ∷ []) in
      let w : BoolWire = Node (node_number (length ns)) in
      let a = then_yes (need (ltb (length ns) room) NoRoom (Ok more)) _ s' (one_stored room (Cell (wire_number out) n) s s' h) in
      let q : more ≡ a.0 = yes_same (need-yes (ltb (length ns) room) NoRoom (Ok more) a.0 a.1).1 in
      let bit : v < 2 = subst (λ (k : ℕ). k < 2) e (entry_small (node_bits ins ns) n) in
      let d : Drives ins more w v = record {
        below = lt-leb (length more) (length ns) (omega (arith, length_snoc ns n));
        value = ap₂ (λ (l : List ℕ) (k : ℕ). get_or l k 0) (bits_snoc ins ns n c) (sym (bits_length ins ns)) ∙ snoc_last (node_bits ins ns) (entry_of (node_bits ins ns) n) ∙ e;
      } in
      subst (λ (z : State). Follows ins z (set bits out v)) (drive-yes out w more s' (rw (← q) at a.2))
      (follow_set ins s bits f more (entry_of (node_bits ins ns) n ∷ []) (bits_snoc ins ns n c) (omega (arith, length_snoc ns n)) out l w v bit d)

-- ---- a row

module _ (ins : List ℕ) (s : State) (bits : List ℕ) (f : Follows ins s bits) (room : ℕ) (ws : List (List ℕ)) (gs : List Gate) (s' : State)
    (r : Accepts s.wires ws gs) (h : store room gs s ≡ Ok s')
  where
    inputs_are : num (get_or ws 0 []) ≡ r.inputs
    inputs_are = num-is (get_or ws 0 []) r.inputs r.inputs_is

    words_are : input_words ws ≡ take r.inputs (drop 2 ws)
    unfolding input_words
    words_are = ap (λ (k : ℕ). take k (drop 2 ws)) inputs_are

    out_word : output_word ws ≡ get_or (after_inputs r.inputs ws) 0 []
    unfolding output_word
    out_word = ap (λ (k : ℕ). get_or (after_inputs k ws) 0 []) inputs_are

    name-word : name_word ws ≡ get_or (after_inputs r.inputs ws) 1 []
    unfolding name_word
    name-word = ap (λ (k : ℕ). get_or (after_inputs k ws) 1 []) inputs_are

    step_is : (name : List ℕ) → name_word ws ≡ name → gate_step bits ws ≡ set bits r.out (gate_bit name (map (λ (n : ℕ). get_or bits n 0) r.ins))
    unfolding gate_step
    step_is name e =
        ap₂ (set bits) (num-is (output_word ws) r.out (ap parse_usize out_word ∙ r.out_is))
        (ap₂ gate_bit e (nums_are (λ n. get_or bits n 0) (input_words ws) r.ins (ap parse_each words_are ∙ r.ins_are)))

    gates_are : (name : List ℕ) → name_word ws ≡ name → (op : Operation) → operation name ≡ op → gates_on (wire_number r.out) r.ds op ≡ Ok gs
    gates_are name e op q = ap (gates_on (wire_number r.out) r.ds) (sym q ∙ ap operation (sym e ∙ name-word)) ∙ r.gates_are

    -- so many wires drive the inputs, and these gates are stored
    counted : (k : ℕ) (f : Refusal) (hs : List Gate) → need (eqb (length r.ds) k) f (Ok hs) ≡ Ok gs → (length r.ins ≡ k) × (store room hs s ≡ Ok s')
    counted k f hs q =
        let a = need-yes (eqb (length r.ds) k) f _ gs q in
        (sym (drivers-length s.wires r.ins r.ds r.ds_are) ∙ eqb-true (length r.ds) k a.0, subst (λ (z : List Gate). store room z s ≡ Ok s') (sym (yes_same a.1)) h)

    told : (name : List ℕ) → name_word ws ≡ name → (v : ℕ) → gate_bit name (map (λ (n : ℕ). get_or bits n 0) r.ins) ≡ v → Follows ins s' (set bits r.out v) → Follows ins s' (gate_step bits ws)
    told name e v q x = subst (Follows ins s') (sym (step_is name e ∙ ap (set bits r.out) q)) x

    follows_eqw : name_word ws ≡ 69 ∷ 81 ∷ 87 ∷ [] → Follows ins s' (gate_step bits ws)
    unfolding same_bytes
    follows_eqw e =
        let m = counted 1 WrongCount _ (gates_are (69 ∷ 81 ∷ 87 ∷ []) e Copy eqw_read) in
        let d = one_driven ins s bits f r.ins r.ds r.ds_are m.0 in
        told (69 ∷ 81 ∷ 87 ∷ []) e (get_or bits d.x 0) (ap (λ (l : List ℕ). gate_bit (69 ∷ 81 ∷ 87 ∷ []) (map (λ (n : ℕ). get_or bits n 0) l)) d.x_is)
        (follow_alias ins s bits f r.out d.d (get_or bits d.x 0) room s' r.below (f.known d.x) d.drives (subst (λ (z : List BoolWire). store room (alias_gate (wire_number r.out) (get_or z 0 no_wire)) s ≡ Ok s') d.d_is m.1))

    -- the value of a cell on its drivers' bits
    one_entry : (t : ℕ) (d : OneDriven ins s bits r.ins r.ds) → entry_of (node_bits ins s.nodes) (cell_node (Number (wire_number r.out)) t r.ds) ≡ entry t (index_from 0 (get_or bits d.x 0 ∷ []))
    one_entry t d = rw d.d_is (entry_of_cell (node_bits ins s.nodes) (Number (wire_number r.out)) t (d.d ∷ []) (omega arith) ∙ rw d.drives.value)

    two_entry : (t : ℕ) (d : TwoDriven ins s bits r.ins r.ds)
        → entry_of (node_bits ins s.nodes) (cell_node (Number (wire_number r.out)) t r.ds) ≡ entry t (index_from 0 (get_or bits d.x 0 ∷ get_or bits d.y 0 ∷ []))
    two_entry t d = rw d.ds_are (entry_of_cell (node_bits ins s.nodes) (Number (wire_number r.out)) t (d.d ∷ d.e ∷ []) (omega arith) ∙ rw (d.drives.value, d.drives_too.value))

    is_a_cell : (t : ℕ) → is_cell_node (cell_node (Number (wire_number r.out)) t r.ds) ≡ true
    unfolding is_cell_node cell_node
    is_a_cell t = refl

    cell_follows : (t v : ℕ) → store room (cell_gate (wire_number r.out) t r.ds) s ≡ Ok s' → entry_of (node_bits ins s.nodes) (cell_node (Number (wire_number r.out)) t r.ds) ≡ v → Follows ins s' (set bits r.out v)
    cell_follows t v e q = follow_cell ins s bits f r.out (cell_node (Number (wire_number r.out)) t r.ds) v room s' r.below (is_a_cell t) q e

    follows_inv : name_word ws ≡ 73 ∷ 78 ∷ 86 ∷ [] → Follows ins s' (gate_step bits ws)
    unfolding same_bytes
    follows_inv e =
        let m = counted 1 Unknown _ (gates_are (73 ∷ 78 ∷ 86 ∷ []) e (One 1) inv_read) in
        let d = one_driven ins s bits f r.ins r.ds r.ds_are m.0 in
        told (73 ∷ 78 ∷ 86 ∷ []) e (1 - get_or bits d.x 0) (ap (λ (l : List ℕ). gate_bit (73 ∷ 78 ∷ 86 ∷ []) (map (λ (n : ℕ). get_or bits n 0) l)) d.x_is)
        (cell_follows 1 (1 - get_or bits d.x 0) m.1 (one_entry 1 d ∙ inv_bit (get_or bits d.x 0) (f.known d.x)))

    follows_xor : name_word ws ≡ 88 ∷ 79 ∷ 82 ∷ [] → Follows ins s' (gate_step bits ws)
    unfolding same_bytes
    follows_xor e =
        let m = counted 2 Unknown _ (gates_are (88 ∷ 79 ∷ 82 ∷ []) e (Two 6) xor_read) in
        let d = two_driven ins s bits f r.ins r.ds r.ds_are m.0 in
        told (88 ∷ 79 ∷ 82 ∷ []) e ((get_or bits d.x 0 + get_or bits d.y 0) % 2) (ap (λ (l : List ℕ). gate_bit (88 ∷ 79 ∷ 82 ∷ []) (map (λ (n : ℕ). get_or bits n 0) l)) d.xs_are)
        (cell_follows 6 ((get_or bits d.x 0 + get_or bits d.y 0) % 2) m.1 (two_entry 6 d ∙ xor_bit (get_or bits d.x 0) (get_or bits d.y 0) (f.known d.x) (f.known d.y)))

    follows_and : name_word ws ≡ 65 ∷ 78 ∷ 68 ∷ [] → Follows ins s' (gate_step bits ws)
    unfolding same_bytes
    follows_and e =
        let m = counted 2 Unknown _ (gates_are (65 ∷ 78 ∷ 68 ∷ []) e (Two 8) and_read) in
        let d = two_driven ins s bits f r.ins r.ds r.ds_are m.0 in
        told (65 ∷ 78 ∷ 68 ∷ []) e (get_or bits d.x 0 * get_or bits d.y 0) (ap (λ (l : List ℕ). gate_bit (65 ∷ 78 ∷ 68 ∷ []) (map (λ (n : ℕ). get_or bits n 0) l)) d.xs_are)
        (cell_follows 8 (get_or bits d.x 0 * get_or bits d.y 0) m.1 (two_entry 8 d ∙ and-bit (get_or bits d.x 0) (get_or bits d.y 0) (f.known d.x) (f.known d.y)))

pub step_follows : (ins : List ℕ) (s : State) (bits : List ℕ) → Follows ins s bits → (room : ℕ) (ws : List (List ℕ)) (gs : List Gate) (s' : State)
    → row s.wires ws ≡ Ok gs → store room gs s ≡ Ok s' → is_page_gate ws ≡ true → Follows ins s' (gate_step bits ws)
unfolding is_page_gate
step_follows ins s bits f room ws gs s' r h k =
    let a = accepted s.wires ws gs r in
    let n = name_word ws in
    ⊎_elim (λ e. follows_xor ins s bits f room ws gs s' a h (same_eq n _ e))
    (λ k. ⊎_elim (λ e. follows_and ins s bits f room ws gs s' a h (same_eq n _ e))
    (λ k. ⊎_elim (λ e. follows_inv ins s bits f room ws gs s' a h (same_eq n _ e)) (λ e. follows_eqw ins s bits f room ws gs s' a h (same_eq n _ e)) (or_cases (same_bytes n (73 ∷ 78 ∷ 86 ∷ [])) _ k))
    (or_cases (same_bytes n (65 ∷ 78 ∷ 68 ∷ [])) _ k))
    (or_cases (same_bytes n (88 ∷ 79 ∷ 82 ∷ [])) _ k)
