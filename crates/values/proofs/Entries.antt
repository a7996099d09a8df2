-- A cell's entry: each wire is checked and read, and the index goes on by its value.
-- Assumes nothing.
use Rattle.std.specs.Prelude.{Err, Ok}
use Rattle.std.proofs.Common.{ℕ, ◌+◌, ◌*◌, ◌<◌, ◌≤◌, ◌≡◌, Bool, true, false, List, [], ◌∷◌, map, length, drop, get_or, refl, sym, ap, ◌∙◌, arith}
use Rattle.std.proofs.lemmas.List.{length-map}
use Rattle.std.proofs.Math.ListN.{get_or-map}
use Rattle.circuit.specs.declared.records.BoolWire.{BoolWire}
use Rattle.circuit.specs.declared.records.BoolNode.{BoolNode}
use Rattle.circuit.specs.declared.records.TheConstants.{WIRES}
use Rattle.circuit.specs.declared.refusals.Refusal.{Refusal}
use Rattle.circuit.specs.declared.refusals.Refusal.TheVariants.{Broken, NotEarlier}
use Rattle.circuit.specs.Refusals.{Try, Checked, first_fault, check_then}
use Rattle.circuit.specs.Records.{no_wire, wires_of}
use Rattle.circuit.specs.Check.{not_below, check_wires}
use Rattle.circuit.proofs.Checks.{wires_passed}
use Rattle.circuit.proofs.Places.{few_wires}
use Rattle.std.proofs.Math.Seq.{drop-cons}
use Rattle.std.proofs.Common.{add-one}
use Rattle.cells.specs.Cells.{entry}
use Rattle.cells.proofs.Index.{Indexed, indexed_start, indexed_next, indexed_all, small_power}
use Rattle.values.specs.Values.{signal_value, entry_of}
use Rattle.values.specs.Inner.{TwoValued}
use Rattle.values.proofs.SoundCells.{wires_known}

-- the wires of a node: the first alone, then the others
wires_then : (m i : ℕ) (w : BoolWire) (ws : List BoolWire) → check_wires m i (w ∷ ws) ≡ first_fault (check_wires m i (w ∷ [])) (check_wires m i ws)
unfolding check_wires
wires_then m i w ws = go (not_below m w) refl (not_below i w) refl
  where
    go : (a : Bool) → not_below m w ≡ a → (b : Bool) → not_below i w ≡ b → check_wires m i (w ∷ ws) ≡ first_fault (check_wires m i (w ∷ [])) (check_wires m i ws)
    go true p b q = rw p
    go false p true q = rw (p, q)
    go false p false q = rw (p, q)

pub wire_earlier : (m i : ℕ) (w : BoolWire) → check_wires m i (w ∷ []) ≡ Ok tt → not_below i w ≡ false
unfolding check_wires
wire_earlier m i w e = go (not_below m w) refl (not_below i w) refl
  where
    refused : (r : Refusal) → ◌≡◌ {A = Checked} (Err r) (Ok tt) → ⊥
    refused r q = let z : ◌≡◌ {A = ℕ} 0 1 = cc in omega arith

    go : (a : Bool) → not_below m w ≡ a → (b : Bool) → not_below i w ≡ b → not_below i w ≡ false
    go true p b q = absurd (refused Broken (rw p at e))
    go false p true q = absurd (refused NotEarlier (rw (p, q) at e))
    go false p false q = q

module _ (m i : ℕ) (n : BoolNode) (before : List ℕ) where
  abbrev pub read : List ℕ
  read = map (signal_value before) (wires_of n)

  -- what the entry answers
  abbrev answer : Try ℕ
  answer = check_then (check_wires m i (wires_of n)) (Ok (entry_of before n))

  -- k wires are earlier and read: the index that they pick
  pub record ReadTo (k index : ℕ) : Type 0 where
    pub checked : check_wires m i (wires_of n) ≡ check_wires m i (drop k (wires_of n))
    pub indexed : Indexed read k index
    pub few : k ≤ WIRES

  pub read_start : TwoValued before → ReadTo 0 0
  read_start h = record { checked = refl; indexed = indexed_start read (wires_known before h (wires_of n)); few = omega arith }

  module _ (k index : ℕ) (s : ReadTo k index) where
    module _ (h : k < length (wires_of n)) (w : BoolWire) (e : w ≡ get_or (wires_of n) k no_wire) where
      next : check_wires m i (drop k (wires_of n)) ≡ first_fault (check_wires m i (w ∷ [])) (check_wires m i (drop (k + 1) (wires_of n)))
      next = rw (drop-cons (wires_of n) k no_wire h, e, add-one k) (wires_then m i (get_or (wires_of n) k no_wire) _)

      pub read_fault : (r : Refusal) → check_wires m i (w ∷ []) ≡ Err r → ◌≡◌ {A = Try ℕ} (Err r) answer
      read_fault r q = rw (s.checked ∙ next, q)

      pub read_next : check_wires m i (w ∷ []) ≡ Ok tt → (v : ℕ) → v ≡ signal_value before w → ReadTo (k + 1) (2 * index + v)
      read_next q v f =
          record {
            checked = s.checked ∙ next ∙ ap (λ (c : Checked). first_fault c (check_wires m i (drop (k + 1) (wires_of n)))) q;
            indexed =
                indexed_next read k index (omega (arith, length-map (wires_of n) (signal_value before))) s.indexed v
                (f ∙ ap (signal_value before) e ∙ sym (get_or-map (signal_value before) (wires_of n) k no_wire));
            few = omega (arith, few_wires n);
          }

    module _ (h : length (wires_of n) ≤ k) (g : k ≤ length (wires_of n)) where
      last : (index < 64) × (entry n.table index ≡ entry_of before n)
      unfolding entry_of
      last =
          let size = length-map (wires_of n) (signal_value before) in
          let all = indexed_all read k index (omega (arith, size)) (omega (arith, size)) s.indexed in
          (omega (arith, all.1, small_power (length read) (omega (arith, size, few_wires n))), ap (entry n.table) all.0)

      pub read_small : index < 64
      read_small = last.0

      pub read_all : (r : ℕ) → r ≡ entry n.table index → ◌≡◌ {A = Try ℕ} (Ok r) answer
      read_all r q = rw (s.checked ∙ wires_passed m i (wires_of n) k h, q ∙ last.1)
