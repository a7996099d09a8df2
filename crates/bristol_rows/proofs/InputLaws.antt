-- Laws of a row's input wires, gathered word by word.
-- Assumes nothing.
use Rattle.std.specs.Prelude.{Err, Ok}
use Prim.Native.Nat.{ℕ, suc, ◌+◌, ◌-◌, ◌≤◌, ◌<◌}
use mathlib.Core.Path.{◌≡◌, refl, sym, ap, ◌∙◌}
use mathlib.Core.Bool.{Bool, true, false, cond}
use mathlib.Core.List.{List, [], ◌∷◌, map}
use mathlib.Core.Option.{Option, none, some}
use native.Mathlib.Numerals.{add-one}
use native.Mathlib.Omega.{arith}
use lib.Dec.{eqb, ltb}
use lib.ListN.{length, get_or, take, drop, length-drop}
use lib.Seq.{drop-drop}
use borrow.Author.Tests.{eq-eqb, ne_eqb, ltb-true, ltb-false}
use Rattle.circuit.specs.declared.refusals.Refusal.{Refusal}
use Rattle.circuit.specs.declared.refusals.Refusal.TheVariants.{NoDriver}
use Rattle.circuit.specs.declared.records.BoolWire.{BoolWire}
use Rattle.circuit.specs.Refusals.{Try, and_then, need}
use Rattle.circuit.specs.Records.{wire_of, no_wire}
use Rattle.text.specs.Numbers.{parse_usize, parse_each, and_then as then}
use Rattle.bristol_rows.specs.declared.answers.Slots.{Slots}
use Rattle.bristol_rows.specs.Slots.{wire_number}
use Rattle.bristol_rows.specs.Row.{drivers}
use Rattle.bristol_rows.specs.Promises.{no_slots, add_slot, add_input, add_inputs, Gathered}

-- ---- one slot

abbrev slots_by : Bool → Bool → Bool → Slots → ℕ → Slots
slots_by a b c s v =
    cond a (record { first = s.first; second = s.second; undriven = true; invalid = s.invalid })
    (cond b (record { first = v; second = s.second; undriven = s.undriven; invalid = s.invalid })
    (cond c (record { first = s.first; second = v; undriven = s.undriven; invalid = s.invalid })
    s))

slot_by : (s : Slots) (i v : ℕ) → add_slot s i v ≡ slots_by (eqb v 0) (eqb i 0) (eqb i 1) s v
unfolding add_slot
slot_by s i v = refl

by_undriven : (a b c : Bool) (s : Slots) (v : ℕ) → s.undriven ≡ true → (slots_by a b c s v).undriven ≡ true
by_undriven true b c s v u = refl
by_undriven false true c s v u = u
by_undriven false false true s v u = u
by_undriven false false false s v u = u

by_invalid : (a b c : Bool) (s : Slots) (v : ℕ) → (slots_by a b c s v).invalid ≡ s.invalid
by_invalid true b c s v = refl
by_invalid false true c s v = refl
by_invalid false false true s v = refl
by_invalid false false false s v = refl

slot_undriven : (s : Slots) (i v : ℕ) → s.undriven ≡ true → (add_slot s i v).undriven ≡ true
slot_undriven s i v u = ap (λ (z : Slots). z.undriven) (slot_by s i v) ∙ by_undriven (eqb v 0) (eqb i 0) (eqb i 1) s v u

slot_invalid : (s : Slots) (i v : ℕ) → (add_slot s i v).invalid ≡ s.invalid
slot_invalid s i v = ap (λ (z : Slots). z.invalid) (slot_by s i v) ∙ by_invalid (eqb v 0) (eqb i 0) (eqb i 1) s v

none_slot : (s : Slots) (i v : ℕ) → v ≡ 0 → (add_slot s i v).undriven ≡ true
unfolding add_slot
none_slot s i v e = rw (eq-eqb v 0 e)

-- ---- by the numbers of the words

module _ (wires : List ℕ) where
  unfoldable pub add_slots : ℕ → Slots → List ℕ → Slots
  add_slots i s [] = s
  add_slots i s (n ∷ ns) = add_slots (suc i) (add_slot s i (get_or wires n 0)) ns

  slots_invalid : (ns : List ℕ) (i : ℕ) (s : Slots) → (add_slots i s ns).invalid ≡ s.invalid
  unfolding add_slots
  slots_invalid [] i s = refl
  slots_invalid (n ∷ ns) i s = slots_invalid ns (suc i) (add_slot s i (get_or wires n 0)) ∙ slot_invalid s i (get_or wires n 0)

  words-slots : (ws : List (List ℕ)) (i : ℕ) (s : Slots) (ns : List ℕ) → parse_each ws ≡ some ns → add_inputs wires i s ws ≡ add_slots i s ns
  unfolding add_inputs add_slots parse_each
  words-slots [] i s ns h =
      let e : ns ≡ [] = cc in
      rw e
  words-slots (w ∷ ws) i s ns h = go (parse_usize w) (parse_each ws) refl h (words-slots ws (suc i))
    where
      go : (x : Option ℕ) (y : Option (List ℕ)) → parse_each ws ≡ y → then x (λ n. then y (λ ms. some (n ∷ ms))) ≡ some ns
          → ((z : Slots) (ms : List ℕ) → parse_each ws ≡ some ms → add_inputs wires (suc i) z ws ≡ add_slots (suc i) z ms)
          → add_inputs wires (suc i) (add_input wires s i x) ws ≡ add_slots i s ns
      go none y q h ih = cc
      go (some n) none q h ih = cc
      go (some n) (some ms) q h ih =
          let e : ns ≡ n ∷ ms = cc in
          rw e (ih (add_slot s i (get_or wires n 0)) ms q)

  stays_invalid : (ws : List (List ℕ)) (i : ℕ) (s : Slots) → s.invalid ≡ true → (add_inputs wires i s ws).invalid ≡ true
  unfolding add_inputs
  stays_invalid [] i s e = e
  stays_invalid (w ∷ ws) i s e = stays_invalid ws (suc i) (add_input wires s i (parse_usize w)) (by (parse_usize w))
    where
      by : (x : Option ℕ) → (add_input wires s i x).invalid ≡ true
      by none = refl
      by (some v) = slot_invalid s i (get_or wires v 0) ∙ e

  words_invalid : (ws : List (List ℕ)) (i : ℕ) (s : Slots) → parse_each ws ≡ none → (add_inputs wires i s ws).invalid ≡ true
  unfolding add_inputs parse_each
  words_invalid [] i s h = cc
  words_invalid (w ∷ ws) i s h = go (parse_usize w) (parse_each ws) refl h (words_invalid ws (suc i))
    where
      go : (x : Option ℕ) (y : Option (List ℕ)) → parse_each ws ≡ y → then x (λ n. then y (λ ms. some (n ∷ ms))) ≡ none
          → ((z : Slots) → parse_each ws ≡ none → (add_inputs wires (suc i) z ws).invalid ≡ true)
          → (add_inputs wires (suc i) (add_input wires s i x) ws).invalid ≡ true
      go none y q h ih = stays_invalid ws (suc i) (add_input wires s i none) refl
      go (some n) none q h ih = ih (add_input wires s i (some n)) q
      go (some n) (some ms) q h ih = cc

  -- the slots by the words: the invalid flag, and else the slots of their numbers
  module _ (slots : Slots) (ws : List (List ℕ)) (e : slots ≡ add_inputs wires 0 no_slots ws) where
    pub inputs_invalid : parse_each ws ≡ none → slots.invalid ≡ true
    inputs_invalid h = ap (λ (z : Slots). z.invalid) e ∙ words_invalid ws 0 no_slots h

    pub inputs-slots : (ns : List ℕ) → parse_each ws ≡ some ns → slots ≡ add_slots 0 no_slots ns
    inputs-slots ns h = e ∙ words-slots ws 0 no_slots ns h

    pub inputs_valid : (ns : List ℕ) → parse_each ws ≡ some ns → slots.invalid ≡ false
    inputs_valid ns h = ap (λ (z : Slots). z.invalid) (inputs-slots ns h) ∙ slots_invalid ns 0 no_slots

  -- ---- the drivers of the numbers

  stays_undriven : (ns : List ℕ) (i : ℕ) (s : Slots) → s.undriven ≡ true → (add_slots i s ns).undriven ≡ true
  unfolding add_slots
  stays_undriven [] i s u = u
  stays_undriven (n ∷ ns) i s u = stays_undriven ns (suc i) (add_slot s i (get_or wires n 0)) (slot_undriven s i (get_or wires n 0) u)

  -- a wire that is not driven
  pub undriven_slots : (ns : List ℕ) (i : ℕ) (s : Slots) (e : Refusal) → drivers wires (map wire_number ns) ≡ Err e → ((add_slots i s ns).undriven ≡ true) × (e ≡ NoDriver)
  unfolding drivers add_slots
  undriven_slots [] i s e h = cc
  undriven_slots (n ∷ ns) i s e h = go (ltb 0 (get_or wires n 0)) refl (drivers wires (map wire_number ns)) h (undriven_slots ns (suc i) (add_slot s i (get_or wires n 0)))
    where
      go : (t : Bool) → ltb 0 (get_or wires n 0) ≡ t → (x : Try (List BoolWire)) → need t NoDriver (and_then x (λ ds. Ok (wire_of (get_or wires n 0 - 1) ∷ ds))) ≡ Err e
          → ((f : Refusal) → x ≡ Err f → ((add_slots (suc i) (add_slot s i (get_or wires n 0)) ns).undriven ≡ true) × (f ≡ NoDriver))
          → ((add_slots (suc i) (add_slot s i (get_or wires n 0)) ns).undriven ≡ true) × (e ≡ NoDriver)
      go false q x h ih =
          let z : get_or wires n 0 ≡ 0 = omega (arith, ltb-false 0 (get_or wires n 0) q) in
          (stays_undriven ns (suc i) (add_slot s i (get_or wires n 0)) (none_slot s i (get_or wires n 0) z), cc)
      go true q (Err f) h ih =
          let p : f ≡ e = cc in
          ((ih f refl).0, sym p ∙ (ih f refl).1)
      go true q (Ok ds) h ih = cc

  -- a driven input in front of others
  pub record Front (n : ℕ) (ns : List ℕ) (ds : List BoolWire) : Type 0 where
    pub tail : List BoolWire
    pub is : drivers wires (map wire_number ns) ≡ Ok tail
    pub some : get_or wires n 0 ≡ 0 → ⊥
    pub all : ds ≡ wire_of (get_or wires n 0 - 1) ∷ tail

  pub front : (n : ℕ) (ns : List ℕ) (ds : List BoolWire) → drivers wires (map wire_number (n ∷ ns)) ≡ Ok ds → Front n ns ds
  unfolding drivers
  front n ns ds h = go (ltb 0 (get_or wires n 0)) refl (drivers wires (map wire_number ns)) refl h
    where
      go : (t : Bool) → ltb 0 (get_or wires n 0) ≡ t → (x : Try (List BoolWire)) → drivers wires (map wire_number ns) ≡ x
          → need t NoDriver (and_then x (λ es. Ok (wire_of (get_or wires n 0 - 1) ∷ es))) ≡ Ok ds → Front n ns ds
      go false q x d h = cc
      go true q (Err f) d h = cc
      go true q (Ok es) d h = record { tail = es; is = d; some = λ z. omega (arith, ltb-true 0 (get_or wires n 0) q); all = cc }

  pub drivers-nil : (ds : List BoolWire) → drivers wires (map wire_number []) ≡ Ok ds → ds ≡ []
  unfolding drivers
  drivers-nil ds h = cc

  later-slots : (ns : List ℕ) (ds : List BoolWire) (i : ℕ) (s : Slots) → 2 ≤ i → drivers wires (map wire_number ns) ≡ Ok ds → add_slots i s ns ≡ s
  unfolding add_slots
  later-slots [] ds i s l h = refl
  later-slots (n ∷ ns) ds i s l h =
      let f = front n ns ds h in
      let z : i ≡ 0 → ⊥ = λ e. omega arith in
      let o : i ≡ 1 → ⊥ = λ e. omega arith in
      let same : add_slot s i (get_or wires n 0) ≡ s = slot_by s i (get_or wires n 0) ∙ rw (ne_eqb (get_or wires n 0) 0 f.some, ne_eqb i 0 z, ne_eqb i 1 o) in
      later-slots ns f.tail (suc i) (add_slot s i (get_or wires n 0)) (omega arith) f.is ∙ same

  pub drivers-length : (ns : List ℕ) (ds : List BoolWire) → drivers wires (map wire_number ns) ≡ Ok ds → length ds ≡ length ns
  drivers-length [] ds h = ap length (drivers-nil ds h)
  drivers-length (n ∷ ns) ds h =
      let f = front n ns ds h in
      ap length f.all ∙ ap suc (drivers-length ns f.tail f.is)

  -- the slots hold the first two drivers
  pub record Driven (s : Slots) (ds : List BoolWire) : Type 0 where
    pub first_is : wire_of (s.first - 1) ≡ get_or ds 0 no_wire
    pub second_is : wire_of (s.second - 1) ≡ get_or ds 1 no_wire
    pub all : s.undriven ≡ false

  pub driven_slots : (ns : List ℕ) (ds : List BoolWire) → drivers wires (map wire_number ns) ≡ Ok ds → Driven (add_slots 0 no_slots ns) ds
  unfolding add_slots
  driven_slots [] ds h = rw (drivers-nil ds h) (record { first_is = refl; second_is = refl; all = refl })
  driven_slots (a ∷ []) ds h =
      let f = front a [] ds h in
      let e : add_slot no_slots 0 (get_or wires a 0) ≡ record { first = get_or wires a 0; second = 0; undriven = false; invalid = false } = slot_by no_slots 0 (get_or wires a 0) ∙ rw (ne_eqb (get_or wires a 0) 0 f.some) in
      rw (f.all, drivers-nil f.tail f.is, e) (record { first_is = refl; second_is = refl; all = refl })
  driven_slots (a ∷ b ∷ ns) ds h =
      let f = front a (b ∷ ns) ds h in
      let g = front b ns f.tail f.is in
      let one : Slots = record { first = get_or wires a 0; second = 0; undriven = false; invalid = false } in
      let e : add_slot no_slots 0 (get_or wires a 0) ≡ one = slot_by no_slots 0 (get_or wires a 0) ∙ rw (ne_eqb (get_or wires a 0) 0 f.some) in
      let two : add_slot one 1 (get_or wires b 0) ≡ record { first = get_or wires a 0; second = get_or wires b 0; undriven = false; invalid = false } = slot_by one 1 (get_or wires b 0) ∙ rw (ne_eqb (get_or wires b 0) 0 g.some) in
      rw (later-slots ns g.tail 2 (add_slot (add_slot no_slots 0 (get_or wires a 0)) 1 (get_or wires b 0)) (omega arith) g.is, e, two, f.all, g.all)
      (record { first_is = refl; second_is = refl; all = refl })

-- ---- the loop over the words

-- of n words i have been read, and us are left
pub record Got (n : ℕ) (wires : List ℕ) (ws : List (List ℕ)) (i : ℕ) (us : List (List ℕ)) (slots : Slots) : Type 0 where
  pub same : add_inputs wires i slots (take (n - i) us) ≡ add_inputs wires 0 no_slots (take n ws)
  pub left : us ≡ drop i ws
  pub enough : i ≤ length ws

module _ (n : ℕ) (wires : List ℕ) (ws : List (List ℕ)) (i : ℕ) (us : List (List ℕ)) (slots : Slots) (g : Got n wires ws i us slots) where
  one : i < n → (w : List ℕ) (vs : List (List ℕ)) → us ≡ w ∷ vs → (s : Slots) → s ≡ add_input wires slots i (parse_usize w)
      → add_inputs wires (i + 1) s (take (n - (i + 1)) vs) ≡ add_inputs wires i slots (take (n - i) us)
  unfolding add_inputs
  one h w vs e s p =
      let q : n - i ≡ suc (n - (i + 1)) = omega arith in
      rw (p, q, e, add-one i)

  pub got_more : i < n → (w : List ℕ) (vs : List (List ℕ)) → us ≡ w ∷ vs → (x : Option ℕ) → x ≡ parse_usize w → (s : Slots) → s ≡ add_input wires slots i x → Got n wires ws (i + 1) vs s
  got_more h w vs e x r s p =
      record {
        same = one h w vs e s (p ∙ ap (add_input wires slots i) r) ∙ g.same;
        left = ap (drop 1) (sym e ∙ g.left) ∙ drop-drop 1 i ws;
        enough = omega (arith, ap length (sym g.left ∙ e), length-drop i ws);
      }

  pub got_end : n ≤ i → i ≤ n → Gathered n wires ws us slots
  unfolding add_inputs
  got_end h k =
      let z : n - i ≡ 0 = omega arith in
      let e : i ≡ n = omega arith in
      record {
        slots_are = sym (rw z) ∙ g.same;
        left = g.left ∙ ap (λ (j : ℕ). drop j ws) e;
        enough = omega (arith, g.enough);
      }
