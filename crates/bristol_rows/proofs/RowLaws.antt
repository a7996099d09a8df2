-- Laws of a row's words after its input wires, and of its arities.
-- Assumes nothing.
use Rattle.std.specs.Prelude.{Err, Ok}
use Prim.Native.Nat.{ℕ, zero, suc, min, ◌+◌, ◌≤◌, ◌<◌}
use mathlib.Core.Path.{◌≡◌, refl, sym, ap, ap₂, ◌∙◌, subst}
use mathlib.Core.Bool.{Bool, true, false, cond}
use mathlib.Core.List.{List, [], ◌∷◌, map}
use mathlib.Core.Option.{Option, none, some}
use native.Mathlib.Omega.{arith}
use lib.Dec.{eqb, ltb}
use lib.ListN.{length, get_or, take, drop, length-drop}
use lib.Seq.{length-take-le, take-nil}
use Rattle.std.proofs.lemmas.List.{take_min}
use Rattle.laws.specs.Stretches.{All}
use borrow.Author.Tests.{eq-eqb, ne_eqb, le-leb, lt-leb, eqb-true, eqb-false, ltb-true, ltb-false}
use Rattle.circuit.specs.declared.refusals.Refusal.{Refusal}
use Rattle.circuit.specs.declared.refusals.Refusal.TheVariants.{NoDriver, WrongCount, Malformed, NotNumber, OutputOutside}
use Rattle.circuit.specs.declared.records.WireNumber.{WireNumber}
use Rattle.circuit.specs.declared.records.BoolWire.{BoolWire}
use Rattle.circuit.specs.declared.records.BoolNode.{BoolNode}
use Rattle.circuit.specs.declared.records.Name.TheVariants.{Number}
use Rattle.circuit.specs.Records.{HasWord, cell_node}
use Rattle.circuit.proofs.Words.{cell_fits}
use Rattle.circuit.specs.Refusals.{Try, and_then, need}
use Rattle.text.specs.Numbers.{parse_usize, parse_each, and_then as then}
use Rattle.bristol_rows.specs.declared.answers.Slots.{Slots}
use Rattle.bristol_rows.specs.declared.gates.Gate.{Gate}
use Rattle.bristol_rows.specs.declared.gates.Gates.{Gates}
use Rattle.bristol_rows.specs.declared.operation.Operation.{Operation}
use Rattle.bristol_rows.specs.declared.operation.Operation.TheVariants.{Copy, One, Two, Unlisted}
use Rattle.bristol_rows.specs.Numbers.{or_refuse, number, each_number}
use Rattle.bristol_rows.specs.Operation.{operation}
use Rattle.bristol_rows.specs.Slots.{wire_number, driver_of_slot}
use Rattle.bristol_rows.specs.Row.{drivers, gates_on, gates_of, row_output, row_wires, operation_row, row}
use Rattle.bristol_rows.specs.Promises.{no_slots, add_inputs, Gathered, drivers_of, CellIs, RowIs, gates_by, output_by, end_by, wires_by, invalid_arity, first_arity, wrong_outputs}
use Rattle.bristol_rows.proofs.InputLaws.{inputs_invalid, inputs-slots, inputs_valid, undriven_slots, drivers-length, Driven, driven_slots}

pub refused : (m : ℕ) (x : Try (List Gate)) (e : Refusal) → x ≡ Err e → RowIs m x (Err e)
refused m x e h = record { is = sym h; fits = tt }

-- ---- the slots gathered from the words are those of the definition

then_same : {A B : Type 0} (x : Try A) (f g : A → Try B) → ((a : A) → f a ≡ g a) → and_then x f ≡ and_then x g
then_same (Err e) f g h = refl
then_same (Ok a) f g h = h a

parsed_length : (ws : List (List ℕ)) (ns : List ℕ) → parse_each ws ≡ some ns → length ns ≡ length ws
unfolding parse_each
parsed_length [] ns h =
    let e : ns ≡ [] = cc in
    ap length e
parsed_length (w ∷ ws) ns h = go (parse_usize w) (parse_each ws) refl h (parsed_length ws)
  where
    go : (x : Option ℕ) (y : Option (List ℕ)) → parse_each ws ≡ y → then x (λ n. then y (λ ms. some (n ∷ ms))) ≡ some ns
        → ((ms : List ℕ) → parse_each ws ≡ some ms → length ms ≡ length ws) → length ns ≡ suc (length ws)
    go none y q h ih = cc
    go (some n) none q h ih = cc
    go (some n) (some ms) q h ih =
        let e : ns ≡ n ∷ ms = cc in
        ap length e ∙ ap suc (ih ms q)

-- a cell on what drives the first inputs
pub cell_made : (out : WireNumber) (t n : ℕ) (slots : Slots) (a b : BoolWire) → a ≡ driver_of_slot slots.first → b ≡ driver_of_slot slots.second → HasWord a → HasWord b
    → (r : BoolNode) → r ≡ cell_node (Number out) t (take (min n 2) (a ∷ b ∷ [])) → CellIs (cell_node (Number out) t (drivers_of n slots)) r
cell_made out t n slots a b p q f g r e =
    let ds : List BoolWire = driver_of_slot slots.first ∷ driver_of_slot slots.second ∷ [] in
    let made : r ≡ cell_node (Number out) t (drivers_of n slots) =
    e ∙ ap (cell_node (Number out) t) (ap₂ (λ (x y : BoolWire). take (min n 2) (x ∷ y ∷ [])) p q ∙ take_min n ds) in
    record { is = made; wires_fit = cell_fits r (Number out) t (drivers_of n slots) made (all_take n ds (rw (← p) f, (rw (← q) g, tt))) }
  where
    all_take : (n : ℕ) (l : List BoolWire) → All HasWord l → All HasWord (take n l)
    all_take n [] h = rw (take-nil {A = BoolWire} n) tt
    all_take zero (x ∷ l) h = tt
    all_take (suc n) (x ∷ l) h = (h.0, all_take n l h.1)

-- the slots hold the drivers of as many inputs as an operation may have
op_same : (wires : List ℕ) (op : Operation) (ds : List BoolWire) (n : ℕ) (slots : Slots) (out : WireNumber) → Driven wires slots ds → n ≡ length ds
    → gates_by op n slots out ≡ gates_on out ds op
op_same wires op ds n slots out d e = rw e (go op ds d)
  where
    go : (op : Operation) (ds : List BoolWire) → Driven wires slots ds → gates_by op (length ds) slots out ≡ gates_on out ds op
    go Copy ds d = rw d.first_is
    go (One t) [] d = refl
    go (One t) (x ∷ []) d = rw d.first_is
    go (One t) (x ∷ y ∷ zs) d = rw (ne_eqb (length (x ∷ y ∷ zs)) 1 (λ z. omega arith))
    go (Two t) [] d = refl
    go (Two t) (x ∷ []) d = refl
    go (Two t) (x ∷ y ∷ []) d = rw (d.first_is, d.second_is)
    go (Two t) (x ∷ y ∷ z ∷ zs) d = rw (ne_eqb (length (x ∷ y ∷ z ∷ zs)) 2 (λ z. omega arith))
    go Unlisted ds d = refl

same_test : (a b c d : ℕ) → (a ≡ b → c ≡ d) → (c ≡ d → a ≡ b) → eqb a b ≡ eqb c d
same_test a b c d f g = go (eqb a b) refl
  where
    go : (t : Bool) → eqb a b ≡ t → t ≡ eqb c d
    go true e = sym (eq-eqb c d (f (eqb-true a b e)))
    go false e = sym (ne_eqb c d (λ z. eqb-false a b e (g z)))

module _ (wires : List ℕ) (n : ℕ) (ws : List (List ℕ)) (slots : Slots) (e : slots ≡ add_inputs wires 0 no_slots (take n ws)) (h : n ≤ length ws) where
  output_is : (w : List ℕ) (op : Operation) → output_by w op n slots (length wires) ≡ and_then (each_number (take n ws)) (λ ins. row_output wires ins op w)
  unfolding output_by row_output gates_of each_number
  output_is w op = go (parse_each (take n ws)) refl
    where
      drive : (ins : List ℕ) → parse_each (take n ws) ≡ some ins → (out : ℕ) (x : Try (List BoolWire)) → drivers wires (map wire_number ins) ≡ x
          → cond slots.undriven (Err NoDriver) (gates_by op n slots (wire_number out)) ≡ and_then x (λ ds. gates_on (wire_number out) ds op)
      drive ins q out (Err f) d =
          let u = undriven_slots wires ins 0 no_slots f d in
          let v : slots.undriven ≡ true = ap (λ (z : Slots). z.undriven) (inputs-slots wires slots (take n ws) e ins q) ∙ u.0 in
          rw v (ap Err (sym u.1))
      drive ins q out (Ok ds) d =
          let g : Driven wires slots ds = subst (λ (z : Slots). Driven wires z ds) (sym (inputs-slots wires slots (take n ws) e ins q)) (driven_slots wires ins ds d) in
          let l : length ins ≡ n = parsed_length (take n ws) ins q ∙ length-take-le n ws h in
          let m : n ≡ length ds = sym l ∙ sym (drivers-length wires ins ds d) in
          ap (λ (t : Bool). cond t (Err NoDriver) (gates_by op n slots (wire_number out))) g.all ∙ op_same wires op ds n slots (wire_number out) g m

      go : (x : Option (List ℕ)) → parse_each (take n ws) ≡ x
          → cond slots.invalid (Err NotNumber) (and_then (number w) (λ out. need (ltb out (length wires)) OutputOutside
          (cond slots.undriven (Err NoDriver) (gates_by op n slots (wire_number out)))))
          ≡ and_then (or_refuse NotNumber x) (λ ins. and_then (number w) (λ out. need (ltb out (length wires)) OutputOutside
          (and_then (drivers wires (map wire_number ins)) (λ ds. gates_on (wire_number out) ds op))))
      go none q = rw (inputs_invalid wires slots (take n ws) e q)
      go (some ins) q =
          ap (λ (t : Bool). cond t (Err NotNumber) (and_then (number w) (λ out. need (ltb out (length wires)) OutputOutside
          (cond slots.undriven (Err NoDriver) (gates_by op n slots (wire_number out)))))) (inputs_valid wires slots (take n ws) e ins q)
          ∙ then_same (number w) _ _ (λ out. ap (need (ltb out (length wires)) OutputOutside) (drive ins q out (drivers wires (map wire_number ins)) refl))

  end_is : end_by (drop n ws) n slots (length wires) ≡ wires_by wires n ws
  unfolding end_by wires_by row_wires
  end_is =
      ap₂ (λ (t : Bool) (x : Try (List Gate)). need t Malformed x)
      (same_test (length (drop n ws)) 2 (length ws) (n + 2) (λ z. omega (arith, length-drop n ws)) (λ z. omega (arith, length-drop n ws)))
      (output_is (get_or (drop n ws) 0 []) (operation (get_or (drop n ws) 1 [])))

pub wires_missing : (wires : List ℕ) (n : ℕ) (ws : List (List ℕ)) (k : ℕ) → length ws < n → RowIs k (wires_by wires n ws) (Err Malformed)
unfolding wires_by
wires_missing wires n ws k h = record { is = rw (ne_eqb (length ws) (n + 2) (λ z. omega arith)); fits = tt }

pub wires_end : (wires : List ℕ) (n : ℕ) (ws us : List (List ℕ)) (slots : Slots) → Gathered n wires ws us slots → (r : Try Gates)
    → RowIs (length wires) (end_by us n slots (length wires)) r → RowIs (length wires) (wires_by wires n ws) r
wires_end wires n ws us slots g r i = record {
  is = i.is ∙ ap (λ (l : List (List ℕ)). end_by l n slots (length wires)) g.left ∙ end_is wires n ws slots g.slots_are g.enough;
  fits = i.fits;
}

-- ---- the arities

pub row-none : (wires : List ℕ) (m : ℕ) (ws : List (List ℕ)) → ws ≡ [] → RowIs m (row wires ws) (Err Malformed)
unfolding row
row-none wires m ws e = record { is = rw e; fits = tt }

pub row_one : (wires : List ℕ) (m : ℕ) (a : List ℕ) (ws : List (List ℕ)) → ws ≡ [] → RowIs m (row wires (a ∷ ws)) (Err Malformed)
unfolding row
row_one wires m a ws e = record { is = rw e; fits = tt }

pub row-first_invalid : (wires : List ℕ) (m : ℕ) (a : List ℕ) (us : List (List ℕ)) → parse_usize a ≡ none → RowIs m (row wires (a ∷ us)) (Err (invalid_arity 3 us))
unfolding row number
row-first_invalid wires m a us e = go (ltb (length us) 3) refl
  where
    go : (t : Bool) → ltb (length us) 3 ≡ t → RowIs m (row wires (a ∷ us)) (Err (cond t Malformed NotNumber))
    go true q =
        let l : suc (length us) < 4 = omega (arith, ltb-true (length us) 3 q) in
        record { is = rw (lt-leb 4 (suc (length us)) l); fits = tt }
    go false q =
        let l : 4 ≤ suc (length us) = omega (arith, ltb-false (length us) 3 q) in
        record { is = rw (le-leb 4 (suc (length us)) l, e); fits = tt }

module _ (wires : List ℕ) (m : ℕ) (a b : List ℕ) (us : List (List ℕ)) (i : ℕ) (p : parse_usize a ≡ some i) where
  pub row_second_invalid : parse_usize b ≡ none → RowIs m (row wires (a ∷ b ∷ us)) (Err (invalid_arity 2 us))
  unfolding row number
  row_second_invalid e = go (ltb (length us) 2) refl
    where
      go : (t : Bool) → ltb (length us) 2 ≡ t → RowIs m (row wires (a ∷ b ∷ us)) (Err (cond t Malformed NotNumber))
      go true q =
          let l : suc (suc (length us)) < 4 = omega (arith, ltb-true (length us) 2 q) in
          record { is = rw (lt-leb 4 (suc (suc (length us))) l); fits = tt }
      go false q =
          let l : 4 ≤ suc (suc (length us)) = omega (arith, ltb-false (length us) 2 q) in
          record { is = rw (le-leb 4 (suc (suc (length us))) l, p, e); fits = tt }

  module _ (o : ℕ) (q : parse_usize b ≡ some o) where
    few : length us < 2 → row wires (a ∷ b ∷ us) ≡ Err Malformed
    unfolding row
    few h =
        let l : suc (suc (length us)) < 4 = omega arith in
        rw (lt-leb 4 (suc (suc (length us))) l)

    opened : 2 ≤ length us → row wires (a ∷ b ∷ us) ≡ need (eqb (suc (suc (length us))) (2 + i + o + 1)) Malformed (operation_row wires i o (operation (get_or (drop i us) o [])) us)
    unfolding row number
    opened h =
        let l : 4 ≤ suc (suc (length us)) = omega arith in
        rw (le-leb 4 (suc (suc (length us))) l, p, q)

    wrong : 2 ≤ length us → (length us ≡ i + o + 1 → ⊥) → row wires (a ∷ b ∷ us) ≡ Err Malformed
    wrong h d =
        let n : suc (suc (length us)) ≡ 2 + i + o + 1 → ⊥ = λ z. d (omega arith) in
        opened h ∙ rw (ne_eqb (suc (suc (length us))) (2 + i + o + 1) n)

    right : 2 ≤ length us → length us ≡ i + o + 1 → row wires (a ∷ b ∷ us) ≡ operation_row wires i o (operation (get_or (drop i us) o [])) us
    right h d =
        let n : suc (suc (length us)) ≡ 2 + i + o + 1 = omega arith in
        opened h ∙ rw (eq-eqb (suc (suc (length us))) (2 + i + o + 1) n)

    pub row-outputs : (o ≡ 1 → ⊥) → RowIs m (row wires (a ∷ b ∷ us)) (Err (wrong_outputs i o us))
    unfolding operation_row
    row-outputs d = go (ltb (length us) 2) refl (eqb (length us) (i + o + 1)) refl
      where
        go : (t : Bool) → ltb (length us) 2 ≡ t → (u : Bool) → eqb (length us) (i + o + 1) ≡ u
            → RowIs m (row wires (a ∷ b ∷ us)) (Err (cond t Malformed (cond u WrongCount Malformed)))
        go true e u f = refused m _ Malformed (few (omega (arith, ltb-true (length us) 2 e)))
        go false e true f =
            refused m _ WrongCount (right (omega (arith, ltb-false (length us) 2 e)) (eqb-true (length us) (i + o + 1) f) ∙ rw (ne_eqb o 1 d))
        go false e false f = refused m _ Malformed (wrong (omega (arith, ltb-false (length us) 2 e)) (eqb-false (length us) (i + o + 1) f))

    one_output : o ≡ 1 → wires_by wires i us ≡ row wires (a ∷ b ∷ us)
    unfolding wires_by operation_row
    one_output d = go (ltb (length us) 2) refl (eqb (length us) (i + 2)) refl
      where
        go : (t : Bool) → ltb (length us) 2 ≡ t → (u : Bool) → eqb (length us) (i + 2) ≡ u → need u Malformed (row_wires wires i (operation (get_or (drop i us) 1 [])) us) ≡ row wires (a ∷ b ∷ us)
        go true e true f = absurd (omega (arith, ltb-true (length us) 2 e, eqb-true (length us) (i + 2) f))
        go true e false f = sym (few (omega (arith, ltb-true (length us) 2 e)))
        go false e true f =
            let z : length us ≡ i + o + 1 = omega (arith, eqb-true (length us) (i + 2) f) in
            sym (right (omega (arith, ltb-false (length us) 2 e)) z ∙ rw d)
        go false e false f = sym (wrong (omega (arith, ltb-false (length us) 2 e)) (λ z. eqb-false (length us) (i + 2) f (omega arith)))

    pub row-wires : o ≡ 1 → (r : Try Gates) → RowIs m (wires_by wires i us) r → RowIs m (row wires (a ∷ b ∷ us)) r
    row-wires d r x = record { is = x.is ∙ one_output d; fits = x.fits }

-- ---- the arities as the code reads them

-- the first of the words ws is an arity n, and us are left
pub record Arity (ws us : List (List ℕ)) (n : ℕ) : Type 0 where
  pub word : List ℕ
  pub is : ws ≡ word ∷ us
  pub reads : parse_usize word ≡ some n

pub arity_read : (least : ℕ) (ws us : List (List ℕ)) (n : ℕ) → Ok n ≡ first_arity least ws → us ≡ drop 1 ws → Arity ws us n
arity_read least [] us n e q = cc
arity_read least (w ∷ vs) us n e q = record { word = w; is = rw q; reads = go (parse_usize w) e }
  where
    go : (x : Option ℕ) → Ok n ≡ or_refuse (invalid_arity least vs) x → x ≡ some n
    go none e = cc
    go (some m) e =
        let q : m ≡ n = cc in
        ap some q

pub first_refused : (wires : List ℕ) (m : ℕ) (ws : List (List ℕ)) (e : Refusal) → Err e ≡ first_arity 3 ws → RowIs m (row wires ws) (Err e)
first_refused wires m [] e h =
    let q : e ≡ Malformed = cc in
    rw q (row-none wires m [] refl)
first_refused wires m (w ∷ us) e h = go (parse_usize w) refl h
  where
    go : (x : Option ℕ) → parse_usize w ≡ x → Err e ≡ or_refuse (invalid_arity 3 us) x → RowIs m (row wires (w ∷ us)) (Err e)
    go none p h =
        let q : e ≡ invalid_arity 3 us = cc in
        rw q (row-first_invalid wires m w us p)
    go (some n) p h = cc

module _ (wires : List ℕ) (m : ℕ) (ws us : List (List ℕ)) (i : ℕ) (a : Arity ws us i) where
  pub second_refused : (e : Refusal) → Err e ≡ first_arity 2 us → RowIs m (row wires ws) (Err e)
  second_refused e h = rw a.is (by us h)
    where
      by : (vs : List (List ℕ)) → Err e ≡ first_arity 2 vs → RowIs m (row wires (a.word ∷ vs)) (Err e)
      by [] h =
          let q : e ≡ Malformed = cc in
          rw q (row_one wires m a.word [] refl)
      by (w ∷ vs) h = go (parse_usize w) refl h
        where
          go : (x : Option ℕ) → parse_usize w ≡ x → Err e ≡ or_refuse (invalid_arity 2 vs) x → RowIs m (row wires (a.word ∷ w ∷ vs)) (Err e)
          go none p h =
              let q : e ≡ invalid_arity 2 vs = cc in
              rw q (row_second_invalid wires m a.word w vs i a.reads p)
          go (some n) p h = cc

  module _ (vs : List (List ℕ)) (o : ℕ) (b : Arity us vs o) where
    both : ws ≡ a.word ∷ b.word ∷ vs
    both = a.is ∙ ap (λ (l : List (List ℕ)). a.word ∷ l) b.is

    pub outputs_refused : (o ≡ 1 → ⊥) → RowIs m (row wires ws) (Err (wrong_outputs i o vs))
    outputs_refused d = rw both (row-outputs wires m a.word b.word vs i a.reads o b.reads d)

    pub wires_read : o ≡ 1 → (r : Try Gates) → RowIs m (wires_by wires i vs) r → RowIs m (row wires ws) r
    wires_read d r x = rw both (row-wires wires m a.word b.word vs i a.reads o b.reads d r x)
