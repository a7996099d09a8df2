-- Laws of gates: the wires of their inputs, and their plan, are the definition's.
-- Assumes nothing.
use Rattle.std.specs.Prelude.{Err, None, Ok, Option, Some}
use Rattle.std.specs.Option.{ok_or}
use Prim.Native.Nat.{ℕ, suc, ◌+◌, ◌≤◌, ◌<◌}
use mathlib.Core.Path.{◌≡◌, refl, sym, ap, ap₂, ◌∙◌}
use mathlib.Core.Bool.{Bool, true, false}
use mathlib.Core.List.{List, [], ◌∷◌, ◌++◌, append_assoc, append-nil}
use native.Mathlib.Numerals.{add-one}
use native.Mathlib.Omega.{arith}
use lib.ListN.{length, length-set, get_or, set, take, drop, drop_of_length-le}
use lib.Dec.{leb}
use lib.Seq.{drop-cons, take-suc-set, length-take-le}
use Rattle.circuit.specs.declared.refusals.Refusal.{Refusal}
use Rattle.circuit.specs.declared.refusals.Refusal.TheVariants.{DefinedBefore, WrongCount, BadRow, Malformed}
use Rattle.circuit.specs.declared.records.TheConstants.{WIRES}
use Rattle.circuit.specs.Refusals.{Try, and_then}
use Rattle.text.specs.Words.{bytes_of}
use Rattle.text.specs.declared.words.Word.{Word}
use Rattle.names.specs.Names.{Entry, lookup}
use Rattle.cover.specs.declared.gate.Gate.{Gate}
use Rattle.cover.specs.Gates.{GateWords, words_seen, first_of, few_enough, gate_of, seen_of}
use Rattle.cover.specs.Cover.{last_of, input_names, cover}
use Rattle.reading.specs.Reading.{find}
use Rattle.blif.specs.Blif.{drivers, covered, plan}
use Rattle.blif.specs.Holding.{driver_of}

-- ---- the wires of input words, one after the other

-- of the words all so many have their wires in front of the places
pub record Driving (t : List ℕ) (es : List Entry) (all : List Word) (done : ℕ) (wires : List ℕ) : Type 0 where
  pub whole : drivers t es all ≡ and_then (drivers t es (drop done all)) (λ ys. Ok (take done wires ++ ys))
  pub room : length wires ≡ WIRES

same_again : (x : Try (List ℕ)) → x ≡ and_then x (λ ys. Ok ([] ++ ys))
same_again (Err e) = refl
same_again (Ok ys) = refl

one_more : (x : Try (List ℕ)) (front : List ℕ) (y : ℕ) → and_then (and_then x (λ ys. Ok (y ∷ ys))) (λ ys. Ok (front ++ ys)) ≡ and_then x (λ ys. Ok ((front ++ (y ∷ [])) ++ ys))
one_more (Err e) front y = refl
one_more (Ok ys) front y = ap Ok (sym (append_assoc front (y ∷ []) ys))

module _ (t : List ℕ) (es : List Entry) (all : List Word) where
  pub driving_start : (wires : List ℕ) → length wires ≡ WIRES → Driving t es all 0 wires
  driving_start wires l = record { whole = same_again (drivers t es all); room = l }

  module _ (done : ℕ) (wires : List ℕ) (g : Driving t es all done wires) where
    module _ (none : Word) (h : done < length all) where
      next : drop done all ≡ get_or all done none ∷ drop (suc done) all
      next = drop-cons all done none h

      pub driving_stop : (f : Refusal) → Err f ≡ driver_of t es (get_or all done none) → Err f ≡ drivers t es all
      unfolding drivers
      driving_stop f d = sym (g.whole ∙ rw (next, ← d))

      pub driving_on : (x : ℕ) → Ok x ≡ driver_of t es (get_or all done none) → done < WIRES → Driving t es all (done + 1) (set wires done x)
      unfolding drivers
      driving_on x d l =
          let front : take (done + 1) (set wires done x) ≡ take done wires ++ (x ∷ []) =
          ap (λ (k : ℕ). take k (set wires done x)) (add-one done) ∙ take-suc-set wires done x (omega (arith, g.room)) in
          let rest : Try (List ℕ) = drivers t es (drop (suc done) all) in
          let here : drivers t es (drop done all) ≡ and_then rest (λ ys. Ok (x ∷ ys)) = rw (next, ← d) in
          record {
            whole = g.whole ∙ ap (λ (r : Try (List ℕ)). and_then r (λ ys. Ok (take done wires ++ ys))) here ∙ one_more rest (take done wires) x
                ∙ ap₂ (λ (k : ℕ) (f : List ℕ). and_then (drivers t es (drop k all)) (λ ys. Ok (f ++ ys))) (sym (add-one done)) (sym front);
            room = length-set wires done x ∙ g.room;
          }

    pub driving_end : length all ≤ done → done ≤ length all → Ok (take (length all) wires) ≡ drivers t es all
    unfolding drivers
    driving_end h k =
        let e : done ≡ length all = omega arith in
        sym (g.whole ∙ rw (drop_of_length-le all h, e) (ap Ok (append-nil (take (length all) wires))))

-- ---- the ways of `plan_gate`

-- a gate has the words of a line
record HasWords (ws : List Word) (g : Gate) : Type 0 where
  first : Word
  rest : List Word
  are : ws ≡ first ∷ rest
  seen : words_seen g ≡ record { out = last_of first rest; inputs = few_enough (input_names first rest) }

has_words : (ws : List Word) (g : Gate) → Some (words_seen g) ≡ gate_of ws → HasWords ws g
has_words [] g e = cc
has_words (w ∷ ws) g e = record { first = w; rest = ws; are = refl; seen = cc }

find_plain : (t : List ℕ) (w : Word) (es : List Entry) → lookup t (bytes_of t w) es ≡ find false t w es
unfolding find
find_plain t w es = refl

pub plan_none : (t : List ℕ) (ws : List Word) (rows : List (List Word)) (es : List Entry) (r : Option Gate) → r ≡ None → seen_of r ≡ gate_of ws → Err Malformed ≡ plan t ws rows es
unfolding plan
plan_none t [] rows es r z e = refl
plan_none t (w ∷ ws) rows es r z e = let n : seen_of None ≡ gate_of (w ∷ ws) = rw z at e in cc

-- the inputs are few enough just where they are all kept
record Few (names kept : List Word) : Type 0 where
  test : leb (length names) WIRES ≡ true
  all : names ≡ kept

kept_few : (names kept : List Word) → few_enough names ≡ Some kept → Few names kept
kept_few names kept e = go (leb (length names) WIRES) refl
  where
    go : (b : Bool) → leb (length names) WIRES ≡ b → Few names kept
    go true q = let all : Some names ≡ Some kept = rw q at e in record { test = q; all = cc }
    go false q = let none : None ≡ Some kept = rw q at e in cc

none_many : (names : List Word) → few_enough names ≡ None → leb (length names) WIRES ≡ false
none_many names e = go (leb (length names) WIRES) refl
  where
    go : (b : Bool) → leb (length names) WIRES ≡ b → leb (length names) WIRES ≡ false
    go true q = let some : Some names ≡ None = rw q at e in cc
    go false q = q

module _ (t : List ℕ) (ws : List Word) (rows : List (List Word)) (es : List Entry) (g : Gate) (is : Some (words_seen g) ≡ gate_of ws) where
  h : HasWords ws g
  h = has_words ws g is

  kept_are : few_enough (input_names h.first h.rest) ≡ first_of g.inputs g.count
  kept_are = sym (ap (λ (s : GateWords). s.inputs) h.seen)

  out_is : g.out ≡ last_of h.first h.rest
  out_is = ap (λ (s : GateWords). s.out) h.seen

  pub plan_known : (wire : ℕ) → lookup t (bytes_of t g.out) es ≡ Some wire → Err DefinedBefore ≡ plan t ws rows es
  unfolding plan
  plan_known wire e =
      let f : find false t g.out es ≡ Some wire = sym (find_plain t g.out es) ∙ e in
      rw (h.are, ← out_is, f)

  module _ (e : lookup t (bytes_of t g.out) es ≡ None) where
    new : find false t g.out es ≡ None
    new = sym (find_plain t g.out es) ∙ e

    pub plan_many : g.count ≡ None → Err WrongCount ≡ plan t ws rows es
    unfolding plan
    plan_many z =
        let none : few_enough (input_names h.first h.rest) ≡ None = kept_are ∙ ap (first_of g.inputs) z in
        rw (h.are, ← out_is, new, none_many (input_names h.first h.rest) none)

    module _ (n : ℕ) (en : g.count ≡ Some n) where
      few : Few (input_names h.first h.rest) (take n g.inputs)
      few = kept_few (input_names h.first h.rest) (take n g.inputs) (kept_are ∙ ap (first_of g.inputs) en)

      pub plan_stop : (r : Refusal) → Err r ≡ drivers t es (take n g.inputs) → Err r ≡ plan t ws rows es
      unfolding plan
      plan_stop r d = rw (h.are, ← out_is, new, few.test, few.all, ← d)

      module _ (all : length g.inputs ≡ WIRES) (most : n ≤ WIRES) (xs : List ℕ) (d : Ok xs ≡ drivers t es (take n g.inputs)) (c : Option ℕ) (ec : c ≡ cover t n rows) where
        size : length (take n g.inputs) ≡ n
        size = length-take-le n g.inputs (omega (arith, all))

        pub plan_rows : (r : Refusal) → ◌≡◌ {A = Try ℕ} (Err r) (ok_or c BadRow) → c ≡ None → Err r ≡ plan t ws rows es
        unfolding plan covered
        plan_rows r o q =
            let told : ◌≡◌ {A = Try ℕ} (Err r) (Err BadRow) = o ∙ ap (λ (x : Option ℕ). ok_or x BadRow) q in
            let bad : r ≡ BadRow = cc in
            rw (bad, h.are, ← out_is, new, few.test, few.all, ← d, size, ← ec, q)

        pub plan_made : (table : ℕ) → c ≡ Some table → Ok (record { out = g.out; wires = xs; table = table }) ≡ plan t ws rows es
        unfolding plan covered
        plan_made table q = rw (h.are, ← out_is, new, few.test, few.all, ← d, size, ← ec, q)
