-- Laws of the kept lines that are left, and of the outputs.
-- Assumes nothing.
use Rattle.std.specs.Prelude.{Err, Ok}
use Prim.Native.Nat.{ℕ, suc, ◌+◌, ◌*◌, ◌≤◌, ◌<◌}
use mathlib.Core.Path.{◌≡◌}
use mathlib.Core.Bool.{Bool, true, false, cond}
use mathlib.Core.List.{List, [], ◌∷◌, ◌++◌}
use native.Mathlib.Omega.{arith}
use native.Mathlib.Numerals.{add-one}
use lib.Dec.{eqb}
use lib.ListN.{length, get_or, drop, length-drop, drop_of_length-le}
use lib.Seq.{drop-cons}
use borrow.Author.Tests.{lt-ltb, le-ltb}
use Rattle.laws.specs.Areas.{stored}
use Rattle.laws.specs.Stretches.{is_empty}
use Rattle.laws.proofs.Storing.{more_list, more_clean}
use Rattle.circuit.specs.declared.records.TheConstants.{OUTPUT_WORDS}
use Rattle.circuit.specs.declared.refusals.Refusal.TheVariants.{NoRoom, NoDriver}
use Rattle.circuit.specs.declared.records.Name.TheVariants.{Stretch}
use Rattle.circuit.specs.declared.records.Output.{Output}
use Rattle.circuit.specs.Records.{no_wire, encode_output, output_from, outputs_of}
use Rattle.circuit.proofs.Codes.{output_wide, output_back}
use Rattle.text.specs.declared.lines.KeptLines.{KeptLines}
use Rattle.text.specs.Lines.{add_first, raw_lines, kept, kept_of}
use Rattle.text.specs.Iterators.{kept_left}
use Rattle.reading.specs.Holding.{OutputsHold}
use Rattle.bristol_rows.specs.Slots.{wire_number}
use Rattle.bristol.specs.Bristol.{output_of, outputs_from}

-- there are no more kept lines than bytes
raw_few : (l : List ℕ) → length (raw_lines l) ≤ length l
unfolding raw_lines
raw_few [] = omega arith
raw_few (b ∷ bs) = go (eqb b 10) (raw_few bs)
  where
    first : (ls : List (List ℕ)) → length ls ≤ length bs → length (add_first b ls) ≤ suc (length bs)
    first [] h = omega arith
    first (l ∷ ls) h = omega (arith, h)

    go : (t : Bool) → length (raw_lines bs) ≤ length bs → length (cond t ([] ∷ raw_lines bs) (add_first b (raw_lines bs))) ≤ suc (length bs)
    go true h = omega arith
    go false h = first (raw_lines bs) h

kept_of_few : (ls : List (List ℕ)) → length (kept_of ls) ≤ length ls
unfolding kept_of
kept_of_few [] = omega arith
kept_of_few (l ∷ ls) = go (is_empty (kept l)) (kept_of_few ls)
  where
    go : (t : Bool) → length (kept_of ls) ≤ length ls → length (cond t (kept_of ls) (kept l ∷ kept_of ls)) ≤ suc (length ls)
    go true h = omega arith
    go false h = omega arith

pub kept_few : (k : KeptLines) → length (kept_left k) ≤ length k.lines.text.now
kept_few k =
    let t = k.lines.text.now in
    omega (arith, kept_of_few (raw_lines (drop k.lines.at t)), raw_few (drop k.lines.at t), length-drop k.lines.at t)

-- ---- the outputs

-- one more is stored
module _ (a b : List ℕ) (n : ℕ) (x : Output) (put : b ≡ stored a (n * OUTPUT_WORDS) (encode_output x)) (same : length b ≡ length a) (hold : OutputsHold a n) where
  none : Output
  none = record { name = Stretch 0 0; wire = no_wire }

  pub more_outputs : outputs_of b (n + 1) ≡ outputs_of a n ++ (x ∷ [])
  more_outputs = more_list encode_output OUTPUT_WORDS output_wide output_from output_back none a b n x put same hold.clean

  pub more_outputs_hold : n * OUTPUT_WORDS + OUTPUT_WORDS ≤ length a → OutputsHold b (n + 1)
  more_outputs_hold room = record {
    room = omega (arith, same, room);
    clean = more_clean encode_output OUTPUT_WORDS output_wide output_from output_back none a b n x put same hold.clean;
  }

-- of the slots ss, those of wires from, from + 1, .., the first done have their outputs os
module _ (ss : List ℕ) (from room done : ℕ) (os : List Output) where
  module _ (h : done < length ss) where
    pub put_undriven : get_or ss done 0 ≡ 0 → outputs_from room (from + done) (drop done ss) os ≡ Err NoDriver
    unfolding outputs_from
    put_undriven z =
        let l : get_or ss done 0 ≤ 0 = omega arith in
        rw (drop-cons ss done 0 h, le-ltb 0 (get_or ss done 0) l)

    module _ (nz : get_or ss done 0 ≡ 0 → ⊥) where
      positive : 0 < get_or ss done 0
      positive = omega arith

      pub put_full : length os ≡ done → room ≤ done → outputs_from room (from + done) (drop done ss) os ≡ Err NoRoom
      unfolding outputs_from
      put_full e l = rw (drop-cons ss done 0 h, lt-ltb 0 (get_or ss done 0) positive, e, le-ltb done room l)

      pub put_on : length os ≡ done → done < room → (more : List Output) → more ≡ os ++ (output_of (wire_number (from + done)) (get_or ss done 0) ∷ [])
          → outputs_from room (from + (done + 1)) (drop (done + 1) ss) more ≡ outputs_from room (from + done) (drop done ss) os
      unfolding outputs_from
      put_on e l more m =
          let q : from + (done + 1) ≡ suc (from + done) = omega arith in
          rw (drop-cons ss done 0 h, lt-ltb 0 (get_or ss done 0) positive, e, lt-ltb done room l, q, add-one done, m)

  pub put_end : length ss ≤ done → outputs_from room (from + done) (drop done ss) os ≡ Ok os
  unfolding outputs_from
  put_end l = rw (drop_of_length-le ss l)
