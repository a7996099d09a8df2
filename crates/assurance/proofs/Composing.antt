-- The composed call on a text, from what the reader answers and leaves and from the run of that.
-- Assumes nothing.
use Rattle.circuit.specs.declared.records.Sizes.{Sizes}
use Rattle.std.specs.Prelude.{Err, Ok, IfOk}
use Prim.Native.Nat.{ℕ, ◌-◌, ◌*◌, ◌≤◌}
use mathlib.Core.Path.{◌≡◌, refl, sym, ap, ◌∙◌}
use mathlib.Core.List.{List}
use native.Mathlib.Omega.{arith}
use lib.ListN.{length, take, replicate, length-append}
use lib.Seq.{take_at}
use Rattle.laws.specs.Areas.{encodes}
use Rattle.laws.proofs.Areas.{length-encodes}
use Rattle.circuit.specs.Refusals.{Try}
use Rattle.circuit.specs.Records.{encode_node, encode_output}
use Rattle.circuit.specs.Circuits.{Circuit, filled, read_answer, node_words, output_words, KeepsRules}
use Rattle.circuit.specs.declared.records.TheConstants.{NODE_WORDS, OUTPUT_WORDS}
use Rattle.circuit.proofs.Codes.{node_wide, output_wide}
use Rattle.reading.specs.Areas.{Leaves}
use Rattle.assurance.specs.declared.circuits.Both.{Both}
use Rattle.assurance.specs.Assurance.{Question, Areas}
use Rattle.assurance.specs.Composed.{TextRun, TextAssured}
use Rattle.assurance.specs.Inner.{Inside, ReadRun, ReadSizesRun}
use Rattle.assurance.proofs.Carrying.{carried}

-- the area's first records are the circuit's
module _ {A : Type 0} (enc : A → List ℕ) (w : ℕ) (wide : (a : A) → length (enc a) ≡ w) (xs : List A) (k size : ℕ) (area : List ℕ) (e : area ≡ filled (encodes enc xs) size) (count : k ≡ length xs) where
  size_is : length (encodes enc xs) ≡ k * w
  size_is = length-encodes enc w wide xs ∙ ap (λ (n : ℕ). n * w) (sym count)

  pub records_front : take (k * w) area ≡ encodes enc xs
  records_front = ap (take (k * w)) e ∙ take_at (encodes enc xs) (replicate (size - length (encodes enc xs)) 0) (k * w) size_is

  pub records_inside : k * w ≤ length area
  records_inside = omega (arith, size_is, ap length e ∙ length-append (encodes enc xs) (replicate (size - length (encodes enc xs)) 0))

-- the same contents, with the answer that the definition gives
pub leaves_answer : (text : List ℕ) (c : Try Circuit) (j n m o : ℕ) (r : Try Sizes) (J N M O : List ℕ) → Leaves text c j n m o r J N M O → Leaves text c j n m o (read_answer c) J N M O
leaves_answer text c j n m o r J N M O l =
    record { answer = refl; joined_is = l.joined_is; nodes_is = l.nodes_is; names_is = l.names_is; outputs_is = l.outputs_is }

-- of a reader that counts no more records than stand in its areas
pub read_run : (nodes outputs : List ℕ) (r : Try Sizes) (q : Question) (before : Areas) (b : Both) (after : Areas) → IfOk r (Inside nodes outputs)
    → ReadSizesRun nodes outputs r q before b after → ReadRun nodes outputs r q before b after
read_run nodes outputs (Err e) q before b after inside run = run
read_run nodes outputs (Ok sizes) q before b after inside run = (run.run inside).run

module _ (read : Try Circuit) (n o : ℕ) (r : Try Sizes) (N O : List ℕ) (answer : r ≡ read_answer read) (nodes_are : N ≡ filled (node_words read) n) (outputs_are : O ≡ filled (output_words read) o) where
  -- a circuit that was read stands in front of its areas
  pub read_inside : IfOk r (Inside N O)
  read_inside = rw answer (go read refl)
    where
      go : (x : Try Circuit) → read ≡ x → IfOk (read_answer x) (Inside N O)
      go (Err e) q = tt
      go (Ok c) q =
          record {
            nodes_inside = records_inside encode_node NODE_WORDS node_wide c.nodes (length c.nodes) n N (rw q at nodes_are) refl;
            outputs_inside = records_inside encode_output OUTPUT_WORDS output_wide c.outputs (length c.outputs) o O (rw q at outputs_are) refl;
          }

  module _ (q : Question) (before : Areas) (b : Both) (after : Areas) (run : ReadRun N O r q before b after) where
    text_run : TextRun read q before b after
    text_run = go read refl (rw answer at run)
      where
        go : (x : Try Circuit) → read ≡ x → ReadRun N O (read_answer x) q before b after → TextRun x q before b after
        go (Err e) p h = h
        go (Ok c) p h =
            rw (
              records_front encode_node NODE_WORDS node_wide c.nodes (length c.nodes) n N (rw p at nodes_are) refl,
              records_front encode_output OUTPUT_WORDS output_wide c.outputs (length c.outputs) o O (rw p at outputs_are) refl,
            ) at h

    pub text_assured : ((c : Circuit) → read ≡ Ok c → KeepsRules c) → TextAssured read q before b after
    text_assured sound = record { run = text_run; carried = λ c p lent. carried c q before (sound c p) lent b after (rw p at text_run) }

  module _ (q : Question) (before : Areas) (b : Both) (after : Areas) (run : ReadSizesRun N O r q before b after) where
    pub sizes_assured : ((c : Circuit) → read ≡ Ok c → KeepsRules c) → TextAssured read q before b after
    sizes_assured = text_assured q before b after (read_run N O r q before b after read_inside run)
