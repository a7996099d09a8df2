-- Laws of the outer functions: the areas made ready, and what a reading ends in.
-- Assumes nothing.
use Rattle.std.specs.Prelude.{Err, Ok}
use Prim.Native.Nat.{ℕ, ◌+◌, ◌-◌, ◌*◌, ◌≤◌, ◌<◌}
use mathlib.Core.Path.{◌≡◌, sym, ap, ap₂, ◌∙◌}
use mathlib.Core.Bool.{Bool, not}
use mathlib.Core.List.{List, ◌++◌}
use native.Mathlib.Nat.{sub-zero}
use native.Mathlib.Omega.{arith}
use lib.ListN.{length, take, replicate}
use lib.Seq.{take_at}
use lib.Dec.{leb, ltb}
use borrow.Author.Tests.{leb-false, ltb-false}
use Rattle.laws.specs.Areas.{encodes}
use Rattle.laws.proofs.Areas.{length-encodes, length_up}
use Rattle.circuit.specs.declared.records.TheConstants.{NODE_WORDS, OUTPUT_WORDS}
use Rattle.circuit.specs.declared.refusals.Refusal.{Refusal}
use Rattle.circuit.specs.declared.refusals.Refusal.TheVariants.{TextTooLong, NotAscii, NoRoom}
use Rattle.circuit.specs.declared.records.Sizes.{Sizes}
use Rattle.circuit.specs.Refusals.{refuse_if, Try, and_then}
use Rattle.circuit.specs.Records.{encode_node, nodes_of, encode_output, outputs_of, output_at}
use Rattle.circuit.specs.Circuits.{Circuit, read_answer}
use Rattle.circuit.proofs.Codes.{node_wide, output_wide, length_nodes}
use Rattle.circuit.proofs.Checks.{no_fault, not_refused}
use Rattle.text.specs.declared.TheConstants.{MOST_TEXT}
use Rattle.text.specs.Bytes.{is_ascii}
use Rattle.text.specs.Joining.{joined_text, Joins}
use Rattle.names.specs.declared.records.TheConstants.{HALF}
use Rattle.names.proofs.Orders.{empty_table}
use Rattle.reading.specs.Reading.{Places, State, places_in, bytes_fault, text_fault, resolve, closed, finish}
use Rattle.reading.specs.Holding.{nothing_read, AreasHold, circuit_of, Ends}
use Rattle.reading.specs.Areas.{read_text, Leaves, Zeroed, JoinedIn}

-- ---- the areas made ready

pub sound-fits : (text : List ℕ) (j : ℕ) → text_fault text j ≡ Ok tt → length text < j
unfolding text_fault
sound-fits text j e = leb-false j (length text) (not_refused (leb j (length text)) NoRoom (no_fault (bytes_fault text) (refuse_if (leb j (length text)) NoRoom) e).1)

-- the joined text has at most one byte more than a text may have
pub joined_short : (text : List ℕ) (j size r : ℕ) (joined : List ℕ) → text_fault text j ≡ Ok tt → Joins text size r joined → r ≤ MOST_TEXT + 1
unfolding text_fault bytes_fault
joined_short text j size r joined e k =
    let l = ltb-false MOST_TEXT (length text) (not_refused (ltb MOST_TEXT (length text)) TextTooLong (no_fault (refuse_if (ltb MOST_TEXT (length text)) TextTooLong) (refuse_if (not (is_ascii text)) NotAscii) (no_fault (bytes_fault text) (refuse_if (leb j (length text)) NoRoom) e).0).0) in
    omega (arith, l, k.fits)

pub joined_in : (text : List ℕ) (size r : ℕ) (joined : List ℕ) → length joined ≡ size → length text < size → Joins text size r joined → JoinedIn text r joined
joined_in text size r joined l h k = record {
  inside = omega (arith, k.fits);
  front = ap (take r) k.area ∙ take_at (joined_text text) (replicate (size - r) 0) r (sym k.count);
  area = k.area ∙ ap₂ (λ (a b : ℕ). joined_text text ++ replicate (a - b) 0) (sym l) k.count;
}

-- ---- the start of the reading

zeros_less : (n : ℕ) → ◌≡◌ {A = List ℕ} (replicate n 0) (replicate (n - 0) 0)
zeros_less n = ap (λ (k : ℕ). replicate k 0) (sym (sub-zero n))

zeros_all : (xs : List ℕ) → xs ≡ replicate (length xs) 0 → xs ≡ replicate (length xs - 0) 0
zeros_all xs e = e ∙ zeros_less (length xs)

pub nothing_stands : (t ns ms os : List ℕ) → length t < HALF → ns ≡ replicate (length ns) 0 → os ≡ replicate (length os) 0 → AreasHold t (replicate 256 0) ns ms os nothing_read
nothing_stands t ns ms os l e f = record {
  named = record { table = empty_table t ms l; nodes = record { room = omega arith; clean = zeros_all ns e } };
  words = record { room = omega arith; clean = zeros_all os f; inside = tt };
}

-- ---- what a text gives

module _ (lines : List ℕ → Places → Try Circuit) (text : List ℕ) (j n m o : ℕ) where
  pub read_refused : (e : Refusal) → text_fault text j ≡ Err e → read_text lines text j n m o ≡ Err e
  unfolding read_text
  read_refused e q = rw q

  pub read_sound : text_fault text j ≡ Ok tt → read_text lines text j n m o ≡ lines (joined_text text) (places_in n m o)
  unfolding read_text
  read_sound q = rw q

-- ---- the end

pub leaves_refused : (text : List ℕ) (c : Try Circuit) (e : Refusal) (j n m o : ℕ) (r : Try Sizes) (J N M O : List ℕ) → c ≡ Err e → Zeroed e j n m o r J N M O → Leaves text c j n m o r J N M O
leaves_refused text c e j n m o r J N M O q z = record {
  answer = z.answer ∙ ap read_answer (sym q);
  joined_is = rw q (z.joined_is ∙ zeros_less j);
  nodes_is = rw q (z.nodes_is ∙ zeros_less n);
  names_is = z.names_is;
  outputs_is = rw q (z.outputs_is ∙ zeros_less o);
}

module _ (text : List ℕ) (used : ℕ) (c : Try Circuit) (J N O : List ℕ) (m : ℕ) (joins : JoinedIn text used J) where
  pub concluded_refused : (e : Refusal) → Ends c (Err e) N O → (r : Try Sizes) (J' N' M' O' : List ℕ) → Zeroed e (length J) (length N) m (length O) r J' N' M' O'
      → Leaves text c (length J) (length N) m (length O) r J' N' M' O'
  concluded_refused e ends r J' N' M' O' z = leaves_refused text c e (length J) (length N) m (length O) r J' N' M' O' (sym ends.is) z

  pub concluded_sound : (s : Sizes) → Ends c (Ok s) N O → (M' : List ℕ) → M' ≡ replicate m 0 → Leaves text c (length J) (length N) m (length O) (Ok s) J N M' O
  concluded_sound s ends M' z =
      let x : Circuit = circuit_of N O s in
      let is : c ≡ Ok x = sym ends.is in
      let ln : length (nodes_of N s.nodes) ≡ s.nodes = length_nodes N s.nodes in
      let lo : length (outputs_of O s.outputs) ≡ s.outputs = length_up (output_at O) 0 s.outputs in
      record {
        answer = rw is (ap₂ (λ (n o : ℕ). Ok (record { nodes = n; outputs = o })) (sym ln) (sym lo));
        joined_is = rw is joins.area;
        nodes_is = rw is (ends.nodes_kept.clean ∙ ap (λ (k : ℕ). encodes encode_node x.nodes ++ replicate (length N - k) 0) (sym (length-encodes encode_node NODE_WORDS node_wide x.nodes ∙ ap (λ (k : ℕ). k * NODE_WORDS) ln)));
        names_is = z;
        outputs_is = rw is (ends.outputs_kept.clean ∙ ap (λ (k : ℕ). encodes encode_output x.outputs ++ replicate (length O - k) 0) (sym (length-encodes encode_output OUTPUT_WORDS output_wide x.outputs ∙ ap (λ (k : ℕ). k * OUTPUT_WORDS) lo)));
      }

-- what the lines of a format add up to decides its circuit
module _ (constants : Bool) (t : List ℕ) (c : Try Circuit) (r : Try State) (by : c ≡ and_then r (finish constants t)) where
  pub ended_refused : (e : Refusal) → Err e ≡ r → Err e ≡ c
  ended_refused e h = sym (rw (← h) at by)

  pub ended_sound : (s : State) → Ok s ≡ r → and_then (resolve constants t s.held.names s.outputs) (closed s.held.nodes) ≡ c
  unfolding finish
  ended_sound s h = sym (rw (← h) at by)
