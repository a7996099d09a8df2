-- What is written of a listing, line by line.
-- Assumes nothing.
use Rattle.std.specs.Prelude.{Ok, Err}
use Prim.Native.Nat.{ℕ, ◌+◌, ◌/◌, ◌≤◌, ◌<◌}
use mathlib.Core.Path.{◌≡◌, refl, sym, ap, ap₂, ◌∙◌}
use mathlib.Core.List.{List, [], ◌∷◌, ◌++◌, append-nil, append_assoc}
use native.Mathlib.Omega.{arith}
use native.Mathlib.Numerals.{add-one}
use lib.ListN.{length, take, get_or, replicate, length-replicate}
use lib.Seq.{take-suc, take_all}
use Rattle.std.specs.List.{concat}
use Rattle.circuit.specs.declared.refusals.Refusal.{Refusal}
use Rattle.circuit.specs.Refusals.{Try, number_of}
use Rattle.circuit.specs.Records.{nodes_of, outputs_of}
use Rattle.schedule.specs.Call.{Left, leaves, schedule_call}
use Rattle.listing.specs.declared.TheConstants.{LISTED}
use Rattle.listing.specs.Listing.{listing, refused_line, keys_from}
use Rattle.listing.proofs.LineLaws.{listing_length}
use Rattle.circuit.specs.declared.records.Sizes.{Sizes}
use Rattle.circuit.specs.Circuits.{Circuit}
use Rattle.reading.specs.Reading.{Places}
use Rattle.reading.specs.Areas.{read_text, Leaves}
use Rattle.bristol.specs.Bristol.{bristol}
use Rattle.bristol.specs.Promises.{Leaves as BristolLeaves}
use Rattle.circuit.specs.declared.records.TheConstants.{NODE_WORDS, OUTPUT_WORDS}
use Rattle.printing.specs.declared.TheConstants.{LISTING_WINDOW}
use Rattle.printing.specs.declared.rooms.TheConstants.{NAMES_AREA, JOINED_AREA, NODES_AREA, OUTPUTS_AREA, READY_AREA, SUCCESSORS_AREA}
use Rattle.printing.specs.Printed.{printed_bristol, printed_text, printed_read, printed_lines, printed_order, printed_circuit, listing_order}

abbrev pub lines_of : List ℕ → List ℕ → List ℕ → List ℕ → List (List ℕ)
lines_of t nodes outputs order = listing t (nodes_of nodes (length nodes / NODE_WORDS)) (outputs_of outputs (length outputs / OUTPUT_WORDS)) order

concat_append : (a b : List (List ℕ)) → concat (a ++ b) ≡ concat a ++ concat b
concat_append [] b = refl
concat_append (x ∷ a) b = ap (λ l. x ++ l) (concat_append a b) ∙ sym (append_assoc x (concat a) (concat b))

-- the first k + 1 lines
pub lines_next : (l : List (List ℕ)) (k : ℕ) → k < length l → concat (take k l) ++ get_or l k [] ≡ concat (take (k + 1) l)
lines_next l k h =
    sym (ap concat (ap (λ (j : ℕ). take j l) (add-one k) ∙ take-suc l k [] h) ∙ concat_append (take k l) (get_or l k [] ∷ []) ∙ ap (λ x. concat (take k l) ++ x) (append-nil (get_or l k [])))

pub lines_all : (t nodes outputs order : List ℕ) (k : ℕ) → length nodes / NODE_WORDS + length outputs / OUTPUT_WORDS + 2 ≤ k → concat (take k (lines_of t nodes outputs order)) ≡ printed_lines t nodes outputs order
unfolding printed_lines
lines_all t nodes outputs order k h = ap concat (take_all k (lines_of t nodes outputs order) (omega (arith, listing_length t nodes outputs order (length nodes / NODE_WORDS) (length outputs / OUTPUT_WORDS))))

-- the schedule reads of the areas that it is lent their lengths alone
pub any_areas : (nodes outputs keys a b c x y z : List ℕ) (w : ℕ) → length a ≡ length x → length b ≡ length y → length c ≡ length z → schedule_call nodes outputs w keys a b c ≡ schedule_call nodes outputs w keys x y z
unfolding schedule_call
any_areas nodes outputs keys a b c x y z w p q r = rw (p, q, r)

-- what the code answers and leaves is the listing's order
pub ordered : (nodes outputs a b c x y z : List ℕ) (answer : Try ℕ) → leaves answer x y z ≡ schedule_call nodes outputs LISTING_WINDOW (keys_from 0 (length nodes / NODE_WORDS)) a b c
    → READY_AREA ≡ length a → SUCCESSORS_AREA ≡ length b → LISTED ≡ length c → leaves answer x y z ≡ listing_order nodes outputs
unfolding listing_order
ordered nodes outputs a b c x y z answer e p q r =
    e ∙ any_areas nodes outputs (keys_from 0 (length nodes / NODE_WORDS)) a b c (replicate READY_AREA 0) (replicate SUCCESSORS_AREA 0) (replicate LISTED 0) LISTING_WINDOW (sym p ∙ sym (length-replicate {A = ℕ} READY_AREA 0)) (sym q ∙ sym (length-replicate {A = ℕ} SUCCESSORS_AREA 0)) (sym r ∙ sym (length-replicate {A = ℕ} LISTED 0))

module _ (t nodes outputs : List ℕ) (answer : Try ℕ) (x y z : List ℕ) (e : leaves answer x y z ≡ listing_order nodes outputs) where
  pub printed_accepted : (n : ℕ) → answer ≡ Ok n → printed_lines t nodes outputs (take n z) ≡ printed_circuit t nodes outputs
  printed_accepted n a = sym (ap₂ (printed_order t nodes outputs) (sym (ap (λ (l : Left). l.answer) e) ∙ a) (sym (ap (λ (l : Left). l.order) e)))

  pub printed_refusal : (r : Refusal) → answer ≡ Err r → refused_line (number_of r) ≡ printed_circuit t nodes outputs
  printed_refusal r a = sym (ap₂ (printed_order t nodes outputs) (sym (ap (λ (l : Left). l.answer) e) ∙ a) (sym (ap (λ (l : Left). l.order) e)))

-- what a reader of joined texts left is printed as its text says
pub text_printed : (lines : List ℕ → Places → Try Circuit) (t : List ℕ) (j n m o : ℕ) (r : Try Sizes) (joined nodes names outputs : List ℕ) → JOINED_AREA ≡ j → NODES_AREA ≡ n → NAMES_AREA ≡ m → OUTPUTS_AREA ≡ o
    → Leaves t (read_text lines t j n m o) j n m o r joined nodes names outputs → printed_read joined nodes outputs r ≡ printed_text lines t
unfolding printed_text
text_printed lines t j n m o r joined nodes names outputs a b c d l = rw (l.answer, l.joined_is, l.nodes_is, l.outputs_is, ← a, ← b, ← c, ← d)

pub bristol_printed : (t : List ℕ) (n o w : ℕ) (r : Try Sizes) (nodes outputs wires : List ℕ) → NODES_AREA ≡ n → OUTPUTS_AREA ≡ o → LISTED ≡ w
    → BristolLeaves (bristol t n o w) r nodes outputs wires → printed_read [] nodes outputs r ≡ printed_bristol t
unfolding printed_bristol
bristol_printed t n o w r nodes outputs wires a b c l = rw (l.answer_is, l.nodes_are, l.outputs_are, ← a, ← b, ← c)
