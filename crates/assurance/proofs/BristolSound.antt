-- Every circuit that the Bristol reader accepts passes the circuit check; what the call leaves, by its parts.
-- Assumes nothing.
use Rattle.circuit.specs.declared.records.Sizes.{Sizes}
use Rattle.circuit.specs.Refusals.{Try}
use Rattle.std.specs.Prelude.{Ok}
use Prim.Native.Nat.{ℕ}
use mathlib.Core.Path.{◌≡◌, refl}
use mathlib.Core.List.{List}
use Rattle.circuit.specs.Circuits.{Circuit, KeepsRules, filled, read_answer, node_words, output_words}
use Rattle.bristol.specs.Bristol.{bristol, bristol_circuit}
use Rattle.bristol.specs.Promises.{Leaves}
use Rattle.bristol.proofs.Sound.{bristol-sound}

pub sound : (text : List ℕ) (n o w : ℕ) (c : Circuit) → bristol_circuit text n o w ≡ Ok c → KeepsRules c
sound text n o w c q = bristol-sound text n o w c q

module _ (text : List ℕ) (n o w : ℕ) (r : Try Sizes) (N O W : List ℕ) (l : Leaves (bristol text n o w) r N O W) where
  pub answer_is : r ≡ read_answer (bristol_circuit text n o w)
  unfolding bristol
  answer_is = l.answer_is

  pub nodes_are : N ≡ filled (node_words (bristol_circuit text n o w)) n
  unfolding bristol
  nodes_are = l.nodes_are

  pub outputs_are : O ≡ filled (output_words (bristol_circuit text n o w)) o
  unfolding bristol
  outputs_are = l.outputs_are

  -- the same contents, with the answer that the definition gives
  pub same_contents : Leaves (bristol text n o w) (bristol text n o w).answer N O W
  same_contents = record { answer_is = refl; nodes_are = l.nodes_are; outputs_are = l.outputs_are; wires_are = l.wires_are }
