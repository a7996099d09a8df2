-- The values of the outputs, one by one.
-- Assumes nothing.
use Rattle.std.proofs.Common.{ℕ, ◌<◌, ◌≡◌, List, length, get_or, ap, ◌∙◌}
use native.Mathlib.Nat.{zero-add}
use Rattle.std.proofs.lemmas.List.{length-map}
use Rattle.std.proofs.Math.ListN.{get_or-map}
use Rattle.laws.proofs.Storing.{up_at}
use Rattle.circuit.specs.Records.{output_wire, output_wires, no_wire}
use Rattle.circuit.proofs.Codes.{length_output_wires}
use Rattle.values.specs.Values.{signal_value, outputs_from}

module _ (values outputs : List ℕ) (count : ℕ) where
  pub length-outputs : length (outputs_from values (output_wires outputs count)) ≡ count
  unfolding outputs_from
  length-outputs = length-map (output_wires outputs count) (signal_value values) ∙ length_output_wires outputs count

  pub out_at : (j : ℕ) → j < count → get_or (output_wires outputs count) j no_wire ≡ output_wire outputs j
  out_at j h = up_at (output_wire outputs) no_wire 0 count j h ∙ ap (output_wire outputs) (zero-add j)

  pub output-at : (j : ℕ) → j < count → get_or (outputs_from values (output_wires outputs count)) j 0 ≡ signal_value values (output_wire outputs j)
  unfolding outputs_from
  output-at j h = get_or-map (signal_value values) (output_wires outputs count) j no_wire ∙ ap (signal_value values) (out_at j h)
