use Rattle.circuit.specs.declared.records.TheConstants.{OUTPUT_WORDS}
use mathlib.Core.Path.{◌∙◌, ap}
use mathlib.Core.List.{List}
use Prim.Native.Nat.{ℕ, ◌*◌}
use Rattle.laws.specs.Areas.{stored}
use Rattle.circuit.proofs.areas.put_output.Goals as goal

pub returns : goal.returns
returns c = c.put.ensures ∙ ap (λ (l : List ℕ). stored c.args.outputs.now (c.args.j * OUTPUT_WORDS) l) c.output_words-words.ensures
