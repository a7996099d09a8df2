use Rattle.std.proofs.Common.{rules, refl, arith}
use mathlib.Core.Path.{◌∙◌}
use Rattle.std.proofs.lemmas.Iterator.{YieldsList-from_range}
use Rattle.std.proofs.lemmas.Iterator.Search.{any_from_yields_List}
use Rattle.circuit.specs.Records.{output_wire}
use Rattle.circuit.specs.Check.{not_below}
use Rattle.circuit.proofs.Scans.{any_up}
use Rattle.circuit.proofs.check.output_outside.Goals as goal

pub returns : goal.returns
returns c =
    let n = c.args.outputs.count in
    any_from_yields_List (λ j. not_below c.args.m (output_wire c.args.outputs.words.now j)) _ _ _ c.any.ensures.ran (YieldsList-from_range 0 n n refl (omega arith)) (λ x b q k. search rules)
    ∙ any_up (not_below c.args.m) (output_wire c.args.outputs.words.now) 0 n
