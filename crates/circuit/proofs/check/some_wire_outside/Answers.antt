use Rattle.std.proofs.Common.{rules, refl, arith, length, get_or}
use mathlib.Core.Path.{◌∙◌}
use Rattle.std.proofs.lemmas.Iterator.{YieldsList-from_range}
use Rattle.std.proofs.lemmas.Iterator.Search.{any_from_yields_List}
use Rattle.circuit.specs.Records.{wires_of, no_wire}
use Rattle.circuit.specs.Check.{not_below}
use Rattle.circuit.proofs.Scans.{any_listed}
use Rattle.circuit.proofs.check.some_wire_outside.Goals as goal

pub returns : goal.returns
returns c =
    let ws = wires_of c.args.n in
    any_from_yields_List (λ k. not_below c.args.m (get_or ws k no_wire)) _ _ _ c.any.ensures.ran (YieldsList-from_range 0 _ (length ws) refl (omega (arith, c.wire_count.ensures))) (λ x b q k. search rules)
    ∙ any_listed (not_below c.args.m) ws no_wire
