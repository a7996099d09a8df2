use Rattle.std.proofs.Common.{rules, refl, arith}
use mathlib.Core.Path.{◌∙◌}
use Rattle.std.proofs.lemmas.Iterator.{YieldsList-from_range}
use Rattle.std.proofs.lemmas.Iterator.Search.{any_from_yields_List}
use Rattle.circuit.specs.Records.{node_at}
use Rattle.circuit.specs.Check.{node_broken}
use Rattle.circuit.proofs.Scans.{any_up}
use Rattle.circuit.proofs.check.some_broken.Goals as goal

pub returns : goal.returns
returns c =
    let n = c.args.nodes.count in
    any_from_yields_List (λ i. node_broken n (node_at c.args.nodes.words.now i)) _ _ _ c.any.ensures.ran (YieldsList-from_range 0 n n refl (omega arith)) (λ x b q k. search rules)
    ∙ any_up (node_broken n) (node_at c.args.nodes.words.now) 0 n
