use mathlib.Core.Path.{sym, ap, ◌∙◌}
use borrow.Author.Tests.{leb-false}
use Rattle.circuit.specs.Check.{not_below}
use Rattle.runs.specs.Fit.{wire_waits}
use Rattle.runs.proofs.fitness.wire_waits.Goals as goal

pub waits_here-requires : goal.waits_here-requires
waits_here-requires c =
    leb-false c.args.nodes.count _ (ap (not_below c.args.nodes.count) (sym c.in-Node.is) ∙ c.requires)

pub returns-in-Node : goal.returns-in-Node
returns-in-Node c =
    c.waits_here.ensures ∙ sym (ap (wire_waits c.args.nodes.words.now c.args.lo c.args.marks.now) c.in-Node.is)
