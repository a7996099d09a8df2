use mathlib.Core.Path.{sym, ap}
use Rattle.circuit.specs.Check.{not_below}
use Rattle.circuit.proofs.check.not_below.Goals as goal

pub returns-in-Node : goal.returns-in-Node
returns-in-Node c = sym (ap (not_below c.args.k) c.in-Node.is)
