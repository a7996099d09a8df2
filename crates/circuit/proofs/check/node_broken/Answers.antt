use Rattle.std.proofs.Common.{sym}
use mathlib.Core.Path.{◌∙◌}
use Rattle.circuit.specs.Check.{node_broken}
use Rattle.circuit.proofs.check.node_broken.Goals as goal

pub returns-then-record_broken : goal.returns-then-record_broken
unfolding node_broken
returns-then-record_broken c = c.if-record_broken.true ∙ rw (sym c.record_broken.ensures ∙ c.if-record_broken.true)

pub returns-else-record_broken : goal.returns-else-record_broken
unfolding node_broken
returns-else-record_broken c = rw (sym c.record_broken.ensures ∙ c.if-record_broken.false) c.some_wire_outside.ensures
