use borrow.Author.Tests.{eq-eqb, ne_eqb}
use Rattle.circuit.specs.Check.{whole}
use Rattle.circuit.proofs.check.are_whole.Goals as goal

pub returns-then-nodes-eq0 : goal.returns-then-nodes-eq0
unfolding whole
returns-then-nodes-eq0 c = rw (eq-eqb _ _ c.if-nodes-eq0.true)

pub returns-else-nodes-eq0 : goal.returns-else-nodes-eq0
unfolding whole
returns-else-nodes-eq0 c = rw (ne_eqb _ _ c.if-nodes-eq0.false)
