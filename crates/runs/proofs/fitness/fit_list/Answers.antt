use mathlib.Core.Path.{◌∙◌}
use native.Mathlib.Omega.{arith}
use borrow.Author.Tests.{ne_eqb}
use Rattle.runs.proofs.Entries.{inputs-fit, list_fit, list_unfit}
use Rattle.runs.proofs.fitness.fit_list.Goals as goal

pub overflow_sub-circuit : goal.overflow_sub-circuit
overflow_sub-circuit c = omega (arith, c.requires, inputs-fit c.args.circuit.nodes.words.now c.args.circuit.nodes.count)

pub returns-then-order-circuit : goal.returns-then-order-circuit
returns-then-order-circuit c = c.is_some.ensures ∙ c.fit_marked.ensures ∙ list_fit c.args.circuit.nodes.words.now c.args.circuit.nodes.count c.args.inputs c.args.order.now c.requires c.if-order-circuit.true

pub returns-else-order-circuit : goal.returns-else-order-circuit
returns-else-order-circuit c = rw (ne_eqb _ _ c.if-order-circuit.false) (list_unfit c.args.circuit.nodes.words.now c.args.circuit.nodes.count c.args.inputs c.args.order.now c.requires c.if-order-circuit.false)
