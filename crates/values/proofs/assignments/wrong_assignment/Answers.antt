use mathlib.Core.Path.{sym, ◌∙◌}
use borrow.Author.Tests.{ne_eqb}
use Rattle.circuit.specs.Records.{nodes_of}
use Rattle.values.proofs.Inputs.{right_length, wrong_length}
use Rattle.values.proofs.assignments.wrong_assignment.Goals as goal

pub returns-then-assignment-count_inputs : goal.returns-then-assignment-count_inputs
returns-then-assignment-count_inputs c =
    let differ = c.if-assignment-count_inputs.true in
    rw (ne_eqb _ _ differ) (wrong_length c.args.top (nodes_of c.args.nodes.words.now c.args.nodes.count) c.args.assignment.now (λ e. differ (e ∙ sym c.count_inputs.ensures)))

pub returns-else-assignment-count_inputs : goal.returns-else-assignment-count_inputs
returns-else-assignment-count_inputs c =
    c.some_above.ensures ∙ right_length c.args.top (nodes_of c.args.nodes.words.now c.args.nodes.count) c.args.assignment.now (c.if-assignment-count_inputs.false ∙ c.count_inputs.ensures)
