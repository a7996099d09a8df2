use Rattle.std.proofs.Common.{arith}
use Rattle.circuit.proofs.Rules.{input_sound, wrong_kind, too_few, too_many, by_table}
use Rattle.circuit.proofs.check.record_broken.Goals as goal

pub returns-in-1-default : goal.returns-in-1-default
returns-in-1-default c = input_sound c.args.n c.in-1-default.is-0

pub returns-in-2-1-to-2 : goal.returns-in-2-1-to-2
returns-in-2-1-to-2 c = by_table c.args.n c.in-2-1-to-2.is-0 (omega arith) (omega arith) c.table_broken.result c.table_broken.ensures

pub returns-in_default : goal.returns-in_default
returns-in_default c = too_few c.args.n (omega arith) (omega arith)

pub returns-in_default-2 : goal.returns-in_default-2
returns-in_default-2 c = too_many c.args.n (omega arith) (omega arith)

pub returns-in_default-3 : goal.returns-in_default-3
returns-in_default-3 c = wrong_kind c.args.n (λ e. omega arith) (λ e. omega arith)
