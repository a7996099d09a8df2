use Rattle.std.proofs.Common.{arith}
use Rattle.circuit.proofs.Rules.{few_entries, shift_is, above_entries}
use Rattle.circuit.proofs.check.table_broken.Goals as goal

pub overflow_shr-result : goal.overflow_shr-result
overflow_shr-result c = let f = few_entries c.args.count c.requires in omega (arith, shift_is c.args.count c.requires)

pub returns : goal.returns
returns c = above_entries c.args.table c.args.count c.requires
