use Rattle.std.proofs.Common.{arith}
use Rattle.cells.proofs.Folds.{narrows_low, narrows_high, narrows_both}
use Rattle.cells.proofs.folding.narrowed.Goals as goal

pub returns-in-0 : goal.returns-in-0
returns-in-0 c = narrows_low c.args.left.all c.args.left.some c.args.half c.args.value c.in-0.is

pub returns-in-1 : goal.returns-in-1
returns-in-1 c = narrows_high c.args.left.all c.args.left.some c.args.half c.args.value c.in-1.is

pub returns-in_default : goal.returns-in_default
returns-in_default c = narrows_both c.args.left.all c.args.left.some c.args.half c.args.value (λ e. omega arith) (λ e. omega arith)
