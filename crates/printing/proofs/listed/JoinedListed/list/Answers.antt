use Rattle.std.proofs.Common.{arith}
use Rattle.printing.proofs.Bounds.{joined_inside}
use Rattle.printing.proofs.Printing.{text_printed}
use Rattle.printing.proofs.listed.JoinedListed.list.Goals as goal

pub print_read-requires : goal.print_read-requires
print_read-requires g c = joined_inside c.args.text.now _ _ _ _ _ c.parse-read.result _ _ _ _ c.parse-read.ensures (omega arith) (omega arith) (omega arith) (omega arith)

pub returns : goal.returns
returns g c = rw (← text_printed g.F.Format.lines c.args.text.now _ _ _ _ c.parse-read.result _ _ _ _ c.room-joined.ensures c.room-nodes.ensures c.room-names.ensures c.room-outputs.ensures c.parse-read.ensures) c.print_read.ensures
