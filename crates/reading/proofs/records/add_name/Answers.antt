use native.Mathlib.Omega.{arith}
use lib.Dec.{lit<}
use lib.ListN.{length}
use Rattle.names.specs.declared.records.TheConstants.{NAME_WORDS}
use Rattle.reading.proofs.Storing.{room_of, below_cap}
use Rattle.reading.proofs.records.add_name.Goals as goal

pub define-requires-clause-room : goal.define-requires-clause-room
define-requires-clause-room c =
    let l = length c.args.names.now in
    room_of NAME_WORDS l c.args.count (lit< tt) (omega (arith, c.records_in.ensures, c.if-records_in-count.false))

pub define-requires-clause-few : goal.define-requires-clause-few
define-requires-clause-few c =
    let below = below_cap NAME_WORDS (length c.args.names.now) c.args.count (omega (arith, c.records_in.ensures, c.if-records_in-count.false)) in
    omega (arith, below)
