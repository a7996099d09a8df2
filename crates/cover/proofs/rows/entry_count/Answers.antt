use lib.Pow.{pow_pos, pow_mono}
use native.Mathlib.Omega.{arith}
use Rattle.laws.proofs.Rows.{shifted_one}
use Rattle.cover.proofs.rows.entry_count.Goals as goal

pub returns : goal.returns
returns c =
    let n = c.args.inputs in
    let e = shifted_one 64 n (omega arith) in
    (e, rw e (pow_pos n), rw e (pow_mono {i = n} {j = 6} (omega arith)))
