use Rattle.std.proofs.lemmas.Result.{err_from_is_err_and}
use Rattle.circuit.proofs.Codes.{length_nodes}
use Rattle.bristol.specs.Bristol.{store_cell}
use Rattle.bristol.proofs.store.store_cell.Goals as goal

pub returns-in_err-drive-clause-step : goal.returns-in_err-drive-clause-step
unfolding store_cell
returns-in_err-drive-clause-step c =
    let q = err_from_is_err_and c.from_residual-in_err-drive.result c.from_residual-in_err-drive.ensures.1 in
    rw (q.1, q.2, ← c.in_ok-count.ensures.step, length_nodes c.args.nodes.now c.args.next.0, ← c.in_err-drive.ensures.step)
