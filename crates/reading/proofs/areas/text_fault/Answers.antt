use Rattle.std.proofs.Common.{sym}
use borrow.Author.Tests.{le-leb, lt-leb}
use Rattle.std.proofs.lemmas.Result.{err_from_is_err_and}
use Rattle.reading.specs.Reading.{text_fault}
use Rattle.reading.proofs.areas.text_fault.Goals as goal

pub returns-in_err-bytes_fault : goal.returns-in_err-bytes_fault
unfolding text_fault
returns-in_err-bytes_fault c =
    let p = err_from_is_err_and c.from_residual.result c.from_residual.ensures.1 in
    rw (p.1, p.2, sym c.in_err-bytes_fault.ensures)

pub returns-then-joined-text : goal.returns-then-joined-text
unfolding text_fault
returns-then-joined-text c = rw (sym c.in_ok-bytes_fault.ensures, le-leb _ _ c.if-joined-text.true)

pub returns : goal.returns
unfolding text_fault
returns c = rw (sym c.in_ok-bytes_fault.ensures, lt-leb _ _ c.if-joined-text.false)
