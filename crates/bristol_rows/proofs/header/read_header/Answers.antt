use mathlib.Core.Path.{refl}
use Rattle.std.proofs.lemmas.Result.{err_from_is_err_and}
use Rattle.text.specs.Iterators.{kept_left}
use Rattle.bristol_rows.proofs.HeaderLaws.{header_counts, header_is}
use Rattle.bristol_rows.proofs.header.read_header.Goals as goal

pub returns-in_err-counts : goal.returns-in_err-counts
returns-in_err-counts c =
    let p = err_from_is_err_and c.from_residual.result c.from_residual.ensures.1 in
    let given = c.in-Some-Some-Some in
    rw (p.1, p.2) (header_counts (kept_left c.args.lines.now) _ _ given.ensures.steps _ _ given.ensures'.steps _ _ given.ensures''.steps _ c.in_err-counts.ensures _ refl)

pub returns : goal.returns
returns c =
    let given = c.in-Some-Some-Some in
    header_is (kept_left c.args.lines.now) _ _ given.ensures.steps _ _ given.ensures'.steps _ _ given.ensures''.steps _ c.in_ok-counts.ensures c.in_ok-counts.counts refl c.read_groups.result c.read_groups.ensures
