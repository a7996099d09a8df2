use mathlib.Core.Path.{ap, ◌∙◌}
use native.Mathlib.Omega.{arith}
use Rattle.text.specs.Words.{bytes_of}
use Rattle.text.proofs.BlankLaws.{trimmed_bytes}
use Rattle.text.proofs.LineLaws.{kept_made}
use Rattle.text.proofs.lines.kept_line.Goals as goal

pub returns : goal.returns
returns c =
    let made = c.trim.ensures.0 in
    let e = ap (bytes_of c.args.text.now) made ∙ trimmed_bytes c.args.text.now c.between.result in
    (kept_made c.args.text.now c.args.line c.skip_to_far-cut.result c.trim.result c.skip_to_far-cut.ensures.0 c.skip_to_far-cut.ensures.1 (rw c.between.ensures at e), omega (arith, c.trim.ensures.2, ap (λ w. w.start) c.between.ensures, ap (λ w. w.len) c.between.ensures))
