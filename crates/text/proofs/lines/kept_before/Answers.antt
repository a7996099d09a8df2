use Prim.Native.Nat.{◌+◌}
use mathlib.Core.Path.{ap, ◌∙◌}
use native.Mathlib.Omega.{arith}
use Rattle.text.specs.Words.{bytes_of}
use Rattle.text.proofs.BlankLaws.{trimmed_bytes}
use Rattle.text.proofs.LineLaws.{kept_made, comment_in}
use Rattle.text.proofs.lines.kept_before.Goals as goal

pub returns : goal.returns
returns c =
    let end = c.args.line.start + c.args.line.len in
    let i = comment_in c.args.text.now c.args.line.start end c.args.comment c.min-cut.result (omega arith) c.requires.0 c.requires.1 c.min-cut.ensures in
    let e = ap (bytes_of c.args.text.now) c.trim.ensures.0 ∙ trimmed_bytes c.args.text.now c.between.result in
    (kept_made c.args.text.now c.args.line c.min-cut.result c.trim.result i (omega (arith, c.min-cut.ensures)) (rw c.between.ensures at e), omega (arith, c.min-cut.ensures, c.trim.ensures.2, ap (λ w. w.start) c.between.ensures, ap (λ w. w.len) c.between.ensures))
