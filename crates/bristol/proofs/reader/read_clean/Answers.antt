use Rattle.std.proofs.Common.{ℕ, sym, ap}
use mathlib.Core.Path.{◌∙◌}
use lib.ListN.{replicate}
use Rattle.bristol.proofs.ReadLaws.{read_leaves}
use Rattle.bristol.proofs.reader.read_clean.Goals as goal

pub returns-else-is_err : goal.returns-else-is_err
returns-else-is_err c =
    let read = c.read_body-read in
    let zero = c.fill.ensures.after (λ y q. q) ∙ ap (λ (k : ℕ). replicate k 0) read.auto.wires in
    read_leaves _ _ _ _ _ zero read.result _ _ read.ensures (sym c.is_err.ensures.value ∙ c.if-is_err.false) read.auto.nodes read.auto.outputs
