use mathlib.Core.Path.{◌≡◌, ap, ◌∙◌}
use Prim.Native.Nat.{ℕ, max}
use lib.Dec.{ltb}
use Rattle.std.proofs.Common.{rules}
use Rattle.std.specs.List.{fold}
use Rattle.text.specs.declared.bytes.TheConstants.{ASCII_END}
use Rattle.text.proofs.ByteLaws.{ascii_fold}
use Rattle.text.proofs.bytes.is_ascii.Goals as goal

pub returns : goal.returns
returns c =
    let greatest : c.fold.result ≡ fold max 0 c.args.text.now = search rules in
    ap (λ (high : ℕ). ltb high ASCII_END) (c.from.ensures ∙ greatest) ∙ ascii_fold 0 c.args.text.now
