use mathlib.Core.Path.{◌≡◌, ap, ◌∙◌}
use Prim.Native.Nat.{ℕ, ◌+◌, ◌-◌}
use Rattle.std.proofs.Common.{arith, take, drop}
use Rattle.laws.specs.Lists.{some}
use Rattle.laws.specs.Stretches.{stretch}
use Rattle.text.specs.Bytes.{is_byte}
use Rattle.text.proofs.BlockLaws.{some_any}
use Rattle.text.proofs.bytes.block_has.Goals as goal

pub returns : goal.returns
unfolding stretch
returns c =
    let size : c.args.at + 32 - c.args.at ≡ 32 = omega arith in
    c.contains.ensures.value ∙ some_any (is_byte c.args.x) _ ∙ ap (λ (n : ℕ). some (is_byte c.args.x) (take n (drop c.args.at c.args.text.now))) size
