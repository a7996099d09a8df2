use mathlib.Core.Path.{refl, sym, ◌∙◌}
use native.Mathlib.Omega.{arith}
use Rattle.text.proofs.BlockLaws.{block_passed}
use Rattle.text.proofs.bytes.skip_blocks.Goals as goal

pub loop-i-init : goal.loop-i-init
loop-i-init c = (omega arith, refl)

pub returns-then-block_has : goal.returns-then-block_has
returns-then-block_has c = (c.loop-i.invariant.1, c.loop-i.invariant.0)

pub loop-i-preserved : goal.loop-i-preserved
loop-i-preserved c = (omega arith, block_passed c.args.text.now c.args.x c.loop-i.i c.args.end (omega arith) c.requires.1 (sym c.block_has.ensures ∙ c.if-block_has.false) ∙ c.loop-i.invariant.1)

pub returns : goal.returns
returns c = (c.loop-i.invariant.1, c.loop-i.invariant.0)
