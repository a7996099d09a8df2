use Rattle.laws.proofs.Digits.{turned_on}
use Rattle.readyset.proofs.Clearing.{cleared}
use Rattle.readyset.proofs.with_bit.Goals as goal

pub returns-then-up : goal.returns-then-up
returns-then-up c = turned_on _ _ c.requires _ c.if-up.true

pub returns-else-up : goal.returns-else-up
returns-else-up c = cleared _ _ c.requires (c.ranges.word.fits) _ c.if-up.false
