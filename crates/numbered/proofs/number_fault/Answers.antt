use Rattle.numbered.proofs.Numbering.{too_many, too_large, too_short, number_fine}
use Rattle.numbered.proofs.number_fault.Goals as goal

pub returns-then-n-gt-MOST_NUMBERED : goal.returns-then-n-gt-MOST_NUMBERED
returns-then-n-gt-MOST_NUMBERED c = too_many c.args.n c.args.number c.args.size c.if-n-gt-MOST_NUMBERED.true

pub returns-then-number-n-ne0 : goal.returns-then-number-n-ne0
returns-then-number-n-ne0 c = too_large c.args.n c.args.number c.args.size c.if-n-gt-MOST_NUMBERED.false c.if-number-n-ne0.true

pub returns-then-size-n : goal.returns-then-size-n
returns-then-size-n c = too_short c.args.n c.args.number c.args.size c.if-n-gt-MOST_NUMBERED.false c.if-number-n-ne0.false c.if-size-n.true

pub returns : goal.returns
returns c = number_fine c.args.n c.args.number c.args.size c.if-n-gt-MOST_NUMBERED.false c.if-number-n-ne0.false c.if-size-n.false
