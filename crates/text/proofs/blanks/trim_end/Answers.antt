use Rattle.std.proofs.Common.{rules}
use native.Mathlib.Numerals.{add-one}
use Rattle.text.proofs.BlankLaws.{trim_end_last, trim_end_none}
use Rattle.text.proofs.blanks.trim_end.Goals as goal

pub returns-in-Some : goal.returns-in-Some
returns-in-Some c = rw add-one (trim_end_last c.args.bytes.now c.in-Some.last (search rules) (search rules) (search rules))

pub returns-in-None : goal.returns-in-None
returns-in-None c = trim_end_none c.args.bytes.now (search rules)
