use mathlib.Core.Path.{sym, ◌∙◌}
use borrow.Author.Tests.{lt-ltb, le-ltb}
use Rattle.reading.specs.Reading.{bytes_fault}
use Rattle.reading.proofs.areas.bytes_fault.Goals as goal

pub returns-then-text-gt-MOST_TEXT : goal.returns-then-text-gt-MOST_TEXT
unfolding bytes_fault
returns-then-text-gt-MOST_TEXT c = rw (lt-ltb _ _ c.if-text-gt-MOST_TEXT.true)

pub returns-then-not-is_ascii : goal.returns-then-not-is_ascii
unfolding bytes_fault
returns-then-not-is_ascii c = rw (le-ltb _ _ c.if-text-gt-MOST_TEXT.false, sym c.is_ascii.ensures ∙ c.if-not-is_ascii.true)

pub returns : goal.returns
unfolding bytes_fault
returns c = rw (le-ltb _ _ c.if-text-gt-MOST_TEXT.false, sym c.is_ascii.ensures ∙ c.if-not-is_ascii.false)
