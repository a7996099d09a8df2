use mathlib.Core.Path.{◌≡◌}
use lib.ListN.{length}
use Rattle.text.specs.Iterators.{lines_left, kept_left}
use Rattle.text.proofs.iterators.KeptLinesIterator.next.Given as goal

abbrev pub invariant-loop-line : goal.invariant-loop-line
invariant-loop-line l = (l.self.lines.text.now ≡ l.text) × (kept_left l.self ≡ kept_left l.initial.self)

abbrev pub decreases-loop-line : goal.decreases-loop-line
decreases-loop-line l = length (lines_left l.self.lines)
