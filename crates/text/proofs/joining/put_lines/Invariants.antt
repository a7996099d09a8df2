use Prim.Native.Nat.{◌≤◌}
use mathlib.Core.Path.{◌≡◌}
use mathlib.Core.Bool.{false}
use mathlib.Core.List.{◌++◌}
use lib.ListN.{length, take}
use Rattle.text.specs.Lines.{raw_lines, EarlierComment}
use Rattle.text.specs.Iterators.{lines_left}
use Rattle.text.specs.Writing.{written}
use Rattle.text.proofs.WriteLaws.{left}
use Rattle.text.proofs.joining.put_lines.Given as goal

abbrev pub invariant-loop-line : goal.invariant-loop-line
invariant-loop-line l =
    (goal.iterator-loop-line).can_next l.line-iterator
    × (goal.iterator-loop-line).is_finite l.line-iterator
    × (l.line-iterator.text.now ≡ l.text)
    × (length l.joined ≡ length l.initial.joined)
    × (l.put.out ≤ length l.joined)
    × (take l.put.out l.joined ++ left l.put.gathered l.text (lines_left l.line-iterator) ≡ written false (raw_lines l.text))
    × EarlierComment l.text l.line-iterator.at l.comment
