use Rattle.std.proofs.Common.{◌≡◌, Some, ◌+◌, ◌≤◌, length}
use Rattle.text.specs.Numbers.{parse_each}
use Rattle.bristol_rows.specs.Words.{words_left}
use Rattle.bristol_rows.specs.Promises.{widths_of}
use Rattle.bristol_rows.proofs.header.read_widths.Given as goal

abbrev pub invariant-loop-word : goal.invariant-loop-word
invariant-loop-word l =
    (goal.iterator-loop-word).can_next l.word-iterator
    × (goal.iterator-loop-word).is_finite l.word-iterator
    × (l.count + length (words_left l.word-iterator) ≤ length l.words.rest.now)
    × (widths_of l.limit l.count l.sum (parse_each (words_left l.word-iterator)) ≡ widths_of l.limit 0 (Some 0) (parse_each (words_left l.words)))
