use mathlib.Core.Path.{◌≡◌}
use Rattle.cover.specs.Cover.{set_rows}
use Rattle.cover.specs.Rows.{rows_left}
use Rattle.cover.proofs.rows.set_rows.Given as goal

abbrev pub invariant-loop-words : goal.invariant-loop-words
invariant-loop-words l =
    (goal.iterator-loop-words).can_next l.words-iterator
    × (goal.iterator-loop-words).is_finite l.words-iterator
    × (l.words-iterator.lines.text.now ≡ l.text)
    × (set_rows l.text l.inputs (rows_left l.words-iterator) l.t ≡ set_rows l.text l.inputs (rows_left l.fn.rows) l.table)
