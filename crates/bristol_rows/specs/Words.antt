-- The words of a line that an iterator has yet to give.
-- Assumes nothing.
use Rattle.std.specs.Prelude.{ℕ, List}
use Rattle.text.specs.Words.{split_whitespace}
use Rattle.bristol_rows.specs.declared.words.LineWords.{LineWords}

abbrev pub words_left : LineWords → List (List ℕ)
words_left l = split_whitespace l.rest.now
