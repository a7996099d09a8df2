-- A line with `.` first as the code reads it; the rows from a place on, and what each step of their iterator gives.
-- Assumes nothing.
use Rattle.std.specs.Prelude.{ℕ, ◌+◌, ◌-◌, ◌≤◌, ◌≡◌, true, false, List, length, take, Option, IfSome, MatchOption}
use Rattle.std.specs.Iterator.{YieldsFirstBy}
use Rattle.laws.specs.Stretches.{stretch}
use Rattle.text.specs.Iterators.{words_left}
use Rattle.text.specs.declared.words.Word.{Word}
use Rattle.text.specs.declared.words.Words.{Words}
use Rattle.cover.specs.declared.lines.Rows.{Rows}
use Rattle.text.specs.Lines.{lines, line_words}
use Rattle.cover.specs.declared.directives.Directive.{Directive}
use Rattle.cover.specs.Directives.{dotted, directive_of, rest_of, rows_of}

-- the rows of a text from a place on, by their words
abbrev pub rows_from : List ℕ → ℕ → List (List Word)
rows_from t at = rows_of t (lines at (stretch t at (length t - at)))

-- those that an iterator has yet to give
abbrev pub rows_left : Rows → List (List Word)
rows_left r = rows_from r.lines.text.now r.lines.at

-- the rows of an iterator are those of a text, or of a front of it
abbrev pub RowsOf : List ℕ → Rows → Type 0
RowsOf t r = r.lines.text.now ≡ take (length r.lines.text.now) t

-- `next` took an iterator from old to new and gave the words of the first of its rows
pub record GivesRow (old : Rows) (item : Option Words) (new : Rows) : Type 0 where
  pub first : YieldsFirstBy words_left rows_left old item new
  pub same_text : new.lines.text.now ≡ old.lines.text.now
  pub row_text : IfSome item (λ w. w.text.now ≡ old.lines.text.now)

-- a line with `.` first: its directive, and a stretch of the text that has the words after the first
pub record DirectiveWith (t : List ℕ) (l : Word) (d : Directive) (w : Word) : Type 0 where
  pub dot : dotted t l ≡ true
  pub directive : d ≡ directive_of t l
  pub rest : line_words t w ≡ rest_of (line_words t l)
  pub inside : w.start + w.len ≤ length t

-- what `directive_line` answers
abbrev pub DirectiveIs : List ℕ → Word → Option (Directive × Word) → Type 0
DirectiveIs t l r = MatchOption r (dotted t l ≡ false) (λ x. DirectiveWith t l x.0 x.1)
