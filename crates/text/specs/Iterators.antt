-- What the iterators of a text have yet to give, and what each step gives.
-- Assumes nothing.
use Rattle.std.specs.Prelude.{ℕ, ◌+◌, ◌-◌, ◌≤◌, ◌<◌, ◌≡◌, List, length, drop, Option, IfSome}
use Rattle.std.specs.Iterator.{YieldsFirst}
use Rattle.laws.specs.Stretches.{stretch}
use Rattle.text.specs.Words.{words_between, IsWord}
use Rattle.text.specs.Lines.{raw_lines, lines, kept_of}
use Rattle.text.specs.declared.words.Word.{Word}
use Rattle.text.specs.declared.words.Words.{Words}
use Rattle.text.specs.declared.lines.Lines.{Lines}
use Rattle.text.specs.declared.lines.KeptLines.{KeptLines}

-- the words that an iterator has yet to give
abbrev pub words_left : Words → List Word
words_left w = words_between w.text.now w.at w.end

-- `next` took an iterator from old to new and gave the first of its words, from which the new one goes on
pub record GivesWord (old : Words) (item : Option Word) (new : Words) : Type 0 where
  pub first : YieldsFirst words_left old item new
  pub same_text : new.text.now ≡ old.text.now
  pub same_end : new.end ≡ old.end
  pub is_word : IfSome item (λ w. IsWord old.text.now old.at old.end w × (new.at ≡ w.start + w.len))

-- the lines that are still to come of a text: those from a place on
abbrev pub lines_left : Lines → List Word
lines_left l = lines l.at (stretch l.text.now l.at (length l.text.now - l.at))

-- `next` took an iterator from old to new and gave the first of its lines, from the end of which the new one goes on
pub record GivesLine (old : Lines) (item : Option Word) (new : Lines) : Type 0 where
  pub first : YieldsFirst lines_left old item new
  pub same_text : new.text.now ≡ old.text.now
  pub is_line : IfSome item (λ w. (w.start ≡ old.at) × (w.start < length old.text.now) × (w.start + w.len ≤ length old.text.now) × (new.at ≡ w.start + w.len + 1))

-- what is kept of the lines that are still to come
abbrev pub kept_left : KeptLines → List (List ℕ)
kept_left k = kept_of (raw_lines (drop k.lines.at k.lines.text.now))
