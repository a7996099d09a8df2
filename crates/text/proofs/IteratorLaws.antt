-- Laws of the lines that iterators give: by their bytes, and what is kept of them.
-- Assumes nothing.
use Prim.Native.Nat.{ℕ, ◌+◌, ◌-◌, ◌≤◌}
use mathlib.Core.Path.{◌≡◌, ap}
use mathlib.Core.List.{List, [], ◌∷◌}
use lib.ListN.{length, drop}
use Rattle.std.proofs.lemmas.Iterator.{YieldsList}
use Rattle.std.proofs.lemmas.Iterator.Consumers.{YieldsList-from_shown}
use Rattle.laws.specs.Stretches.{stretch}
use Rattle.text.specs.Words.{bytes_of}
use Rattle.text.specs.Lines.{raw_lines, lines, kept}
use Rattle.text.specs.Iterators.{words_left, GivesWord, lines_left, kept_left}
use Rattle.text.specs.declared.words.Word.{Word}
use Rattle.text.specs.declared.words.Words.{Words}
use Rattle.text.specs.declared.lines.Lines.{Lines}
use Rattle.text.proofs.LineLaws.{raw_after, line_none, line_some, no_lines}

-- ---- an iterator gives the words, and the lines, that are left

pub words_given : (w : Words) → YieldsList GivesWord (λ x. x) w (words_left w)
words_given w = YieldsList-from_shown GivesWord (λ x. x) words_left (λ t u h. ap length h.first.0) (λ t x u h. h.first) w

-- ---- what is kept

same_after : (t a b : List ℕ) (at next : ℕ) (line : Word) → a ≡ t → b ≡ a → lines at (stretch a at (length a - at)) ≡ line ∷ lines next (stretch b next (length b - next))
    → raw_lines (drop at a) ≡ bytes_of t line ∷ raw_lines (drop next b)
same_after t a b at next line ea eb h = rw (eb, ea) (raw_after t at next line (rw (eb, ea) at h))

-- a line that an iterator gave, and what is kept of it
module _ (t : List ℕ) (old new : Lines) (line w : Word) (eo : old.text.now ≡ t) (en : new.text.now ≡ old.text.now) (h : lines_left old ≡ line ∷ lines_left new)
    (k : bytes_of t w ≡ kept (bytes_of t line)) (b : w.start + w.len ≤ length t) where
  raw : raw_lines (drop old.at old.text.now) ≡ bytes_of t line ∷ raw_lines (drop new.at new.text.now)
  raw = same_after t old.text.now new.text.now old.at new.at line eo en h

  pub kept_skipped : w.len ≡ 0 → kept_left (record { lines = old }) ≡ kept_left (record { lines = new })
  kept_skipped z = line_none t _ _ line w raw k b z

  pub kept_given : (w.len ≡ 0 → ⊥) → kept_left (record { lines = old }) ≡ bytes_of t w ∷ kept_left (record { lines = new })
  kept_given z = line_some t _ _ line w raw k b z

pub kept_over : (l : Lines) → lines_left l ≡ [] → kept_left (record { lines = l }) ≡ []
kept_over l e = no_lines l.text.now l.at e
