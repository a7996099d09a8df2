-- Laws of the rows among lines.
-- Assumes nothing.
use Prim.Native.Nat.{ℕ, ◌+◌, ◌-◌, ◌≤◌, ◌<◌}
use mathlib.Core.Path.{◌≡◌}
use mathlib.Core.List.{List, [], ◌∷◌}
use lib.ListN.{length, get_or}
use borrow.Author.Tests.{eq-eqb, ne_eqb}
use Rattle.laws.specs.Stretches.{stretch, run, is_not}
use Rattle.text.specs.Words.{words}
use Rattle.text.specs.Lines.{lines}
use Rattle.text.proofs.LineLaws.{line_next, lines_over}
use Rattle.cover.specs.Directives.{rows_of}

-- the rows from a place on
module _ (t : List ℕ) (at size e : ℕ) (h : at < size) (k : size ≤ length t) (le : e ≡ at + run (is_not 10) (stretch t at (size - at))) where
  pub rows_next : (get_or t at 0 ≡ 46 → ⊥)
      → rows_of t (lines at (stretch t at (size - at))) ≡ words at (stretch t at (e - at)) ∷ rows_of t (lines (e + 1) (stretch t (e + 1) (size - (e + 1))))
  unfolding rows_of
  rows_next nd = rw (line_next t at size e h k le, ne_eqb _ _ nd)

  pub rows_dot : get_or t at 0 ≡ 46 → rows_of t (lines at (stretch t at (size - at))) ≡ []
  unfolding rows_of
  rows_dot d = rw (line_next t at size e h k le, eq-eqb _ _ d)

pub rows_end : (t : List ℕ) (at size : ℕ) → size ≤ at → rows_of t (lines at (stretch t at (size - at))) ≡ []
unfolding rows_of
rows_end t at size h = rw (lines_over t at size h)
