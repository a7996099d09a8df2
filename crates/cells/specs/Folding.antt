-- The least and the greatest entry that the fillings of some values pick, and a table folded by one value. Of the crate's own proofs: no promise of a cell's
-- answer speaks of it.
-- Assumes nothing.
use Rattle.std.specs.Prelude.{List, [], ◌∷◌, ◌≡◌, ℕ, zero, suc, ◌+◌, ◌*◌, ◌^◌, min, max, length}
use Rattle.cells.specs.Cells.{entry}

-- The least; k is what the values before gave.
unfoldable pub least : ℕ → ℕ → List ℕ → ℕ
least t k [] = entry t k
least t k (zero ∷ vs) = least t (2 * k) vs
least t k (suc zero ∷ vs) = least t (2 * k + 1) vs
least t k (suc (suc u) ∷ vs) = min (least t (2 * k) vs) (least t (2 * k + 1) vs)

-- The greatest.
unfoldable pub most : ℕ → ℕ → List ℕ → ℕ
most t k [] = entry t k
most t k (zero ∷ vs) = most t (2 * k) vs
most t k (suc zero ∷ vs) = most t (2 * k + 1) vs
most t k (suc (suc u) ∷ vs) = max (most t (2 * k) vs) (most t (2 * k + 1) vs)

-- Folding two tables by a value, each half of so many entries, keeps both for whatever values follow.
pub record Narrows (all some value half after_all after_some : ℕ) : Type 0 where
  pub least_kept : (vs : List ℕ) → half ≡ 2 ^ length vs → least after_all 0 vs ≡ least all 0 (value ∷ vs)
  pub most_kept : (vs : List ℕ) → half ≡ 2 ^ length vs → most after_some 0 vs ≡ most some 0 (value ∷ vs)
