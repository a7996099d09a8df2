-- A graph that is given by its reads has those reads.
-- Assumes nothing.
use Prim.Native.Nat.{ℕ, zero, suc, ◌+◌, ◌-◌, ◌*◌, ◌/◌, ◌≤◌, ◌<◌}
use mathlib.Core.Path.{◌≡◌, refl, sym, ap, ◌∙◌}
use mathlib.Core.Bool.{true}
use mathlib.Core.List.{List, ◌∷◌}
use native.Mathlib.Omega.{arith}
use native.Mathlib.Nat.{zero-add}
use lib.ListN.{length, get_or}
use Rattle.std.specs.List.{filter}
use Rattle.std.proofs.lemmas.List.FromFn.{length-map-range_with_len, get_or-map-range_with_len}
use Rattle.graphs.specs.Graph.{Vertex, outside, is_cell, reads_of}
use Rattle.graphs.specs.declared.TheConstants.{READS}
use Rattle.ordering.specs.Areas.{with_source, sources, Sourced}
use Rattle.ordering.specs.Given.{cell_by, given}

module _ (src : ℕ → ℕ) (n : ℕ) where
  pub given-length : length (given src n) ≡ n
  unfolding given
  given-length = length-map-range_with_len (cell_by src) 0 n

  at : (k : ℕ) → k < n → get_or (given src n) k outside ≡ cell_by src k
  unfolding given
  at k h = get_or-map-range_with_len (cell_by src) 0 n k k outside h (zero-add k)

  pub given-cell : (k : ℕ) → k < n → is_cell (given src n) k ≡ true
  unfolding is_cell
  given-cell k h = ap (λ (v : Vertex). v.cell) (at k h)

  pub given-reads : (k : ℕ) → k < n → reads_of (given src n) k ≡ sources src (READS * k + 1) READS
  unfolding reads_of
  given-reads k h = ap (λ (v : Vertex). v.reads) (at k h)

  -- no read reads past the cells
  module _ (inside : (e : ℕ) → 1 ≤ e → e ≤ READS * n → src e ≤ n) where
    all-cells : (f m : ℕ) → 1 ≤ f → f + m ≤ READS * n + 1 → sources src f m ≡ filter (is_cell (given src n)) (sources src f m)
    unfolding sources
    all-cells f zero a b = refl
    all-cells f (suc m) a b = go (src f) (inside f a (omega arith)) (all-cells (suc f) m (omega arith) (omega arith))
      where
        go : (k : ℕ) → k ≤ n → sources src (suc f) m ≡ filter (is_cell (given src n)) (sources src (suc f) m) → with_source k (sources src (suc f) m) ≡ filter (is_cell (given src n)) (with_source k (sources src (suc f) m))
        go zero h below = below
        go (suc x) h below = let l : x < n = omega arith in rw (given-cell x l) (ap (λ (xs : List ℕ). x ∷ xs) below)

    pub given-sourced : Sourced src (given src n)
    given-sourced =
        record {
          reader = λ e x a b h. given-cell ((e - 1) / READS) (omega (arith, given-length));
          sources_are = λ q h. all-cells (READS * q + 1) READS (omega arith) (omega (arith, given-length)) ∙ ap (filter (is_cell (given src n))) (sym (given-reads q (omega (arith, given-length))));
        }
