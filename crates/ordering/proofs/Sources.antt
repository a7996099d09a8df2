-- What the reads by their numbers tell of the graph.
-- Assumes nothing.
use Prim.Native.Nat.{ℕ, zero, suc, ◌+◌, ◌-◌, ◌*◌, ◌/◌, ◌≤◌, ◌<◌}
use mathlib.Core.Path.{◌≡◌, refl, sym, ap, ◌∙◌}
use mathlib.Core.Logic.{◌⊎◌, inl, inr}
use mathlib.Core.Bool.{Bool, true, false, not, cond, ◌&&◌, false≢true}
use mathlib.Core.List.{List, [], ◌∷◌}
use native.Mathlib.Omega.{arith}
use lib.Dec.{eqb, eqb-suc-zero}
use lib.ListN.{length}
use borrow.Author.Tests.{eqb-true, eqb-false}
use Rattle.std.specs.List.{filter}
use Rattle.std.proofs.lemmas.Bool.{false_from_ne_true}
use Rattle.laws.specs.Lists.{elem, keep, numbers}
use Rattle.laws.proofs.Tests.{clash}
use Rattle.laws.proofs.Lists.{elem_here, elem-later, elem-cons-split}
use Rattle.graphs.specs.Graph.{Vertex, is_cell, reads_of, waits, free, ready}
use Rattle.graphs.proofs.Graph.{waits-cell}
use Rattle.graphs.specs.declared.TheConstants.{READS}
use Rattle.ordering.specs.Areas.{word_passes, reading, passing, with_source, sources, Sourced}

in-filter : (p : ℕ → Bool) (xs : List ℕ) (x : ℕ) → elem x (filter p xs) ≡ true → p x ≡ true
in-filter p [] x h = absurd (false≢true h)
in-filter p (y ∷ ys) x h = go (p y) refl h (in-filter p ys x)
  where
    go : (t : Bool) → p y ≡ t → elem x (cond t (y ∷ filter p ys) (filter p ys)) ≡ true → (elem x (filter p ys) ≡ true → p x ≡ true) → p x ≡ true
    go true e m below = fork (elem-cons-split x y (filter p ys) m)
      where
        fork : (x ≡ y) ⊎ (elem x (filter p ys) ≡ true) → p x ≡ true
        fork (inl q) = ap p q ∙ e
        fork (inr q) = below q
    go false e m below = below m

in-sources : (src : ℕ → ℕ) (f n e x : ℕ) → f ≤ e → e < f + n → src e ≡ suc x → elem x (sources src f n) ≡ true
unfolding sources
in-sources src f zero e x a b h = absurd (omega arith)
in-sources src f (suc n) e x a b h = go (eqb e f) refl (λ l. in-sources src (suc f) n e x l (omega arith) h)
  where
    later : (k : ℕ) → elem x (sources src (suc f) n) ≡ true → elem x (with_source k (sources src (suc f) n)) ≡ true
    later zero m = m
    later (suc y) m = elem-later x y (sources src (suc f) n) m

    go : (t : Bool) → eqb e f ≡ t → (suc f ≤ e → elem x (sources src (suc f) n) ≡ true) → elem x (with_source (src f) (sources src (suc f) n)) ≡ true
    go true q below = rw (ap src (sym (eqb-true e f q)) ∙ h) (elem_here x x (sources src (suc f) n) refl)
    go false q below = let n = eqb-false e f q in later (src f) (below (omega arith))

module _ (src : ℕ → ℕ) (c : List Vertex) where
  -- what is no cell is never waited for
  free-cells : (taken rs : List ℕ) → free c taken rs ≡ free c taken (filter (is_cell c) rs)
  unfolding free
  free-cells taken [] = refl
  free-cells taken (r ∷ rs) = go (is_cell c r) refl (free-cells taken rs)
    where
      go : (t : Bool) → is_cell c r ≡ t → free c taken rs ≡ free c taken (filter (is_cell c) rs) → not (waits c taken r) && free c taken rs ≡ free c taken (cond t (r ∷ filter (is_cell c) rs) (filter (is_cell c) rs))
      go true e below = ap (λ (t : Bool). not (waits c taken r) && t) below
      go false e below = let w : waits c taken r ≡ false = false_from_ne_true (waits c taken r) (λ h. clash (waits-cell c taken r h) e) in rw w below

  free-sources : (taken : List ℕ) (e n : ℕ) → free c taken (sources src e n) ≡ eqb (length (numbers (reading src (waits c taken)) e n)) 0
  unfolding free sources reading numbers
  free-sources taken e zero = refl
  free-sources taken e (suc n) = go (src e) (free-sources taken (suc e) n)
    where
      side : (t : Bool) (ns : List ℕ) (u : Bool) → u ≡ eqb (length ns) 0 → not t && u ≡ eqb (length (keep t e ns)) 0
      side true ns u h = sym (eqb-suc-zero (length ns))
      side false ns u h = h

      go : (k : ℕ) → free c taken (sources src (suc e) n) ≡ eqb (length (numbers (reading src (waits c taken)) (suc e) n)) 0
          → free c taken (with_source k (sources src (suc e) n)) ≡ eqb (length (keep (word_passes (waits c taken) k) e (numbers (reading src (waits c taken)) (suc e) n))) 0
      go zero below = below
      go (suc x) below = side (waits c taken x) (numbers (reading src (waits c taken)) (suc e) n) (free c taken (sources src (suc e) n)) below

  module _ (s : Sourced src c) where
    -- a cell is ready when none of its reads waits
    pub counts : (taken : List ℕ) (q : ℕ) → q < length c → ready c taken q ≡ waits c taken q && eqb (passing (reading src (waits c taken)) q) 0
    unfolding ready passing
    counts taken q h = ap (λ (t : Bool). waits c taken q && t) (free-cells taken (reads_of c q) ∙ ap (free c taken) (sym (s.sources_are q h)) ∙ free-sources taken (READS * q + 1) READS)

    pub source : (e x : ℕ) → 1 ≤ e → e ≤ READS * length c → src e ≡ suc x → is_cell c x ≡ true
    source e x a b h =
        let q : (e - 1) / READS < length c = omega arith in
        in-filter (is_cell c) (reads_of c ((e - 1) / READS)) x (ap (elem x) (sym (s.sources_are ((e - 1) / READS) q)) ∙ in-sources src (READS * ((e - 1) / READS) + 1) READS e x (omega arith) (omega arith) h)
