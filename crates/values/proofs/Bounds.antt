-- How large values may be: those of an assignment, and the answer of a cell.
-- Assumes nothing.
use mathlib.Core.Path.{◌≡◌, refl}
use mathlib.Core.List.{List, [], ◌∷◌, map}
use mathlib.Core.Bool.{false}
use Prim.Native.Nat.{ℕ, zero, suc, ◌≤◌, ◌<◌}
use native.Mathlib.Omega.{arith}
use lib.Dec.{eqb, ltb}
use borrow.Author.Tests.{ltb-false, le-ltb}
use lib.ListN.{get_or}
use Rattle.std.proofs.lemmas.Bool.{or_parts}
use Rattle.laws.specs.Lists.{some}
use Rattle.laws.proofs.Filling.{cond_both}
use Rattle.circuit.specs.declared.records.BoolNode.{BoolNode}
use Rattle.circuit.specs.Records.{wires_of}
use Rattle.cells.specs.Cells.{entry, fillings, agreed}
use Rattle.cells.proofs.Rule.{entry-bit}
use Rattle.values.specs.Values.{signal_value, answer_of}

-- where no value is above the top, none at any place is
pub assigned_below : (top : ℕ) (assignment : List ℕ) → some (ltb top) assignment ≡ false → (i : ℕ) → get_or assignment i 0 ≤ top
assigned_below top [] e i = omega arith
assigned_below top (v ∷ vs) e zero = ltb-false top v (or_parts (ltb top v) (some (ltb top) vs) e).0
assigned_below top (v ∷ vs) e (suc i) = assigned_below top vs (or_parts (ltb top v) (some (ltb top) vs) e).1 i

-- an assignment that `evaluate` takes is one that a run takes
pub bits_below : (assignment : List ℕ) → some (ltb 1) assignment ≡ false → some (ltb 2) assignment ≡ false
bits_below [] e = refl
bits_below (v ∷ vs) e =
    let g = or_parts (ltb 1 v) (some (ltb 1) vs) e in
    rw (le-ltb 2 v (omega (arith, ltb-false 1 v g.0))) (bits_below vs g.1)

agreed_small : (t : ℕ) (is : List ℕ) → agreed (map (entry t) is) < 3
agreed_small t [] = omega arith
agreed_small t (i ∷ []) = omega (arith, entry-bit t i)
agreed_small t (i ∷ j ∷ is) = cond_both (λ (v : ℕ). v < 3) (eqb (entry t i) (agreed (map (entry t) (j ∷ is)))) (entry t i) 2 (omega (arith, entry-bit t i)) (omega arith)

-- a cell's answer is 0, 1 or 2, whatever the store holds
pub answer_small : (s : List ℕ) (n : BoolNode) → answer_of s n < 3
unfolding answer_of
answer_small s n = agreed_small n.table (fillings 0 (map (signal_value s) (wires_of n)))
