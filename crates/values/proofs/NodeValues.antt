-- The values of nodes one after the other, by any rule of a cell's value: what stands at the end goes on from what is before it.
-- Assumes nothing.
use Prim.Native.Nat.{ℕ, suc, ◌+◌, ◌<◌}
use mathlib.Core.Path.{◌≡◌, refl, sym, ap, ◌∙◌}
use mathlib.Core.Bool.{Bool, true, false, cond}
use mathlib.Core.List.{List, [], ◌∷◌, ◌++◌}
use native.Mathlib.Nat.{add-zero, zero-add}
use native.Mathlib.Omega.{arith}
use lib.ListN.{length, get_or}
use Rattle.laws.proofs.Filling.{cond_both, length_snoc, snoc_below}
use Rattle.circuit.specs.declared.records.BoolNode.{BoolNode}
use Rattle.circuit.specs.Records.{is_cell_node}
use Rattle.values.specs.Values.{values_from}
use Rattle.values.specs.Assignments.{input_count}

-- the inputs of two lists of nodes
pub count_append : (ns ms : List BoolNode) → input_count (ns ++ ms) ≡ input_count ns + input_count ms
unfolding input_count
count_append [] ms = omega arith
count_append (n ∷ ns) ms = go (is_cell_node n) (count_append ns ms)
  where
    go : (t : Bool) → input_count (ns ++ ms) ≡ input_count ns + input_count ms → cond t (input_count (ns ++ ms)) (suc (input_count (ns ++ ms))) ≡ cond t (input_count ns) (suc (input_count ns)) + input_count ms
    go true e = e
    go false e = omega (arith, e)

module _ (rule : List ℕ → BoolNode → ℕ) (a : List ℕ) where
  -- the nodes at the end go on from the values of those before, and from their inputs
  pub values-append : (ns ms : List BoolNode) (p : ℕ) (vs : List ℕ) → values_from rule a p vs (ns ++ ms) ≡ values_from rule a (p + input_count ns) (values_from rule a p vs ns) ms
  unfolding values_from input_count
  values-append [] ms p vs = ap (λ (q : ℕ). values_from rule a q vs ms) (sym (add-zero p))
  values-append (n ∷ ns) ms p vs = go (is_cell_node n) _ _ (values-append ns ms p (vs ++ rule vs n ∷ [])) (values-append ns ms (suc p) (vs ++ get_or a p 0 ∷ []))
    where
      go : (t : Bool) (u v : List ℕ) {x y : List ℕ} → x ≡ values_from rule a (p + input_count ns) u ms → y ≡ values_from rule a (suc p + input_count ns) v ms
          → cond t x y ≡ values_from rule a (p + cond t (input_count ns) (suc (input_count ns))) (cond t u v) ms
      go true u v e f = e
      go false u v e f = let k : suc p + input_count ns ≡ p + suc (input_count ns) = omega arith in f ∙ ap (λ (q : ℕ). values_from rule a q v ms) k

  -- the value of a node that stands after others: an input's of the assignment from place p on, or a cell's
  abbrev pub next : ℕ → List ℕ → BoolNode → ℕ
  next p vs n = cond (is_cell_node n) (rule vs n) (get_or a p 0)

  pub values_snoc : (ns : List BoolNode) (n : BoolNode) → values_from rule a 0 [] (ns ++ n ∷ []) ≡ values_from rule a 0 [] ns ++ next (input_count ns) (values_from rule a 0 [] ns) n ∷ []
  unfolding values_from
  values_snoc ns n = values-append ns (n ∷ []) 0 [] ∙ rw (zero-add (input_count ns)) (go (is_cell_node n) (values_from rule a 0 [] ns))
    where
      go : (t : Bool) (vs : List ℕ) → cond t (vs ++ rule vs n ∷ []) (vs ++ get_or a (input_count ns) 0 ∷ []) ≡ vs ++ cond t (rule vs n) (get_or a (input_count ns) 0) ∷ []
      go true vs = refl
      go false vs = refl

  length_from : (ns : List BoolNode) (p : ℕ) (vs : List ℕ) → length (values_from rule a p vs ns) ≡ length vs + length ns
  unfolding values_from
  length_from [] p vs = sym (add-zero (length vs))
  length_from (n ∷ ns) p vs =
      cond_both (λ (l : List ℕ). length l ≡ length vs + suc (length ns)) (is_cell_node n) _ _
      (length_from ns p (vs ++ rule vs n ∷ []) ∙ omega (arith, length_snoc vs (rule vs n)))
      (length_from ns (suc p) (vs ++ get_or a p 0 ∷ []) ∙ omega (arith, length_snoc vs (get_or a p 0)))

  pub length-values : (ns : List BoolNode) → length (values_from rule a 0 [] ns) ≡ length ns
  length-values ns = length_from ns 0 [] ∙ zero-add (length ns)

  -- values that stand stay
  pub values_stay : (ns : List BoolNode) (p : ℕ) (vs : List ℕ) (k : ℕ) → k < length vs → get_or (values_from rule a p vs ns) k 0 ≡ get_or vs k 0
  unfolding values_from
  values_stay [] p vs k h = refl
  values_stay (n ∷ ns) p vs k h =
      cond_both (λ (l : List ℕ). get_or l k 0 ≡ get_or vs k 0) (is_cell_node n) _ _
      (values_stay ns p (vs ++ rule vs n ∷ []) k (omega (arith, length_snoc vs (rule vs n))) ∙ snoc_below vs (rule vs n) k h)
      (values_stay ns (suc p) (vs ++ get_or a p 0 ∷ []) k (omega (arith, length_snoc vs (get_or a p 0))) ∙ snoc_below vs (get_or a p 0) k h)
