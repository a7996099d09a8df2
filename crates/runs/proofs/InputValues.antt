-- The inputs in a store: each has the storage order's value.
-- Assumes nothing.
use mathlib.Core.Path.{◌≡◌, refl, sym, ap, ap₂, ◌∙◌, subst}
use mathlib.Core.List.{List, [], ◌∷◌, ◌++◌}
use mathlib.Core.Bool.{Bool, false, cond}
use Prim.Native.Nat.{ℕ, zero, suc, ◌+◌, ◌<◌, ◌≤◌}
use native.Mathlib.Nat.{add-zero}
use native.Mathlib.Omega.{arith}
use lib.ListN.{length, get_or, set, length-set}
use lib.Seq.{get_or-set_same, get_or-set_other}
use Rattle.laws.proofs.Filling.{cond_both, cond_pair, length_snoc, snoc_last}
use Rattle.circuit.specs.declared.records.BoolNode.{BoolNode}
use Rattle.circuit.specs.Records.{is_cell_node, no_node}
use Rattle.values.specs.Values.{answer_of, values_from}
use Rattle.values.proofs.NodeValues.{values_stay}
use Rattle.runs.specs.Runs.{put_in}

module _ (a : List ℕ) where
  -- the inputs in a store
  pub length_put : (ns : List BoolNode) (p k : ℕ) (s : List ℕ) → length (put_in a p k s ns) ≡ length s
  unfolding put_in
  length_put [] p k s = refl
  length_put (n ∷ ns) p k s =
      cond_both (λ (l : List ℕ). length l ≡ length s) (is_cell_node n) _ _ (length_put ns p (suc k) s) (length_put ns (suc p) (suc k) (set s k (get_or a p 0)) ∙ length-set s k (get_or a p 0))

  pub put_stay : (ns : List BoolNode) (p k : ℕ) (s : List ℕ) (i : ℕ) → i < k → get_or (put_in a p k s ns) i 0 ≡ get_or s i 0
  unfolding put_in
  put_stay [] p k s i h = refl
  put_stay (n ∷ ns) p k s i h =
      cond_both (λ (l : List ℕ). get_or l i 0 ≡ get_or s i 0) (is_cell_node n) _ _ (put_stay ns p (suc k) s i (omega arith))
      (put_stay ns (suc p) (suc k) (set s k (get_or a p 0)) i (omega arith) ∙ get_or-set_other s k i (get_or a p 0) 0 (omega arith))

  pub value_input : (ns : List BoolNode) (p : ℕ) (vs s : List ℕ) (k j : ℕ) → k ≡ length vs → k + length ns ≤ length s → j < length ns → is_cell_node (get_or ns j no_node) ≡ false
      → get_or (put_in a p k s ns) (k + j) 0 ≡ get_or (values_from answer_of a p vs ns) (k + j) 0
  unfolding put_in values_from
  value_input [] p vs s k j q l h c = absurd (omega arith)
  value_input (n ∷ ns) p vs s k zero q l h c =
      let x = get_or a p 0 in
      let S = put_in a (suc p) (suc k) (set s k x) ns in
      let U = values_from answer_of a (suc p) (vs ++ x ∷ []) ns in
      let u : put_in a p k s (n ∷ ns) ≡ S = ap (λ (t : Bool). cond t (put_in a p (suc k) s ns) S) c in
      let w : values_from answer_of a p vs (n ∷ ns) ≡ U = ap (λ (t : Bool). cond t (values_from answer_of a p (vs ++ answer_of vs n ∷ []) ns) U) c in
      let at : k + 0 ≡ k = add-zero k in
      let left : get_or S k 0 ≡ x = put_stay ns (suc p) (suc k) (set s k x) k (omega arith) ∙ get_or-set_same s k x 0 (omega arith) in
      let right : get_or U k 0 ≡ x = ap (λ (i : ℕ). get_or U i 0) q ∙ values_stay answer_of a ns (suc p) (vs ++ x ∷ []) (length vs) (omega (arith, length_snoc vs x)) ∙ snoc_last vs x in
      ap₂ (λ (W : List ℕ) (i : ℕ). get_or W i 0) u at ∙ left ∙ sym right ∙ sym (ap₂ (λ (W : List ℕ) (i : ℕ). get_or W i 0) w at)
  value_input (n ∷ ns) p vs s k (suc j) q l h c =
      let x = get_or a p 0 in
      cond_pair (λ (X Y : List ℕ). get_or X (k + suc j) 0 ≡ get_or Y (k + suc j) 0) (is_cell_node n) _ _ _ _
      (more (put_in a p (suc k) s ns) (values_from answer_of a p (vs ++ answer_of vs n ∷ []) ns) (value_input ns p (vs ++ answer_of vs n ∷ []) s (suc k) j (omega (arith, length_snoc vs (answer_of vs n))) (omega arith) (omega arith) c))
      (more (put_in a (suc p) (suc k) (set s k x) ns) (values_from answer_of a (suc p) (vs ++ x ∷ []) ns) (value_input ns (suc p) (vs ++ x ∷ []) (set s k x) (suc k) j (omega (arith, length_snoc vs x)) (omega (arith, length-set s k x)) (omega arith) c))
    where
      more : (X Y : List ℕ) → get_or X (suc k + j) 0 ≡ get_or Y (suc k + j) 0 → get_or X (k + suc j) 0 ≡ get_or Y (k + suc j) 0
      more X Y e = subst (λ (i : ℕ). get_or X i 0 ≡ get_or Y i 0) (omega arith) e
