-- The inputs of a circuit, counted a node at a time, and an assignment to them.
-- Assumes nothing.
use mathlib.Core.Path.{◌≡◌, refl, ap, ◌∙◌}
use mathlib.Core.List.{List, [], ◌∷◌}
use mathlib.Core.Bool.{Bool, true, false, cond, not}
use Prim.Native.Nat.{ℕ, zero, suc, ◌+◌, ◌-◌, ◌<◌, ◌≤◌}
use native.Mathlib.Numerals.{unary_clauses}
use native.Mathlib.Omega.{arith}
use lib.Dec.{eqb, ltb}
use borrow.Author.Tests.{eqb-true, eq-eqb, ne_eqb, ltb-false, not-false}
use lib.ListN.{length, get_or}
use Rattle.std.specs.List.{filter, range_with_len}
use Rattle.std.proofs.lemmas.Bool.{or_parts}
use Rattle.laws.specs.Areas.{up_from}
use Rattle.laws.specs.Lists.{some}
use Rattle.laws.proofs.Areas.{up_start, up_more, up_none}
use Rattle.circuit.specs.declared.records.BoolNode.{BoolNode}
use Rattle.circuit.specs.Records.{node_at, nodes_of, is_cell_node}
use Rattle.values.specs.Assignments.{input_count, wrong_assignment}
use Rattle.values.specs.Inner.{TwoValued}

-- ---- the inputs from a node on

module _ (nodes : List ℕ) (count : ℕ) where
  -- the nodes from k on
  abbrev pub from : ℕ → List BoolNode
  from k = up_from (node_at nodes) k (count - k)

  pub from_start : nodes_of nodes count ≡ from 0
  from_start = up_start (node_at nodes) count

  pub from_end : (k : ℕ) → count ≤ k → from k ≡ []
  from_end k h = up_none (node_at nodes) k count h

  pub count_turn : (k : ℕ) → k < count → input_count (from k) ≡ cond (is_cell_node (node_at nodes k)) 0 1 + input_count (from (k + 1))
  unfolding input_count
  count_turn k h = ap input_count (up_more (node_at nodes) k count h) ∙ go (is_cell_node (node_at nodes k))
    where
      go : (b : Bool) → cond b (input_count (from (k + 1))) (suc (input_count (from (k + 1)))) ≡ cond b 0 1 + input_count (from (k + 1))
      go true = omega arith
      go false = omega arith

pub cond_small : (b : Bool) → cond b 0 1 ≤ 1
cond_small true = omega arith
cond_small false = omega arith

pub counted_inputs : (f : ℕ → BoolNode) (i n : ℕ) → length (filter (λ k. not (is_cell_node (f k))) (range_with_len i n)) ≡ input_count (up_from f i n)
unfolding input_count
counted_inputs f i zero = refl
counted_inputs f i (suc n) = simp unary_clauses (go (is_cell_node (f i)) (filter (λ k. not (is_cell_node (f k))) (range_with_len (suc i) n)) (input_count (up_from f (suc i) n)) (counted_inputs f (suc i) n))
  where
    go : (t : Bool) (l : List ℕ) (m : ℕ) → length l ≡ m → length (cond (not t) (i ∷ l) l) ≡ cond t m (suc m)
    go true l m e = e
    go false l m e = ap suc e

-- ---- an assignment

module _ (top : ℕ) (ns : List BoolNode) (assignment : List ℕ) where
  pub right_length : length assignment ≡ input_count ns → some (ltb top) assignment ≡ wrong_assignment top ns assignment
  unfolding wrong_assignment
  right_length e = rw (eq-eqb (length assignment) (input_count ns) e)

  pub wrong_length : (length assignment ≡ input_count ns → ⊥) → true ≡ wrong_assignment top ns assignment
  unfolding wrong_assignment
  wrong_length e = rw (ne_eqb (length assignment) (input_count ns) e)

  pub assigned : wrong_assignment top ns assignment ≡ false → (length assignment ≡ input_count ns) × (some (ltb top) assignment ≡ false)
  unfolding wrong_assignment
  assigned e =
      let g = or_parts (not (eqb (length assignment) (input_count ns))) (some (ltb top) assignment) e in
      (eqb-true (length assignment) (input_count ns) (not-false (eqb (length assignment) (input_count ns)) g.0), g.1)

pub two_valued : (assignment : List ℕ) → some (ltb 1) assignment ≡ false → TwoValued assignment
two_valued [] e = tt
two_valued (v ∷ vs) e =
    let g = or_parts (ltb 1 v) (some (ltb 1) vs) e in
    (omega (arith, ltb-false 1 v g.0), two_valued vs g.1)

pub known_at : (values : List ℕ) → TwoValued values → (i : ℕ) → get_or values i 0 < 2
known_at [] h i = omega arith
known_at (v ∷ vs) h zero = h.0
known_at (v ∷ vs) h (suc i) = known_at vs h.1 i

pub assigned_bits : (assignment : List ℕ) → some (ltb 1) assignment ≡ false → (i : ℕ) → get_or assignment i 0 < 2
assigned_bits assignment e = known_at assignment (two_valued assignment e)
