-- One pass over a list, an entry at a time, and how many entries a fit list has.
-- Assumes nothing.
use Rattle.std.specs.Prelude.{Ok}
use mathlib.Core.Path.{◌≡◌, refl, sym, ap, ap₂, ◌∙◌, subst}
use mathlib.Core.List.{List, [], ◌∷◌, ◌++◌, append_assoc}
use mathlib.Core.Bool.{Bool, true, false, cond, ◌&&◌}
use Prim.Native.Nat.{ℕ, suc, ◌+◌, ◌-◌, ◌<◌, ◌≤◌}
use native.Mathlib.Nat.{zero-add}
use native.Mathlib.Numerals.{add-one}
use native.Mathlib.Omega.{arith}
use lib.Dec.{eqb}
use borrow.Author.Tests.{eq-eqb, ne_eqb}
use lib.ListN.{length, get_or, take, drop, drop_of_length-le, length-append}
use lib.Seq.{drop-cons}
use Rattle.laws.specs.Lists.{keep, numbers}
use Rattle.laws.proofs.Filling.{take_next}
use Rattle.circuit.specs.declared.records.BoolNode.{BoolNode}
use Rattle.circuit.specs.Records.{node_at, nodes_of, is_cell_node, no_node}
use Rattle.graphs.specs.Graph.{Vertex, is_cell, cells_of, fit, fit_list}
use Rattle.circuit.specs.Graph.{graph_of}
use Rattle.circuit.specs.Check.{check_nodes}
use Rattle.circuit.proofs.Codes.{node_of, length_nodes}
use Rattle.circuit.proofs.Checks.{Passed, nodes_passed}
use Rattle.circuit.proofs.Circuits.{cell-at, length_graph}
use Rattle.values.specs.Assignments.{input_count}
use Rattle.runs.specs.Fit.{ready_in, fit_in}

-- ---- accepted nodes

module _ (nodes : List ℕ) (count : ℕ) (ok : check_nodes count 0 (nodes_of nodes count) ≡ Ok tt) where
  pub accepted_at : (x : ℕ) → x < count → Passed count x (node_at nodes x)
  accepted_at x h =
      let p = nodes_passed count 0 (nodes_of nodes count) x ok (omega (arith, length_nodes nodes count)) in
      subst (λ (k : ℕ). Passed count k (node_at nodes x)) (zero-add x) (subst (λ (n : BoolNode). Passed count (0 + x) n) (node_of nodes count x h) p)

-- ---- one pass over a list

pub fit_turn : (p : ℕ → Bool) (c : List Vertex) (order : List ℕ) (i : ℕ) → i < length order
    → fit_in p c (take i order) (drop i order) ≡ ready_in p c (take i order) (get_or order i 0) && fit_in p c (take (i + 1) order) (drop (i + 1) order)
unfolding fit_in
fit_turn p c order i h =
    ap (fit_in p c (take i order)) (drop-cons order i 0 h)
    ∙ ap₂ (λ (t : List ℕ) (k : ℕ). ready_in p c (take i order) (get_or order i 0) && fit_in p c t (drop k order)) (take_next order i h) (sym (add-one i))

pub fit_end : (p : ℕ → Bool) (c : List Vertex) (order : List ℕ) (i : ℕ) → length order ≤ i → fit_in p c (take i order) (drop i order) ≡ true
unfolding fit_in
fit_end p c order i h = ap (fit_in p c (take i order)) (drop_of_length-le order h)

-- ---- how many entries

-- the number of cells
count_from : (pre ns : List BoolNode) → length (numbers (is_cell (graph_of (pre ++ ns))) (length pre) (length ns)) + input_count ns ≡ length ns
unfolding numbers input_count
count_from pre [] = omega arith
count_from pre (n ∷ ns) = go (is_cell_node n) refl (count_from (pre ++ n ∷ []) ns)
  where
    here : is_cell (graph_of (pre ++ n ∷ ns)) (length pre) ≡ is_cell_node n
    here = cell-at (pre ++ n ∷ ns) (length pre) ∙ ap is_cell_node (seam pre)
      where
        seam : (l : List BoolNode) → get_or (l ++ n ∷ ns) (length l) no_node ≡ n
        seam [] = refl
        seam (x ∷ l) = seam l

    next : length (numbers (is_cell (graph_of (pre ++ n ∷ [] ++ ns))) (length (pre ++ n ∷ [])) (length ns)) + input_count ns ≡ length ns → length (numbers (is_cell (graph_of (pre ++ n ∷ ns))) (suc (length pre)) (length ns)) + input_count ns ≡ length ns
    next e =
        let len : suc (length pre) ≡ length (pre ++ n ∷ []) = omega (arith, length-append pre (n ∷ [])) in
        ap₂ (λ (l : List BoolNode) (k : ℕ). length (numbers (is_cell (graph_of l)) k (length ns)) + input_count ns) (sym (append_assoc pre (n ∷ []) ns)) len ∙ e

    go : (b : Bool) → is_cell_node n ≡ b → length (numbers (is_cell (graph_of (pre ++ n ∷ [] ++ ns))) (length (pre ++ n ∷ [])) (length ns)) + input_count ns ≡ length ns
        → length (keep (is_cell (graph_of (pre ++ n ∷ ns)) (length pre)) (length pre) (numbers (is_cell (graph_of (pre ++ n ∷ ns))) (suc (length pre)) (length ns))) + cond (is_cell_node n) (input_count ns) (suc (input_count ns)) ≡ suc (length ns)
    go true q e = rw (here, q) (omega (arith, next e))
    go false q e = rw (here, q) (omega (arith, next e))

pub cells_inputs : (ns : List BoolNode) → length (cells_of (graph_of ns)) + input_count ns ≡ length ns
unfolding cells_of
cells_inputs ns = ap (λ (k : ℕ). length (numbers (is_cell (graph_of ns)) 0 k) + input_count ns) (length_graph ns) ∙ count_from [] ns

pub inputs-fit : (nodes : List ℕ) (count : ℕ) → length (cells_of (graph_of (nodes_of nodes count))) + input_count (nodes_of nodes count) ≡ count
inputs-fit nodes count = cells_inputs (nodes_of nodes count) ∙ length_nodes nodes count

module _ (nodes : List ℕ) (count n : ℕ) (order : List ℕ) (e : n ≡ input_count (nodes_of nodes count)) where
  pub list_fit : length order ≡ count - n → fit (graph_of (nodes_of nodes count)) [] order ≡ fit_list (graph_of (nodes_of nodes count)) order
  unfolding fit_list
  list_fit h =
      let q : length order ≡ length (cells_of (graph_of (nodes_of nodes count))) = omega (arith, inputs-fit nodes count, e) in
      last (fit (graph_of (nodes_of nodes count)) [] order) (eqb (length order) (length (cells_of (graph_of (nodes_of nodes count))))) (eq-eqb (length order) (length (cells_of (graph_of (nodes_of nodes count)))) q)
    where
      last : (a b : Bool) → b ≡ true → a ≡ a && b
      last true b q = sym q
      last false b q = refl

  pub list_unfit : (length order ≡ count - n → ⊥) → false ≡ fit_list (graph_of (nodes_of nodes count)) order
  unfolding fit_list
  list_unfit h =
      none (fit (graph_of (nodes_of nodes count)) [] order) (eqb (length order) (length (cells_of (graph_of (nodes_of nodes count)))))
      (ne_eqb (length order) (length (cells_of (graph_of (nodes_of nodes count)))) (λ q. h (omega (arith, inputs-fit nodes count, e, q))))
    where
      none : (a b : Bool) → b ≡ false → false ≡ a && b
      none true b q = sym q
      none false b q = refl
