-- The value of one node in the storage order, by what the node is.
-- Assumes nothing.
use Rattle.std.proofs.Common.{ℕ, suc, ◌+◌, ◌<◌, ◌≤◌, ◌≡◌, Bool, true, false, List, [], ◌∷◌, ◌++◌, length, get_or, take, drop, refl, sym, ap, ◌∙◌, subst, arith, zero-add, ltb, ltb-true, ltb-false, take-append-drop, drop-cons, length-take-le, Ok}
use lib.ListN.{get_or-eq_default}
use mathlib.Core.Bool.{false≢true}
use Rattle.laws.specs.Lists.{elem}
use Rattle.laws.proofs.Filling.{length_snoc, snoc_last}
use Rattle.circuit.specs.declared.records.BoolWire.{BoolWire}
use Rattle.circuit.specs.declared.records.BoolNode.{BoolNode}
use Rattle.circuit.specs.Records.{is_cell_node, wires_of, no_node}
use Rattle.circuit.specs.Check.{some_not_below, check_circuit}
use Rattle.circuit.specs.Graph.{nodes_read, graph_of}
use Rattle.circuit.proofs.Checks.{circuit-sound}
use Rattle.circuit.proofs.Circuits.{cell-at, length_graph, read_below}
use Rattle.graphs.proofs.Graph.{cell_below}
use Rattle.values.specs.Values.{answer_of, values_from, storage_values}
use Rattle.values.specs.Assignments.{input_count}
use Rattle.values.proofs.NodeValues.{values-append, values_stay, length-values}
use Rattle.values.proofs.Storage.{value_cell}
use Rattle.rewiring.specs.Rewiring.{nth_node, ReadBy}

module _ (ns : List BoolNode) (k : ℕ) where
  -- a cell is one of the nodes
  pub cell_inside : is_cell_node (nth_node ns k) ≡ true → k < length ns
  cell_inside c = omega (arith, length_graph ns, cell_below (graph_of ns) k (cell-at ns k ∙ c))

  -- each node of a circuit that the check accepts reads only earlier ones
  pub reads_earlier : (os : List BoolWire) → check_circuit ns os ≡ Ok tt → (j : ℕ) → ReadBy (wires_of (nth_node ns k)) j → j < k
  unfolding wires_of is_cell_node no_node nodes_read
  reads_earlier os checks j r = go (ltb k (length ns)) refl
    where
      go : (t : Bool) → ltb k (length ns) ≡ t → j < k
      go true e = read_below k j (wires_of (nth_node ns k)) ((circuit-sound ns os checks).nodes k (ltb-true k (length ns) e)).earlier r
      go false e = absurd (false≢true (ap (λ (n : BoolNode). elem j (nodes_read (wires_of n))) (sym (get_or-eq_default ns no_node (ltb-false k (length ns) e))) ∙ r))

  module _ (x : List ℕ) where
    -- a cell that reads only earlier nodes has its answer on all values
    pub cell_value : is_cell_node (nth_node ns k) ≡ true → some_not_below k (wires_of (nth_node ns k)) ≡ false
        → get_or (storage_values ns x) k 0 ≡ answer_of (storage_values ns x) (nth_node ns k)
    unfolding storage_values
    cell_value c e =
        ap (λ (i : ℕ). get_or (storage_values ns x) i 0) (sym (zero-add k))
        ∙ value_cell x ns 0 [] k (cell_inside c) c (subst (λ (i : ℕ). some_not_below i (wires_of (nth_node ns k)) ≡ false) (sym (zero-add k)) e)

    -- an input has its value of the assignment
    pub input_value : k < length ns → is_cell_node (nth_node ns k) ≡ false → get_or (storage_values ns x) k 0 ≡ get_or x (input_count (take k ns)) 0
    unfolding storage_values values_from
    input_value h c =
        let p = 0 + input_count (take k ns) in
        let V = values_from answer_of x 0 [] (take k ns) in
        let v = get_or x p 0 in
        let l : length V ≡ k = length-values answer_of x (take k ns) ∙ length-take-le k ns (omega (arith, h)) in
        let is : ns ≡ take k ns ++ nth_node ns k ∷ drop (suc k) ns = sym (take-append-drop k ns) ∙ ap (λ (r : List BoolNode). take k ns ++ r) (drop-cons ns k no_node h) in
        let next : values_from answer_of x 0 [] ns ≡ values_from answer_of x (suc p) (V ++ v ∷ []) (drop (suc k) ns) =
        ap (values_from answer_of x 0 []) is ∙ values-append answer_of x (take k ns) (nth_node ns k ∷ drop (suc k) ns) 0 [] ∙ rw c
        in
        ap (λ (W : List ℕ). get_or W k 0) next
        ∙ values_stay answer_of x (drop (suc k) ns) (suc p) (V ++ v ∷ []) k (omega (arith, l, length_snoc V v))
        ∙ ap (λ (i : ℕ). get_or (V ++ v ∷ []) i 0) (sym l)
        ∙ snoc_last V v
        ∙ ap (λ (i : ℕ). get_or x i 0) (zero-add (input_count (take k ns)))

    -- past the end there is no value
    pub no_value : length ns ≤ k → get_or (storage_values ns x) k 0 ≡ 0
    unfolding storage_values
    no_value h = get_or-eq_default (storage_values ns x) 0 (omega (arith, h, length-values answer_of x ns))
