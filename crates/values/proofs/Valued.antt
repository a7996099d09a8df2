-- The values of all nodes without unknowns, a node at a time.
-- Assumes nothing.
use Rattle.std.specs.Prelude.{Err, Ok}
use Rattle.std.proofs.Common.{ℕ, suc, ◌+◌, ◌<◌, ◌≤◌, ◌≡◌, Bool, true, false, cond, List, [], ◌∷◌, ◌++◌, length, take, drop, get_or, set, refl, sym, ap, ap₂, ◌∙◌, subst, arith, add-one, add-zero, length-set}
use Rattle.std.proofs.Math.Seq.{take-suc-set}
use Rattle.std.proofs.lemmas.List.{drop-set-lt, drop-drop, take-append-drop}
use Rattle.laws.proofs.Areas.{up_more}
use Rattle.laws.proofs.Filling.{cond_both}
use Rattle.laws.proofs.Stretches.{all_append}
use Rattle.circuit.specs.declared.records.BoolNode.{BoolNode}
use Rattle.circuit.specs.declared.refusals.Refusal.{Refusal}
use Rattle.circuit.specs.Refusals.{Try, Checked, check_then}
use Rattle.circuit.specs.Records.{node_at, nodes_of, is_cell_node}
use Rattle.circuit.specs.Check.{check_node, check_nodes}
use Rattle.circuit.proofs.Checks.{rest, scan_start, scan_end, scan_fault, scan_passed}
use Rattle.circuit.proofs.Tries.{check_yes, yes_same}
use Rattle.values.specs.Values.{entry_of, values_from}
use Rattle.values.specs.Assignments.{input_count}
use Rattle.values.specs.Inner.{TwoValued, value_of, value_or_fault, inputs_or_fault, with_values}
use Rattle.values.proofs.Inputs.{from, from_start, from_end, count_turn, cond_small, known_at}
use Rattle.values.proofs.Storage.{entry_small}
use Rattle.values.proofs.Calls.{check_no}

value_small : (given before : List ℕ) (p : ℕ) (n : BoolNode) → TwoValued given → value_of entry_of given p before n < 2
value_small given before p n h = cond_both (λ (v : ℕ). v < 2) (is_cell_node n) _ _ (entry_small before n) (known_at given h p)

module _ (a : List ℕ) (m : ℕ) where
  -- k nodes are sound and have their values, p of them inputs
  pub record Valued (given old : List ℕ) (k p : ℕ) (values : List ℕ) : Type 0 where
    pub inside : k ≤ m
    pub same : length values ≡ length old
    pub whole : values_from entry_of given p (take k values) (from a m k) ≡ values_from entry_of given 0 [] (nodes_of a m)
    pub rest_kept : drop k values ≡ drop k old
    pub known : TwoValued (take k values)
    pub few : p ≤ k
    pub counted : p + input_count (from a m k) ≡ input_count (nodes_of a m)
    pub checked : check_nodes m 0 (nodes_of a m) ≡ rest a m k

  pub valued_start : (given old : List ℕ) → Valued given old 0 0 old
  valued_start given old =
      record {
        inside = omega arith;
        same = refl;
        whole = sym (ap (values_from entry_of given 0 []) (from_start a m));
        rest_kept = refl;
        known = tt;
        few = omega arith;
        counted = let z : input_count (nodes_of a m) ≡ input_count (from a m 0) = ap input_count (from_start a m) in omega (arith, z);
        checked = scan_start a m;
      }

  module _ (given old : List ℕ) (k p : ℕ) (values : List ℕ) (s : Valued given old k p values) where
    module _ (h : k < m) where
      -- a fault of it is the first
      pub valued_fault : (r : Refusal) → ◌≡◌ {A = Try ℕ} (Err r) (value_or_fault a m k given p (take k values)) → ◌≡◌ {A = Try ℕ} (Err r) (inputs_or_fault a m)
      valued_fault r q =
          sym (ap (λ (f : Checked). check_then f (Ok (input_count (nodes_of a m)))) (s.checked ∙ scan_fault a m k h (node_at a k) refl r (check_no _ _ r q)))

      pub valued_next : m ≤ length old → TwoValued given → (v : ℕ) → ◌≡◌ {A = Try ℕ} (Ok v) (value_or_fault a m k given p (take k values)) → (r : ℕ) → r ≡ cond (is_cell_node (node_at a k)) 0 1
          → Valued given old (k + 1) (p + r) (set values k v)
      unfolding values_from
      valued_next room bits v q r c =
          let y = check_yes (check_node m k (node_at a k)) (Ok (value_of entry_of given p (take k values) (node_at a k))) v (sym q) in
          let f : v ≡ value_of entry_of given p (take k values) (node_at a k) = sym (yes_same y.1) in
          let small : v < 2 = subst (λ (x : ℕ). x < 2) (sym f) (value_small given (take k values) p (node_at a k) bits) in
          let inside : k < length values = omega (arith, s.same) in
          let front : take (k + 1) (set values k v) ≡ take k values ++ v ∷ [] = rw add-one (take-suc-set values k v inside) in
          record {
            inside = omega arith;
            same = length-set values k v ∙ s.same;
            whole =
                ap₂ (λ (x : ℕ) (l : List ℕ). values_from entry_of given (p + x) l (from a m (k + 1))) c (front ∙ ap (λ (x : ℕ). take k values ++ x ∷ []) f)
                ∙ turn (is_cell_node (node_at a k)) (take k values) (entry_of (take k values) (node_at a k))
                ∙ sym (ap (values_from entry_of given p (take k values)) (up_more (node_at a) k m h))
                ∙ s.whole;
            rest_kept = drop-set-lt (k + 1) values k v (omega arith) ∙ sym (drop-drop 1 k values) ∙ ap (drop 1) s.rest_kept ∙ drop-drop 1 k old;
            known = subst TwoValued (sym front) (all_append (λ x. x < 2) (take k values) (v ∷ []) s.known (small, tt));
            few = omega (arith, s.few, c, cond_small (is_cell_node (node_at a k)));
            counted = omega (arith, count_turn a m k h, s.counted, c);
            checked = s.checked ∙ scan_passed a m k h (node_at a k) refl y.0;
          }
        where
          turn : (b : Bool) (l : List ℕ) (x : ℕ) → values_from entry_of given (p + cond b 0 1) (l ++ cond b x (get_or given p 0) ∷ []) (from a m (k + 1))
              ≡ cond b (values_from entry_of given p (l ++ x ∷ []) (from a m (k + 1))) (values_from entry_of given (suc p) (l ++ get_or given p 0 ∷ []) (from a m (k + 1)))
          turn true l x = ap (λ (n : ℕ). values_from entry_of given n (l ++ x ∷ []) (from a m (k + 1))) (add-zero p)
          turn false l x = ap (λ (n : ℕ). values_from entry_of given n (l ++ get_or given p 0 ∷ []) (from a m (k + 1))) (add-one p)

    module _ (h : m ≤ k) where
      pub valued_answer : ◌≡◌ {A = Try ℕ} (Ok p) (inputs_or_fault a m)
      unfolding input_count
      valued_answer =
          let z : input_count (from a m k) ≡ input_count [] = ap input_count (from_end a m k h) in
          let n : p ≡ input_count (nodes_of a m) = omega (arith, s.counted, z) in
          rw (s.checked ∙ scan_end a m k h) (ap Ok n)

      pub valued_all : values ≡ with_values a m given old
      unfolding values_from
      valued_all =
          let e : k ≡ m = omega (arith, s.inside) in
          let f : take k values ≡ values_from entry_of given 0 [] (nodes_of a m) =
          sym (ap (values_from entry_of given p (take k values)) (from_end a m k h)) ∙ s.whole in
          sym (take-append-drop k values) ∙ ap₂ (λ (x y : List ℕ). x ++ y) f s.rest_kept ∙ ap (λ (n : ℕ). values_from entry_of given 0 [] (nodes_of a m) ++ drop n old) e
