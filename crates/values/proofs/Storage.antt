-- The storage order: what each node's value is, that more that is known changes no known value, and that without unknowns it is `evaluate`.
-- Assumes nothing.
use mathlib.Core.Path.{◌≡◌, refl, sym, ap, ap₂, ◌∙◌, subst}
use mathlib.Core.List.{List, [], ◌∷◌, ◌++◌, map}
use mathlib.Core.Bool.{Bool, true, false, cond}
use Prim.Native.Nat.{ℕ, zero, suc, ◌+◌, ◌<◌}
use native.Mathlib.Nat.{add-zero}
use native.Mathlib.Omega.{arith}
use lib.Dec.{ltb}
use borrow.Author.Tests.{ltb-true, ltb-false, leb-false}
use lib.ListN.{length, get_or}
use Rattle.std.proofs.lemmas.Bool.{or_parts}
use Rattle.laws.proofs.Filling.{cond_both, cond_pair, length_snoc, snoc_below, snoc_last, snoc_past}
use Rattle.circuit.specs.declared.records.BoolWire.{BoolWire}
use Rattle.circuit.specs.declared.records.BoolWire.TheVariants.{Const, Node}
use Rattle.circuit.specs.declared.records.BoolNode.{BoolNode}
use Rattle.circuit.specs.Records.{is_cell_node, no_node, wires_of}
use Rattle.circuit.specs.Check.{not_below, some_not_below}
use Rattle.cells.specs.Cells.{index_from, cell_rule}
use Rattle.cells.proofs.Rule.{Each, Agree, rule_keeps, rule_known, entry-bit}
use Rattle.values.specs.Values.{signal_value, answer_of, values_from, outputs_from, storage_values, storage_outputs, entry_of, evaluated}
use Rattle.values.proofs.NodeValues.{values_stay}

-- ---- more that is known

-- the second of two lists has what is known in the first, at each place
pub record Keeps (s t : List ℕ) : Type 0 where
  pub size : length s ≡ length t
  pub kept : (k : ℕ) → get_or s k 0 < 2 → get_or t k 0 ≡ get_or s k 0

keeps_snoc : (s t : List ℕ) (x y : ℕ) → Keeps s t → (x < 2 → y ≡ x) → Keeps (s ++ x ∷ []) (t ++ y ∷ [])
keeps_snoc s t x y h e =
    record { size = length_snoc s x ∙ ap suc h.size ∙ sym (length_snoc t y); kept = at }
  where
    last : (l : List ℕ) (z k : ℕ) → k ≡ length l → get_or (l ++ z ∷ []) k 0 ≡ z
    last l z k g = ap (λ (j : ℕ). get_or (l ++ z ∷ []) j 0) g ∙ snoc_last l z

    at : (k : ℕ) → get_or (s ++ x ∷ []) k 0 < 2 → get_or (t ++ y ∷ []) k 0 ≡ get_or (s ++ x ∷ []) k 0
    at k g = go (ltb k (length s)) refl (ltb (length s) k) refl
      where
        go : (a : Bool) → ltb k (length s) ≡ a → (b : Bool) → ltb (length s) k ≡ b → get_or (t ++ y ∷ []) k 0 ≡ get_or (s ++ x ∷ []) k 0
        go true p b q =
            let m : k < length s = ltb-true k (length s) p in
            snoc_below t y k (omega (arith, h.size)) ∙ h.kept k (subst (λ (v : ℕ). v < 2) (snoc_below s x k m) g) ∙ sym (snoc_below s x k m)
        go false p true q = let m : length s < k = ltb-true (length s) k q in snoc_past t y k (omega (arith, h.size)) ∙ sym (snoc_past s x k m)
        go false p false q =
            let m : k ≡ length s = omega (arith, ltb-false k (length s) p, ltb-false (length s) k q) in
            last t y k (omega (arith, h.size)) ∙ e (subst (λ (v : ℕ). v < 2) (last s x k m) g) ∙ sym (last s x k m)

wire_keeps : (s t : List ℕ) → Keeps s t → (w : BoolWire) → signal_value s w < 2 → signal_value t w ≡ signal_value s w
wire_keeps s t h (Const b) g = refl
wire_keeps s t h (Node n) g = h.kept n.0 g

wires_keep : (s t : List ℕ) → Keeps s t → (ws : List BoolWire) → Agree (map (signal_value s) ws) (map (signal_value t) ws)
wires_keep s t h [] = tt
wires_keep s t h (w ∷ ws) = (wire_keeps s t h w, wires_keep s t h ws)

answer_keeps : (s t : List ℕ) → Keeps s t → (n : BoolNode) → answer_of s n < 2 → answer_of t n ≡ answer_of s n
unfolding answer_of
answer_keeps s t h n g = rule_keeps n.table (map (signal_value s) (wires_of n)) (map (signal_value t) (wires_of n)) (wires_keep s t h (wires_of n)) g

values-keep : (a b : List ℕ) → ((p : ℕ) → get_or a p 0 < 2 → get_or b p 0 ≡ get_or a p 0) → (ns : List BoolNode) (p : ℕ) (s t : List ℕ) → Keeps s t
    → Keeps (values_from answer_of a p s ns) (values_from answer_of b p t ns)
unfolding values_from
values-keep a b e [] p s t h = h
values-keep a b e (n ∷ ns) p s t h =
    cond_pair Keeps (is_cell_node n) _ _ _ _ (values-keep a b e ns p (s ++ answer_of s n ∷ []) (t ++ answer_of t n ∷ []) (keeps_snoc s t (answer_of s n) (answer_of t n) h (answer_keeps s t h n)))
    (values-keep a b e ns (suc p) (s ++ get_or a p 0 ∷ []) (t ++ get_or b p 0 ∷ []) (keeps_snoc s t (get_or a p 0) (get_or b p 0) h (e p)))

pub monotone : (ns : List BoolNode) (os : List BoolWire) (a b : List ℕ) → ((p : ℕ) → get_or a p 0 < 2 → get_or b p 0 ≡ get_or a p 0)
    → (j : ℕ) → get_or (storage_outputs ns os a) j 0 < 2 → get_or (storage_outputs ns os b) j 0 ≡ get_or (storage_outputs ns os a) j 0
unfolding storage_outputs storage_values outputs_from
monotone ns os a b e j g = each os j g
  where
    k : Keeps (values_from answer_of a 0 [] ns) (values_from answer_of b 0 [] ns)
    k = values-keep a b e ns 0 [] [] (record { size = refl; kept = λ i h. refl })

    each : (ws : List BoolWire) (i : ℕ) → get_or (map (signal_value (values_from answer_of a 0 [] ns)) ws) i 0 < 2
        → get_or (map (signal_value (values_from answer_of b 0 [] ns)) ws) i 0 ≡ get_or (map (signal_value (values_from answer_of a 0 [] ns)) ws) i 0
    each [] i h = refl
    each (w ∷ ws) zero h = wire_keeps (values_from answer_of a 0 [] ns) (values_from answer_of b 0 [] ns) k w h
    each (w ∷ ws) (suc i) h = each ws i h

-- ---- no unknowns

abbrev pub Known : List ℕ → Type 0
Known s = (k : ℕ) → get_or s k 0 < 2

known_snoc : (s : List ℕ) (x : ℕ) → Known s → x < 2 → Known (s ++ x ∷ [])
known_snoc [] x h g zero = g
known_snoc [] x h g (suc k) = omega arith
known_snoc (y ∷ s) x h g zero = h 0
known_snoc (y ∷ s) x h g (suc k) = known_snoc s x (λ i. h (suc i)) g k

wire_known : (s : List ℕ) → Known s → (w : BoolWire) → signal_value s w < 2
wire_known s h (Const true) = omega arith
wire_known s h (Const false) = omega arith
wire_known s h (Node n) = h n.0

wires_known : (s : List ℕ) → Known s → (ws : List BoolWire) → Each (λ v. v < 2) (map (signal_value s) ws)
wires_known s h [] = tt
wires_known s h (w ∷ ws) = (wire_known s h w, wires_known s h ws)

pub answer_entry : (s : List ℕ) → Known s → (n : BoolNode) → answer_of s n ≡ entry_of s n
unfolding answer_of entry_of
answer_entry s h n = rule_known n.table (map (signal_value s) (wires_of n)) (wires_known s h (wires_of n))

pub entry_small : (s : List ℕ) (n : BoolNode) → entry_of s n < 2
unfolding entry_of
entry_small s n = entry-bit n.table (index_from 0 (map (signal_value s) (wires_of n)))

pub values_known : (a : List ℕ) → Known a → (ns : List BoolNode) (p : ℕ) (s : List ℕ) → Known s → Known (values_from entry_of a p s ns)
unfolding values_from
values_known a e [] p s h = h
values_known a e (n ∷ ns) p s h =
    cond_both Known (is_cell_node n) _ _ (values_known a e ns p (s ++ entry_of s n ∷ []) (known_snoc s (entry_of s n) h (entry_small s n)))
    (values_known a e ns (suc p) (s ++ get_or a p 0 ∷ []) (known_snoc s (get_or a p 0) h (e p)))

pub values_same : (a : List ℕ) → Known a → (ns : List BoolNode) (p : ℕ) (s : List ℕ) → Known s → values_from answer_of a p s ns ≡ values_from entry_of a p s ns
unfolding values_from
values_same a e [] p s h = refl
values_same a e (n ∷ ns) p s h =
    ap₂ (cond (is_cell_node n))
    (ap (λ (v : ℕ). values_from answer_of a p (s ++ v ∷ []) ns) (answer_entry s h n) ∙ values_same a e ns p (s ++ entry_of s n ∷ []) (known_snoc s (entry_of s n) h (entry_small s n)))
    (values_same a e ns (suc p) (s ++ get_or a p 0 ∷ []) (known_snoc s (get_or a p 0) h (e p)))

pub evaluate_same : (ns : List BoolNode) (os : List BoolWire) (a : List ℕ) → Known a → storage_outputs ns os a ≡ evaluated ns os a
unfolding storage_outputs storage_values evaluated
evaluate_same ns os a h = ap (λ (s : List ℕ). outputs_from s os) (values_same a h ns 0 [] (λ k. omega arith))

pub outputs_known : (ns : List BoolNode) (os : List BoolWire) (a : List ℕ) → Known a → Each (λ v. v < 2) (evaluated ns os a)
unfolding evaluated outputs_from
outputs_known ns os a h = wires_known (values_from entry_of a 0 [] ns) (values_known a h ns 0 [] (λ k. omega arith)) os

-- ---- what each node's value is

-- two stores that agree below k give a wire below k the same, and a cell that reads only below k
pub wire_below : (s t : List ℕ) (k : ℕ) → ((i : ℕ) → i < k → get_or s i 0 ≡ get_or t i 0) → (w : BoolWire) → not_below k w ≡ false → signal_value s w ≡ signal_value t w
wire_below s t k e (Const b) g = refl
wire_below s t k e (Node n) g = e n.0 (leb-false k n.0 g)

pub wires_below : (s t : List ℕ) (k : ℕ) → ((i : ℕ) → i < k → get_or s i 0 ≡ get_or t i 0) → (ws : List BoolWire) → some_not_below k ws ≡ false → map (signal_value s) ws ≡ map (signal_value t) ws
wires_below s t k e [] h = refl
wires_below s t k e (w ∷ ws) h =
    let g = or_parts (not_below k w) (some_not_below k ws) h in
    ap₂ (λ (v : ℕ) (l : List ℕ). v ∷ l) (wire_below s t k e w g.0) (wires_below s t k e ws g.1)

pub answer_below : (s t : List ℕ) (k : ℕ) → ((i : ℕ) → i < k → get_or s i 0 ≡ get_or t i 0) → (n : BoolNode) → some_not_below k (wires_of n) ≡ false → answer_of s n ≡ answer_of t n
unfolding answer_of
answer_below s t k e n h = ap (cell_rule n.table) (wires_below s t k e (wires_of n) h)

module _ (a : List ℕ) where
  -- a cell's value is its answer on the whole
  pub value_cell : (ns : List BoolNode) (p : ℕ) (vs : List ℕ) (j : ℕ) → j < length ns → is_cell_node (get_or ns j no_node) ≡ true
      → some_not_below (length vs + j) (wires_of (get_or ns j no_node)) ≡ false
      → get_or (values_from answer_of a p vs ns) (length vs + j) 0 ≡ answer_of (values_from answer_of a p vs ns) (get_or ns j no_node)
  unfolding values_from
  value_cell [] p vs j h c e = absurd (omega arith)
  value_cell (n ∷ ns) p vs zero h c e =
      let x = answer_of vs n in
      let A = values_from answer_of a p (vs ++ x ∷ []) ns in
      let w : values_from answer_of a p vs (n ∷ ns) ≡ A = ap (λ (t : Bool). cond t A (values_from answer_of a (suc p) (vs ++ get_or a p 0 ∷ []) ns)) c in
      let stay : (i : ℕ) → i < length vs → get_or vs i 0 ≡ get_or A i 0 = λ i g. sym (values_stay answer_of a ns p (vs ++ x ∷ []) i (omega (arith, length_snoc vs x)) ∙ snoc_below vs x i g) in
      subst (λ (W : List ℕ). get_or W (length vs + 0) 0 ≡ answer_of W n) (sym w)
      (ap (λ (i : ℕ). get_or A i 0) (add-zero (length vs)) ∙ values_stay answer_of a ns p (vs ++ x ∷ []) (length vs) (omega (arith, length_snoc vs x)) ∙ snoc_last vs x
      ∙ answer_below vs A (length vs) stay n (subst (λ (i : ℕ). some_not_below i (wires_of n) ≡ false) (add-zero (length vs)) e))
  value_cell (n ∷ ns) p vs (suc j) h c e =
      cond_both (λ (W : List ℕ). get_or W (length vs + suc j) 0 ≡ answer_of W (get_or ns j no_node)) (is_cell_node n) _ _
      (more (answer_of vs n) _ (value_cell ns p (vs ++ answer_of vs n ∷ []) j (omega arith) c (ahead (answer_of vs n))))
      (more (get_or a p 0) _ (value_cell ns (suc p) (vs ++ get_or a p 0 ∷ []) j (omega arith) c (ahead (get_or a p 0))))
    where
      place : (x : ℕ) → length (vs ++ x ∷ []) + j ≡ length vs + suc j
      place x = omega (arith, length_snoc vs x)

      ahead : (x : ℕ) → some_not_below (length (vs ++ x ∷ []) + j) (wires_of (get_or ns j no_node)) ≡ false
      ahead x = ap (λ (i : ℕ). some_not_below i (wires_of (get_or ns j no_node))) (place x) ∙ e

      more : (x : ℕ) (W : List ℕ) → get_or W (length (vs ++ x ∷ []) + j) 0 ≡ answer_of W (get_or ns j no_node) → get_or W (length vs + suc j) 0 ≡ answer_of W (get_or ns j no_node)
      more x W q = ap (λ (i : ℕ). get_or W i 0) (sym (place x)) ∙ q
