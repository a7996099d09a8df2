-- A run along any fit list gives the storage order's outputs, whatever the store held.
-- Assumes nothing.
use mathlib.Core.Path.{◌≡◌, refl, sym, ap, ap₂, ◌∙◌, subst}
use mathlib.Core.List.{List, [], ◌∷◌, ◌++◌, map, append_assoc, append-nil}
use mathlib.Core.Bool.{Bool, true, false, not, ◌&&◌}
use Prim.Native.Nat.{ℕ, ◌<◌, ◌≤◌}
use native.Mathlib.Nat.{zero-add}
use native.Mathlib.Omega.{arith}
use lib.Dec.{eqb}
use borrow.Author.Tests.{eqb-true, eqb-false}
use lib.ListN.{length, get_or, set, length-set}
use lib.Seq.{get_or-set_same, get_or-set_other}
use Rattle.std.proofs.lemmas.Bool.{and_parts}
use Rattle.laws.specs.Lists.{elem}
use Rattle.laws.proofs.Lists.{elem_here, elem-later, elem_snoc_other}
use Rattle.circuit.specs.declared.records.BoolWire.{BoolWire}
use Rattle.circuit.specs.declared.records.BoolWire.TheVariants.{Const, Node}
use Rattle.circuit.specs.declared.records.BoolNode.{BoolNode}
use Rattle.circuit.specs.Records.{no_node, wires_of}
use Rattle.circuit.specs.Check.{some_not_below}
use Rattle.circuit.specs.Graph.{nodes_read, graph_of}
use Rattle.graphs.specs.Graph.{is_cell, reads_of, cells_of, waits, ready, fit, fit_list}
use Rattle.graphs.proofs.Graph.{cell_below, waits-cell, ready-waits, ready-free, free_at, left, left_fit, left_start, left_none}
use Rattle.circuit.proofs.Checks.{Sounds}
use Rattle.circuit.proofs.Circuits.{cell-at, reads_at, length_graph, read_below}
use Rattle.cells.specs.Cells.{cell_rule}
use Rattle.values.specs.Values.{signal_value, answer_of, outputs_from, storage_values, storage_outputs}
use Rattle.runs.specs.Runs.{put_in, step, steps, run_store, run_outputs}
use Rattle.values.proofs.Storage.{wires_below, value_cell}
use Rattle.runs.proofs.InputValues.{length_put, value_input}

-- two stores that agree on the nodes among the wires_of
wires_read : (s t : List ℕ) (ws : List BoolWire) → ((y : ℕ) → elem y (nodes_read ws) ≡ true → get_or s y 0 ≡ get_or t y 0) → map (signal_value s) ws ≡ map (signal_value t) ws
unfolding nodes_read
wires_read s t [] e = refl
wires_read s t (Const b ∷ ws) e = ap (λ (l : List ℕ). signal_value s (Const b) ∷ l) (wires_read s t ws e)
wires_read s t (Node n ∷ ws) e =
    ap₂ (λ (v : ℕ) (l : List ℕ). v ∷ l) (e n.0 (elem_here n.0 n.0 (nodes_read ws) refl)) (wires_read s t ws (λ y m. e y (elem-later y n.0 (nodes_read ws) m)))

-- ---- along a list

module _ (ns : List BoolNode) (assignment : List ℕ) where
  -- each node that no longer waits has the storage order's value
  pub record Right (taken s : List ℕ) : Type 0 where
    pub room : length ns ≤ length s
    pub right : (k : ℕ) → k < length ns → waits (graph_of ns) taken k ≡ false → get_or s k 0 ≡ get_or (storage_values ns assignment) k 0

module _ (ns : List BoolNode) (os : List BoolWire) (assignment : List ℕ) (sound : Sounds ns os) where
  pub step_right : (taken s : List ℕ) (x : ℕ) → ready (graph_of ns) taken x ≡ true → Right ns assignment taken s → Right ns assignment (taken ++ x ∷ []) (step ns s x)
  unfolding step storage_values answer_of waits
  step_right taken s x r h = record { room = omega (arith, h.room, length-set s x (answer_of s (get_or ns x no_node))); right = at }
    where
      cell : is_cell (graph_of ns) x ≡ true
      cell = waits-cell (graph_of ns) taken x (ready-waits (graph_of ns) taken x r)

      inside : x < length ns
      inside = omega (arith, cell_below (graph_of ns) x cell, length_graph ns)

      earlier : some_not_below x (wires_of (get_or ns x no_node)) ≡ false
      earlier = (sound.nodes x inside).earlier

      settled : (y : ℕ) → elem y (nodes_read (wires_of (get_or ns x no_node))) ≡ true → get_or (storage_values ns assignment) y 0 ≡ get_or s y 0
      settled y m =
          sym (h.right y (omega (arith, read_below x y (wires_of (get_or ns x no_node)) earlier m, inside))
          (free_at (graph_of ns) taken (reads_of (graph_of ns) x) y (ready-free (graph_of ns) taken x r) (ap (elem y) (reads_at ns x) ∙ m)))

      value : get_or (storage_values ns assignment) x 0 ≡ answer_of s (get_or ns x no_node)
      value =
          ap (λ (k : ℕ). get_or (storage_values ns assignment) k 0) (sym (zero-add x))
          ∙ value_cell assignment ns 0 [] x inside (sym (cell-at ns x) ∙ cell) (subst (λ (k : ℕ). some_not_below k (wires_of (get_or ns x no_node)) ≡ false) (sym (zero-add x)) earlier)
          ∙ ap (cell_rule (get_or ns x no_node).table) (wires_read (storage_values ns assignment) s (wires_of (get_or ns x no_node)) settled)

      at : (k : ℕ) → k < length ns → waits (graph_of ns) (taken ++ x ∷ []) k ≡ false → get_or (set s x (answer_of s (get_or ns x no_node))) k 0 ≡ get_or (storage_values ns assignment) k 0
      at k g w = go (eqb k x) refl
        where
          go : (t : Bool) → eqb k x ≡ t → get_or (set s x (answer_of s (get_or ns x no_node))) k 0 ≡ get_or (storage_values ns assignment) k 0
          go true e =
              let q : k ≡ x = eqb-true k x e in
              subst (λ (i : ℕ). get_or (set s x (answer_of s (get_or ns x no_node))) i 0 ≡ get_or (storage_values ns assignment) i 0) (sym q)
              (get_or-set_same s x (answer_of s (get_or ns x no_node)) 0 (omega (arith, inside, h.room)) ∙ sym value)
          go false e =
              get_or-set_other s x k (answer_of s (get_or ns x no_node)) 0 (eqb-false k x e)
              ∙ h.right k g (ap (λ (b : Bool). is_cell (graph_of ns) k && not b) (sym (elem_snoc_other k x taken (eqb-false k x e))) ∙ w)

  steps_right : (order taken s : List ℕ) → fit (graph_of ns) taken order ≡ true → Right ns assignment taken s → Right ns assignment (taken ++ order) (steps ns s order)
  unfolding steps fit
  steps_right [] taken s f h = rw append-nil h
  steps_right (x ∷ order) taken s f h =
      let g = and_parts (ready (graph_of ns) taken x) (fit (graph_of ns) (taken ++ x ∷ []) order) f in
      rw append_assoc at (steps_right order (taken ++ x ∷ []) (step ns s x) g.1 (step_right taken s x g.0 h))

  pub start_right : (old : List ℕ) → length ns ≤ length old → Right ns assignment [] (put_in assignment 0 0 old ns)
  unfolding storage_values waits
  start_right old l =
      record {
        room = omega (arith, length_put assignment ns 0 0 old);
        right = λ k h w. subst (λ (i : ℕ). get_or (put_in assignment 0 0 old ns) i 0 ≡ get_or (storage_values ns assignment) i 0) (zero-add k) (value_input assignment ns 0 [] old 0 k refl (omega arith) h (sym (cell-at ns k) ∙ none (is_cell (graph_of ns) k) w));
      }
    where
      none : (b : Bool) → b && true ≡ false → b ≡ false
      none true e = e
      none false e = e

  -- any fit list
  pub along : (order old : List ℕ) → length ns ≤ length old → fit_list (graph_of ns) order ≡ true → run_outputs ns os assignment order old ≡ storage_outputs ns os assignment
  unfolding run_outputs run_store storage_outputs outputs_from fit_list
  along order old l f =
      let g = and_parts (fit (graph_of ns) [] order) (eqb (length order) (length (cells_of (graph_of ns)))) f in
      let full = eqb-true (length order) (length (cells_of (graph_of ns))) g.1 in
      let done : left (graph_of ns) order ≡ 0 = omega (arith, left_fit (graph_of ns) [] order g.0, left_start (graph_of ns), full) in
      let r = steps_right order [] (put_in assignment 0 0 old ns) g.0 (start_right old l) in
      wires_below (steps ns (put_in assignment 0 0 old ns) order) (storage_values ns assignment) (length ns) (λ i h. r.right i h (left_none (graph_of ns) order done i)) os sound.outputs
