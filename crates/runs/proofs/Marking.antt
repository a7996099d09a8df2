-- The marks of a block: a bit for each node, and what an entry of a list gives by them.
-- Assumes nothing.
use Rattle.std.specs.Prelude.{Option, MatchOption}
use Rattle.std.specs.Bool.{then_some}
use mathlib.Core.Path.{◌≡◌, refl, sym, ap, ap₂, ◌∙◌}
use mathlib.Core.Logic.{◌≢◌}
use mathlib.Core.List.{List, [], ◌∷◌, ◌++◌}
use mathlib.Core.Bool.{Bool, true, false, cond, not, ◌&&◌, ◌||◌, false≢true}
use Prim.Native.Nat.{ℕ, ◌+◌, ◌-◌, ◌/◌, ◌%◌, ◌^◌, ◌<◌, ◌≤◌}
use native.Mathlib.Nat.{zero-div}
use native.Mathlib.Omega.{arith}
use lib.Dec.{eqb, leb, ltb}
use borrow.Author.Tests.{lt-leb, le-leb, le-ltb, lt-ltb, eq-eqb, ne_eqb, leb-true, ltb-true, ltb-false, leb-false, eqb-true, eqb-false}
use lib.ListN.{length, get_or, set, replicate, length-set}
use lib.Seq.{get_or-set_same, get_or-set_other}
use Rattle.std.proofs.lemmas.Bool.{and_parts, false_from_ne_true, or_parts}
use Rattle.laws.specs.Bits.{bit, set_bit}
use Rattle.laws.specs.Lists.{elem}
use Rattle.laws.proofs.Bits.{bit-set_same, bit-set_other}
use Rattle.laws.proofs.Tests.{clash}
use Rattle.laws.proofs.Lists.{elem_snoc_other, elem_snoc_same}
use Rattle.laws.proofs.Filling.{zero_at}
use Rattle.circuit.specs.declared.records.BoolWire.{BoolWire}
use Rattle.circuit.specs.declared.records.BoolWire.TheVariants.{Const, Node}
use Rattle.circuit.specs.declared.records.BoolNode.{BoolNode}
use Rattle.circuit.specs.Records.{node_at, nodes_of, is_cell_node, wires_of}
use Rattle.circuit.specs.Check.{not_below, some_not_below}
use Rattle.circuit.specs.Graph.{nodes_read, graph_of}
use Rattle.graphs.specs.Graph.{is_cell, reads_of, waits}
use Rattle.graphs.proofs.Graph.{cell_below}
use Rattle.circuit.proofs.Codes.{node_of, length_nodes}
use Rattle.circuit.proofs.Circuits.{cell-at, reads_at, length_graph}
use Rattle.cells.specs.Cells.{entry}
use Rattle.runs.specs.Fit.{free_in, ready_in, within, block_size, mark_of, Marks, waits_here, some_waits}

-- ---- the block

pub low_out : (lo size k : ℕ) → k < lo → within lo size k ≡ false
unfolding within
low_out lo size k h = ap (λ (b : Bool). b && ltb k (lo + size)) (lt-leb lo k h)

high_out : (lo size k : ℕ) → lo ≤ k → size ≤ k - lo → within lo size k ≡ false
unfolding within
high_out lo size k h g = ap₂ ◌&&◌ (le-leb lo k h) (le-ltb k (lo + size) (omega arith))

pub block_in : (lo size k : ℕ) → lo ≤ k → k - lo < size → within lo size k ≡ true
unfolding within
block_in lo size k h g = ap₂ ◌&&◌ (le-leb lo k h) (lt-ltb k (lo + size) (omega arith))

in_block : (lo size k : ℕ) → within lo size k ≡ true → (lo ≤ k) × (k < lo + size)
unfolding within
in_block lo size k h = let g = and_parts (leb lo k) (ltb k (lo + size)) h in (leb-true lo k g.0, ltb-true k (lo + size) g.1)

-- where the mark of a number stands
pub place_told : (lo : ℕ) (marks : List ℕ) (x i : ℕ) → lo ≤ x → i ≡ x - lo → {r : Option (ℕ × ℕ)} (b : Bool) → r ≡ then_some b (i / 64, i % 64) → ltb (i / 64) (length marks) ≡ b
    → MatchOption r (within lo (block_size marks) x ≡ false) (λ p. (lo ≤ x) × (p.0 ≡ (x - lo) / 64) × (p.1 ≡ (x - lo) % 64) × ((x - lo) / 64 < length marks))
place_told lo marks x i g e true s l = rw s (g, ap (λ (j : ℕ). j / 64) e, ap (λ (j : ℕ). j % 64) e, omega (arith, e, ltb-true (i / 64) (length marks) l))
place_told lo marks x i g e false s l = rw s (high_out lo (block_size marks) x g (omega (arith, e, ltb-false (i / 64) (length marks) l)))

pub mark_there : (marks : List ℕ) (i w j : ℕ) → w ≡ i / 64 → j ≡ i % 64 → entry (get_or marks w 0) j ≡ mark_of marks i
mark_there marks i w j p q = ap₂ (λ (m n : ℕ). entry (get_or marks m 0) n) p q

-- ---- a read by the marks

module _ (nodes : List ℕ) (lo : ℕ) (marks : List ℕ) (k : ℕ) where
  pub here_out : within lo (block_size marks) k ≡ false → false ≡ waits_here nodes lo marks k
  unfolding waits_here
  here_out h = rw h

  module _ (h : within lo (block_size marks) k ≡ true) where
    pub here_clear : mark_of marks (k - lo) ≡ 0 → is_cell_node (node_at nodes k) ≡ waits_here nodes lo marks k
    unfolding waits_here
    here_clear e = rw (h, eq-eqb (mark_of marks (k - lo)) 0 e)

    pub here_marked : (mark_of marks (k - lo) ≡ 0 → ⊥) → false ≡ waits_here nodes lo marks k
    unfolding waits_here
    here_marked e = rw (h, ne_eqb (mark_of marks (k - lo)) 0 e)

-- ---- marks

pub marks_none : (lo n : ℕ) (after : List ℕ) → after ≡ replicate n 0 → Marks lo after []
marks_none lo n after e = record { marked = λ i h. ap (λ (l : List ℕ). mark_of l i) e ∙ ap (λ (w : ℕ). bit w (i % 64)) (zero_at n (i / 64)) ∙ none (i % 64) }
  where
    none : (j : ℕ) → bit 0 j ≡ 0
    none j = ap (λ (q : ℕ). q % 2) (zero-div (2 ^ j))

-- the mark of y set, and the others
module _ (marks : List ℕ) (y : ℕ) (h : y / 64 < length marks) where
  abbrev marked-word : ℕ
  marked-word = set_bit (get_or marks (y / 64) 0) (y % 64) 1

  mark_same : mark_of (set marks (y / 64) marked-word) y ≡ 1
  mark_same =
      ap (λ (w : ℕ). bit w (y % 64)) (get_or-set_same marks (y / 64) marked-word 0 h) ∙ bit-set_same (get_or marks (y / 64) 0) (y % 64) 1 (omega arith)

  mark_other : (i : ℕ) → i ≢ y → mark_of (set marks (y / 64) marked-word) i ≡ mark_of marks i
  mark_other i ne = go (eqb (i / 64) (y / 64)) refl
    where
      go : (t : Bool) → eqb (i / 64) (y / 64) ≡ t → mark_of (set marks (y / 64) marked-word) i ≡ mark_of marks i
      go false e = ap (λ (w : ℕ). bit w (i % 64)) (get_or-set_other marks (y / 64) (i / 64) marked-word 0 (eqb-false (i / 64) (y / 64) e))
      go true e =
          let same : i / 64 ≡ y / 64 = eqb-true (i / 64) (y / 64) e in
          let apart : i % 64 ≢ y % 64 = λ q. ne (omega arith) in
          ap (λ (j : ℕ). bit (get_or (set marks (y / 64) marked-word) j 0) (i % 64)) same
          ∙ ap (λ (w : ℕ). bit w (i % 64)) (get_or-set_same marks (y / 64) marked-word 0 h)
          ∙ bit-set_other (get_or marks (y / 64) 0) (y % 64) 1 (i % 64) (omega arith) apart
          ∙ ap (λ (j : ℕ). bit (get_or marks j 0) (i % 64)) (sym same)

one-true : (b : Bool) → (◌≡◌ {A = ℕ} (cond b 1 0) 0 → ⊥) → b ≡ true
one-true true h = refl
one-true false h = absurd (h refl)

one-false : (b : Bool) → ◌≡◌ {A = ℕ} (cond b 1 0) 0 → b ≡ false
one-false true h = absurd (omega arith)
one-false false h = refl

module _ (lo : ℕ) (marks : List ℕ) (x : ℕ) (taken : List ℕ) (m : Marks lo marks taken) where
  pub mark_outside : within lo (block_size marks) x ≡ false → (true ≡ not (within lo (block_size marks) x && elem x taken)) × (◌≡◌ {A = Bool} true true → Marks lo marks (taken ++ x ∷ []))
  mark_outside h = (sym (ap (λ (b : Bool). not (b && elem x taken)) h), λ e. record { marked = at })
    where
      at : (i : ℕ) → i < block_size marks → mark_of marks i ≡ cond (elem (lo + i) (taken ++ x ∷ [])) 1 0
      at i g =
          let ne : lo + i ≢ x = λ q. clash (block_in lo (block_size marks) (lo + i) (omega arith) (omega arith)) (ap (within lo (block_size marks)) q ∙ h) in
          m.marked i g ∙ ap (λ (b : Bool). cond b 1 0) (sym (elem_snoc_other (lo + i) x taken ne))

  there : lo ≤ x → x - lo < block_size marks → mark_of marks (x - lo) ≡ cond (elem x taken) 1 0
  there h g = let q : lo + (x - lo) ≡ x = omega arith in m.marked (x - lo) g ∙ ap (λ (k : ℕ). cond (elem k taken) 1 0) q

  pub mark_inside : lo ≤ x → (x - lo) / 64 < length marks → mark_of marks (x - lo) ≡ 0
      → (true ≡ not (within lo (block_size marks) x && elem x taken))
      × (◌≡◌ {A = Bool} true true → Marks lo (set marks ((x - lo) / 64) (set_bit (get_or marks ((x - lo) / 64) 0) ((x - lo) % 64) 1)) (taken ++ x ∷ []))
  mark_inside h g z =
      (sym (ap₂ (λ (a b : Bool). not (a && b)) (block_in lo (block_size marks) x h (omega arith)) (one-false (elem x taken) (sym (there h (omega arith)) ∙ z))), λ e. record { marked = at })
    where
      at : (i : ℕ) → i < block_size (set marks ((x - lo) / 64) (set_bit (get_or marks ((x - lo) / 64) 0) ((x - lo) % 64) 1))
          → mark_of (set marks ((x - lo) / 64) (set_bit (get_or marks ((x - lo) / 64) 0) ((x - lo) % 64) 1)) i ≡ cond (elem (lo + i) (taken ++ x ∷ [])) 1 0
      at i l = go (eqb i (x - lo)) refl
        where
          inside : i < block_size marks
          inside = omega (arith, length-set marks ((x - lo) / 64) (set_bit (get_or marks ((x - lo) / 64) 0) ((x - lo) % 64) 1))

          go : (t : Bool) → eqb i (x - lo) ≡ t → mark_of (set marks ((x - lo) / 64) (set_bit (get_or marks ((x - lo) / 64) 0) ((x - lo) % 64) 1)) i ≡ cond (elem (lo + i) (taken ++ x ∷ [])) 1 0
          go true e =
              let q : i ≡ x - lo = eqb-true i (x - lo) e in
              let s : lo + i ≡ x = omega arith in
              ap (mark_of (set marks ((x - lo) / 64) (set_bit (get_or marks ((x - lo) / 64) 0) ((x - lo) % 64) 1))) q ∙ mark_same marks (x - lo) g
              ∙ ap (λ (b : Bool). cond b 1 0) (sym (ap (λ (j : ℕ). elem j (taken ++ x ∷ [])) s ∙ elem_snoc_same x taken))
          go false e =
              let q : lo + i ≢ x = λ s. eqb-false i (x - lo) e (omega arith) in
              mark_other marks (x - lo) g i (eqb-false i (x - lo) e) ∙ m.marked i inside ∙ ap (λ (b : Bool). cond b 1 0) (sym (elem_snoc_other (lo + i) x taken q))

  pub mark_twice : (after : List ℕ) → lo ≤ x → (x - lo) / 64 < length marks → (mark_of marks (x - lo) ≡ 0 → ⊥)
      → (false ≡ not (within lo (block_size marks) x && elem x taken)) × (false ≡ true → Marks lo after (taken ++ x ∷ []))
  mark_twice after h g z =
      (sym (ap₂ (λ (a b : Bool). not (a && b)) (block_in lo (block_size marks) x h (omega arith)) (one-true (elem x taken) (λ e. z (there h (omega arith) ∙ e)))), λ e. absurd (false≢true e))

-- ---- an entry

module _ (nodes : List ℕ) (count lo : ℕ) (marks taken : List ℕ) (m : Marks lo marks taken) where
  cell_there : (k : ℕ) → k < count → is_cell (graph_of (nodes_of nodes count)) k ≡ is_cell_node (node_at nodes k)
  cell_there k h = cell-at (nodes_of nodes count) k ∙ ap is_cell_node (node_of nodes count k h)

  not-one : (b : Bool) → eqb (cond b 1 0) 0 ≡ not b
  not-one true = refl
  not-one false = refl

  swapped : (a b : Bool) → a && b ≡ b && a
  swapped true true = refl
  swapped true false = refl
  swapped false true = refl
  swapped false false = refl

  here_waits : (k : ℕ) → k < count → waits_here nodes lo marks k ≡ within lo (block_size marks) k && waits (graph_of (nodes_of nodes count)) taken k
  unfolding waits_here waits
  here_waits k h = go (within lo (block_size marks) k) refl
    where
      go : (b : Bool) → within lo (block_size marks) k ≡ b
          → within lo (block_size marks) k && (eqb (mark_of marks (k - lo)) 0 && is_cell_node (node_at nodes k))
          ≡ within lo (block_size marks) k && (is_cell (graph_of (nodes_of nodes count)) k && not (elem k taken))
      go false e = rw e
      go true e =
          let g = in_block lo (block_size marks) k e in
          ap (λ (b : Bool). within lo (block_size marks) k && b)
          (ap₂ ◌&&◌ (ap (λ (v : ℕ). eqb v 0) (there lo marks k taken m g.0 (omega (arith, g.0, g.1))) ∙ not-one (elem k taken)) (sym (cell_there k h))
          ∙ swapped (not (elem k taken)) (is_cell (graph_of (nodes_of nodes count)) k))

  not_or : (a b : Bool) → not (a || b) ≡ not a && not b
  not_or true b = refl
  not_or false b = refl

  free_wires : (ws : List BoolWire) → some_not_below count ws ≡ false → free_in (within lo (block_size marks)) (graph_of (nodes_of nodes count)) taken (nodes_read ws) ≡ not (some_waits nodes lo marks ws)
  unfolding free_in nodes_read
  free_wires [] h = refl
  free_wires (Const b ∷ ws) h = free_wires ws h
  free_wires (Node n ∷ ws) h =
      let g = or_parts (not_below count (Node n)) (some_not_below count ws) h in
      ap₂ ◌&&◌ (ap not (sym (here_waits n.0 (leb-false count n.0 g.0)))) (free_wires ws g.1)
      ∙ sym (not_or (waits_here nodes lo marks n.0) (some_waits nodes lo marks ws))

  no_cell : (x : ℕ) → is_cell (graph_of (nodes_of nodes count)) x ≡ false → false ≡ ready_in (within lo (block_size marks)) (graph_of (nodes_of nodes count)) taken x
  unfolding ready_in
  no_cell x h = sym (ap (λ (b : Bool). b && (free_in (within lo (block_size marks)) (graph_of (nodes_of nodes count)) taken (reads_of (graph_of (nodes_of nodes count)) x) && not (within lo (block_size marks) x && elem x taken))) h)

  -- what an entry's parts make
  pub entry_ready : (x : ℕ) (w : Bool) → x < count → is_cell_node (node_at nodes x) ≡ true → some_not_below count (wires_of (node_at nodes x)) ≡ false → w ≡ some_waits nodes lo marks (wires_of (node_at nodes x))
      → ready_in (within lo (block_size marks)) (graph_of (nodes_of nodes count)) taken x ≡ not w && not (within lo (block_size marks) x && elem x taken)
  unfolding ready_in
  entry_ready x w h k b e =
      ap₂ (λ (a f : Bool). a && (f && not (within lo (block_size marks) x && elem x taken))) (cell_there x h ∙ k)
      (ap (free_in (within lo (block_size marks)) (graph_of (nodes_of nodes count)) taken) (reads_at (nodes_of nodes count) x ∙ ap (λ (n : BoolNode). nodes_read (wires_of n)) (node_of nodes count x h))
      ∙ free_wires (wires_of (node_at nodes x)) b ∙ ap not (sym e))

  pub entry_other : (x : ℕ) → x < count → is_cell_node (node_at nodes x) ≡ false → false ≡ ready_in (within lo (block_size marks)) (graph_of (nodes_of nodes count)) taken x
  entry_other x h e = no_cell x (cell_there x h ∙ e)

  pub entry_past : (x : ℕ) → count ≤ x → false ≡ ready_in (within lo (block_size marks)) (graph_of (nodes_of nodes count)) taken x
  entry_past x h = no_cell x (false_from_ne_true (is_cell (graph_of (nodes_of nodes count)) x) (λ e. omega (arith, cell_below (graph_of (nodes_of nodes count)) x e, length_graph (nodes_of nodes count), length_nodes nodes count)))
