-- Fitness of an order list, looked at for the nodes of one block at a time, by a mark for each of them. Of the crate's own functions: no promise of the exported
-- call speaks of it.
-- Assumes nothing.
use Rattle.std.specs.Prelude.{◌≡◌, List, [], ◌∷◌, ◌++◌, Bool, true, false, if◌then◌else◌, not, ◌&&◌, ℕ, ◌+◌, ◌-◌, ◌*◌, ◌/◌, ◌%◌, ◌<◌, ◌==◌, leb, ltb, length, get_or}
use Rattle.laws.specs.Bits.{bit}
use Rattle.laws.specs.Lists.{elem, some}
use Rattle.circuit.specs.declared.records.BoolWire.{BoolWire}
use Rattle.circuit.specs.declared.records.BoolWire.TheVariants.{Const, Node}
use Rattle.circuit.specs.Records.{node_at, nodes_of, is_cell_node}
use Rattle.circuit.specs.Graph.{graph_of}
use Rattle.graphs.specs.Graph.{Vertex, is_cell, reads_of, waits}
use Rattle.runs.specs.declared.fitness.TheConstants.{WORD_MARKS}

-- No cell among these reads that passes the test waits.
unfoldable pub free_in : (ℕ → Bool) → List Vertex → List ℕ → List ℕ → Bool
free_in p c taken [] = true
free_in p c taken (r ∷ rs) = not (p r && waits c taken r) && free_in p c taken rs

-- A cell, not taken if it passes the test, all of whose read cells that pass it are taken.
unfoldable pub ready_in : (ℕ → Bool) → List Vertex → List ℕ → ℕ → Bool
ready_in p c taken x = is_cell c x && (free_in p c taken (reads_of c x) && not (p x && elem x taken))

-- A list whose entries are so in turn.
unfoldable pub fit_in : (ℕ → Bool) → List Vertex → List ℕ → List ℕ → Bool
fit_in p c taken [] = true
fit_in p c taken (x ∷ xs) = ready_in p c taken x && fit_in p c (taken ++ x ∷ []) xs

-- The numbers of a block.
unfoldable pub within : ℕ → ℕ → ℕ → Bool
within lo size k = leb lo k && ltb k (lo + size)

-- How many nodes the marks are for: one bit each.
abbrev pub block_size : List ℕ → ℕ
block_size marks = length marks * WORD_MARKS

-- The mark of the i-th of them.
abbrev pub mark_of : List ℕ → ℕ → ℕ
mark_of marks i = bit (get_or marks (i / WORD_MARKS) 0) (i % WORD_MARKS)

-- The numbers of the block that are taken are marked, and no others.
pub record Marks (lo : ℕ) (marks taken : List ℕ) : Type 0 where
  pub marked : (i : ℕ) → i < block_size marks → mark_of marks i ≡ (if elem (lo + i) taken then 1 else 0)

-- By the marks, node k is a cell of the block that waits.
unfoldable pub waits_here : List ℕ → ℕ → List ℕ → ℕ → Bool
waits_here nodes lo marks k =
    within lo (block_size marks) k && (mark_of marks (k - lo) == 0 && is_cell_node (node_at nodes k))

-- The wire is of such a node.
abbrev pub wire_waits : List ℕ → ℕ → List ℕ → BoolWire → Bool
wire_waits nodes lo marks (Const b) = false
wire_waits nodes lo marks (Node n) = waits_here nodes lo marks n.0

-- Some wire is.
abbrev pub some_waits : List ℕ → ℕ → List ℕ → List BoolWire → Bool
some_waits nodes lo marks ws = some (wire_waits nodes lo marks) ws

-- The list is fit, as far as the block tells.
abbrev pub fit_here : List ℕ → ℕ → ℕ → ℕ → List ℕ → Bool
fit_here nodes count lo size order = fit_in (within lo size) (graph_of (nodes_of nodes count)) [] order

-- What marking x answers and leaves, whatever was taken before: whether it was not marked, and then its mark with the others.
abbrev pub MarkSet : ℕ → List ℕ → ℕ → Bool → List ℕ → Type 0
MarkSet lo marks x r after =
    (taken : List ℕ) → Marks lo marks taken
    → (r ≡ not (within lo (block_size marks) x && elem x taken)) × (r ≡ true → Marks lo after (taken ++ x ∷ []))

-- The same of an entry of a list: whether it may stand here.
abbrev pub EntryTaken : List ℕ → ℕ → ℕ → ℕ → List ℕ → Bool → List ℕ → Type 0
EntryTaken nodes count x lo marks r after =
    (taken : List ℕ) → Marks lo marks taken
    → (r ≡ ready_in (within lo (block_size marks)) (graph_of (nodes_of nodes count)) taken x) × (r ≡ true → Marks lo after (taken ++ x ∷ []))
