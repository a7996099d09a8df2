-- What is promised of the order of a graph's cells, whatever the graph, the window and the keys.
-- Assumes nothing.
use Rattle.std.specs.Prelude.{ℕ, ◌≤◌, ◌≡◌, Bool, true, false, not, List, length, take}
use Rattle.std.proofs.Math.Option.{some}
use Rattle.laws.specs.Lists.{elem, some as any}
use Rattle.graphs.specs.Graph.{Vertex, cells_of, ready_cells, InOrder, Circle, Forward, ListsAll}
use Rattle.ordering.specs.Schedule.{Key, above, next, schedule_of}

-- Some cell is not in the list.
unfoldable pub leaves_out : List ℕ → List ℕ → Bool
leaves_out order cells = any (λ k. not (elem k order)) cells

-- Of a list the number of the greatest key; on equal keys the smallest number.
pub record Greatest (key : ℕ → Key) (l : List ℕ) (p : ℕ) : Type 0 where
  pub among : elem p l ≡ true
  pub greatest : (k : ℕ) → elem k l ≡ true → above (key k) (key p) ≡ false
  pub smallest : (k : ℕ) → elem k l ≡ true → above (key p) (key k) ≡ false → p ≤ k

-- Of the graph c and its order for a window and keys.
pub record OrderPromised (c : List Vertex) (window : ℕ) (key : ℕ → Key) : Type 0 where
  -- only cells, none twice, each after every cell that it reads
  pub in_order : InOrder c (schedule_of c window key)
  -- each step takes the greatest key of as many of the smallest ready cells as the window has
  pub picks : (taken : List ℕ) (p : ℕ) → next c window key taken ≡ some p → Greatest key (take window (ready_cells c taken)) p
  -- a cell is left out exactly where some cells read in a circle; where none is, all are listed
  pub circle_left_out : Circle c → leaves_out (schedule_of c window key) (cells_of c) ≡ true
  pub left_out_circle : leaves_out (schedule_of c window key) (cells_of c) ≡ true → Circle c
  pub lists_all : leaves_out (schedule_of c window key) (cells_of c) ≡ false → ListsAll c (schedule_of c window key)
  pub count : (Circle c → ⊥) → length (schedule_of c window key) ≡ length (cells_of c)
  -- where each cell reads earlier ones alone, window 1 gives the cells by their numbers
  pub storage : Forward c → window ≡ 1 → schedule_of c window key ≡ cells_of c

-- That of every graph, window and keys.
abbrev pub EveryOrderPromised : Type 0
EveryOrderPromised = (c : List Vertex) (window : ℕ) (key : ℕ → Key) → 1 ≤ window → OrderPromised c window key
