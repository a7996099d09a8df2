-- A graph as the schedule, the placing and the run see it: of each node, whether it is a cell, and the nodes that it reads, once per read.
-- Which cells are ready, which lists are fit, which cells read in a circle.
-- Assumes nothing.
use Rattle.std.specs.Prelude.{ℕ, ◌<◌, ◌≡◌, Bool, true, false, not, ◌&&◌, List, [], ◌∷◌, ◌++◌, length, get_or, eqb}
use Rattle.laws.specs.Lists.{elem, numbers}

pub record Vertex : Type 0 where
  pub cell : Bool
  pub reads : List ℕ

-- what a number past the last node counts as: no cell
unfoldable pub outside : Vertex
outside = record { cell = false; reads = [] }

unfoldable pub is_cell : List Vertex → ℕ → Bool
unfolding outside
is_cell c k = (get_or c k outside).cell

unfoldable pub reads_of : List Vertex → ℕ → List ℕ
unfolding outside
reads_of c k = (get_or c k outside).reads

-- every cell, in storage order
unfoldable pub cells_of : List Vertex → List ℕ
unfolding is_cell
cells_of c = numbers (is_cell c) 0 (length c)

-- a cell that is not taken yet
unfoldable pub waits : List Vertex → List ℕ → ℕ → Bool
unfolding is_cell
waits c taken k = is_cell c k && not (elem k taken)

-- no cell among these reads is left to be taken
unfoldable pub free : List Vertex → List ℕ → List ℕ → Bool
unfolding waits
free c taken [] = true
free c taken (r ∷ rs) = not (waits c taken r) && free c taken rs

-- "A cell is ready when all cells that it reads are taken"
unfoldable pub ready : List Vertex → List ℕ → ℕ → Bool
unfolding waits free reads_of
ready c taken k = waits c taken k && free c taken (reads_of c k)

unfoldable pub ready_cells : List Vertex → List ℕ → List ℕ
unfolding ready
ready_cells c taken = numbers (ready c taken) 0 (length c)

-- a list that takes each of its numbers when it is ready
unfoldable pub fit : List Vertex → List ℕ → List ℕ → Bool
unfolding ready
fit c taken [] = true
fit c taken (x ∷ xs) = ready c taken x && fit c (taken ++ x ∷ []) xs

-- "20 (not each cell once after those it reads)", "An order list of any other length is 20"
unfoldable pub fit_list : List Vertex → List ℕ → Bool
unfolding fit cells_of
fit_list c order = fit c [] order && eqb (length order) (length (cells_of c))

-- a cell that reads a cell; a path of such reads, of at least one; "some cells read in a circle (one reading itself counts)"
pub record Reads (c : List Vertex) (x y : ℕ) : Type 0 where
  pub reader : is_cell c x ≡ true
  pub source : is_cell c y ≡ true
  pub among : elem y (reads_of c x) ≡ true

pub data Leads (c : List Vertex) : ℕ → ℕ → Type 0 where
  once : {x y : ℕ} → Reads c x y → Leads c x y
  more : {x y z : ℕ} → Reads c x y → Leads c y z → Leads c x z

pub record Circle (c : List Vertex) : Type 0 where
  pub start : ℕ
  pub around : Leads c start start

-- each cell reads only earlier nodes
abbrev pub Forward : List Vertex → Type 0
Forward c = (x y : ℕ) → Reads c x y → y < x

-- a cell, not listed before, after every cell that it reads
pub record Placed (c : List Vertex) (before : List ℕ) (x : ℕ) : Type 0 where
  pub is_a_cell : is_cell c x ≡ true
  pub fresh : elem x before ≡ false
  pub after : (y : ℕ) → Reads c x y → elem y before ≡ true

-- no cell twice, only cells, and each cell after every cell that it reads
abbrev pub InOrder : List Vertex → List ℕ → Type 0
InOrder c order = (before rest : List ℕ) (x : ℕ) → order ≡ before ++ x ∷ rest → Placed c before x

-- every cell is listed
abbrev pub ListsAll : List Vertex → List ℕ → Type 0
ListsAll c order = (x : ℕ) → is_cell c x ≡ true → elem x order ≡ true
