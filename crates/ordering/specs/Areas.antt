-- What the ready and successor areas hold while the cells are taken: for each node the reads that wait and the first read of its
-- chain, then the set of ready nodes; for each read the next read of the same cell.
-- Assumes nothing.
use Rattle.std.specs.Prelude.{ℕ, zero, suc, ◌+◌, ◌-◌, ◌*◌, ◌/◌, ◌%◌, ◌^◌, ◌≤◌, ◌<◌, ◌≡◌, ◌≢◌, Bool, true, false, not, cond, ◌||◌, ◌&&◌, List, [], ◌∷◌, ◌++◌, eqb, leb, length, get_or, set, take, drop, replicate, Option, None, Some}
use Rattle.ordering.specs.declared.widths.TheConstants.{READY_WORDS}
use Rattle.std.proofs.Math.Option.{some}
use Rattle.laws.specs.Lists.{numbers}
use Rattle.std.specs.List.{filter}
use Rattle.graphs.specs.Graph.{Vertex, is_cell, reads_of, waits, ready}
use Rattle.laws.specs.Digits.{updated}
use Rattle.readyset.specs.Sets.{member, Levels}
use Rattle.graphs.specs.declared.TheConstants.{READS}
use Rattle.ordering.specs.declared.keys.Key.{Key as KeyWords}
use Rattle.ordering.specs.declared.waiting.ReadyCells.{ReadyCells}
use Rattle.ordering.specs.declared.picking.Picked.{Picked}
use Rattle.ordering.specs.Schedule.{Key, key_at, pick, schedule_of}

abbrev pub key_of : KeyWords → Key
key_of k = record { first = k.first; second = k.second; third = k.third }

-- the bits of the word of i from i on; or 0, which says nothing
abbrev pub RestIs : List ℕ → ℕ → ℕ → Type 0
RestIs s i rest = (rest ≡ 0 → ⊥) → rest ≡ get_or s (i / 64) 0 / 2 ^ (i % 64)

-- a cell as the source of a read, if there is one: 0 no cell, x + 1 the cell x
abbrev pub entry_of : Option ℕ → ℕ
entry_of None = 0
entry_of (Some x) = suc x

-- "records chained by a next index, zero ends the chain": the last read, up to number m, of the cell x; 0 where there is none
unfoldable pub last_of : (ℕ → ℕ) → ℕ → ℕ → ℕ
last_of src x zero = 0
last_of src x (suc e) = cond (eqb (src (suc e)) (suc x)) (suc e) (last_of src x e)

-- of the reads of a node, how many pass a test
unfoldable pub passing : (ℕ → Bool) → ℕ → ℕ
passing b q = length (numbers b (READS * q + 1) READS)

-- a read of a cell that passes a test
abbrev pub word_passes : (ℕ → Bool) → ℕ → Bool
word_passes w zero = false
word_passes w (suc x) = w x

unfoldable pub reading : (ℕ → ℕ) → (ℕ → Bool) → ℕ → Bool
reading src w e = word_passes w (src e)

-- the same while the cell p is released, down to the read m
unfoldable pub partly : (ℕ → ℕ) → (ℕ → Bool) → ℕ → ℕ → ℕ → Bool
unfolding reading
partly src w p m e = reading src w e || (leb e m && eqb (src e) (suc p))

-- the cells that n reads, from number e on, read
abbrev pub with_source : ℕ → List ℕ → List ℕ
with_source zero xs = xs
with_source (suc x) xs = x ∷ xs

unfoldable pub sources : (ℕ → ℕ) → ℕ → ℕ → List ℕ
sources src e zero = []
sources src e (suc n) = with_source (src e) (sources src (suc e) n)

-- the reads by their numbers are those of the graph: only cells read, and the reads of a node are of the cells among the nodes that it reads
pub record Sourced (src : ℕ → ℕ) (c : List Vertex) : Type 0 where
  pub reader : (e x : ℕ) → 1 ≤ e → e ≤ READS * length c → src e ≡ suc x → is_cell c ((e - 1) / READS) ≡ true
  pub sources_are : (q : ℕ) → q < length c → sources src (READS * q + 1) READS ≡ filter (is_cell c) (reads_of c q)

-- what the areas hold when the cells of `taken` are taken
pub record Running (src : ℕ → ℕ) (c : List Vertex) (taken area next : List ℕ) : Type 0 where
  pub room : READY_WORDS * length c ≤ length area
  pub links : READS * length c < length next
  pub heads : (x : ℕ) → x < length c → get_or area (2 * x + 1) 0 ≡ last_of src x (READS * length c)
  pub nexts : (e x : ℕ) → 1 ≤ e → e ≤ READS * length c → src e ≡ suc x → get_or next e 0 ≡ last_of src x (e - 1)
  pub pends : (q : ℕ) → q < length c → get_or area (2 * q) 0 ≡ passing (reading src (waits c taken)) q
  pub levels : Levels (drop (2 * length c) area) (length c)
  pub flags : (q : ℕ) → q < length c → member (drop (2 * length c) area) q ≡ ready c taken q
  pub closed : (q : ℕ) → is_cell c q ≡ true → waits c taken q ≡ false → passing (reading src (waits c taken)) q ≡ 0
  pub sourced : Sourced src c

-- the ready nodes of the area, in ascending order
abbrev pub ready_in : ℕ → List ℕ → List ℕ
ready_in n area = numbers (member (drop (2 * n) area)) 0 n

-- none of them is below `from`, and `number` counts them
pub record Counted (n : ℕ) (area : List ℕ) (cells : ReadyCells) : Type 0 where
  pub low : cells.from ≤ n
  pub none : (j : ℕ) → j < cells.from → member (drop (2 * n) area) j ≡ false
  pub number : cells.number ≡ length (ready_in n area)

-- the node k is put into the set of ready nodes, or taken out, and nothing before the set changes
pub record Moved (up : Bool) (n : ℕ) (area : List ℕ) (k : ℕ) (after : List ℕ) : Type 0 where
  pub size : length after ≡ length area
  pub words : (i : ℕ) → i < 2 * n → get_or after i 0 ≡ get_or area i 0
  pub levels : Levels (drop (2 * n) after) n
  pub members : (j : ℕ) → j < n → member (drop (2 * n) after) j ≡ updated up (member (drop (2 * n) area) j) (eqb j k)

-- v reads of the node q wait, q is ready too where t is true, and nothing else changes
pub record Noted (n : ℕ) (area : List ℕ) (q v : ℕ) (t : Bool) (after : List ℕ) : Type 0 where
  pub size : length after ≡ length area
  pub words : (i : ℕ) → i < 2 * n → i ≢ 2 * q → get_or after i 0 ≡ get_or area i 0
  pub waiting : get_or after (2 * q) 0 ≡ v
  pub levels : Levels (drop (2 * n) after) n
  pub members : (j : ℕ) → j < n → member (drop (2 * n) after) j ≡ member (drop (2 * n) area) j || (eqb j q && t)

-- what noting asks: the node q is not ready yet
pub record Notable (n : ℕ) (area : List ℕ) (q : ℕ) (cells : ReadyCells) : Type 0 where
  pub room : READY_WORDS * n ≤ length area
  pub below : q < n
  pub levels : Levels (drop (2 * n) area) n
  pub fresh : member (drop (2 * n) area) q ≡ false
  pub counted : Counted n area cells

-- the areas fit some circuit of which the cell p is ready to be taken
pub record Releasable (count : ℕ) (area next : List ℕ) (p : ℕ) : Type 0 where
  pub src : ℕ → ℕ
  pub circuit : List Vertex
  pub taken : List ℕ
  pub size : length circuit ≡ count
  pub running : Running src circuit taken area next
  pub is_ready : ready circuit taken p ≡ true

-- whatever circuit the areas fitted, with p ready, they fit it with p taken
abbrev pub Released : ℕ → List ℕ → List ℕ → ℕ → List ℕ → Type 0
Released count area next p after =
    (src : ℕ → ℕ) (c : List Vertex) (taken : List ℕ) → length c ≡ count → Running src c taken area next → ready c taken p ≡ true → Running src c (taken ++ p ∷ []) after next

-- one read less of the node waits
abbrev pub Lowered : ℕ → List ℕ → ℕ → List ℕ → Type 0
Lowered n area q after = Noted n area q (get_or area (2 * q) 0 - 1) (eqb (get_or area (2 * q) 0 - 1) 0) after

-- no node is ready
pub record Empty (n : ℕ) (area : List ℕ) : Type 0 where
  pub levels : Levels (drop (2 * n) area) n
  pub none : (j : ℕ) → j < n → member (drop (2 * n) area) j ≡ false

-- a read put at the front of its source's chain; `from` 0 is no read of a cell
unfoldable pub head_set : List ℕ → ℕ → ℕ → List ℕ
head_set area edge zero = area
head_set area edge (suc x) = set area (2 * x + 1) edge

unfoldable pub next_set : List ℕ → List ℕ → ℕ → ℕ → List ℕ
next_set area next edge zero = next
next_set area next edge (suc x) = set next edge (get_or area (2 * x + 1) 0)

-- the reads up to number m are chained
pub record Linked (src : ℕ → ℕ) (n m : ℕ) (area next : List ℕ) : Type 0 where
  pub heads : (x : ℕ) → x < n → get_or area (2 * x + 1) 0 ≡ last_of src x m
  pub nexts : (e x : ℕ) → 1 ≤ e → e ≤ m → src e ≡ suc x → get_or next e 0 ≡ last_of src x (e - 1)

-- what a node waits for before anything is taken
unfoldable pub linked : (ℕ → ℕ) → ℕ → Bool
linked src e = not (eqb (src e) 0)

abbrev pub Opened : (ℕ → ℕ) → List Vertex → ℕ → List ℕ → ℕ → List ℕ → Type 0
Opened src c n area q after = Noted n area q (passing (linked src) q) (is_cell c q && eqb (passing (linked src) q) 0) after

-- the areas fit some circuit of count nodes of which nothing is taken
pub record Startable (count : ℕ) (area next : List ℕ) : Type 0 where
  pub src : ℕ → ℕ
  pub circuit : List Vertex
  pub size : length circuit ≡ count
  pub running : Running src circuit [] area next

-- the order that results, of whatever circuit they fitted
abbrev pub Scheduled : ℕ → List ℕ → List ℕ → List ℕ → ℕ → List ℕ → ℕ → Type 0
Scheduled count area next keys window order r =
    (src : ℕ → ℕ) (c : List Vertex) → Running src c [] area next → length c ≡ count → (take r order ≡ schedule_of c window (key_at keys)) × (r ≡ length (schedule_of c window (key_at keys)))

-- what a step picks, and the smallest ready node
pub record PickedIs (n : ℕ) (area keys : List ℕ) (window : ℕ) (p : Picked) : Type 0 where
  pub node_is : some p.node ≡ pick (key_at keys) (take window (ready_in n area))
  pub low : p.first ≤ n
  pub none : (j : ℕ) → j < p.first → member (drop (2 * n) area) j ≡ false

-- the smallest ready node: what a step at window 1 picks, whatever the keys
pub record FirstReady (n : ℕ) (area : List ℕ) (first : ℕ) : Type 0 where
  pub picked : (keys : List ℕ) → some first ≡ pick (key_at keys) (take 1 (ready_in n area))
  pub low : first ≤ n
  pub none : (j : ℕ) → j < first → member (drop (2 * n) area) j ≡ false

-- an order is written over the first r words
pub record Filled (cells start order : List ℕ) (r : ℕ) : Type 0 where
  pub filled : take r order ≡ cells
  pub kept : drop r order ≡ drop r start
  pub number : r ≡ length cells

-- an order, and zeros
pub record Listed (cells order : List ℕ) (r : ℕ) : Type 0 where
  pub listed : order ≡ cells ++ replicate (length order - r) 0
  pub number : r ≡ length cells
