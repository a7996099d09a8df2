-- The tree of the best ready cells, in the ready area after the set: a leaf for each word of 64 nodes, and above two entries the better.
-- An entry is 0 for no node, or the node's number and 1.
-- Assumes nothing.
use Rattle.std.specs.Prelude.{ℕ, zero, suc, ◌+◌, ◌*◌, ◌/◌, ◌≤◌, ◌<◌, ◌≡◌, ◌≢◌, true, false, cond, List, ltb, length, get_or, drop}
use Rattle.ordering.specs.declared.widths.TheConstants.{KEY_WORDS, READY_WORDS}
use Rattle.laws.specs.Lists.{numbers}
use Rattle.readyset.specs.Sets.{member, Levels}
use Rattle.ordering.specs.declared.window.Window.{Window}
use Rattle.ordering.specs.Schedule.{Key, key_at, above}
use Rattle.ordering.specs.Areas.{ready_in}

-- of two nodes the one of the greater key, on equal keys the smaller number
unfoldable pub sooner : (ℕ → Key) → ℕ → ℕ → ℕ
unfolding above
sooner key x y = cond (ltb x y) (cond (above (key y) (key x)) y x) (cond (above (key x) (key y)) x y)

-- of two entries the better
unfoldable pub ahead : (ℕ → Key) → ℕ → ℕ → ℕ
unfolding sooner
ahead key zero b = b
ahead key (suc x) zero = suc x
ahead key (suc x) (suc y) = suc (sooner key x y)

-- the node x is k, or is taken before k
pub record Before (key : ℕ → Key) (x k : ℕ) : Type 0 where
  pub greatest : above (key k) (key x) ≡ false
  pub smallest : above (key x) (key k) ≡ false → x ≤ k

-- the entry's node is k, or is taken before k
pub record Leads (key : ℕ → Key) (e k : ℕ) : Type 0 where
  pub node : ℕ
  pub entry : e ≡ suc node
  pub before : Before key node k

-- the entry of the nodes of a set: one of them that leads all
pub record Winner (key : ℕ → Key) (P : ℕ → Type 0) (e : ℕ) : Type 0 where
  pub among : (x : ℕ) → e ≡ suc x → P x
  pub first : (k : ℕ) → P k → Leads key e k

-- the node k is a member below a limit, of the word w
pub record InWord (ready : List ℕ) (limit w k : ℕ) : Type 0 where
  pub here : member ready k ≡ true
  pub word : k / 64 ≡ w
  pub below : k < limit

-- the entry v is the better of the entries 2 × v and 2 × v + 1
abbrev pub better_of : (ℕ → Key) → List ℕ → ℕ → ℕ
better_of key tree v = ahead key (get_or tree (2 * v) 0) (get_or tree (2 * v + 1) 0)

-- the entries from a first one on are nodes below n, and those above two others but for one are the better of the two
pub record Joined (key : ℕ → Key) (leaves n : ℕ) (tree : List ℕ) (start but : ℕ) : Type 0 where
  pub room : 2 * leaves ≤ length tree
  pub nodes : (v : ℕ) → start ≤ v → v < 2 * leaves → get_or tree v 0 ≤ n
  pub inner : (v : ℕ) → start ≤ v → v < leaves → v ≢ but → get_or tree v 0 ≡ better_of key tree v

-- the first word of the tree in the ready area of n nodes: after two words for each node and two for each word of the set
abbrev pub tree_at : ℕ → ℕ
tree_at n = 2 * n + 2 * (n / 64 + 1)

-- what writing leaves asks: a set of more than one word, and room for n nodes
abbrev pub Rankable : ℕ → ℕ → List ℕ → List ℕ → Type 0
Rankable n limit keys area = (64 ≤ n) × (limit ≤ n) × (READY_WORDS * n ≤ length area) × (KEY_WORDS * n ≤ length keys)

-- the leaf of the word w is the entry of its ready nodes below a limit
abbrev pub LeafIs : ℕ → ℕ → List ℕ → List ℕ → ℕ → Type 0
LeafIs n limit keys area w = Winner (key_at keys) (InWord (drop (2 * n) area) limit w) (get_or (drop (tree_at n) area) (n / 64 + 1 + w) 0)

-- the tree is that of the ready nodes below a limit, but for the leaf of one word and what is above it
pub record Ranked (n limit : ℕ) (keys area : List ℕ) (but : ℕ) : Type 0 where
  pub big : 64 ≤ n
  pub bound : limit ≤ n
  pub size : READY_WORDS * n ≤ length area
  pub leaves : (w : ℕ) → w < n / 64 + 1 → w ≢ but → LeafIs n limit keys area w
  pub joined : Joined (key_at keys) (n / 64 + 1) n (drop (tree_at n) area) 1 0

-- nothing before the tree changes
pub record Fronted (n : ℕ) (area after : List ℕ) : Type 0 where
  pub size : length after ≡ length area
  pub front : (i : ℕ) → i < tree_at n → get_or after i 0 ≡ get_or area i 0

-- nothing of the tree changes
abbrev pub Kept : ℕ → List ℕ → List ℕ → Type 0
Kept n area after = (i : ℕ) → tree_at n ≤ i → get_or after i 0 ≡ get_or area i 0

-- the entries from the leaves on stay
abbrev pub LeavesKept : ℕ → List ℕ → List ℕ → Type 0
LeavesKept leaves tree after = (v : ℕ) → leaves ≤ v → get_or after v 0 ≡ get_or tree v 0

-- the leaf of the word w is written, and nothing else
pub record LeafPut (n limit : ℕ) (keys area : List ℕ) (w : ℕ) (after : List ℕ) : Type 0 where
  pub size : length after ≡ length area
  pub leaf : LeafIs n limit keys after w
  pub others : (i : ℕ) → i ≢ tree_at n + (n / 64 + 1 + w) → get_or after i 0 ≡ get_or area i 0

-- the leaves of the first words are written, and nothing before the tree
pub record LeavesPut (n limit : ℕ) (keys area : List ℕ) (words : ℕ) (after : List ℕ) : Type 0 where
  pub leaves : (w : ℕ) → w < words → LeafIs n limit keys after w
  pub fronted : Fronted n area after

-- the tree is that of the ready nodes below the limit; they are `inside` of `number`
pub record Tracked (n : ℕ) (keys area : List ℕ) (at : Window) : Type 0 where
  pub ranked : Ranked n at.limit keys area (n / 64 + 1)
  pub levels : Levels (drop (2 * n) area) n
  pub number : at.number ≡ length (ready_in n area)
  pub inside : at.inside ≡ length (numbers (member (drop (2 * n) area)) 0 at.limit)
