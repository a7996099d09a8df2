-- Wires rewired by a list of what stands for each node, as a loop over the nodes makes it.
-- Assumes nothing.
use Rattle.std.proofs.Common.{ℕ, zero, suc, ◌≡◌, false, List, [], ◌∷◌, ◌++◌, map, length, get_or, refl, sym, ap₂}
use lib.ListN.{get_or-map, get_or-append}
use Rattle.std.proofs.lemmas.Bool.{or_parts}
use borrow.Author.Tests.{leb-false}
use Rattle.circuit.specs.declared.records.BoolWire.{BoolWire}
use Rattle.circuit.specs.declared.records.BoolWire.TheVariants.{Const, Node}
use Rattle.circuit.specs.Records.{no_wire}
use Rattle.circuit.specs.Check.{not_below, some_not_below}
use Rattle.values.specs.Values.{signal_value}
use Rattle.rewiring.specs.Rewiring.{rewire, listed, rewired_by}
use Rattle.rewiring.proofs.Wires.{rewired_below}

-- ---- values

module _ (V : List ℕ) (σ : List BoolWire) where
  pub listed_value : (k : ℕ) → signal_value V (listed σ k) ≡ get_or (map (signal_value V) σ) k 0
  listed_value k = sym (get_or-map (signal_value V) σ k no_wire)

  -- rewired wires have the values that the wires have where the nodes have those of the list's wires
  pub listed_values : (ws : List BoolWire) → map (signal_value V) (rewired_by σ ws) ≡ map (signal_value (map (signal_value V) σ)) ws
  listed_values [] = refl
  listed_values (w ∷ ws) = ap₂ (λ (v : ℕ) (vs : List ℕ). v ∷ vs) (one w) (listed_values ws)
    where
      one : (w : BoolWire) → signal_value V (rewire (listed σ) w) ≡ signal_value (map (signal_value V) σ) w
      one (Const b) = refl
      one (Node n) = listed_value n.0

-- ---- a list with more at its end

-- wires on the nodes of its front see nothing of what follows
pub front_wires : (σ τ ws : List BoolWire) → some_not_below (length σ) ws ≡ false → rewired_by (σ ++ τ) ws ≡ rewired_by σ ws
front_wires σ τ [] e = refl
front_wires σ τ (w ∷ ws) e =
    let p = or_parts (not_below (length σ) w) (some_not_below (length σ) ws) e in ap₂ (λ (v : BoolWire) (vs : List BoolWire). v ∷ vs) (one w p.0) (front_wires σ τ ws p.1)
  where
    one : (w : BoolWire) → not_below (length σ) w ≡ false → rewire (listed (σ ++ τ)) w ≡ rewire (listed σ) w
    one (Const b) e = refl
    one (Node n) e = get_or-append σ τ no_wire n.0 (leb-false (length σ) n.0 e)

pub last_below : (m : ℕ) (ws : List BoolWire) (w : BoolWire) → some_not_below m ws ≡ false → not_below m w ≡ false → some_not_below m (ws ++ w ∷ []) ≡ false
last_below m [] w e f = rw f
last_below m (u ∷ ws) w e f = let p = or_parts (not_below m u) (some_not_below m ws) e in rw p.0 (last_below m ws w p.1 f)

-- ---- places

-- where the list's wires are below m, so is what stands for each node, and each rewired wire
pub listed_below : (m : ℕ) (σ : List BoolWire) → some_not_below m σ ≡ false → (k : ℕ) → not_below m (listed σ k) ≡ false
listed_below m [] e k = refl
listed_below m (w ∷ ws) e zero = (or_parts (not_below m w) (some_not_below m ws) e).0
listed_below m (w ∷ ws) e (suc k) = listed_below m ws (or_parts (not_below m w) (some_not_below m ws) e).1 k

pub rewired_by_below : (m : ℕ) (σ : List BoolWire) → some_not_below m σ ≡ false → (ws : List BoolWire) → some_not_below m (rewired_by σ ws) ≡ false
rewired_by_below m σ e ws = rewired_below m (listed σ) ws (λ j r. listed_below m σ e j)

-- ---- rewired twice

pub rewired_twice : (σ τ ws : List BoolWire) → rewired_by σ (rewired_by τ ws) ≡ rewired_by (rewired_by σ τ) ws
rewired_twice σ τ [] = refl
rewired_twice σ τ (w ∷ ws) = ap₂ (λ (v : BoolWire) (vs : List BoolWire). v ∷ vs) (one w) (rewired_twice σ τ ws)
  where
    one : (w : BoolWire) → rewire (listed σ) (rewire (listed τ) w) ≡ rewire (listed (rewired_by σ τ)) w
    one (Const b) = refl
    one (Node n) = sym (get_or-map (rewire (listed σ)) τ n.0 no_wire)
