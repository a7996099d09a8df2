-- The places for wires in a record.
-- Assumes nothing.
use Rattle.std.proofs.Common.{length-append, Bool, true, false, cond, ℕ, zero, suc, ◌+◌, ◌-◌, ◌<◌, ◌≤◌, ◌≡◌, min, List, [], ◌∷◌, ◌++◌, map, length, take, drop, get_or, replicate, refl, sym, ap, ap₂, ◌∙◌, arith, zero-add}
use Rattle.std.proofs.lemmas.List.{length-replicate, length-map, drop-replicate, get_or-take, length-take}
use lib.ListN.{get_or-map}
use lib.Seq.{take_at}
use Rattle.laws.specs.Areas.{up_from}
use Rattle.laws.proofs.Areas.{length_up}
use Rattle.laws.proofs.Storing.{up_at, up_list}
use Rattle.circuit.specs.declared.records.BoolWire.{BoolWire}
use Rattle.circuit.specs.declared.records.BoolNode.{BoolNode}
use Rattle.circuit.specs.declared.records.TheConstants.{WIRES, WIRES_AT}
use Rattle.circuit.specs.declared.records.Name.{Name}
use Rattle.circuit.specs.Records.{input_node, cell_node, no_wire, places, wires_of, is_cell_node, node_from, wire_of, wire_word}

-- a list with its default after it
default-at : {A : Type 0} (d : A) (m k : ℕ) → get_or (replicate m d) k d ≡ d
default-at d zero k = refl
default-at d (suc m) zero = refl
default-at d (suc m) (suc k) = default-at d m k

padded : {A : Type 0} (d : A) (l : List A) (m k : ℕ) → get_or (l ++ replicate m d) k d ≡ get_or l k d
padded d [] m k = default-at d m k
padded d (x ∷ l) m zero = refl
padded d (x ∷ l) m (suc k) = padded d l m k

module _ (ws : List BoolWire) where
  pub length-places : length (places ws) ≡ WIRES
  unfolding places
  length-places = length_up (λ k. get_or ws k no_wire) 0 WIRES

  pub place-at : (k : ℕ) → k < WIRES → get_or (places ws) k no_wire ≡ get_or ws k no_wire
  unfolding places
  place-at k h = up_at (λ k. get_or ws k no_wire) no_wire 0 WIRES k h ∙ ap (λ k. get_or ws k no_wire) (zero-add k)

  -- the first of them
  pub few_places : (n : ℕ) → length (take n (places ws)) ≡ min n WIRES
  few_places n = length-take n (places ws) ∙ ap (min n) length-places

  pub first-at : (n k : ℕ) → k < length (take n (places ws)) → get_or ws k no_wire ≡ get_or (take n (places ws)) k no_wire
  first-at n k h =
      let l : length (take n (places ws)) ≡ min n WIRES = few_places n in
      sym (get_or-take n (places ws) k no_wire (omega arith) ∙ place-at k (omega arith))

  -- wires, then what stood in the places after them
  pub placed : (all : List BoolWire) → length all ≡ WIRES → ((k : ℕ) → k < WIRES → get_or all k no_wire ≡ get_or ws k no_wire) → all ≡ places ws
  unfolding places
  placed all e h =
      sym (ap (λ (m : ℕ). up_from (λ k. get_or ws k no_wire) 0 m) (sym e)
      ∙ up_list (λ k. get_or ws k no_wire) all no_wire 0 (λ k l. ap (λ j. get_or ws j no_wire) (zero-add k) ∙ sym (h k (omega arith))))

  pub placed_front : (front : List BoolWire) → front ≡ ws → length ws ≤ WIRES → front ++ drop (length ws) (replicate WIRES no_wire) ≡ places ws
  placed_front front e h =
      let f : front ++ drop (length ws) (replicate WIRES no_wire) ≡ ws ++ replicate (WIRES - length ws) no_wire =
      ap₂ (λ (x y : List BoolWire). x ++ y) e (drop-replicate (length ws) WIRES no_wire) in
      f ∙ placed (ws ++ replicate (WIRES - length ws) no_wire)
      (length-append ws (replicate (WIRES - length ws) no_wire) ∙ omega (arith, length-replicate {A = BoolWire} (WIRES - length ws) no_wire))
      (λ k _. padded no_wire ws (WIRES - length ws) k)

  pub length_place_words : length (map wire_word (places ws)) ≡ WIRES
  length_place_words = length-map (places ws) wire_word ∙ length-places

  pub word-at : (k : ℕ) → k < WIRES → get_or (map wire_word (places ws)) k 0 ≡ wire_word (get_or ws k no_wire)
  word-at k h = get_or-map wire_word (places ws) k no_wire ∙ ap wire_word (place-at k h)

-- ---- the wires of a node

module _ (n : BoolNode) where
  pub few_wires : length (wires_of n) ≤ WIRES
  unfolding wires_of
  few_wires = go (is_cell_node n)
    where
      go : (t : Bool) → length (cond t (take n.count (places n.wires)) []) ≤ WIRES
      go true = omega (arith, few_places n.wires n.count)
      go false = omega arith

  pub wire_is : (k : ℕ) → k < length (wires_of n) → get_or n.wires k no_wire ≡ get_or (wires_of n) k no_wire
  unfolding wires_of
  wire_is k h = go (is_cell_node n) h
    where
      go : (t : Bool) → k < length (cond t (take n.count (places n.wires)) []) → get_or n.wires k no_wire ≡ get_or (cond t (take n.count (places n.wires)) []) k no_wire
      go true l = first-at n.wires n.count k l
      go false l = absurd (omega arith)

-- ---- what the constructors make

take_padded : {A : Type 0} (d : A) (l : List A) (m : ℕ) → take (length l) (up_from (λ k. get_or l k d) 0 (length l + m)) ≡ l
take_padded d l m =
    ap (take (length l)) (sym (ap (λ (n : ℕ). up_from (λ k. get_or l k d) 0 n) (length-append l (replicate m d) ∙ ap (λ (n : ℕ). length l + n) (length-replicate m d)))
    ∙ up_list (λ k. get_or l k d) (l ++ replicate m d) d 0 (λ k _. ap (λ j. get_or l j d) (zero-add k) ∙ sym (padded d l m k)))
    ∙ take_at l (replicate m d) (length l) refl

-- the first of its places are the wires themselves
pub first_places : (ws : List BoolWire) → length ws ≤ WIRES → take (length ws) (places ws) ≡ ws
unfolding places
first_places ws h =
    let all : length ws + (WIRES - length ws) ≡ WIRES = omega arith in
    ap (λ (n : ℕ). take (length ws) (up_from (λ k. get_or ws k no_wire) 0 n)) (sym all) ∙ take_padded no_wire ws (WIRES - length ws)

places_again : (ws : List BoolWire) → places (places ws) ≡ places ws
places_again ws = sym (placed (places ws) (places ws) (length-places ws) (λ k _. refl))

pub wires_of_cell : (name : Name) (t : ℕ) (ws : List BoolWire) → length ws ≤ WIRES → wires_of (cell_node name t ws) ≡ ws
unfolding wires_of is_cell_node cell_node
wires_of_cell name t ws h = ap (take (length ws)) (places_again ws) ∙ first_places ws h

pub wires_of_input : (name : Name) → wires_of (input_node name) ≡ []
unfolding wires_of is_cell_node input_node
wires_of_input name = refl

-- ---- words and wires

module _ (f : ℕ → ℕ) where
  pub wire_from : (k : ℕ) → k < WIRES → get_or (node_from f).wires k no_wire ≡ wire_of (f (WIRES_AT + k))
  unfolding node_from
  wire_from k h = up_at (λ k. wire_of (f (WIRES_AT + k))) no_wire 0 WIRES k h ∙ ap (λ j. wire_of (f (WIRES_AT + j))) (zero-add k)

  pub length_wires : length (node_from f).wires ≡ WIRES
  unfolding node_from
  length_wires = length_up (λ k. wire_of (f (WIRES_AT + k))) 0 WIRES
