-- Nodes by the words of their wires: they fit in an area, and a cell made of the words of earlier nodes keeps the rules.
-- Assumes nothing.
use Rattle.std.proofs.Common.{ℕ, zero, suc, ◌+◌, ◌^◌, ◌<◌, ◌≤◌, ◌≡◌, false, List, [], ◌∷◌, map, length, get_or, refl, arith}
use Rattle.std.proofs.lemmas.List.{length-map}
use Rattle.laws.specs.Areas.{up_from}
use Rattle.laws.specs.Stretches.{All}
use Rattle.circuit.specs.declared.records.BoolWire.{BoolWire}
use Rattle.circuit.specs.declared.records.BoolNode.{BoolNode}
use Rattle.circuit.specs.declared.records.Name.{Name}
use Rattle.circuit.specs.declared.records.TheConstants.{WIRES}
use Rattle.circuit.specs.Records.{no_wire, places, HasWord, wire_of, input_node, cell_node}
use Rattle.circuit.specs.Check.{some_not_below}
use Rattle.circuit.proofs.Codes.{wire_word_back}
use Rattle.circuit.proofs.Sitting.{Sits, word_below, cell_sits}

-- a wire that comes from a word has that word
pub word_fits : (w : BoolWire) (x : ℕ) → w ≡ wire_of x → x < 18446744073709551616 → HasWord w
word_fits w x e h = rw e (omega (arith, wire_word_back x))

pub words_fit : (xs : List ℕ) → ((i : ℕ) → get_or xs i 0 < 18446744073709551616) → All HasWord (map wire_of xs)
words_fit [] h = tt
words_fit (x ∷ xs) h = (word_fits (wire_of x) x refl (h 0), words_fit xs (λ i. h (suc i)))

all_up : (f : ℕ → BoolWire) → ((k : ℕ) → HasWord (f k)) → (i m : ℕ) → All HasWord (up_from f i m)
all_up f h i zero = tt
all_up f h i (suc m) = (h i, all_up f h (suc i) m)

each_fits : (ws : List BoolWire) → All HasWord ws → (k : ℕ) → HasWord (get_or ws k no_wire)
each_fits [] h k = omega arith
each_fits (w ∷ ws) h zero = h.0
each_fits (w ∷ ws) h (suc k) = each_fits ws h.1 k

pub places_fit : (ws : List BoolWire) → All HasWord ws → All HasWord (places ws)
unfolding places
places_fit ws h = all_up (λ k. get_or ws k no_wire) (each_fits ws h) 0 WIRES

-- an input has none but constant 0
pub input_fits : (n : BoolNode) (name : Name) → n ≡ input_node name → All HasWord n.wires
unfolding input_node
input_fits n name e = rw e (places_fit [] tt)

pub cell_fits : (n : BoolNode) (name : Name) (table : ℕ) (ws : List BoolWire) → n ≡ cell_node name table ws → All HasWord ws → All HasWord n.wires
unfolding cell_node
cell_fits n name table ws e h = rw e (places_fit ws h)

-- ---- a cell made of words

pub words_below : (m : ℕ) (xs : List ℕ) → All (λ x. x < m + 2) xs → some_not_below m (map wire_of xs) ≡ false
words_below m [] h = refl
words_below m (x ∷ xs) h = rw (word_below m x h.0) (words_below m xs h.1)

pub word_cell_sits : (i : ℕ) (name : Name) (t : ℕ) (xs : List ℕ) → 1 ≤ length xs → length xs ≤ WIRES → t < 2 ^ 2 ^ length xs → All (λ x. x < i + 2) xs
    → Sits i (cell_node name t (map wire_of xs))
word_cell_sits i name t xs few many fits below =
    let l : length (map wire_of xs) ≡ length xs = length-map xs wire_of in
    cell_sits i name t (map wire_of xs) (omega (arith, l)) (omega (arith, l)) (rw l fits) (words_below i xs below)
