-- The laws of the check over a list of nodes: the nodes that are left, and that it is the check over the areas.
-- Assumes nothing.
use Rattle.std.specs.Prelude.{Err, Ok}
use mathlib.Core.Path.{◌≡◌, refl, sym, ap, ap₂, ◌∙◌}
use mathlib.Core.List.{List, [], ◌∷◌, ◌++◌, map, append-nil}
use Prim.Native.Nat.{ℕ, zero, suc, ◌+◌, ◌*◌, ◌/◌, ◌%◌, ◌≤◌, ◌<◌}
use native.Mathlib.Numerals.{add-one}
use native.Mathlib.Omega.{arith}
use lib.ListN.{length, get_or, drop, drop_of_length-le}
use lib.Seq.{drop-cons}
use Rattle.std.proofs.lemmas.List.{length-map}
use borrow.Author.Tests.{eq-eqb, ne_eqb}
use Rattle.laws.specs.Areas.{encodes}
use Rattle.laws.proofs.Areas.{length-encodes}
use Rattle.circuit.specs.declared.records.BoolWire.{BoolWire}
use Rattle.circuit.specs.declared.records.BoolNode.{BoolNode}
use Rattle.circuit.specs.declared.refusals.Refusal.{Refusal}
use Rattle.circuit.specs.declared.refusals.Refusal.TheVariants.{Broken}
use Rattle.circuit.specs.Refusals.{Checked}
use Rattle.circuit.specs.Refusals.{refuse_if, first_fault}
use Rattle.circuit.specs.Records.{places, no_node, encode_node, nodes_of, is_cell_node, wires_of}
use Rattle.circuit.specs.Check.{cell_broken, record_broken, some_not_below, check_node, check_nodes, check_circuit, whole, nodes_in, wires_in, topological_fault}
use Rattle.circuit.specs.declared.records.TheConstants.{NODE_WORDS, OUTPUT_WORDS}
use Rattle.circuit.specs.Circuits.{Padded}
use Rattle.circuit.proofs.Places.{placed, length-places}
use Rattle.circuit.proofs.Codes.{node_wide, nodes_of_area}
use Rattle.node_slices.specs.Slices.{slice_fault}

-- ---- the scan: what the nodes from i on give

abbrev pub left : List BoolNode → ℕ → ℕ → Checked
left ns m i = check_nodes m i (drop i ns)

module _ (ns : List BoolNode) (m i : ℕ) where
  turn : i < length ns → left ns m i ≡ first_fault (check_node m i (get_or ns i no_node)) (left ns m (i + 1))
  unfolding check_nodes
  turn h = rw (drop-cons ns i no_node h, add-one i)

  pub left_faulty : i < length ns → (e : Refusal) → check_node m i (get_or ns i no_node) ≡ Err e → left ns m i ≡ Err e
  left_faulty h e q = rw (turn h, q)

  pub left_clean : i < length ns → check_node m i (get_or ns i no_node) ≡ Ok tt → left ns m i ≡ left ns m (i + 1)
  left_clean h q = rw (turn h, q)

  pub left_over : length ns ≤ i → left ns m i ≡ Ok tt
  unfolding check_nodes
  left_over h = rw (drop_of_length-le ns h)

-- ---- the circuit

-- the nodes' answer, then the outputs
module _ (ns : List BoolNode) (outputs : List ℕ) where
  pub slice_partial : (length outputs % OUTPUT_WORDS ≡ 0 → ⊥) → slice_fault ns outputs ≡ Err Broken
  unfolding slice_fault
  slice_partial e = rw (ne_eqb (length outputs % OUTPUT_WORDS) 0 e)

  pub slice_whole : length outputs % OUTPUT_WORDS ≡ 0
      → slice_fault ns outputs ≡ first_fault (check_nodes (length ns) 0 ns) (refuse_if (some_not_below (length ns) (wires_in outputs)) Broken)
  unfolding slice_fault check_circuit
  slice_whole e = rw (eq-eqb (length outputs % OUTPUT_WORDS) 0 e)

-- over an area of whole records: the check of the nodes that it holds
pub slice_of_area : (nodes outputs : List ℕ) → length nodes % NODE_WORDS ≡ 0 → slice_fault (nodes_in nodes) outputs ≡ topological_fault nodes outputs
unfolding slice_fault topological_fault whole
slice_of_area nodes outputs e = rw (eq-eqb (length nodes % NODE_WORDS) 0 e)

-- ---- nodes with a wire in each of their places, as their words give them back

places_again : (ws : List BoolWire) → places (places ws) ≡ places ws
places_again ws = sym (placed (places ws) (places ws) (length-places ws) (λ k _. refl))

-- the node with as many wires as a record has places for, constant 0 after its own
abbrev padded_node : BoolNode → BoolNode
padded_node n = record { kind = n.kind; count = n.count; table = n.table; name = n.name; wires = places n.wires }

module _ (n : BoolNode) where
  node_padded : Padded (padded_node n)
  node_padded = record { is = sym (places_again n.wires) }

  -- the check of a node and its words know its places alone
  same_node_check : (m i : ℕ) → check_node m i (padded_node n) ≡ check_node m i n
  unfolding check_node record_broken cell_broken wires_of is_cell_node
  same_node_check m i = rw (places_again n.wires)

  same_node_words : encode_node (padded_node n) ≡ encode_node n
  unfolding encode_node
  same_node_words = rw (places_again n.wires)

all_padded : (ns : List BoolNode) (k : ℕ) → k < length (map padded_node ns) → Padded (get_or (map padded_node ns) k no_node)
all_padded [] k h = absurd (omega arith)
all_padded (n ∷ ns) zero h = node_padded n
all_padded (n ∷ ns) (suc k) h = all_padded ns k (omega arith)

same_check : (m i : ℕ) (ns : List BoolNode) → check_nodes m i (map padded_node ns) ≡ check_nodes m i ns
unfolding check_nodes
same_check m i [] = refl
same_check m i (n ∷ ns) = ap₂ first_fault (same_node_check n m i) (same_check m (suc i) ns)

same_words : (ns : List BoolNode) → encodes encode_node (map padded_node ns) ≡ encodes encode_node ns
same_words [] = refl
same_words (n ∷ ns) = ap₂ (λ (a b : List ℕ). a ++ b) (same_node_words n) (same_words ns)

same_slice : (ns : List BoolNode) (outputs : List ℕ) → slice_fault (map padded_node ns) outputs ≡ slice_fault ns outputs
unfolding slice_fault check_circuit
same_slice ns outputs = rw (length-map ns padded_node, same_check (length ns) 0 ns)

-- ---- the check over a slice of nodes is the check over the area of their words

pub padded_encoded : (ns : List BoolNode) (outputs : List ℕ) → ((k : ℕ) → k < length ns → Padded (get_or ns k no_node)) → slice_fault ns outputs ≡ topological_fault (encodes encode_node ns) outputs
padded_encoded ns outputs padded = ap (λ (l : List BoolNode). slice_fault l outputs) (sym back) ∙ slice_of_area (encodes encode_node ns) outputs whole_length
  where
    size : length (encodes encode_node ns) ≡ length ns * NODE_WORDS
    size = length-encodes encode_node NODE_WORDS node_wide ns

    whole_length : length (encodes encode_node ns) % NODE_WORDS ≡ 0
    whole_length = omega (arith, size)

    count : length (encodes encode_node ns) / NODE_WORDS ≡ length ns
    count = omega (arith, size)

    back : nodes_in (encodes encode_node ns) ≡ ns
    back = ap (nodes_of (encodes encode_node ns)) count ∙ nodes_of_area (encodes encode_node ns) ns [] padded (sym (append-nil (encodes encode_node ns)))

-- of nodes with any number of wires
pub slice_encoded : (ns : List BoolNode) (outputs : List ℕ) → slice_fault ns outputs ≡ topological_fault (encodes encode_node ns) outputs
slice_encoded ns outputs =
    sym (same_slice ns outputs)
    ∙ padded_encoded (map padded_node ns) outputs (all_padded ns)
    ∙ ap (λ (words : List ℕ). topological_fault words outputs) (same_words ns)
