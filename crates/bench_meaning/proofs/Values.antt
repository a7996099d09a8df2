-- The storage order's values as nodes are added at the end of a circuit: what stands keeps its value, and a cell takes its answer.
-- Assumes nothing.
use Prim.Native.Nat.{ℕ, ◌+◌, ◌<◌, ◌≤◌}
use mathlib.Core.Path.{◌≡◌, refl, ◌∙◌}
use mathlib.Core.Bool.{cond, true}
use mathlib.Core.List.{map, List, [], ◌∷◌, ◌++◌}
use native.Mathlib.Omega.{arith}
use lib.ListN.{length, get_or, length-append}
use Rattle.circuit.specs.declared.records.Name.{Name}
use Rattle.circuit.specs.declared.records.BoolNode.{BoolNode}
use Rattle.circuit.specs.Records.{is_cell_node}
use Rattle.cells.specs.Cells.{cell_rule}
use Rattle.values.specs.Values.{answer_of, storage_values}
use Rattle.values.specs.Assignments.{input_count}
use Rattle.values.proofs.WireValues.{wire_kept as kept_by, wire_new as new_by}
use Rattle.values.proofs.CellNodes.{answer_of_words}
use Rattle.reading.specs.Reading.{word_cell}
use Rattle.circuit.specs.declared.records.TheConstants.{WIRES}
use Rattle.circuit.specs.Records.{cell_node, wire_of}
use Rattle.std.proofs.lemmas.List.{length-map}
use Rattle.bench_meaning.specs.GateMeaning.{wire_value, Carries, CarryAll}

module _ (a : List ℕ) where
  pub wire_kept : (ns ms : List BoolNode) (x : ℕ) → x < length ns + 2 → wire_value a (ns ++ ms) x ≡ wire_value a ns x
  unfolding wire_value storage_values
  wire_kept ns ms x h = kept_by answer_of a ns ms x h

  -- a node at the end: the next input's value, or a cell's answer on the values before it
  abbrev pub at_end : List BoolNode → BoolNode → ℕ
  at_end ns n = cond (is_cell_node n) (answer_of (storage_values ns a) n) (get_or a (input_count ns) 0)

  pub wire_new : (ns : List BoolNode) (n : BoolNode) → wire_value a (ns ++ n ∷ []) (length ns + 2) ≡ at_end ns n
  unfolding wire_value storage_values
  wire_new ns n = new_by answer_of a ns n

  -- ---- the answer of a cell on the values of its wires

  pub a_cell : (name : Name) (table : ℕ) (xs : List ℕ) → is_cell_node (word_cell name table xs) ≡ true
  unfolding is_cell_node cell_node
  a_cell name table xs = refl

  pub cell_answer : (ns : List BoolNode) (name : Name) (table : ℕ) (xs : List ℕ) → length xs ≤ WIRES → at_end ns (word_cell name table xs) ≡ cell_rule table (map (wire_value a ns) xs)
  unfolding is_cell_node cell_node wire_value
  cell_answer ns name table xs few = answer_of_words (storage_values ns a) name table xs (omega (arith, length-map xs wire_of))

  -- ---- wires that have their values still

  pub carries_kept : (ns ms : List BoolNode) (x v : ℕ) → Carries a ns x v → Carries a (ns ++ ms) x v
  carries_kept ns ms x v c = record { there = omega (arith, c.there, length-append ns ms); value = wire_kept ns ms x c.there ∙ c.value }

  pub all_kept : (ns ms : List BoolNode) (xs vs : List ℕ) → CarryAll a ns xs vs → CarryAll a (ns ++ ms) xs vs
  all_kept ns ms [] [] c = tt
  all_kept ns ms [] (v ∷ vs) c = absurd c
  all_kept ns ms (x ∷ xs) [] c = absurd c
  all_kept ns ms (x ∷ xs) (v ∷ vs) c = (carries_kept ns ms x v c.0, all_kept ns ms xs vs c.1)
