-- How many records, cells and bytes there can be: what the lent areas hold.
-- Assumes nothing.
use Rattle.std.specs.Prelude.{Err, Ok}
use Rattle.circuit.specs.declared.records.Sizes.{Sizes}
use Prim.Native.Nat.{ℕ, zero, suc, ◌-◌, ◌/◌, ◌≤◌}
use mathlib.Core.Path.{◌≡◌, refl, sym, ap, subst}
use mathlib.Core.Bool.{Bool, true, false}
use mathlib.Core.List.{List, [], ◌∷◌, map}
use native.Mathlib.Omega.{arith}
use lib.Seq.{length-take-le}
use lib.ListN.{length, length-append, length-replicate, take, replicate}
use Rattle.laws.specs.Lists.{keep, numbers}
use Rattle.laws.specs.Areas.{encodes}
use Rattle.laws.proofs.Areas.{length-encodes}
use Rattle.circuit.specs.Refusals.{Try, Checked, check_then}
use Rattle.circuit.specs.Circuits.{Circuit, filled, read_answer, node_words, output_words}
use Rattle.circuit.specs.Records.{encode_node, encode_output, nodes_of}
use Rattle.circuit.specs.Graph.{vertex_of, graph_of}
use Rattle.graphs.specs.Graph.{is_cell, cells_of}
use Rattle.circuit.proofs.Codes.{node_wide, output_wide, length_nodes}
use Rattle.reading.specs.Areas.{Leaves}
use Rattle.schedule.specs.Call.{ordered_cells, graph_in, leaves, schedule_fault, schedule_call}
use Rattle.listing.specs.declared.TheConstants.{LISTED}
use Rattle.listing.specs.Lines.{Room}
use Rattle.circuit.specs.declared.records.TheConstants.{NODE_WORDS, OUTPUT_WORDS}
use Rattle.printing.specs.declared.rooms.TheConstants.{JOINED_AREA, NODES_AREA, LINE_AREA}
use Rattle.printing.specs.Inside.{ReadInside, Listable}

-- ---- as many cells as nodes at the most

numbers_most : (p : ℕ → Bool) (from n : ℕ) → length (numbers p from n) ≤ n
unfolding numbers
numbers_most p from zero = omega arith
numbers_most p from (suc n) = go (p from) (numbers_most p (suc from) n)
  where
    go : (t : Bool) → length (numbers p (suc from) n) ≤ n → length (keep t from (numbers p (suc from) n)) ≤ suc n
    go true h = omega arith
    go false h = omega arith

length-map : {A B : Type 0} (f : A → B) (l : List A) → length (map f l) ≡ length l
length-map f [] = refl
length-map f (x ∷ xs) = ap suc (length-map f xs)

cells_most : (nodes : List ℕ) (n : ℕ) → length (cells_of (graph_in nodes n)) ≤ n
unfolding cells_of graph_in graph_of
cells_most nodes n =
    omega (arith, numbers_most (is_cell (graph_in nodes n)) 0 (length (graph_in nodes n)), length-map vertex_of (nodes_of nodes n), length_nodes nodes n)

answer_most : (fault : Checked) (cells : ℕ) → ordered_cells (check_then fault (Ok cells)) ≤ cells
answer_most (Ok u) cells = omega arith
answer_most (Err e) cells = omega arith

ordered_most : (r : Try ℕ) (nodes outputs keys a b c x y z : List ℕ) (w : ℕ) → leaves r a b c ≡ schedule_call nodes outputs w keys x y z → ordered_cells r ≤ length nodes / NODE_WORDS
unfolding schedule_call
ordered_most r nodes outputs keys a b c x y z w e =
    omega (
      arith,
      ap (λ l. ordered_cells l.answer) e,
      answer_most (schedule_fault nodes outputs w keys (length x) (length y) (length z)) (length (cells_of (graph_in nodes (length nodes / NODE_WORDS)))),
      cells_most nodes (length nodes / NODE_WORDS),
    )

pub cells_within : (r : Try ℕ) (nodes outputs keys a b c x y z : List ℕ) (w n : ℕ) → leaves r a b c ≡ schedule_call nodes outputs w keys x y z → r ≡ Ok n → n ≤ length nodes / NODE_WORDS
cells_within r nodes outputs keys a b c x y z w n e q = omega (arith, ordered_most r nodes outputs keys a b c x y z w e, ap ordered_cells q)

-- ---- the records of a circuit that was read are inside their areas

filled_inside : (l area : List ℕ) (size : ℕ) → area ≡ filled l size → length area ≡ size → length l ≤ size
filled_inside l area size e s =
    omega (arith, ap length e, length-append l (replicate (size - length l) 0), length-replicate {A = ℕ} (size - length l) 0)

pub inside : (c : Try Circuit) (r : Try Sizes) (nodes outputs : List ℕ) (w o : ℕ) → r ≡ read_answer c
    → nodes ≡ filled (node_words c) w → length nodes ≡ w → outputs ≡ filled (output_words c) o → length outputs ≡ o → ReadInside r nodes outputs
inside c r nodes outputs w o p a s b t = subst (λ (x : Try Sizes). ReadInside x nodes outputs) (sym p) (go c a b)
  where
    go : (c : Try Circuit) → nodes ≡ filled (node_words c) w → outputs ≡ filled (output_words c) o → ReadInside (read_answer c) nodes outputs
    go (Err e) a b = tt
    go (Ok q) a b =
        record {
          words_of_nodes = omega (arith, filled_inside (encodes encode_node q.nodes) nodes w a s, length-encodes encode_node NODE_WORDS node_wide q.nodes);
          words_of_outputs = omega (arith, filled_inside (encodes encode_output q.outputs) outputs o b t, length-encodes encode_output OUTPUT_WORDS output_wide q.outputs);
        }

-- of a text whose lines were joined
pub joined_inside : (text : List ℕ) (c : Try Circuit) (j w k o : ℕ) (r : Try Sizes) (joined nodes names outputs : List ℕ) → Leaves text c j w k o r joined nodes names outputs
    → length joined ≡ JOINED_AREA → length nodes ≡ w → w ≡ NODES_AREA → length outputs ≡ o → Listable joined nodes outputs r
joined_inside text c j w k o r joined nodes names outputs l f s g t =
    record { text_size = omega arith; node_size = omega arith; inside = inside c r nodes outputs w o l.answer l.nodes_is s l.outputs_is t }

-- ---- parts of areas

pub front_size : {A : Type 0} (n : ℕ) (l : List A) → n ≤ length l → n ≡ length (take n l)
front_size n l h = sym (length-take-le n l h)

-- room for every line of a circuit of at most 1,024 nodes
pub circuit-room : (text order : List ℕ) (n : ℕ) → length text ≤ JOINED_AREA → n ≤ LISTED → n ≤ length order → Room (length text) (length (take n order)) LINE_AREA
circuit-room text order n h k m = record { of_node = omega arith; of_order = omega (arith, length-take-le n order m) }
