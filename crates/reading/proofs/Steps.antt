-- Laws of the steps that add names, nodes, inputs and output words.
-- Assumes nothing.
use Rattle.std.specs.Prelude.{Err, Ok}
use Prim.Native.Nat.{ℕ, zero, suc, ◌+◌, ◌≤◌, ◌<◌}
use mathlib.Core.Path.{◌≡◌, refl, ap}
use mathlib.Core.List.{List, [], ◌∷◌, ◌++◌}
use lib.ListN.{length}
use borrow.Author.Tests.{lt-ltb, le-ltb}
use Rattle.laws.proofs.Stretches.{all_append}
use Rattle.circuit.specs.declared.refusals.Refusal.TheVariants.{NoRoom}
use Rattle.circuit.specs.declared.records.BoolNode.{BoolNode}
use Rattle.circuit.specs.Records.{nodes_of}
use Rattle.circuit.proofs.Codes.{length_nodes}
use Rattle.text.specs.declared.words.Word.{Word}
use Rattle.names.specs.Names.{Entry}
use Rattle.names.specs.Chains.{entries}
use Rattle.reading.specs.Reading.{add_name, add_node, add_output}
use Rattle.reading.specs.Holding.{words_of, output_word, InText}
use Rattle.laws.proofs.Areas.{length_up}

pub length-entries : (names : List ℕ) (k : ℕ) → length (entries names k) ≡ k
unfolding entries
length-entries names zero = refl
length-entries names (suc k) = ap suc (length-entries names k)

pub length-words : (a : List ℕ) (n : ℕ) → length (words_of a n) ≡ n
length-words a n = length_up (output_word a) 0 n

-- ---- records

module _ (names : List ℕ) (count room : ℕ) (w : Word) (wire : ℕ) where
  pub name_full : room ≤ count → Err NoRoom ≡ add_name room w wire (entries names count)
  unfolding add_name
  name_full h = rw (length-entries names count, le-ltb count room h)

  pub name_added : count < room → (es : List Entry) → es ≡ record { start = w.start; len = w.len; wire = wire } ∷ entries names count → Ok es ≡ add_name room w wire (entries names count)
  unfolding add_name
  name_added h es q = rw (length-entries names count, lt-ltb count room h, q)

module _ (ns : List ℕ) (n room : ℕ) (x : BoolNode) where
  pub node_full : room ≤ n → Err NoRoom ≡ add_node room x (nodes_of ns n)
  unfolding add_node
  node_full h = rw (length_nodes ns n, le-ltb n room h)

  pub node_added : n < room → (xs : List BoolNode) → xs ≡ nodes_of ns n ++ (x ∷ []) → Ok xs ≡ add_node room x (nodes_of ns n)
  unfolding add_node
  node_added h xs q = rw (length_nodes ns n, lt-ltb n room h, q)

module _ (os : List ℕ) (n room : ℕ) (w : Word) where
  pub output_full : room ≤ n → Err NoRoom ≡ add_output room w (words_of os n)
  unfolding add_output
  output_full h = rw (length-words os n, le-ltb n room h)

  pub output_added : n < room → (ws : List Word) → ws ≡ words_of os n ++ (w ∷ []) → Ok ws ≡ add_output room w (words_of os n)
  unfolding add_output
  output_added h ws q = rw (length-words os n, lt-ltb n room h, q)

pub in_more : (n : ℕ) (ws all : List Word) (w : Word) → all ≡ ws ++ (w ∷ []) → InText n ws → w.start + w.len ≤ n → InText n all
in_more n ws all w e h k = rw e (all_append (λ (x : Word). x.start + x.len ≤ n) ws (w ∷ []) h (k, tt))
