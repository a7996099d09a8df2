-- Areas that are in order stay so with a record more.
-- Assumes nothing.
use Prim.Native.Nat.{ℕ, suc, ◌+◌, ◌-◌, ◌*◌, ◌/◌, ◌≤◌, ◌<◌}
use mathlib.Core.Path.{◌≡◌, refl}
use mathlib.Core.List.{List, [], ◌∷◌, ◌++◌}
use native.Mathlib.Nat.{mul-le-mul_right, div-mul-le_self, suc-mul}
use native.Mathlib.Omega.{arith}
use lib.ListN.{length, get_or, replicate}
use lib.Dec.{lit<}
use Rattle.laws.specs.Areas.{encodes, stored, capacity}
use Rattle.laws.specs.declared.TheConstants.{MOST_RECORDS}
use Rattle.laws.proofs.Storing.{more_list, more_clean}
use Rattle.circuit.specs.declared.records.BoolNode.{BoolNode}
use Rattle.circuit.specs.declared.records.TheConstants.{NODE_WORDS, OUTPUT_WORDS}
use Rattle.circuit.specs.Records.{encode_node, nodes_of}
use Rattle.circuit.specs.Circuits.{Padded}
use Rattle.circuit.proofs.Codes.{next_nodes, next_nodes_clean}
use Rattle.text.specs.declared.words.Word.{Word}
use Rattle.reading.specs.Holding.{NodesHold, words_of, encode_word}

-- below the capacity there is room for one record more
pub room_of : (width words n : ℕ) → 0 < width → n < capacity width words → n * width + width ≤ words
unfolding capacity
room_of width words n h k =
    let q : suc n ≤ words / width = omega arith in
    omega (arith, mul-le-mul_right width q, div-mul-le_self words width, suc-mul n width)

pub below_cap : (width words n : ℕ) → n < capacity width words → n < MOST_RECORDS
unfolding capacity
below_cap width words n k = omega arith

module _ (a b : List ℕ) (n : ℕ) (x : BoolNode) (fine : Padded x) (put : b ≡ stored a (n * NODE_WORDS) (encode_node x)) (same : length b ≡ length a) (room : n * NODE_WORDS + NODE_WORDS ≤ length a) (kept : NodesHold a n) where
  pub more_nodes : nodes_of b (n + 1) ≡ nodes_of a n ++ (x ∷ [])
  more_nodes = next_nodes a b n x fine put same kept.clean

  pub more_hold : NodesHold b (n + 1)
  more_hold = record { room = omega (arith, same, room); clean = next_nodes_clean a b n x fine put same kept.clean }

abbrev word_from : (ℕ → ℕ) → Word
word_from f = record { start = f 1; len = f 2 }

word_back : (a : Word) (f : ℕ → ℕ) → ((j : ℕ) → j < OUTPUT_WORDS → f j ≡ get_or (encode_word a) j 0) → word_from f ≡ a
word_back a f h = λ i. record { start = h 1 (lit< tt) i; len = h 2 (lit< tt) i }

module _ (a b : List ℕ) (m : ℕ) (x : Word) (put : b ≡ stored a (m * OUTPUT_WORDS) (encode_word x)) (same : length b ≡ length a)
    (clean : a ≡ encodes encode_word (words_of a m) ++ replicate (length a - m * OUTPUT_WORDS) 0) where
  pub more_words : words_of b (m + 1) ≡ words_of a m ++ (x ∷ [])
  more_words = more_list encode_word OUTPUT_WORDS (λ w. refl) word_from word_back (record { start = 0; len = 0 }) a b m x put same clean

  pub more_words_clean : b ≡ encodes encode_word (words_of b (m + 1)) ++ replicate (length b - (m + 1) * OUTPUT_WORDS) 0
  more_words_clean = more_clean encode_word OUTPUT_WORDS (λ w. refl) word_from word_back (record { start = 0; len = 0 }) a b m x put same clean
