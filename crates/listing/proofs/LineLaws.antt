-- Laws of the lines of a listing.
-- Assumes nothing.
use Prim.Native.Nat.{ℕ, zero, suc, ◌+◌, ◌*◌, ◌≤◌, ◌<◌}
use mathlib.Core.Path.{◌≡◌, refl, sym, ap, ap₂, ◌∙◌}
use mathlib.Core.List.{List, [], ◌∷◌, ◌++◌, append_assoc}
use native.Mathlib.Omega.{arith}
use native.Mathlib.Nat.{add-zero, zero-add}
use native.Mathlib.Numerals.{add-one}
use lib.ListN.{length, length-append, take, get_or, set, length-set, get_or-append}
use lib.Seq.{get_or-append-add, take-suc-set}
use Rattle.laws.specs.Areas.{up_from}
use Rattle.laws.proofs.Areas.{length_up}
use Rattle.circuit.specs.declared.records.BoolNode.{BoolNode}
use Rattle.circuit.specs.declared.records.Output.{Output}
use Rattle.circuit.specs.Records.{node_at, output_at, nodes_of, outputs_of}
use Rattle.listing.specs.Listing.{node_line, node_lines, output_line, output_lines, count_line, order_line, listing, keys_from}

-- ---- which line is which

length_node_lines : (t : List ℕ) (i : ℕ) (ns : List BoolNode) → length (node_lines t i ns) ≡ length ns
unfolding node_lines
length_node_lines t i [] = refl
length_node_lines t i (n ∷ ns) = ap suc (length_node_lines t (suc i) ns)

length_output_lines : (t : List ℕ) (os : List Output) → length (output_lines t os) ≡ length os
unfolding output_lines
length_output_lines t [] = refl
length_output_lines t (o ∷ os) = ap suc (length_output_lines t os)

node_line_at : (t : List ℕ) (f : ℕ → BoolNode) (i m j : ℕ) → j < m → get_or (node_lines t i (up_from f i m)) j [] ≡ node_line t (i + j) (f (i + j))
unfolding node_lines
node_line_at t f i zero j h = absurd (omega arith)
node_line_at t f i (suc m) zero h = rw add-zero
node_line_at t f i (suc m) (suc j) h =
    let e : suc i + j ≡ i + suc j = omega arith in
    node_line_at t f (suc i) m j (omega arith) ∙ ap (λ (k : ℕ). node_line t k (f k)) e

output_line_at : (t : List ℕ) (f : ℕ → Output) (i m j : ℕ) → j < m → get_or (output_lines t (up_from f i m)) j [] ≡ output_line t (f (i + j))
unfolding output_lines
output_line_at t f i zero j h = absurd (omega arith)
output_line_at t f i (suc m) zero h = rw add-zero
output_line_at t f i (suc m) (suc j) h =
    let e : suc i + j ≡ i + suc j = omega arith in
    output_line_at t f (suc i) m j (omega arith) ∙ ap (λ (k : ℕ). output_line t (f k)) e

module _ (t nodes outputs order : List ℕ) (m n : ℕ) where
  abbrev pub lines : List (List ℕ)
  lines = listing t (nodes_of nodes m) (outputs_of outputs n) order

  before : length (node_lines t 0 (nodes_of nodes m)) ≡ m
  before = length_node_lines t 0 (nodes_of nodes m) ∙ length_up (node_at nodes) 0 m

  between : length (output_lines t (outputs_of outputs n)) ≡ n
  between = length_output_lines t (outputs_of outputs n) ∙ length_up (output_at outputs) 0 n

  pub listing_length : length lines ≡ suc (m + (n + 1))
  unfolding listing
  listing_length = ap suc (length-append (node_lines t 0 (nodes_of nodes m)) _ ∙ ap₂ (λ (i j : ℕ). i + j) before (length-append (output_lines t (outputs_of outputs n)) (order_line order ∷ []) ∙ ap (λ (j : ℕ). j + 1) between))

  -- the lines after those of the nodes
  after_nodes : (j : ℕ) → get_or lines (suc (m + j)) [] ≡ get_or (output_lines t (outputs_of outputs n) ++ (order_line order ∷ [])) j []
  unfolding listing
  after_nodes j =
      ap (λ (k : ℕ). get_or (node_lines t 0 (nodes_of nodes m) ++ (output_lines t (outputs_of outputs n) ++ (order_line order ∷ []))) (k + j) []) (sym before)
      ∙ get_or-append-add (node_lines t 0 (nodes_of nodes m)) (output_lines t (outputs_of outputs n) ++ (order_line order ∷ [])) j []

  after_outputs : (j : ℕ) → get_or lines (suc (m + (n + j))) [] ≡ get_or (order_line order ∷ []) j []
  after_outputs j =
      after_nodes (n + j)
      ∙ ap (λ (k : ℕ). get_or (output_lines t (outputs_of outputs n) ++ (order_line order ∷ [])) (k + j) []) (sym between)
      ∙ get_or-append-add (output_lines t (outputs_of outputs n)) (order_line order ∷ []) j []

  pub is_count : count_line m ≡ get_or lines 0 []
  unfolding listing
  is_count = rw (length_up (node_at nodes) 0 m)

  pub is_node : (i : ℕ) → i < m → node_line t i (node_at nodes i) ≡ get_or lines (suc i) []
  unfolding listing
  is_node i h =
      let l : i < length (node_lines t 0 (nodes_of nodes m)) = omega (arith, before) in
      rw (get_or-append (node_lines t 0 (nodes_of nodes m)) (output_lines t (outputs_of outputs n) ++ (order_line order ∷ [])) [] i l, node_line_at t (node_at nodes) 0 m i h, zero-add i)

  pub is_output : (j : ℕ) → j < n → output_line t (output_at outputs j) ≡ get_or lines (suc (m + j)) []
  is_output j h =
      let l : j < length (output_lines t (outputs_of outputs n)) = omega (arith, between) in
      sym (after_nodes j ∙ get_or-append (output_lines t (outputs_of outputs n)) (order_line order ∷ []) [] j l ∙ output_line_at t (output_at outputs) 0 n j h ∙ ap (λ (x : ℕ). output_line t (output_at outputs x)) (zero-add j))

  pub is-order : order_line order ≡ get_or lines (suc (m + (n + 0))) []
  is-order = sym (after_outputs 0)

  pub is_past : (j : ℕ) → [] ≡ get_or lines (suc (m + (n + suc j))) []
  is_past j = sym (after_outputs (suc j))

-- ---- the keys

keys_snoc : (k n : ℕ) → keys_from k (suc n) ≡ keys_from k n ++ (0 ∷ 0 ∷ (k + n) ∷ [])
unfolding keys_from
keys_snoc k zero = rw add-zero
keys_snoc k (suc n) =
    let e : suc k + n ≡ k + suc n = omega arith in
    ap (λ (l : List ℕ). 0 ∷ 0 ∷ k ∷ l) (keys_snoc (suc k) n ∙ ap (λ (x : ℕ). keys_from (suc k) n ++ (0 ∷ 0 ∷ x ∷ [])) e)

pub keys_none : (keys : List ℕ) → take (0 * 3) keys ≡ keys_from 0 0
unfolding keys_from
keys_none keys = refl

pub keys_next : (keys : List ℕ) (i : ℕ) → (i + 1) * 3 ≤ length keys → take (i * 3) keys ≡ keys_from 0 i
    → take ((i + 1) * 3) (set (set (set keys (i * 3) 0) (i * 3 + 1) 0) (i * 3 + 2) i) ≡ keys_from 0 (i + 1)
keys_next keys i h e =
    let a = i * 3 in
    let one : List ℕ = set keys a 0 in
    let two : List ℕ = set one (a + 1) 0 in
    let f : (i + 1) * 3 ≡ suc (a + 2) = omega arith in
    let g : a + 2 ≡ suc (a + 1) = omega arith in
    let la : length one ≡ length keys = length-set keys a 0 in
    let lb : length two ≡ length one = length-set one (a + 1) 0 in
    rw (f, take-suc-set two (a + 2) i (omega arith))
    (ap (λ (l : List ℕ). l ++ (i ∷ []))
    (ap (λ (x : ℕ). take x two) g ∙ take-suc-set one (a + 1) 0 (omega arith)
    ∙ ap (λ (l : List ℕ). l ++ (0 ∷ [])) (ap (λ (x : ℕ). take x one) (add-one a) ∙ take-suc-set keys a 0 (omega arith) ∙ ap (λ (l : List ℕ). l ++ (0 ∷ [])) e))
    ∙ regroup (keys_from 0 i) ∙ sym (keys_snoc 0 i ∙ ap (λ (x : ℕ). keys_from 0 i ++ (0 ∷ 0 ∷ x ∷ [])) (zero-add i)) ∙ ap (keys_from 0) (sym (add-one i)))
  where
    regroup : (l : List ℕ) → ((l ++ (0 ∷ [])) ++ (0 ∷ [])) ++ (i ∷ []) ≡ l ++ (0 ∷ 0 ∷ i ∷ [])
    regroup l = append_assoc (l ++ (0 ∷ [])) (0 ∷ []) (i ∷ []) ∙ append_assoc l (0 ∷ []) (0 ∷ i ∷ [])
