-- Records and their words: the two ways of a code, and what an area of records holds.
-- Assumes nothing.
use Rattle.std.proofs.Common.{ℕ, zero, suc, ◌+◌, ◌-◌, ◌*◌, ◌<◌, ◌≡◌, List, [], ◌∷◌, ◌++◌, map, length, get_or, replicate, refl, sym, ap, ap₂, ◌∙◌, subst, arith, append-nil, true, false, zero-add}
use native.Mathlib.Numerals.{add-two}
use lib.Dec.{lit<}
use Rattle.circuit.specs.declared.records.BoolWire.{BoolWire}
use Rattle.circuit.specs.declared.records.BoolWire.TheVariants.{Const, Node}
use Rattle.circuit.specs.declared.records.Name.{Name}
use Rattle.circuit.specs.declared.records.Name.TheVariants.{Stretch, Step, Number}
use Rattle.circuit.specs.declared.records.BoolNode.{BoolNode}
use Rattle.circuit.specs.declared.records.Output.{Output}
use Rattle.circuit.specs.Circuits.{Padded}
use Rattle.circuit.specs.declared.records.TheConstants.{WIRES, WIRES_AT, NODE_WORDS, OUTPUT_WORDS}
use Rattle.circuit.specs.Records.{no_node, no_wire, places, input_node, cell_node, encode_output, output_from, output_at, nodes_of, outputs_of, output_wire, output_wires, wire_word, wire_of, name_words, name_from, encode_node, node_from, node_at}
use Rattle.laws.specs.Areas.{encodes, stored}
use Rattle.laws.specs.Areas.{up_from}
use Rattle.laws.proofs.Storing.{list_of_good, more_good_list, more_good_clean, list_of, up_at}
use Rattle.laws.proofs.Areas.{length_up}
use Rattle.circuit.proofs.Places.{placed, length_wires, length-places, length_place_words, word-at}

pub wire_of_node : (x : ℕ) → (x ≡ 0 → ⊥) → (x ≡ 1 → ⊥) → wire_of x ≡ Node (record { 0 = x - 2 })
wire_of_node zero p q = absurd (p refl)
wire_of_node (suc zero) p q = absurd (q refl)
wire_of_node (suc (suc k)) p q = ap (λ (n : ℕ). Node (record { 0 = n })) (omega arith)

-- a wire comes back from its word
pub wire_back : (w : BoolWire) → wire_of (wire_word w) ≡ w
wire_back (Const true) = refl
wire_back (Const false) = refl
wire_back (Node n) = ap wire_of (add-two n.0)

-- a word comes back from its wire
pub wire_word_back : (k : ℕ) → wire_word (wire_of k) ≡ k
wire_word_back zero = refl
wire_word_back (suc zero) = refl
wire_word_back (suc (suc k)) = omega arith

-- ---- the two ways of a node's code

name_list : (n : Name) (l : List ℕ)
    → get_or (name_words n) 0 0 ∷ get_or (name_words n) 1 0 ∷ get_or (name_words n) 2 0 ∷ get_or (name_words n) 3 0 ∷ l ≡ name_words n ++ l
name_list (Stretch s l) m = refl
name_list (Step s l k) m = refl
name_list (Number w) m = refl

pub node_list : (n : BoolNode) (w l : List ℕ) → w ≡ name_words n.name → l ≡ map wire_word (places n.wires)
    → n.kind ∷ n.count ∷ n.table ∷ get_or w 0 0 ∷ get_or w 1 0 ∷ get_or w 2 0 ∷ get_or w 3 0 ∷ (l ++ []) ≡ encode_node n
unfolding encode_node
node_list n w l p q =
    let m = map wire_word (places n.wires) in
    rw (p, q, append-nil m) (ap (λ (x : List ℕ). n.kind ∷ n.count ∷ n.table ∷ x) (name_list n.name m))

name_words_back : (n : Name) (l : List ℕ) (t a b c : ℕ)
    → t ≡ get_or (name_words n ++ l) 0 0 → a ≡ get_or (name_words n ++ l) 1 0 → b ≡ get_or (name_words n ++ l) 2 0 → c ≡ get_or (name_words n ++ l) 3 0
    → name_from t a b c ≡ n
name_words_back (Stretch s k) l t a b c p q r u = rw (p, q, r)
name_words_back (Step s k m) l t a b c p q r u = rw (p, q, r, u)
name_words_back (Number w) l t a b c p q r u = rw (p, q)

past_name : (n : Name) (l : List ℕ) (j : ℕ) → get_or (name_words n ++ l) (suc (suc (suc (suc j)))) 0 ≡ get_or l j 0
past_name (Stretch s k) l j = refl
past_name (Step s k m) l j = refl
past_name (Number w) l j = refl

-- lists of what agrees at each place
up_same : {A : Type 0} (f g : ℕ → A) (i m : ℕ) → ((k : ℕ) → k < m → f (i + k) ≡ g (i + k)) → up_from f i m ≡ up_from g i m
up_same f g i zero h = refl
up_same f g i (suc m) h =
    let zero_more : i + 0 ≡ i = omega arith in
    ap₂ (λ x l. x ∷ l) (subst (λ (j : ℕ). f j ≡ g j) zero_more (h 0 (omega arith)))
    (up_same f g (suc i) m (λ k l. let e : i + suc k ≡ suc i + k = omega arith in subst (λ (j : ℕ). f j ≡ g j) e (h (suc k) (omega arith))))

-- a node from words that agree with its code
pub node_back : (n : BoolNode) → Padded n → (f : ℕ → ℕ) → ((j : ℕ) → j < NODE_WORDS → f j ≡ get_or (encode_node n) j 0) → node_from f ≡ n
unfolding node_from encode_node places
node_back n placed f h =
    let l = map wire_word (places n.wires) in
    let named = name_words_back n.name l (f 3) (f 4) (f 5) (f 6) (h 3 (omega arith)) (h 4 (omega arith)) (h 5 (omega arith)) (h 6 (omega arith)) in
    let wired : up_from (λ k. wire_of (f (WIRES_AT + k))) 0 WIRES ≡ n.wires =
    up_same (λ k. wire_of (f (WIRES_AT + k))) (λ k. get_or n.wires k no_wire) 0 WIRES (λ k b. subst (λ (j : ℕ). wire_of (f (WIRES_AT + j)) ≡ get_or n.wires j no_wire) (sym (zero-add k)) (wire k b)) ∙ sym placed.is in
    λ i. record { kind = h 0 (omega arith) i; count = h 1 (omega arith) i; table = h 2 (omega arith) i; name = named i; wires = wired i }
  where
    wire : (k : ℕ) → k < WIRES → wire_of (f (WIRES_AT + k)) ≡ get_or n.wires k no_wire
    wire k b =
        let l = map wire_word (places n.wires) in
        let seven : WIRES_AT + k ≡ suc (suc (suc (suc (suc (suc (suc k)))))) = omega arith in
        let inside : WIRES_AT + k < NODE_WORDS = omega arith in
        ap wire_of (h (WIRES_AT + k) inside ∙ ap (λ (j : ℕ). get_or (encode_node n) j 0) seven ∙ past_name n.name l k ∙ word-at n.wires k b) ∙ wire_back (get_or n.wires k no_wire)

pub node_wide : (n : BoolNode) → length (encode_node n) ≡ NODE_WORDS
unfolding encode_node
node_wide n = go n.name (map wire_word (places n.wires)) (length_place_words n.wires)
  where
    go : (k : Name) (l : List ℕ) → length l ≡ WIRES → length (n.kind ∷ n.count ∷ n.table ∷ (name_words k ++ l)) ≡ NODE_WORDS
    go (Stretch s m) l e = omega arith
    go (Step s m j) l e = omega arith
    go (Number w) l e = omega arith

-- what is read is so, and what the constructors make
pub read_padded : (f : ℕ → ℕ) → Padded (node_from f)
unfolding node_from
read_padded f = record { is = placed (node_from f).wires (node_from f).wires (length_wires f) (λ k _. refl) }

pub input_padded : (name : Name) → Padded (input_node name)
unfolding input_node
input_padded name = record { is = placed (places []) (places []) (length-places []) (λ k _. refl) }

pub cell_padded : (name : Name) (t : ℕ) (ws : List BoolWire) → Padded (cell_node name t ws)
unfolding cell_node
cell_padded name t ws = record { is = placed (places ws) (places ws) (length-places ws) (λ k _. refl) }

-- ---- the same of an output

pub output_list : (o : Output) (w : List ℕ) (f : ℕ) → w ≡ name_words o.name → f ≡ wire_word o.wire
    → get_or w 0 0 ∷ get_or w 1 0 ∷ get_or w 2 0 ∷ get_or w 3 0 ∷ f ∷ [] ≡ encode_output o
output_list o w f p q = rw (p, q) (name_list o.name (wire_word o.wire ∷ []))

pub output_back : (o : Output) (f : ℕ → ℕ) → ((j : ℕ) → j < OUTPUT_WORDS → f j ≡ get_or (encode_output o) j 0) → output_from f ≡ o
output_back o f h =
    let l : List ℕ = wire_word o.wire ∷ [] in
    let named = name_words_back o.name l (f 0) (f 1) (f 2) (f 3) (h 0 (lit< tt)) (h 1 (lit< tt)) (h 2 (lit< tt)) (h 3 (lit< tt)) in
    let wired : wire_of (f 4) ≡ o.wire = ap wire_of (h 4 (lit< tt) ∙ past_name o.name l 0) ∙ wire_back o.wire in
    λ i. record { name = named i; wire = wired i }

pub output_wide : (o : Output) → length (encode_output o) ≡ OUTPUT_WORDS
output_wide o = go o.name
  where
    go : (k : Name) → length (name_words k ++ (wire_word o.wire ∷ [])) ≡ OUTPUT_WORDS
    go (Stretch s l) = refl
    go (Step s l m) = refl
    go (Number w) = refl

-- ---- what an area of records holds

no_output : Output
no_output = record { name = Stretch 0 0; wire = Const false }

-- the list that an area of its records and anything after them gives back
pub nodes_of_area : (a : List ℕ) (ns : List BoolNode) (rest : List ℕ) → ((k : ℕ) → k < length ns → Padded (get_or ns k no_node)) → a ≡ encodes encode_node ns ++ rest → nodes_of a (length ns) ≡ ns
nodes_of_area a ns rest good e = list_of_good encode_node NODE_WORDS node_wide node_from no_node Padded node_back read_padded a ns rest good e

pub outputs_of_area : (a : List ℕ) (os : List Output) (rest : List ℕ) → a ≡ encodes encode_output os ++ rest → outputs_of a (length os) ≡ os
outputs_of_area a os rest e = list_of encode_output OUTPUT_WORDS output_wide output_from output_back no_output a os rest e

-- the next record, stored after the others: the list, and the area's words
module _ (a b : List ℕ) (m : ℕ) (x : BoolNode) (fine : Padded x) (put : b ≡ stored a (m * NODE_WORDS) (encode_node x)) (same : length b ≡ length a)
    (clean : a ≡ encodes encode_node (nodes_of a m) ++ replicate (length a - m * NODE_WORDS) 0) where
  pub next_nodes : nodes_of b (m + 1) ≡ nodes_of a m ++ (x ∷ [])
  next_nodes = more_good_list encode_node NODE_WORDS node_wide node_from no_node Padded node_back read_padded a b m x fine put same clean

  pub next_nodes_clean : b ≡ encodes encode_node (nodes_of b (m + 1)) ++ replicate (length b - (m + 1) * NODE_WORDS) 0
  next_nodes_clean = more_good_clean encode_node NODE_WORDS node_wide node_from no_node Padded node_back read_padded a b m x fine put same clean

pub length_nodes : (a : List ℕ) (m : ℕ) → length (nodes_of a m) ≡ m
length_nodes a m = length_up (node_at a) 0 m

pub length_output_wires : (a : List ℕ) (m : ℕ) → length (output_wires a m) ≡ m
length_output_wires a m = length_up (output_wire a) 0 m

-- node k of the list is record k of the area
pub node_of : (a : List ℕ) (m k : ℕ) → k < m → get_or (nodes_of a m) k no_node ≡ node_at a k
node_of a m k h = up_at (node_at a) no_node 0 m k h ∙ ap (node_at a) (zero-add k)

-- an output's wire is that of its record
pub wires_of_outputs : (a : List ℕ) (m : ℕ) → output_wires a m ≡ map (λ (o : Output). o.wire) (outputs_of a m)
wires_of_outputs a m = go 0 m
  where
    go : (i k : ℕ) → up_from (output_wire a) i k ≡ map (λ (o : Output). o.wire) (up_from (output_at a) i k)
    go i zero = refl
    go i (suc k) = ap (λ (l : List BoolWire). output_wire a i ∷ l) (go (suc i) k)
