-- Laws of the whole reader.
-- Assumes nothing.
use Rattle.std.specs.Prelude.{Err, Ok}
use Rattle.std.specs.Result.{is_err}
use Prim.Native.Nat.{ℕ, ◌+◌, ◌-◌, ◌*◌, ◌≤◌}
use mathlib.Core.Bool.{false}
use mathlib.Core.Path.{◌≡◌, sym, ap, ap₂, ◌∙◌, subst}
use mathlib.Core.List.{List, ◌++◌}
use native.Mathlib.Omega.{arith}
use lib.ListN.{length, replicate}
use borrow.Author.Tests.{le-leb}
use Rattle.std.proofs.lemmas.List.{drop-replicate, replicate-append-replicate}
use Rattle.laws.specs.Areas.{encodes}
use Rattle.laws.proofs.Areas.{length_up, length-encodes}
use Rattle.circuit.specs.declared.records.TheConstants.{NODE_WORDS, OUTPUT_WORDS}
use Rattle.circuit.specs.declared.records.Sizes.{Sizes}
use Rattle.circuit.specs.declared.refusals.Refusal.{Refusal}
use Rattle.circuit.specs.Refusals.{Try}
use Rattle.circuit.specs.Records.{encode_node, encode_output, output_at, outputs_of, nodes_of}
use Rattle.circuit.specs.Circuits.{Circuit}
use Rattle.circuit.proofs.Codes.{node_wide, output_wide, length_nodes}
use Rattle.reading.specs.Holding.{NodesHold, OutputsHold, Ends, circuit_of}
use Rattle.bristol_rows.specs.declared.answers.Head.{Head}
use Rattle.bristol_rows.specs.Promises.{HeaderAt}
use Rattle.bristol.specs.Bristol.{with_inputs, start, body, circuit, leave}
use Rattle.bristol.specs.Promises.{Leaves}

-- ---- areas that are zero

zeros_less : (a : List ℕ) (w : ℕ) → a ≡ replicate (length a) 0 → a ≡ replicate (length a - 0 * w) 0
zeros_less a w e =
    let z : 0 * w ≡ 0 = omega arith in
    let q : length a ≡ length a - 0 * w = omega (arith, z) in
    e ∙ ap (λ (m : ℕ). replicate m 0) q

pub no_nodes : (a : List ℕ) → a ≡ replicate (length a) 0 → NodesHold a 0
no_nodes a e = record { room = omega arith; clean = zeros_less a NODE_WORDS e }

pub no_outputs : (a : List ℕ) → a ≡ replicate (length a) 0 → OutputsHold a 0
no_outputs a e = record { room = omega arith; clean = zeros_less a OUTPUT_WORDS e }

pub start_is : (h : Head) (wires : List ℕ) → wires ≡ replicate h.wires 0 → with_inputs h.inputs wires ≡ start h
unfolding start
start_is h wires e = rw (e, drop-replicate {X = ℕ} h.inputs h.wires 0)

-- ---- what is left

module _ (c : Try Circuit) (N O W : List ℕ) (w : ℕ) (zero : W ≡ replicate w 0) where
  pub read_leaves : (r : Try Sizes) (n o : ℕ) → Ends c r N O → is_err r ≡ false → length N ≡ n → length O ≡ o → Leaves (leave n o w c) r N O W
  read_leaves (Err e) n o ends z p q = cc
  read_leaves (Ok s) n o ends z p q =
      let x : Circuit = circuit_of N O s in
      let is : c ≡ Ok x = sym ends.is in
      let ln : length (nodes_of N s.nodes) ≡ s.nodes = length_nodes N s.nodes in
      let lo : length (outputs_of O s.outputs) ≡ s.outputs = length_up (output_at O) 0 s.outputs in
      rw (← p, ← q) (record {
        answer_is = rw is (ap₂ (λ (n o : ℕ). Ok (record { nodes = n; outputs = o })) (sym ln) (sym lo));
        nodes_are = rw is (ends.nodes_kept.clean ∙ ap (λ (k : ℕ). encodes encode_node x.nodes ++ replicate (length N - k) 0) (sym (length-encodes encode_node NODE_WORDS node_wide x.nodes ∙ ap (λ (k : ℕ). k * NODE_WORDS) ln)));
        outputs_are = rw is (ends.outputs_kept.clean ∙ ap (λ (k : ℕ). encodes encode_output x.outputs ++ replicate (length O - k) 0) (sym (length-encodes encode_output OUTPUT_WORDS output_wide x.outputs ∙ ap (λ (k : ℕ). k * OUTPUT_WORDS) lo)));
        wires_are = zero;
      })

  pub refused_leaves : (e : Refusal) (n o : ℕ) (N' O' : List ℕ) → Ends c (Err e) N' O' → N ≡ replicate n 0 → O ≡ replicate o 0 → Leaves (leave n o w c) (Err e) N O W
  refused_leaves e n o N' O' ends zn zo =
      let is : c ≡ Err e = sym ends.is in
      record {
        answer_is = rw is;
        nodes_are = rw is (zn ∙ ap (λ (k : ℕ). replicate k 0) (omega arith));
        outputs_are = rw is (zo ∙ ap (λ (k : ℕ). replicate k 0) (omega arith));
        wires_are = zero;
      }

-- the same with more wires, all zero
pub leaves_more : (a b k c : ℕ) (x y : Try Circuit) → x ≡ y → (r : Try Sizes) (nodes outputs part wires : List ℕ) → k ≤ c
    → wires ≡ part ++ replicate (c - k) 0 → Leaves (leave a b k x) r nodes outputs part → Leaves (leave a b c y) r nodes outputs wires
leaves_more a b k c x y e r nodes outputs part wires h w l =
    let q : k + (c - k) ≡ c = omega arith in
    subst (λ (z : Try Circuit). Leaves (leave a b c z) r nodes outputs wires) e (record {
      answer_is = l.answer_is;
      nodes_are = l.nodes_are;
      outputs_are = l.outputs_are;
      wires_are = w ∙ ap (λ (v : List ℕ). v ++ replicate (c - k) 0) l.wires_are ∙ replicate-append-replicate {A = ℕ} k (c - k) 0 ∙ ap (λ (m : ℕ). replicate m 0) q;
    })

-- ---- the header and the areas

module _ (ls rest : List (List ℕ)) (nr or wr : ℕ) (h : Head) (g : HeaderAt ls rest h) where
  pub circuit-body : h.wires ≤ wr → h.inputs ≤ nr → body nr or h rest ≡ circuit nr or wr ls
  unfolding circuit
  circuit-body l m = rw (g.is, le-leb h.wires wr l, le-leb h.inputs nr m, g.rows_are)
