-- The ways of lowering a gate whose inputs have drivers.
-- Assumes nothing.
use Rattle.std.specs.Prelude.{Err}
use Prim.Native.Nat.{ℕ, ◌≤◌, ◌<◌}
use mathlib.Core.Path.{◌≡◌, refl, sym, ap, ◌∙◌}
use mathlib.Core.List.{List, [], ◌∷◌}
use native.Mathlib.Omega.{arith}
use lib.ListN.{length, get_or, take}
use borrow.Author.Tests.{ne_eqb}
use Rattle.circuit.specs.declared.refusals.Refusal.TheVariants.{WrongCount, Unknown}
use Rattle.circuit.specs.declared.records.BoolNode.{BoolNode}
use Rattle.circuit.specs.Refusals.{Try, and_then}
use Rattle.text.specs.declared.words.Word.{Word}
use Rattle.names.specs.Names.{Entry}
use Rattle.reading.specs.Reading.{Places, Held, add_name, with_names, add_alias, add_named}
use Rattle.bench_invocations.specs.Walks.{arguments_at}
use Rattle.bench_gates.specs.declared.operations.Operation.TheVariants.{Buf, Not, Chain, Other}
use Rattle.bench_gates.specs.declared.operations.Binary.{Binary}
use Rattle.bench_gates.specs.declared.plans.Plan.{Plan}
use Rattle.bench_gates.specs.Gates.{input_wires, only_one, inverter, last_cell, with_nodes, chain, chained, lower_gate}
use Rattle.bench_gates.specs.Walks.{first_three, Driven, if_one}
use Rattle.bench_gates.proofs.Drivers.{inputs-length}

-- at most three wires are all kept
all_kept : (xs : List ℕ) → length xs ≤ 3 → take (length xs) (first_three xs) ≡ xs
all_kept [] l = refl
all_kept (x ∷ []) l = refl
all_kept (x ∷ y ∷ []) l = refl
all_kept (x ∷ y ∷ z ∷ []) l = refl
all_kept (x ∷ y ∷ z ∷ v ∷ vs) l = absurd (omega arith)

few : (p : Places) (out : Word) (o : Binary) (h : Held) (xs : List ℕ) → length xs < 2 → Err WrongCount ≡ lower_gate p out (Chain o) xs h
unfolding lower_gate chained chain
few p out o h [] l = refl
few p out o h (x ∷ []) l = refl
few p out o h (x ∷ y ∷ ys) l = absurd (omega arith)

buffer : (p : Places) (out : Word) (h : Held) (xs : List ℕ) → with_names h.nodes (and_then (only_one xs) (λ x. add_name p.names out x h.names)) ≡ lower_gate p out Buf xs h
unfolding lower_gate add_alias
buffer p out h [] = refl
buffer p out h (x ∷ []) = refl
buffer p out h (x ∷ y ∷ ys) = refl

module _ (t : List ℕ) (es : List Entry) (q : Plan) (d : Driven t es q) where
  number : length d.wires ≡ q.inputs
  number = inputs-length t es (arguments_at t q.arguments) d.wires d.are ∙ sym d.count_is

  -- what is tried with the wires of all inputs
  abbrev With : {B : Type 0} → (List ℕ → Try B) → Try B
  With f = and_then (input_wires t es (arguments_at t q.arguments)) f

  -- what one input gives, by its kept wire
  pub one_kept : {B : Type 0} (f : ℕ → Try B) → if_one q.inputs (f (get_or q.wires 0 0)) ≡ With (λ xs. and_then (only_one xs) f)
  one_kept f = rw (d.are, ← number, d.firsts) (go d.wires)
    where
      go : (xs : List ℕ) → if_one (length xs) (f (get_or xs 0 0)) ≡ and_then (only_one xs) f
      go [] = refl
      go (x ∷ []) = refl
      go (x ∷ y ∷ ys) = rw (ne_eqb (length (x ∷ y ∷ ys)) 1 (λ q. absurd (omega (arith, q))))

  module _ (p : Places) (ns : List BoolNode) where
    abbrev Gate : Try Held
    Gate = With (λ xs. lower_gate p q.out.word q.operation xs (with_nodes ns es))

    -- the names of a buffer, with the nodes as they were
    pub buffered : q.operation ≡ Buf → (r : Try (List Entry)) → r ≡ if_one q.inputs (add_name p.names q.out.word (get_or q.wires 0 0) es) → with_names ns r ≡ Gate
    buffered b r e = rw b (ap (with_names ns) (e ∙ one_kept (λ x. add_name p.names q.out.word x es)) ∙ rw d.are (buffer p q.out.word (with_nodes ns es) d.wires))

    pub inverted : q.operation ≡ Not → (r : Try Held) → r ≡ if_one q.inputs (add_named p q.out.word (inverter q.out.word (get_or q.wires 0 0)) (with_nodes ns es)) → r ≡ Gate
    unfolding lower_gate
    inverted b r e = rw b (e ∙ one_kept (λ x. add_named p q.out.word (inverter q.out.word x) (with_nodes ns es)))

    pub unknown : q.operation ≡ Other → Err Unknown ≡ Gate
    unfolding lower_gate
    unknown b = rw (b, d.are)

    module _ (o : Binary) where
      abbrev Chained : Try Held
      Chained = With (λ xs. lower_gate p q.out.word (Chain o) xs (with_nodes ns es))

      pub too_few : q.inputs < 2 → Err WrongCount ≡ Chained
      too_few l = rw d.are (few p q.out.word o (with_nodes ns es) d.wires (omega (arith, number)))

      pub many_made : q.operation ≡ Chain o → (r : Try Held) → r ≡ With (λ xs. chained p q.out.word o xs (with_nodes ns es)) → r ≡ Gate
      unfolding lower_gate
      many_made b r e = rw b e

      -- a gate of at most three inputs is the chain of the kept wires
      kept_made : q.inputs ≤ 3 → chained p q.out.word o (take q.inputs q.wires) (with_nodes ns es) ≡ Chained
      unfolding lower_gate
      kept_made most = rw (d.are, ← number, d.firsts) (ap (λ (xs : List ℕ). chained p q.out.word o xs (with_nodes ns es)) (all_kept d.wires (omega (arith, number))))

      pub pair_made : q.inputs ≡ 2 → add_named p q.out.word (last_cell q.out.word o (get_or q.wires 0 0) (get_or q.wires 1 0)) (with_nodes ns es) ≡ Chained
      unfolding chained chain
      pair_made two = rw d.firsts (rw (two, d.firsts) at (kept_made (omega arith)))

      pub triple_made : q.inputs ≡ 3 → chain p q.out.word o 1 (get_or q.wires 0 0) (get_or q.wires 1 0 ∷ get_or q.wires 2 0 ∷ []) (with_nodes ns es) ≡ Chained
      unfolding chained
      triple_made three = rw d.firsts (rw (three, d.firsts) at (kept_made (omega arith)))
