-- The checks of a gate and of a declaration, in the code's order.
-- Assumes nothing.
use Rattle.std.specs.Prelude.{Err, None, Ok, Some}
use Prim.Native.Nat.{ℕ, ◌<◌}
use mathlib.Core.Path.{◌≡◌, refl}
use mathlib.Core.Bool.{true}
use mathlib.Core.List.{List, [], ◌∷◌}
use native.Mathlib.Omega.{arith}
use borrow.Author.Tests.{lt-ltb}
use Rattle.circuit.specs.declared.refusals.Refusal.{Refusal}
use Rattle.circuit.specs.declared.refusals.Refusal.TheVariants.{DefinedBefore, WrongCount, Malformed}
use Rattle.circuit.specs.Refusals.{Try, and_then}
use Rattle.circuit.proofs.Tries.{no_yes}
use Rattle.text.specs.Words.{bytes_of}
use Rattle.text.specs.declared.words.Word.{Word}
use Rattle.names.specs.Names.{Entry}
use Rattle.names.specs.Chains.{IsNew}
use Rattle.names.specs.declared.NameTable.{NameTable}
use Rattle.names.specs.declared.new_name.NewName.{NewName}
use Rattle.reading.specs.Reading.{Places, Held, find}
use Rattle.reading.specs.Holding.{outcome, entries_of}
use Rattle.bench_invocations.specs.declared.invocation.Invocation.{Invocation}
use Rattle.bench_invocations.specs.Invocations.{Invoked, parse_invocation}
use Rattle.bench_invocations.specs.Walks.{arguments_at, invoked, NotedIn}
use Rattle.bench_gates.specs.declared.operations.Operation.{Operation}
use Rattle.bench_gates.specs.declared.plans.Plan.{Plan}
use Rattle.bench_gates.specs.Operations.{operation_of}
use Rattle.bench_gates.specs.Gates.{input_wires, lower_gate}
use Rattle.bench_gates.specs.Walks.{first_three}
use Rattle.bench_gates.proofs.Drivers.{driven}
use Rattle.bench.specs.declared.declarations.Declaration.{Declaration}
use Rattle.bench.specs.Bench.{Gate, gate_invoked, gate_of, gate_line, Declared, declaration_of, declared_in}
use Rattle.bench.specs.Plans.{planned, PlanIs, NamedIs}

-- ---- gates

abbrev gate : Operation → List ℕ → Gate
gate o xs = record { operation = o; inputs = xs }

pub plan_refused : (t : NameTable) (out : Word) (e : Refusal) (g : Try Gate) → Err e ≡ g → PlanIs t out (Err e) g
plan_refused t out e g q = record { is = q; fits = tt }

module _ (t : List ℕ) (es : List Entry) (i : Invocation) where
  -- a gate's inputs, one of them without a driver
  pub inputs_refused : (e : Refusal) → Err e ≡ outcome first_three (input_wires t es (arguments_at t i.arguments)) → Err e ≡ gate_invoked t es (invoked t i)
  unfolding gate_invoked
  inputs_refused e q = go (input_wires t es (arguments_at t i.arguments)) q
    where
      go : (r : Try (List ℕ)) → Err e ≡ outcome first_three r → Err e ≡ and_then r (λ xs. Ok (gate (operation_of (bytes_of t i.operation)) xs))
      go (Err g) h = let z : e ≡ g = cc in rw z
      go (Ok xs) h = absurd (no_yes h)

pub plan_made : (t : NameTable) (i : Invocation) → NotedIn t.text.now i → (out : NewName) → IsNew t.text.now t.heads.now t.names.now t.count out
    → (o : Operation) → o ≡ operation_of (bytes_of t.text.now i.operation)
    → (w : List ℕ) → Ok w ≡ outcome first_three (input_wires t.text.now (entries_of t) (arguments_at t.text.now i.arguments))
    → PlanIs t out.word (Ok (record { out = out; operation = o; arguments = i.arguments; inputs = i.count; wires = w })) (gate_invoked t.text.now (entries_of t) (invoked t.text.now i))
unfolding gate_invoked
plan_made t i v out new o eo w q = record {
  is = rw eo;
  fits = record { out_is = refl; new = new; driven = driven t.text.now (entries_of t) _ v.arguments_in q v.count_is };
}

module _ (t : List ℕ) (out expression : Word) (es : List Entry) where
  pub no_output : out.len ≡ 0 → Err Malformed ≡ gate_of t out expression es
  unfolding gate_of
  no_output z = rw z

  module _ (nz : out.len ≡ 0 → ⊥) where
    some : 0 < out.len
    some = omega arith

    -- what the search for the output says of the gate
    pub known_output : (wire : ℕ) → find true t out es ≡ Some wire → Err DefinedBefore ≡ gate_of t out expression es
    unfolding gate_of
    known_output wire e = rw (lt-ltb 0 out.len some, e)

    pub new_output : find true t out es ≡ None → (r : Try Invoked) → r ≡ parse_invocation t expression → and_then r (gate_invoked t es) ≡ gate_of t out expression es
    unfolding gate_of
    new_output e r er = rw (lt-ltb 0 out.len some, e, er)

module _ (t : List ℕ) (p : Places) (out expression : Word) (h : Held) where
  pub gate_on : (r : Plan) → planned t h.names r ≡ gate_of t out expression h.names → out ≡ r.out.word
      → and_then (input_wires t h.names (arguments_at t r.arguments)) (λ xs. lower_gate p r.out.word r.operation xs h) ≡ gate_line t p out expression h
  unfolding gate_line
  gate_on r q o = rw (← q, o) (go (input_wires t h.names (arguments_at t r.arguments)))
    where
      go : (x : Try (List ℕ)) → and_then x (λ xs. lower_gate p r.out.word r.operation xs h)
          ≡ and_then (and_then x (λ xs. Ok (gate r.operation xs))) (λ g. lower_gate p r.out.word g.operation g.inputs h)
      go (Err e) = refl
      go (Ok xs) = refl

-- ---- declarations

abbrev declared : Declaration → Word → Declared
declared d w = record { declaration = d; name = w }

pub name_refused : (t : List ℕ) (e : Refusal) (d : Try Declared) → Err e ≡ d → NamedIs t (Err e) d
name_refused t e d q = record { is = q; inside = tt }

module _ (t : List ℕ) (l : Word) where
  pub name_malformed : (e : Refusal) → Err e ≡ parse_invocation t l → Err e ≡ declared_in t l
  unfolding declared_in
  name_malformed e q = rw (← q)

  -- what an invocation declares, by the first of its arguments and those after it
  module _ (i : Invocation) (s : Ok (invoked t i) ≡ parse_invocation t l) (ws : List Word) (g : ws ≡ arguments_at t i.arguments) where
    pub no_name : ws ≡ [] → Err WrongCount ≡ declared_in t l
    unfolding declared_in
    no_name e = rw (← s, ← g, e)

    module _ (w : Word) (rest : List Word) (e : ws ≡ w ∷ rest) where
      pub more_names : (x : Word) (xs : List Word) → rest ≡ x ∷ xs → Err WrongCount ≡ declared_in t l
      unfolding declared_in
      more_names x xs f = rw (← s, ← g, e, f)

      pub one_name : rest ≡ [] → (d : Declaration) → d ≡ declaration_of (bytes_of t i.operation) → Ok (declared d w) ≡ declared_in t l
      unfolding declared_in
      one_name f d ed = rw (← s, ← g, e, f, ed)
