-- What a line that is accepted adds to what has been read: its inputs, its gate's equation, its outputs.
-- Assumes nothing.
use Rattle.std.specs.Prelude.{Ok}
use Prim.Native.Nat.{ℕ, ◌+◌}
use mathlib.Core.Path.{◌≡◌, sym, ap, ◌∙◌, subst}
use mathlib.Core.Bool.{Bool, true, false, cond}
use mathlib.Core.List.{List, [], ◌∷◌, ◌++◌, append-nil}
use native.Mathlib.Nat.{add-zero}
use native.Mathlib.Omega.{arith}
use lib.ListN.{length}
use Rattle.laws.specs.Stretches.{All}
use Rattle.circuit.specs.Refusals.{Try, and_then}
use Rattle.circuit.proofs.Tries.{no_yes, then_yes}
use Rattle.text.specs.Blanks.{trimmed}
use Rattle.text.specs.declared.words.Word.{Word}
use Rattle.reading.specs.Reading.{Places, Held, State, find, add_input, add_output}
use Rattle.reading.specs.States.{with_held, with_outputs}
use Rattle.reading.proofs.Made.{output_made}
use Rattle.reading.proofs.States.{held_yes, outputs-yes}
use Rattle.values.specs.Assignments.{input_count}
use Rattle.text.specs.Words.{between}
use Rattle.bench_invocations.specs.Invocations.{Invoked, parse_invocation}
use Rattle.bench.specs.declared.declarations.Declaration.{Declaration}
use Rattle.bench.specs.declared.declarations.Declaration.TheVariants.{Input, Output, Other}
use Rattle.bench.specs.Bench.{Declared, gate_line, declared_in, declare, declaration_line, line_step, read_line}
use Rattle.bench_meaning.specs.GateMeaning.{wire_value}
use Rattle.bench_meaning.specs.TextMeaning.{cut_of, is_gate, GateLine, gate_said, gate_in, input_named, output_named, said, Equation, Assigned}
use Rattle.bench_meaning.proofs.Growing.{HeldWired, value, Defined, Grows}
use Rattle.reading.proofs.Growing.{grows_none}
use Rattle.bench_meaning.proofs.GateLines.{input_read, gate-line}

-- the names that a line declares
abbrev pub declared_by : (Declaration → Word → List Word) → List ℕ → Word → List Word
declared_by f t l = cond (is_gate t l) [] (said f (declared_in t (between l.start (l.start + l.len))))

module _ (t a : List ℕ) where
  -- every name of a gate is defined
  pub record GateDefined (h : Held) (g : GateLine) : Type 0 where
    pub out_defined : Defined t a h g.out
    pub inputs_defined : All (Defined t a h) g.inputs

  pub record LineRead (ins : List Word) (gs : List GateLine) (outs : List Word) (s s' : State) : Type 0 where
    pub grows : Grows t a s.held s'.held
    pub wired : HeldWired s'.held
    pub defined : All (Defined t a s'.held) ins
    pub assigned : Assigned (value t a s'.held) a (input_count s.held.nodes) ins
    pub counted : input_count s'.held.nodes ≡ input_count s.held.nodes + length ins
    pub gates_defined : All (GateDefined s'.held) gs
    pub equations : All (Equation (value t a s'.held)) gs
    pub collects : s'.outputs ≡ s.outputs ++ outs

  module _ (p : Places) (s s' : State) (wd : HeldWired s.held) where
    gate_case : (out expression : Word) → with_held s.outputs (gate_line t p out expression s.held) ≡ Ok s' → LineRead [] (gate_said t out (parse_invocation t expression)) [] s s'
    gate_case out expression q =
        let y = held_yes s.outputs (gate_line t p out expression s.held) s' q in
        let g = gate-line t a p out expression s.held s'.held wd y.0 in
        let r = g.2 in
        subst (λ (i : Try Invoked). LineRead [] (gate_said t out i) [] s s') (sym g.1)
        (record {
          grows = r.grows;
          wired = r.wired;
          defined = tt;
          assigned = tt;
          counted = r.counted ∙ sym (add-zero (input_count s.held.nodes));
          gates_defined = (record { out_defined = r.defined; inputs_defined = r.inputs_defined }, tt);
          equations = (r.equation, tt);
          collects = y.1 ∙ sym (append-nil s.outputs);
        })

    input_case : (w : Word) → with_held s.outputs (add_input true t p w s.held) ≡ Ok s' → LineRead (w ∷ []) [] [] s s'
    input_case w q =
        let y = held_yes s.outputs (add_input true t p w s.held) s' q in
        let i = input_read t a p w s.held s'.held wd y.0 in
        record {
          grows = i.read.grows;
          wired = i.read.wired;
          defined = (i.read.defined, tt);
          assigned = (i.read.is, tt);
          counted = i.counted ∙ omega arith;
          gates_defined = tt;
          equations = tt;
          collects = y.1 ∙ sym (append-nil s.outputs);
        }

    output_case : (w : Word) → with_outputs s.held (add_output p.outputs w s.outputs) ≡ Ok s' → LineRead [] [] (w ∷ []) s s'
    output_case w q =
        let y = outputs-yes s.held (add_output p.outputs w s.outputs) s' q in
        record {
          grows = subst (Grows t a s.held) (sym y.1) (grows_none (find true t) (wire_value a) s.held);
          wired = subst HeldWired (sym y.1) wd;
          defined = tt;
          assigned = tt;
          counted = ap (λ (h : Held). input_count h.nodes) y.1 ∙ sym (add-zero (input_count s.held.nodes));
          gates_defined = tt;
          equations = tt;
          collects = sym (output_made p.outputs w s.outputs s'.outputs y.0);
        }

    declaration_case : (d : Declaration) (w : Word) → declare t p d w s ≡ Ok s' → LineRead (input_named d w) [] (output_named d w) s s'
    unfolding declare
    declaration_case Input w q = input_case w q
    declaration_case Output w q = output_case w q
    declaration_case Other w q = absurd (no_yes q)

    pub line_read : (l : Word) → read_line t p l s ≡ Ok s' → LineRead (declared_by input_named t l) (gate_in t l) (declared_by output_named t l) s s'
    unfolding read_line line_step declaration_line
    line_read l q = go (is_gate t l) q
      where
        whole : Word
        whole = between l.start (l.start + l.len)

        by : (d : Declared) → declared_in t whole ≡ Ok d → declare t p d.declaration d.name s ≡ Ok s' → LineRead (said input_named (declared_in t whole)) [] (said output_named (declared_in t whole)) s s'
        by d e r = subst (λ (x : Try Declared). LineRead (said input_named x) [] (said output_named x) s s') (sym e) (declaration_case d.declaration d.name r)

        go : (b : Bool)
            → cond b (with_held s.outputs (gate_line t p (trimmed t (between l.start (cut_of t l))) (between (cut_of t l + 1) (l.start + l.len)) s.held))
            (and_then (declared_in t whole) (λ d. declare t p d.declaration d.name s)) ≡ Ok s'
            → LineRead (cond b [] (said input_named (declared_in t whole)))
            (cond b (gate_said t (trimmed t (between l.start (cut_of t l))) (parse_invocation t (between (cut_of t l + 1) (l.start + l.len)))) [])
            (cond b [] (said output_named (declared_in t whole))) s s'
        go true r = gate_case (trimmed t (between l.start (cut_of t l))) (between (cut_of t l + 1) (l.start + l.len)) r
        go false r = let d = then_yes (declared_in t whole) _ s' r in by d.0 d.1 d.2
