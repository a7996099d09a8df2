-- The whole text: the circuit that the BENCH reader gives means what the text says, under every assignment.
-- Assumes nothing.
use Rattle.std.specs.Prelude.{Ok}
use Prim.Native.Nat.{ℕ, suc, ◌+◌, ◌<◌}
use mathlib.Core.Path.{◌≡◌, refl, sym, ap, ◌∙◌, subst}
use mathlib.Core.Bool.{true}
use mathlib.Core.List.{List, [], ◌∷◌, ◌++◌, map, append_assoc, append-nil}
use native.Mathlib.Nat.{add-zero}
use native.Mathlib.Omega.{arith}
use lib.ListN.{length}
use Rattle.laws.specs.Stretches.{All, same_bytes}
use Rattle.laws.proofs.Stretches.{all_append}
use Rattle.circuit.specs.declared.records.BoolWire.{BoolWire}
use Rattle.circuit.specs.declared.records.BoolNode.{BoolNode}
use Rattle.circuit.specs.declared.records.Output.{Output}
use Rattle.circuit.specs.Refusals.{and_then}
use Rattle.circuit.specs.Circuits.{Circuit, wires_out}
use Rattle.circuit.proofs.Tries.{yes_same, then_yes, check_yes}
use Rattle.text.specs.Words.{bytes_of}
use Rattle.text.specs.Lines.{lines}
use Rattle.text.specs.Joining.{joined_text}
use Rattle.text.specs.declared.words.Word.{Word}
use Rattle.reading.specs.Reading.{Places, places_in, Held, State, start, text_fault, find, each, Out, output_of, resolve, finish}
use Rattle.reading.specs.Areas.{read_text}
use Rattle.cells.proofs.Rule.{Each}
use Rattle.values.specs.Values.{signal_value, outputs_from, storage_values, storage_outputs}
use Rattle.values.specs.Assignments.{input_count}
use Rattle.values.proofs.Storage.{Known, evaluate_same, outputs_known}
use Rattle.bench.specs.Bench.{read_line, bench_lines, bench}
use Rattle.bench_meaning.specs.GateMeaning.{wire_value}
use Rattle.bench_meaning.specs.Operations.{operation_bit}
use Rattle.bench_meaning.specs.TextMeaning.{GateLine, gate_in, gates, input_named, output_named, declared, Equation, Assigned, Means}
use Rattle.bench_meaning.proofs.Growing.{wire_named, HeldWired, value, Defined, Grows, value_on, values_on}
use Rattle.reading.proofs.Growing.{grows_none, grows_on}
use Rattle.reading.proofs.Ended.{resolved_wires, finish_yes}
use Rattle.bench_meaning.proofs.LineMeans.{declared_by, GateDefined, LineRead, line_read}

assigned-append : (value : Word → ℕ) (a : List ℕ) (p : ℕ) (xs ys : List Word) → Assigned value a p xs → Assigned value a (p + length xs) ys → Assigned value a p (xs ++ ys)
assigned-append value a p [] ys h k = subst (λ (m : ℕ). Assigned value a m ys) (add-zero p) k
assigned-append value a p (x ∷ xs) ys h k =
    let e : p + suc (length xs) ≡ suc p + length xs = omega arith in
    (h.0, assigned-append value a (suc p) xs ys h.1 (subst (λ (m : ℕ). Assigned value a m ys) e k))

module _ (t a : List ℕ) where
  -- ---- what holds goes on to hold

  module _ (h h' : Held) (wd : HeldWired h) (g : Grows t a h h') where
    assigned_on : (p : ℕ) (ws : List Word) → All (Defined t a h) ws → Assigned (value t a h) a p ws → Assigned (value t a h') a p ws
    assigned_on p [] d e = tt
    assigned_on p (w ∷ ws) d e = (value_on t a h h' g wd w d.0 ∙ e.0, assigned_on (suc p) ws d.1 e.1)

    known_back : (ws : List Word) → All (Defined t a h) ws → All (λ (w : Word). value t a h' w < 2) ws → All (λ (w : Word). value t a h w < 2) ws
    known_back [] d b = tt
    known_back (w ∷ ws) d b = (subst (λ (v : ℕ). v < 2) (value_on t a h h' g wd w d.0) b.0, known_back ws d.1 b.1)

    equations_on : (gs : List GateLine) → All (GateDefined t a h) gs → All (Equation (value t a h)) gs → All (Equation (value t a h')) gs
    equations_on [] d e = tt
    equations_on (x ∷ xs) d e = (
      λ b.
          value_on t a h h' g wd x.out d.0.out_defined ∙ e.0 (known_back x.inputs d.0.inputs_defined b)
          ∙ ap (operation_bit x.operation) (sym (values_on t a h h' g wd x.inputs d.0.inputs_defined)),
      equations_on xs d.1 e.1,
    )

  -- ---- lines

  record Reads (ls : List Word) (s s' : State) : Type 0 where
    grows : Grows t a s.held s'.held
    wired : HeldWired s'.held
    assigned : Assigned (value t a s'.held) a (input_count s.held.nodes) (declared input_named t ls)
    equations : All (Equation (value t a s'.held)) (gates t ls)
    collects : s'.outputs ≡ s.outputs ++ declared output_named t ls

  -- a line, then the others
  joined : (l : Word) (ls : List Word) (s mid s' : State) → LineRead t a (declared_by input_named t l) (gate_in t l) (declared_by output_named t l) s mid → Reads ls mid s' → Reads (l ∷ ls) s s'
  unfolding gates declared
  joined l ls s mid s' r k = record {
    grows = grows_on (find true t) (wire_value a) s.held mid.held s'.held r.grows k.grows;
    wired = k.wired;
    assigned =
        assigned-append (value t a s'.held) a (input_count s.held.nodes) (declared_by input_named t l) (declared input_named t ls)
        (assigned_on mid.held s'.held r.wired k.grows (input_count s.held.nodes) (declared_by input_named t l) r.defined r.assigned)
        (subst (λ (m : ℕ). Assigned (value t a s'.held) a m (declared input_named t ls)) r.counted k.assigned);
    equations = all_append (Equation (value t a s'.held)) (gate_in t l) (gates t ls) (equations_on mid.held s'.held r.wired k.grows (gate_in t l) r.gates_defined r.equations) k.equations;
    collects = k.collects ∙ ap (λ (os : List Word). os ++ declared output_named t ls) r.collects ∙ append_assoc s.outputs (declared_by output_named t l) (declared output_named t ls);
  }

  lines_read : (p : Places) (ls : List Word) (s s' : State) → HeldWired s.held → each (read_line t p) ls s ≡ Ok s' → Reads ls s s'
  unfolding each gates declared
  lines_read p [] s s' wd q =
      subst (Reads [] s) (yes_same q) (record { grows = grows_none (find true t) (wire_value a) s.held; wired = wd; assigned = tt; equations = tt; collects = sym (append-nil s.outputs) })
  lines_read p (l ∷ ls) s s' wd q =
      let m = then_yes (read_line t p l s) (each (read_line t p) ls) s' q in
      let r = line_read t a p s m.0 wd l m.1 in
      joined l ls s m.0 s' r (lines_read p ls m.0 s' r.wired m.2)

  -- ---- the end

  resolved : (h : Held) (ws : List Word) (os : List Out) → resolve true t h.names ws ≡ Ok os
      → map (signal_value (storage_values h.nodes a)) (map (λ (o : Output). o.wire) (map output_of os)) ≡ map (value t a h) ws
  unfolding find
  resolved h ws os q = resolved_wires true t (signal_value (storage_values h.nodes a)) h.names ws os q

-- ---- the theorem

storage_is : (ns : List BoolNode) (ws : List BoolWire) (a : List ℕ) → storage_outputs ns ws a ≡ map (signal_value (storage_values ns a)) ws
unfolding storage_outputs outputs_from
storage_is ns ws a = refl

known_wire : (ns : List BoolNode) (a : List ℕ) → Known a → (w : BoolWire) → signal_value (storage_values ns a) w < 2
known_wire ns a k w = (subst (Each (λ v. v < 2)) (sym (evaluate_same ns (w ∷ []) a k) ∙ storage_is ns (w ∷ []) a) (outputs_known ns (w ∷ []) a k)).0

module _ (t : List ℕ) (p : Places) (s : State) (read : each (read_line t p) (lines 0 t) start ≡ Ok s) (os : List Out) (ends : resolve true t s.held.names s.outputs ≡ Ok os) where
  abbrev outs : List BoolWire
  outs = map (λ (o : Output). o.wire) (map output_of os)

  state_means : (a : List ℕ) → Means t (lines 0 t) s.held.nodes outs (wire_named t s.held.names) a
  unfolding same_bytes input_count
  state_means a =
      let r = lines_read t a p (lines 0 t) start s tt read in
      let e : storage_outputs s.held.nodes outs a ≡ map (value t a s.held) (declared output_named t (lines 0 t))
      = storage_is s.held.nodes outs a ∙ resolved t a s.held s.outputs os ends ∙ ap (map (value t a s.held)) r.collects in
      record {
        false_is = refl;
        true_is = refl;
        assigned = r.assigned;
        equations = r.equations;
        outputs_are = e;
        bits = λ k w. known_wire s.held.nodes a k (wire_named t s.held.names (bytes_of t w));
        evaluates = λ k. sym (evaluate_same s.held.nodes outs a k) ∙ e;
      }

-- there is a wire for each name, and under every assignment the text's equations hold
pub bench_means : (text : List ℕ) (j n m o : ℕ) (c : Circuit) → bench text j n m o ≡ Ok c
    → (wire : List ℕ → BoolWire) × ((a : List ℕ) → Means (joined_text text) (lines 0 (joined_text text)) c.nodes (wires_out c) wire a)
unfolding read_text bench_lines
bench_means text j n m o c q =
    let t : List ℕ = joined_text text in
    let p : Places = places_in n m o in
    let y = check_yes (text_fault text j) (and_then (each (read_line t p) (lines 0 t) start) (finish true t)) c q in
    let s = then_yes (each (read_line t p) (lines 0 t) start) (finish true t) c y.1 in
    let e = finish_yes true t s.0 c s.2 in (
      wire_named t s.0.held.names,
      λ a. subst (λ (x : Circuit). Means t (lines 0 t) x.nodes (wires_out x) (wire_named t s.0.held.names) a) e.2 (state_means t p s.0 s.1 e.0 e.1 a),
    )
