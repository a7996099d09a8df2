-- Every circuit that the BENCH reader accepts passes the circuit check.
-- Assumes nothing.
use Rattle.std.specs.Prelude.{Ok}
use Prim.Native.Nat.{ℕ, suc, ◌+◌, ◌≤◌, ◌<◌}
use mathlib.Core.Path.{◌≡◌, sym, subst}
use mathlib.Core.Bool.{Bool, true, false, cond}
use mathlib.Core.List.{List, [], ◌∷◌}
use native.Mathlib.Omega.{arith}
use lib.Dec.{ltb, lit<}
use lib.ListN.{length}
use Rattle.laws.specs.Stretches.{All, run, is_not}
use Rattle.laws.proofs.Stretches.{all_map}
use Rattle.circuit.specs.declared.refusals.Refusal.TheVariants.{Malformed}
use Rattle.circuit.specs.declared.records.Name.{Name}
use Rattle.circuit.specs.Refusals.{and_then}
use Rattle.circuit.specs.Circuits.{Circuit, KeepsRules}
use Rattle.circuit.proofs.Tries.{no_yes, yes_same, then_yes, need-yes, check_yes}
use Rattle.circuit.proofs.Sitting.{Sits}
use Rattle.circuit.proofs.Words.{word_cell_sits}
use Rattle.text.specs.Lines.{lines}
use Rattle.text.specs.Blanks.{trimmed}
use Rattle.text.specs.Words.{bytes_of, between}
use Rattle.text.specs.Joining.{joined_text}
use Rattle.text.specs.declared.words.Word.{Word}
use Rattle.names.specs.Names.{Entry}
use Rattle.reading.specs.Reading.{Places, Held, State, start, find, driver, next_wire, word_cell, stretch_name, add_node, add_input, add_output, each, finish, places_in, text_fault}
use Rattle.reading.specs.States.{with_held}
use Rattle.reading.specs.Areas.{read_text}
use Rattle.reading.proofs.States.{held_yes, outputs-yes, undefined_yes}
use Rattle.reading.proofs.Sound.{Wired, HeldSound, start-sound, wired_more, driver_below, alias_sound, node_sits, named-sound, input_sound, each_keeps, finish-sound}
use Rattle.bench_invocations.specs.Invocations.{parse_invocation}
use Rattle.bench_gates.specs.declared.operations.Binary.{Binary}
use Rattle.bench_gates.specs.declared.operations.Binary.TheVariants.{And, Nand, Or, Nor, Xor, Xnor}
use Rattle.bench_gates.specs.declared.operations.TheConstants.{NOT_TABLE}
use Rattle.bench_gates.specs.declared.operations.Operation.{Operation}
use Rattle.bench_gates.specs.declared.operations.Operation.TheVariants.{Buf, Not, Chain, Other}
use Rattle.bench_gates.specs.Operations.{truth_table, associative}
use Rattle.bench_gates.specs.Gates.{input_wires, only_one, step_name, inverter, step_cell, last_cell, with_nodes, chain, chained, lower_gate}
use Rattle.bench.specs.declared.declarations.Declaration.{Declaration}
use Rattle.bench.specs.declared.declarations.Declaration.TheVariants.{Input, Output, Other as OtherDeclaration}
use Rattle.bench.specs.Bench.{Gate, gate_invoked, gate_of, gate_line, declared_in, declare, declaration_line, line_step, read_line, bench_lines, bench}

-- ---- gates

wires_below : (m : ℕ) (t : List ℕ) (es : List Entry) (ws : List Word) (xs : List ℕ) → Wired m es → input_wires t es ws ≡ Ok xs → All (λ x. x < m + 2) xs
unfolding input_wires
wires_below m t es [] xs h q = rw (← yes_same q) tt
wires_below m t es (w ∷ ws) xs h q =
    let x = then_yes (driver (find true t w es)) _ xs q in
    let r = then_yes (input_wires t es ws) _ xs x.2 in
    rw (← yes_same r.2) (driver_below m true t w es x.0 h x.1, wires_below m t es ws r.0 h r.1)

table_small : (o : Binary) → truth_table o < 16
table_small And = lit< tt
table_small Nand = lit< tt
table_small Or = lit< tt
table_small Nor = lit< tt
table_small Xor = lit< tt
table_small Xnor = lit< tt

pair_sits : (m : ℕ) (name : Name) (table x y : ℕ) → table < 16 → x < m + 2 → y < m + 2 → Sits m (word_cell name table (x ∷ y ∷ []))
pair_sits m name table x y t a b = word_cell_sits m name table (x ∷ y ∷ []) (omega arith) (omega arith) t (a, (b, tt))

chain-sound : (p : Places) (out : Word) (o : Binary) (k x : ℕ) (ys : List ℕ) (h h' : Held) → x < length h.nodes + 2 → All (λ y. y < length h.nodes + 2) ys → HeldSound h
    → chain p out o k x ys h ≡ Ok h' → HeldSound h'
unfolding chain
chain-sound p out o k x [] h h' a ys s q = absurd (no_yes q)
chain-sound p out o k x (y ∷ []) h h' a ys s q =
    named-sound p out (last_cell out o x y) h h' (pair_sits (length h.nodes) (stretch_name out) (truth_table o) x y (table_small o) a ys.0) s q
chain-sound p out o k x (y ∷ z ∷ zs) h h' a ys s q =
    let r = then_yes (add_node p.nodes (step_cell out o k x y) h.nodes) _ h' q in
    let sits = node_sits p.nodes (step_cell out o k x y) h.nodes r.0 s.nodes (pair_sits (length h.nodes) (step_name out k) (truth_table (associative o)) x y (table_small (associative o)) a ys.0) r.1 in
    let more : length h.nodes ≤ length r.0 = omega (arith, sits.1) in
    let next : HeldSound (with_nodes r.0 h.names) = record { nodes = sits.0; names = wired_more (length h.nodes) (length r.0) more h.names s.names } in
    chain-sound p out o (suc k) (next_wire h.nodes) (z ∷ zs) (with_nodes r.0 h.names) h' (omega (arith, sits.1))
    (all_map (z ∷ zs) (λ v b. omega (arith, sits.1, b)) ys.1) next r.2

one_below : (m : ℕ) (xs : List ℕ) (x : ℕ) → All (λ v. v < m + 2) xs → only_one xs ≡ Ok x → x < m + 2
one_below m [] x a q = absurd (no_yes q)
one_below m (v ∷ []) x a q = omega (arith, yes_same q, a.0)
one_below m (v ∷ w ∷ ws) x a q = absurd (no_yes q)

lower_sound : (p : Places) (out : Word) (op : Operation) (xs : List ℕ) (h h' : Held) → All (λ v. v < length h.nodes + 2) xs → HeldSound h → lower_gate p out op xs h ≡ Ok h' → HeldSound h'
unfolding lower_gate chained
lower_sound p out Buf xs h h' a s q =
    let x = then_yes (only_one xs) _ h' q in
    alias_sound p out x.0 h h' (one_below (length h.nodes) xs x.0 a x.1) s x.2
lower_sound p out Not xs h h' a s q =
    let x = then_yes (only_one xs) _ h' q in
    named-sound p out (inverter out x.0) h h'
    (word_cell_sits (length h.nodes) (stretch_name out) NOT_TABLE (x.0 ∷ []) (omega arith) (omega arith) (lit< tt) (one_below (length h.nodes) xs x.0 a x.1, tt)) s x.2
lower_sound p out (Chain o) [] h h' a s q = absurd (no_yes q)
lower_sound p out (Chain o) (x ∷ ys) h h' a s q = chain-sound p out o 1 x ys h h' a.0 a.1 s q
lower_sound p out Other xs h h' a s q = absurd (no_yes q)

gate-sound : (t : List ℕ) (p : Places) (out expression : Word) (h h' : Held) → HeldSound h → gate_line t p out expression h ≡ Ok h' → HeldSound h'
unfolding gate_line gate_of gate_invoked
gate-sound t p out expression h h' s q =
    let g = then_yes (gate_of t out expression h.names) _ h' q in
    let n = need-yes (ltb 0 out.len) Malformed _ g.0 g.1 in
    let u = undefined_yes (find true t out h.names) _ g.0 n.1 in
    let i = then_yes (parse_invocation t expression) (gate_invoked t h.names) g.0 u.1 in
    let w = then_yes (input_wires t h.names i.0.arguments) _ g.0 i.2 in
    lower_sound p out g.0.operation g.0.inputs h h'
    (subst (λ (x : Gate). All (λ v. v < length h.nodes + 2) x.inputs) (yes_same w.2) (wires_below (length h.nodes) t h.names i.0.arguments w.0 s.names w.1)) s g.2

-- ---- lines

declare-sound : (t : List ℕ) (p : Places) (d : Declaration) (w : Word) (s s' : State) → HeldSound s.held → declare t p d w s ≡ Ok s' → HeldSound s'.held
unfolding declare
declare-sound t p Input w s s' h q = input_sound true t p w s.held s'.held h (held_yes s.outputs (add_input true t p w s.held) s' q).0
declare-sound t p Output w s s' h q = subst HeldSound (sym (outputs-yes s.held (add_output p.outputs w s.outputs) s' q).1) h
declare-sound t p OtherDeclaration w s s' h q = absurd (no_yes q)

line_sound : (t : List ℕ) (p : Places) (at end cut : ℕ) (s s' : State) → HeldSound s.held → line_step t p at end cut s ≡ Ok s' → HeldSound s'.held
unfolding line_step declaration_line
line_sound t p at end cut s s' h q = go (ltb cut end) q
  where
    go : (b : Bool) → cond b (with_held s.outputs (gate_line t p (trimmed t (between at cut)) (between (cut + 1) end) s.held)) (declaration_line t p (between at end) s) ≡ Ok s' → HeldSound s'.held
    go true r = gate-sound t p (trimmed t (between at cut)) (between (cut + 1) end) s.held s'.held h (held_yes s.outputs (gate_line t p (trimmed t (between at cut)) (between (cut + 1) end) s.held) s' r).0
    go false r =
        let d = then_yes (declared_in t (between at end)) _ s' r in
        declare-sound t p d.0.declaration d.0.name s s' h d.2

-- ---- the whole

pub bench-sound : (text : List ℕ) (j n m o : ℕ) (c : Circuit) → bench text j n m o ≡ Ok c → KeepsRules c
unfolding read_text bench_lines read_line
bench-sound text j n m o c q =
    let t = joined_text text in
    let p = places_in n m o in
    let a = check_yes (text_fault text j) (and_then (each (read_line t p) (lines 0 t) start) (finish true t)) c q in
    let s = then_yes (each (read_line t p) (lines 0 t) start) (finish true t) c a.1 in
    let kept = each_keeps (λ (x : State). HeldSound x.held) (read_line t p) (λ w x y h e. line_sound t p w.start (w.start + w.len) (w.start + run (is_not 61) (bytes_of t w)) x y h e) (lines 0 t) start s.0 start-sound s.1 in
    finish-sound true t s.0 c kept s.2
