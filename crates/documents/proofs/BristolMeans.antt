-- The circuit that the reader of Bristol texts gives has the outputs that the page says, under every assignment of bits.
-- Assumes nothing.
use Rattle.std.specs.Prelude.{Ok}
use Prim.Native.Nat.{ℕ, zero, suc, ◌+◌, ◌-◌, ◌≤◌, ◌<◌}
use mathlib.Core.Path.{◌≡◌, refl, sym, ap, ◌∙◌, subst}
use mathlib.Core.Bool.{Bool, true, false, cond}
use mathlib.Core.List.{List, [], ◌∷◌, ◌++◌, map, append_assoc, append-nil}
use mathlib.Core.Option.{none, some}
use native.Mathlib.Omega.{arith}
use lib.Dec.{eqb, leb, ltb}
use lib.ListN.{length, get_or, drop, replicate, length-append, length-set, length-replicate, drop_of_length-le}
use lib.Seq.{drop-cons}
use borrow.Author.Tests.{ltb-true, leb-true}
use Rattle.std.proofs.lemmas.List.{drop-map, map-id}
use Rattle.std.proofs.lemmas.Bool.{and_parts}
use Rattle.laws.specs.Areas.{capacity}
use Rattle.laws.specs.Sums.{sum}
use Rattle.circuit.specs.declared.records.TheConstants.{NODE_WORDS, OUTPUT_WORDS}
use Rattle.circuit.specs.declared.refusals.Refusal.TheVariants.{HeaderMismatch}
use Rattle.circuit.specs.declared.records.BoolWire.{BoolWire}
use Rattle.circuit.specs.declared.records.Output.{Output}
use Rattle.circuit.specs.Circuits.{Circuit}
use Rattle.circuit.proofs.Tries.{no_yes, yes_same, then_yes, need-yes}
use Rattle.text.specs.declared.TheConstants.{MOST_TEXT}
use Rattle.text.specs.Bytes.{is_ascii}
use Rattle.text.specs.Words.{split_whitespace}
use Rattle.text.specs.Lines.{kept_lines}
use Rattle.text.specs.Numbers.{parse_each}
use Rattle.values.specs.Values.{signal_value, outputs_from as signals, storage_outputs, evaluated}
use Rattle.values.proofs.Storage.{Known, evaluate_same}
use Rattle.reading.specs.Reading.{each}
use Rattle.bristol_rows.specs.declared.answers.Head.{Head}
use Rattle.bristol_rows.specs.Numbers.{or_refuse, each_number}
use Rattle.bristol_rows.specs.Header.{grouped_wire_count, groups, group_lines, two_numbers, header}
use Rattle.bristol_rows.specs.Slots.{wire_number}
use Rattle.bristol_rows.specs.Row.{row}
use Rattle.bristol_rows.proofs.Accepted.{each-some}
use Rattle.bristol.specs.Bristol.{State, store, row_step, rows, output_of, outputs_from, start, body, circuit, bristol_circuit}
use Rattle.documents.specs.BristolFashion.{num, gate_step, gate_steps, widths, wire_count, input_bits, output_bits, meaning, is_page_gate, all_page_gates, read_alike}
use Rattle.documents.proofs.BristolValues.{node_bits, Follows, start_follows}
use Rattle.documents.proofs.BristolGates.{nums_are, step_follows}

-- ---- the rows in turn

rows_follow : (ins : List ℕ) (room : ℕ) (ls : List (List ℕ)) (s s' : State) (bits : List ℕ) → Follows ins s bits → rows room ls s ≡ Ok s' → all_page_gates ls ≡ true
    → Follows ins s' (gate_steps bits ls)
unfolding each row_step gate_steps all_page_gates
rows_follow ins room [] s s' bits f h k = subst (λ (z : State). Follows ins z bits) (yes_same h) f
rows_follow ins room (l ∷ ls) s s' bits f h k =
    let a = then_yes (row_step room l s) (rows room ls) s' h in
    let b = then_yes (row s.wires (split_whitespace l)) (λ gs. store room gs s) a.0 a.1 in
    let c = and_parts (is_page_gate (split_whitespace l)) (all_page_gates ls) k in
    rows_follow ins room ls a.0 s' (gate_step bits (split_whitespace l)) (step_follows ins s bits f room (split_whitespace l) b.0 a.0 b.1 b.2 c.0) a.2 c.1

steps-length : (ls : List (List ℕ)) (bits : List ℕ) → length (gate_steps bits ls) ≡ length bits
unfolding gate_steps gate_step
steps-length [] bits = refl
steps-length (l ∷ ls) bits = steps-length ls (gate_step bits (split_whitespace l)) ∙ length-set bits _ _

-- ---- the outputs: the last wires

wires : List Output → List BoolWire
wires os = map (λ (o : Output). o.wire) os

signals_snoc : (vs : List ℕ) (os : List Output) (o : Output) → signals vs (wires (os ++ (o ∷ []))) ≡ signals vs (wires os) ++ (signal_value vs o.wire ∷ [])
unfolding signals wires
signals_snoc vs [] o = refl
signals_snoc vs (p ∷ os) o = ap (λ (l : List ℕ). signal_value vs p.wire ∷ l) (signals_snoc vs os o)

outputs_follow : (ins : List ℕ) (s : State) (bits : List ℕ) → Follows ins s bits → (room n k : ℕ) (os os' : List Output) → n + k ≡ length s.wires
    → outputs_from room k (drop k s.wires) os ≡ Ok os' → signals (node_bits ins s.nodes) (wires os') ≡ signals (node_bits ins s.nodes) (wires os) ++ drop k bits
unfolding outputs_from
outputs_follow ins s bits f room zero k os os' e h =
    let l : length s.wires ≤ k = omega arith in
    let m : length bits ≤ k = omega (arith, f.same_length) in
    let q : os ≡ os' = yes_same (rw (drop_of_length-le s.wires l) at h) in
    rw (drop_of_length-le bits m, append-nil (signals (node_bits ins s.nodes) (wires os))) (ap (λ (z : List Output). signals (node_bits ins s.nodes) (wires z)) (sym q))
outputs_follow ins s bits f room (suc n) k os os' e h =
    let l : k < length s.wires = omega arith in
    let m : k < length bits = omega (arith, f.same_length) in
    let p = rw (drop-cons s.wires k 0 l) at h in
    let a = need-yes (ltb 0 (get_or s.wires k 0)) _ _ os' p in
    let b = need-yes (ltb (length os) room) _ _ os' a.1 in
    let d = f.drives k (λ z. omega (arith, ltb-true 0 (get_or s.wires k 0) a.0)) in
    let o : Output = output_of (wire_number k) (get_or s.wires k 0) in
    let vs : List ℕ = node_bits ins s.nodes in
    outputs_follow ins s bits f room n (suc k) (os ++ (o ∷ [])) os' (omega arith) b.1
    ∙ ap (λ (x : List ℕ). x ++ drop (suc k) bits) (signals_snoc vs os o)
    ∙ append_assoc (signals vs (wires os)) (signal_value vs o.wire ∷ []) (drop (suc k) bits)
    ∙ ap (λ (x : ℕ). signals vs (wires os) ++ (x ∷ drop (suc k) bits)) d.value
    ∙ ap (λ (x : List ℕ). signals vs (wires os) ++ x) (sym (drop-cons bits k 0 m))

-- ---- the body

body_follows : (nr or : ℕ) (h : Head) (ls : List (List ℕ)) (c : Circuit) → body nr or h ls ≡ Ok c → h.inputs + h.outputs ≤ h.wires → all_page_gates ls ≡ true
    → (ins : List ℕ) → length ins ≡ h.inputs → Known ins
    → evaluated c.nodes (map (λ (o : Output). o.wire) c.outputs) ins ≡ drop (h.wires - h.outputs) (gate_steps (ins ++ replicate (h.wires - length ins) 0) ls)
unfolding body evaluated node_bits wires signals
body_follows nr or h ls c e fits p ins l b =
    let from : ℕ = h.wires - h.outputs in
    let first : List ℕ = ins ++ replicate (h.wires - length ins) 0 in
    let s = then_yes (rows nr ls (start h)) _ c e in
    let n = need-yes (eqb (length ls) h.gates) _ _ c s.2 in
    let o = then_yes (outputs_from or from (drop from s.0.wires) []) _ c n.1 in
    let q = yes_same o.2 in
    let f = rows_follow ins nr ls (start h) s.0 first (start_follows h ins l (omega arith) b) s.1 p in
    let w : length (gate_steps first ls) ≡ h.wires = steps-length ls first ∙ length-append ins (replicate (h.wires - length ins) 0) ∙ omega (arith, length-replicate {A = ℕ} (h.wires - length ins) 0, l, fits) in
    let fit : length s.0.wires - from + from ≡ length s.0.wires = omega (arith, w, f.same_length) in
    ap (λ (z : Circuit). signals (node_bits ins z.nodes) (map (λ (o : Output). o.wire) z.outputs)) (sym q)
    ∙ outputs_follow ins s.0 (gate_steps first ls) f or (length s.0.wires - from) from [] o.0 fit o.1

-- ---- the header: the page's counts are the reader's

record Counted (ls : List (List ℕ)) (h : Head) : Type 0 where
  wires_are : wire_count ls ≡ h.wires
  inputs_are : input_bits ls ≡ h.inputs
  outputs_are : output_bits ls ≡ h.outputs
  fits : h.inputs + h.outputs ≤ h.wires

grouped_sum : (line ns : List ℕ) (n : ℕ) → parse_each (split_whitespace line) ≡ some ns → or_refuse HeaderMismatch (grouped_wire_count ns) ≡ Ok n → sum (widths line) ≡ n
unfolding grouped_wire_count widths
grouped_sum line [] n e h = absurd (no_yes h)
grouped_sum line (g ∷ ws) n e h =
    ap sum (sym (drop-map num 1 (split_whitespace line)) ∙ ap (drop 1) (nums_are (λ k. k) (split_whitespace line) (g ∷ ws) e ∙ map-id (g ∷ ws))) ∙ go (eqb g (length ws)) h
  where
    go : (t : Bool) → or_refuse HeaderMismatch (cond t (some (sum ws)) none) ≡ Ok n → sum ws ≡ n
    go true h = yes_same h
    go false h = absurd (no_yes h)

two_counted : (a b c : List ℕ) (rest : List (List ℕ)) (ns : List ℕ) (h : Head) → parse_each (split_whitespace a) ≡ some ns → two_numbers ns (λ g w. group_lines g w b c) ≡ Ok h
    → Counted (a ∷ b ∷ c ∷ rest) h
unfolding two_numbers group_lines groups wire_count input_bits output_bits
two_counted a b c rest [] h e k = absurd (no_yes k)
two_counted a b c rest (g ∷ []) h e k = absurd (no_yes k)
two_counted a b c rest (g ∷ w ∷ x ∷ xs) h e k = absurd (no_yes k)
two_counted a b c rest (g ∷ w ∷ []) h e k =
    let p = then_yes (each_number (split_whitespace b)) _ h k in
    let q = then_yes (each_number (split_whitespace c)) _ h p.2 in
    let i = then_yes (or_refuse HeaderMismatch (grouped_wire_count p.0)) _ h q.2 in
    let o = then_yes (or_refuse HeaderMismatch (grouped_wire_count q.0)) _ h i.2 in
    let n = need-yes (leb (i.0 + o.0) w) _ _ h o.2 in
    subst (Counted (a ∷ b ∷ c ∷ rest)) (yes_same n.1) (record {
      wires_are = second (split_whitespace a) e;
      inputs_are = grouped_sum b p.0 i.0 (each-some (split_whitespace b) p.0 p.1) i.1;
      outputs_are = grouped_sum c q.0 o.0 (each-some (split_whitespace c) q.0 q.1) o.1;
      fits = leb-true (i.0 + o.0) w n.0;
    })
  where
    second : (ws : List (List ℕ)) → parse_each ws ≡ some (g ∷ w ∷ []) → num (get_or ws 1 []) ≡ w
    second ws e = at ws (nums_are (λ k. k) ws (g ∷ w ∷ []) e)
      where
        at : (ws : List (List ℕ)) → map (λ (x : List ℕ). num x) ws ≡ g ∷ w ∷ [] → num (get_or ws 1 []) ≡ w
        at [] e = cc
        at (x ∷ []) e = cc
        at (x ∷ y ∷ xs) e = cc

counted : (ls : List (List ℕ)) (h : Head) → header ls ≡ Ok h → Counted ls h
unfolding header
counted [] h e = absurd (no_yes e)
counted (a ∷ []) h e = absurd (no_yes e)
counted (a ∷ b ∷ []) h e = absurd (no_yes e)
counted (a ∷ b ∷ c ∷ rest) h e =
    let f = then_yes (each_number (split_whitespace a)) _ h e in
    two_counted a b c rest f.0 h (each-some (split_whitespace a) f.0 f.1) f.2

meant : (text : List ℕ) (h : Head) → Counted (kept_lines text) h → (ins : List ℕ) {x : List ℕ}
    → x ≡ drop (h.wires - h.outputs) (gate_steps (ins ++ replicate (h.wires - length ins) 0) (drop 3 (kept_lines text))) → x ≡ meaning text ins
unfolding meaning
meant text h k ins e = e ∙ sym (rw (k.wires_are, k.outputs_are))

-- ---- the theorem

-- under every assignment of bits the circuit's outputs, by `evaluate` and in storage order, are those that the page gives
pub record AsMeant (text : List ℕ) (c : Circuit) : Type 0 where
  pub evaluates : (ins : List ℕ) → length ins ≡ input_bits (kept_lines text) → Known ins → evaluated c.nodes (map (λ (o : Output). o.wire) c.outputs) ins ≡ meaning text ins
  pub stores : (ins : List ℕ) → length ins ≡ input_bits (kept_lines text) → Known ins → storage_outputs c.nodes (map (λ (o : Output). o.wire) c.outputs) ins ≡ meaning text ins

pub bristol_means : (text : List ℕ) (nodes outputs wires : ℕ) (c : Circuit) → bristol_circuit text nodes outputs wires ≡ Ok c → read_alike text ≡ true → AsMeant text c
unfolding bristol_circuit circuit
bristol_means text nodes outputs wires c e alike =
    let p = need-yes (leb (length text) MOST_TEXT) _ _ c e in
    let q = need-yes (is_ascii text) _ _ c p.1 in
    let h = then_yes (header (kept_lines text)) _ c q.1 in
    let n = need-yes (leb h.0.wires (capacity 1 wires)) _ _ c h.2 in
    let m = need-yes (leb h.0.inputs (capacity NODE_WORDS nodes)) _ _ c n.1 in
    let k = counted (kept_lines text) h.0 h.1 in
    let is : (ins : List ℕ) → length ins ≡ input_bits (kept_lines text) → Known ins → evaluated c.nodes (map (λ (o : Output). o.wire) c.outputs) ins ≡ meaning text ins
    = λ ins l b. meant text h.0 k ins (body_follows (capacity NODE_WORDS nodes) (capacity OUTPUT_WORDS outputs) h.0 (drop 3 (kept_lines text)) c m.1 k.fits alike ins (l ∙ k.inputs_are) b) in
    record { evaluates = is; stores = λ ins l b. evaluate_same c.nodes (map (λ (o : Output). o.wire) c.outputs) ins b ∙ is ins l b }
