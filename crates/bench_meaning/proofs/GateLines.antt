-- What a line leaves that is accepted: an input with its assigned value, or a gate whose equation holds.
-- Assumes nothing.
use Rattle.std.specs.Prelude.{None, Ok}
use Prim.Native.Nat.{ℕ, suc, ◌+◌, ◌<◌}
use mathlib.Core.Path.{◌≡◌, refl, sym, ap, ◌∙◌, subst}
use mathlib.Core.Bool.{true}
use mathlib.Core.List.{List, [], ◌∷◌, ◌++◌, map}
use native.Mathlib.Omega.{arith}
use lib.Dec.{ltb}
use lib.ListN.{length, get_or, length-append}
use Rattle.laws.specs.Stretches.{All}
use Rattle.circuit.specs.declared.refusals.Refusal.TheVariants.{Malformed}
use Rattle.circuit.specs.declared.records.BoolNode.{BoolNode}
use Rattle.circuit.specs.Records.{is_cell_node, input_node}
use Rattle.circuit.proofs.Tries.{yes_same, then_yes, need-yes}
use Rattle.text.specs.Words.{bytes_of}
use Rattle.text.specs.declared.words.Word.{Word}
use Rattle.reading.specs.Reading.{Places, Held, find, driver, add_named, declared_input, add_input}
use Rattle.reading.proofs.States.{undefined_yes}
use Rattle.reading.proofs.Sound.{find_below}
use Rattle.values.specs.Assignments.{input_count}
use Rattle.values.proofs.NodeValues.{count_append}
use Rattle.bench_invocations.specs.Invocations.{Invoked, parse_invocation}
use Rattle.bench_gates.specs.declared.operations.Operation.{Operation}
use Rattle.bench_gates.specs.Operations.{operation_of}
use Rattle.bench_gates.specs.Gates.{input_wires, lower_gate}
use Rattle.bench.specs.Bench.{Gate, gate_invoked, gate_of, gate_line}
use Rattle.bench_meaning.specs.Operations.{operation_bit}
use Rattle.bench_meaning.specs.GateMeaning.{wire_value, CarryAll, Bits}
use Rattle.bench_meaning.specs.TextMeaning.{Equation}
use Rattle.reading.proofs.Made.{named_made, driver_found}
use Rattle.bench_meaning.proofs.Values.{wire_kept, wire_new}
use Rattle.bench_meaning.proofs.GateMeans.{gate_means}
use Rattle.reading.proofs.Growing.{all_known_on}
use Rattle.bench_meaning.proofs.Growing.{HeldWired, value, Defined, value_at, Grows, values_on, Added, added}

-- ---- the number of inputs

count-cells : (ns : List BoolNode) → All (λ n. is_cell_node n ≡ true) ns → input_count ns ≡ 0
unfolding input_count
count-cells [] c = refl
count-cells (n ∷ ns) c = rw c.0 (count-cells ns c.1)

module _ (t a : List ℕ) where
  -- ---- an input

  pub record InputRead (h h' : Held) (w : Word) : Type 0 where
    pub read : Added t a h h' w (get_or a (input_count h.nodes) 0)
    pub counted : input_count h'.nodes ≡ suc (input_count h.nodes)

  pub input_read : (p : Places) (w : Word) (h h' : Held) → HeldWired h → add_input true t p w h ≡ Ok h' → InputRead h h' w
  unfolding add_input is_cell_node input_node input_count
  input_read p w h h' wd q =
      let u = undefined_yes (find true t w h.names) (add_named p w (declared_input w) h) h' q in
      let l : length (h.nodes ++ declared_input w ∷ []) ≡ length h.nodes + 1 = length-append h.nodes (declared_input w ∷ []) in
      let c : input_count (h.nodes ++ declared_input w ∷ []) ≡ input_count h.nodes + 1 = count_append h.nodes (declared_input w ∷ []) in
      subst (λ (x : Held). InputRead h x w) (named_made p w (declared_input w) h h' u.1)
      (record {
        read = added t a h _ w (length h.nodes + 2) _ wd u.0 refl (λ y b. wire_kept a h.nodes (declared_input w ∷ []) y b) (omega (arith, l))
            (record { there = omega (arith, l); value = wire_new a h.nodes (declared_input w) });
        counted = omega (arith, c);
      })

  -- ---- the inputs of a gate

  record Driven (h : Held) (ws : List Word) (xs : List ℕ) : Type 0 where
    defined : All (Defined t a h) ws
    carried : CarryAll a h.nodes xs (map (value t a h) ws)

  driven : (h : Held) (ws : List Word) (xs : List ℕ) → HeldWired h → input_wires t h.names ws ≡ Ok xs → Driven h ws xs
  unfolding input_wires
  driven h [] xs wd q = subst (Driven h []) (yes_same q) (record { defined = tt; carried = tt })
  driven h (w ∷ ws) xs wd q =
      let x = then_yes (driver (find true t w h.names)) _ xs q in
      let r = then_yes (input_wires t h.names ws) _ xs x.2 in
      let f = driver_found (find true t w h.names) x.0 x.1 in
      let d = driven h ws r.0 wd r.1 in
      subst (Driven h (w ∷ ws)) (yes_same r.2)
      (record {
        defined = ((x.0, f), d.defined);
        carried = (record { there = find_below (length h.nodes) true t w h.names x.0 wd f; value = sym (value_at t a h w x.0 f) }, d.carried);
      })

  -- ---- a gate

  bits_of : (h : Held) (ws : List Word) → All (λ (w : Word). value t a h w < 2) ws → Bits (map (value t a h) ws)
  bits_of h [] b = tt
  bits_of h (w ∷ ws) b = (b.0, bits_of h ws b.1)

  pub record GateRead (h h' : Held) (out : Word) (o : Operation) (ws : List Word) : Type 0 where
    pub grows : Grows t a h h'
    pub wired : HeldWired h'
    pub defined : Defined t a h' out
    pub inputs_defined : All (Defined t a h') ws
    pub equation : Equation (value t a h') (record { out = out; operation = o; inputs = ws })
    pub counted : input_count h'.nodes ≡ input_count h.nodes

  gate_read : (p : Places) (out : Word) (o : Operation) (ws : List Word) (xs : List ℕ) (h h' : Held) → HeldWired h → find true t out h.names ≡ None → Driven h ws xs
      → lower_gate p out o xs h ≡ Ok h' → GateRead h h' out o ws
  gate_read p out o ws xs h h' wd new d q =
      let m = gate_means a p out o xs (map (value t a h) ws) h h' d.carried q in
      let l = m.lowered in
      let s = added t a h h' out l.wire m.value wd new l.named l.kept (omega (arith, ap length l.appended, length-append h.nodes l.cells)) l.carries in
      let same = values_on t a h h' s.grows wd ws d.defined in
      record {
        grows = s.grows;
        wired = s.wired;
        defined = s.defined;
        inputs_defined = all_known_on (find true t) (wire_value a) h h' s.grows ws d.defined;
        equation = λ b. s.is ∙ m.means (subst Bits same (bits_of h' ws b)) ∙ ap (operation_bit o) (sym same);
        counted = ap input_count l.appended ∙ count_append h.nodes l.cells ∙ omega (arith, count-cells l.cells l.are_cells);
      }

  invoked_read : (p : Places) (out : Word) (i : Invoked) (g : Gate) (h h' : Held) → HeldWired h → find true t out h.names ≡ None → gate_invoked t h.names i ≡ Ok g
      → lower_gate p out g.operation g.inputs h ≡ Ok h' → GateRead h h' out (operation_of (bytes_of t i.operation)) i.arguments
  unfolding gate_invoked
  invoked_read p out i g h h' wd new e q =
      let x = then_yes (input_wires t h.names i.arguments) _ g e in
      gate_read p out (operation_of (bytes_of t i.operation)) i.arguments x.0 h h' wd new (driven h i.arguments x.0 wd x.1)
      (subst (λ (y : Gate). lower_gate p out y.operation y.inputs h ≡ Ok h') (sym (yes_same x.2)) q)

  pub gate-line : (p : Places) (out expression : Word) (h h' : Held) → HeldWired h → gate_line t p out expression h ≡ Ok h'
      → (i : Invoked) × (parse_invocation t expression ≡ Ok i) × GateRead h h' out (operation_of (bytes_of t i.operation)) i.arguments
  unfolding gate_line gate_of
  gate-line p out expression h h' wd q =
      let g = then_yes (gate_of t out expression h.names) _ h' q in
      let n = need-yes (ltb 0 out.len) Malformed _ g.0 g.1 in
      let u = undefined_yes (find true t out h.names) _ g.0 n.1 in
      let i = then_yes (parse_invocation t expression) (gate_invoked t h.names) g.0 u.1 in
      (i.0, i.1, invoked_read p out i.0 g.0 h h' wd u.0 i.2 g.2)
