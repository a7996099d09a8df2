-- A gate that is accepted: its name's wire has the operation's bit of the inputs' bits, and every earlier wire its value still.
-- Assumes nothing.
use Rattle.std.specs.Prelude.{Ok}
use Prim.Native.Nat.{ℕ, suc, ◌+◌, ◌-◌, ◌<◌}
use mathlib.Core.Path.{◌≡◌, refl, sym, ◌∙◌, subst, ap, ap₂}
use mathlib.Core.Bool.{true}
use mathlib.Core.List.{List, [], ◌∷◌, ◌++◌, append_assoc, append-nil}
use native.Mathlib.Omega.{arith}
use lib.ListN.{length, length-append}
use Rattle.laws.proofs.Rows.{one_bit}
use Rattle.circuit.specs.declared.records.BoolNode.{BoolNode}
use Rattle.circuit.specs.Records.{is_cell_node}
use Rattle.circuit.proofs.Tries.{no_yes, then_yes}
use Rattle.cells.specs.Cells.{cell_rule}
use Rattle.text.specs.declared.words.Word.{Word}
use Rattle.reading.specs.Reading.{Places, Held, add_node, add_alias, add_named, word_cell, stretch_name}
use Rattle.circuit.specs.declared.records.Name.{Name}
use Rattle.bench_gates.specs.declared.operations.Binary.{Binary}
use Rattle.bench_gates.specs.declared.operations.Operation.{Operation}
use Rattle.bench_gates.specs.declared.operations.Operation.TheVariants.{Buf, Not, Chain, Other}
use Rattle.bench_gates.specs.Operations.{truth_table, associative}
use Rattle.bench_gates.specs.Gates.{step_name, inverter, step_cell, last_cell, with_nodes, chain, chained, lower_gate}
use Rattle.bench_meaning.specs.Chains.{step_value, chain_value}
use Rattle.bench_meaning.specs.GateMeaning.{wire_value, Carries, CarryAll, Lowered, GateMeans}
use Rattle.bench_meaning.proofs.ChainBits.{chain_bits}
use Rattle.reading.proofs.Made.{node_made, alias_made, named_made}
use Rattle.bench_meaning.proofs.Values.{at_end, wire_kept, wire_new, a_cell, cell_answer, all_kept}

module _ (a : List ℕ) (p : Places) (out : Word) where
  -- ---- a name for a wire, and a cell with its name

  alias_lowered : (x v : ℕ) (h h' : Held) → Carries a h.nodes x v → add_alias p out x h ≡ Ok h' → Lowered a out v h h'
  alias_lowered x v h h' c q =
      subst (Lowered a out v h) (alias_made p out x h h' q)
      (record { cells = []; are_cells = tt; appended = sym (append-nil h.nodes); wire = x; named = refl; carries = c; kept = λ y b. refl })

  named_lowered : (n : BoolNode) (v : ℕ) (h h' : Held) → is_cell_node n ≡ true → at_end a h.nodes n ≡ v → add_named p out n h ≡ Ok h' → Lowered a out v h h'
  named_lowered n v h h' c e q =
      subst (Lowered a out v h) (named_made p out n h h' q)
      (record {
        cells = n ∷ [];
        are_cells = (c, tt);
        appended = refl;
        wire = length h.nodes + 2;
        named = refl;
        carries = record { there = omega (arith, length-append h.nodes (n ∷ [])); value = wire_new a h.nodes n ∙ e };
        kept = λ y b. wire_kept a h.nodes (n ∷ []) y b;
      })

  -- ---- the chain

  -- a step's cell before the rest
  step_lowered : (n : BoolNode) (v : ℕ) (h h' : Held) → is_cell_node n ≡ true → Lowered a out v (with_nodes (h.nodes ++ n ∷ []) h.names) h' → Lowered a out v h h'
  step_lowered n v h h' c l = record {
    cells = n ∷ l.cells;
    are_cells = (c, l.are_cells);
    appended = l.appended ∙ append_assoc h.nodes (n ∷ []) l.cells;
    wire = l.wire;
    named = l.named;
    carries = l.carries;
    kept = λ y b. l.kept y (omega (arith, b, length-append h.nodes (n ∷ []))) ∙ wire_kept a h.nodes (n ∷ []) y b;
  }

  two_answer : (ns : List BoolNode) (name : Name) (table x y v u : ℕ) → wire_value a ns x ≡ v → wire_value a ns y ≡ u
      → at_end a ns (word_cell name table (x ∷ y ∷ [])) ≡ cell_rule table (v ∷ u ∷ [])
  two_answer ns name table x y v u e f = cell_answer a ns name table (x ∷ y ∷ []) (omega arith) ∙ ap₂ (λ (b c : ℕ). cell_rule table (b ∷ c ∷ [])) e f

  chain_lowered : (o : Binary) (ys us : List ℕ) (k x v : ℕ) (h h' : Held) → Carries a h.nodes x v → CarryAll a h.nodes ys us → chain p out o k x ys h ≡ Ok h'
      → Lowered a out (chain_value o v us) h h'
  unfolding chain chain_value is_cell_node
  chain_lowered o [] us k x v h h' c cs q = absurd (no_yes q)
  chain_lowered o (y ∷ []) [] k x v h h' c cs q = absurd cs
  chain_lowered o (y ∷ []) (u ∷ []) k x v h h' c cs q =
      named_lowered (last_cell out o x y) _ h h' (a_cell a (stretch_name out) (truth_table o) (x ∷ y ∷ [])) (two_answer h.nodes (stretch_name out) (truth_table o) x y v u c.value cs.0.value) q
  chain_lowered o (y ∷ []) (u ∷ w ∷ ws) k x v h h' c cs q = absurd cs.1
  chain_lowered o (y ∷ z ∷ zs) [] k x v h h' c cs q = absurd cs
  chain_lowered o (y ∷ z ∷ zs) (u ∷ []) k x v h h' c cs q = absurd cs.1
  chain_lowered o (y ∷ z ∷ zs) (u ∷ w ∷ ws) k x v h h' c cs q =
      let n : BoolNode = step_cell out o k x y in
      let r = then_yes (add_node p.nodes n h.nodes) _ h' q in
      let new : Carries a (h.nodes ++ n ∷ []) (length h.nodes + 2) (step_value o v u) = record {
        there = omega (arith, length-append h.nodes (n ∷ []));
        value = wire_new a h.nodes n ∙ two_answer h.nodes (step_name out k) (truth_table (associative o)) x y v u c.value cs.0.value;
      } in
      step_lowered n _ h h' (a_cell a (step_name out k) (truth_table (associative o)) (x ∷ y ∷ []))
      (chain_lowered o (z ∷ zs) (w ∷ ws) (suc k) (length h.nodes + 2) (step_value o v u) (with_nodes (h.nodes ++ n ∷ []) h.names) h' new (all_kept a h.nodes (n ∷ []) (z ∷ zs) (w ∷ ws) cs.1)
      (subst (λ (ns : List BoolNode). chain p out o (suc k) (length h.nodes + 2) (z ∷ zs) (with_nodes ns h.names) ≡ Ok h') (sym (node_made p.nodes n h.nodes r.0 r.1)) r.2))

  -- ---- every operation

  inverted : (v : ℕ) → v < 2 → cell_rule 1 (v ∷ []) ≡ 1 - v
  inverted = one_bit (λ (v : ℕ). cell_rule 1 (v ∷ []) ≡ 1 - v) refl refl

  pub gate_means : (o : Operation) (xs vs : List ℕ) (h h' : Held) → CarryAll a h.nodes xs vs → lower_gate p out o xs h ≡ Ok h' → GateMeans a out o vs h h'
  unfolding lower_gate chained chain is_cell_node
  gate_means Buf [] vs h h' c q = absurd (no_yes q)
  gate_means Buf (x ∷ []) [] h h' c q = absurd c
  gate_means Buf (x ∷ []) (v ∷ vs) h h' c q = record { value = v; lowered = alias_lowered x v h h' c.0 q; means = λ b. refl }
  gate_means Buf (x ∷ y ∷ ys) vs h h' c q = absurd (no_yes q)
  gate_means Not [] vs h h' c q = absurd (no_yes q)
  gate_means Not (x ∷ []) [] h h' c q = absurd c
  gate_means Not (x ∷ []) (v ∷ vs) h h' c q = record {
    value = cell_rule 1 (v ∷ []);
    lowered = named_lowered (inverter out x) _ h h' (a_cell a (stretch_name out) 1 (x ∷ [])) (cell_answer a h.nodes (stretch_name out) 1 (x ∷ []) (omega arith) ∙ ap (λ (b : ℕ). cell_rule 1 (b ∷ [])) c.0.value) q;
    means = λ b. inverted v b.0;
  }
  gate_means Not (x ∷ y ∷ ys) vs h h' c q = absurd (no_yes q)
  gate_means (Chain o) [] vs h h' c q = absurd (no_yes q)
  gate_means (Chain o) (x ∷ []) vs h h' c q = absurd (no_yes q)
  gate_means (Chain o) (x ∷ y ∷ ys) [] h h' c q = absurd c
  gate_means (Chain o) (x ∷ y ∷ ys) (v ∷ []) h h' c q = absurd c.1
  gate_means (Chain o) (x ∷ y ∷ ys) (v ∷ u ∷ us) h h' c q = record {
    value = chain_value o v (u ∷ us);
    lowered = chain_lowered o (y ∷ ys) (u ∷ us) 1 x v h h' c.0 c.1 q;
    means = λ b. chain_bits o v u us b;
  }
  gate_means Other xs vs h h' c q = absurd (no_yes q)
