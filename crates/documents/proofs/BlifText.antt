-- The whole text: the circuit that the reader gives means what the document says, under every assignment of bits.
-- Assumes nothing.
use Rattle.std.specs.Prelude.{Err, Ok}
use Prim.Native.Nat.{ℕ, suc, ◌+◌}
use mathlib.Core.Path.{◌≡◌, refl, sym, ap, ◌∙◌, subst}
use mathlib.Core.Bool.{Bool, true, false}
use mathlib.Core.List.{List, [], ◌∷◌, ◌++◌, map, append_assoc, append-nil}
use native.Mathlib.Nat.{add-zero}
use native.Mathlib.Omega.{arith}
use lib.ListN.{length}
use lib.Dec.{ltb}
use Rattle.laws.specs.Stretches.{All}
use Rattle.std.proofs.lemmas.List.{map-append}
use Rattle.std.proofs.lemmas.Simd.{map-map}
use Rattle.circuit.specs.declared.refusals.Refusal.TheVariants.{NoRoom, Unknown}
use Rattle.circuit.specs.declared.records.BoolWire.{BoolWire}
use Rattle.circuit.specs.declared.records.BoolNode.{BoolNode}
use Rattle.circuit.specs.declared.records.Output.{Output}
use Rattle.circuit.specs.Refusals.{Try, need}
use Rattle.circuit.specs.Circuits.{Circuit, wires_out}
use Rattle.circuit.proofs.Tries.{no_yes, yes_same, then_yes, need-yes}
use Rattle.text.specs.Words.{bytes_of, split_whitespace}
use Rattle.text.specs.Lines.{lines, line_words}
use Rattle.text.specs.Joining.{joined_text, logical_lines}
use Rattle.text.specs.declared.words.Word.{Word}
use Rattle.names.specs.Names.{lookup}
use Rattle.reading.specs.Reading.{Places, places_in, Held, State, start, find, add_input, add_output, each, Out, output_of, resolve}
use Rattle.reading.proofs.Ended.{wire_at, resolved_wires, finish_yes}
use Rattle.reading.proofs.States.{held_yes, outputs-yes}
use Rattle.reading.proofs.Sound.{Wired}
use Rattle.values.specs.Values.{signal_value, outputs_from, evaluated}
use Rattle.values.specs.Assignments.{input_count}
use Rattle.cover.specs.declared.directives.Directive.{Directive}
use Rattle.cover.specs.declared.directives.Directive.TheVariants.{Ignored, Inputs, Outputs, Names, Other}
use Rattle.cover.specs.Directives.{inputs, outputs, names, dotted, directive_of, rest_of, rows_of}
use Rattle.blif.specs.Blif.{names_line, directive_step, line_step, row_next, read_lines, blif}
use Rattle.blif.proofs.Accepted.{line_yes, text_yes}
use Rattle.documents.specs.BlifDocument.{words_after, is_line_of, declared, starts_with_dot, cover_after, LogicGate, gates, Equation, Assigned, Means}
use Rattle.documents.proofs.BlifCover.{Bits, row_bytes}
use Rattle.documents.proofs.BlifLines.{LineOk, joined_bytes, joined_ok, no_directive, dot_is, words_are, is_inputs, is_outputs, is_names, inputs_line, outputs_line, names-line, rows_are, rows_inside}
use Rattle.documents.proofs.BlifValues.{values, wire_value, value, Known, Grows, value_kept}
use Rattle.reading.proofs.Growing.{grows_none, grows_on}
use Rattle.documents.proofs.BlifGates.{InputsRead, inputs_read, GateRead, equation_on, names_read}

-- every word of `.outputs` is collected
collected : (room : ℕ) (ws os os' : List Word) → each (add_output room) ws os ≡ Ok os' → os' ≡ os ++ ws
unfolding each add_output
collected room [] os os' q = sym (yes_same q) ∙ sym (append-nil os)
collected room (w ∷ ws) os os' q =
    let s = then_yes (need (ltb (length os) room) NoRoom (Ok (os ++ (w ∷ [])))) (each (add_output room) ws) os' q in
    let n = need-yes (ltb (length os) room) NoRoom (Ok (os ++ (w ∷ []))) s.0 s.1 in
    collected room ws s.0 os' s.2 ∙ ap (λ (l : List Word). l ++ ws) (sym (yes_same n.1)) ∙ append_assoc os (w ∷ []) ws

assigned-append : (value : List ℕ → ℕ) (a : List ℕ) (p : ℕ) (xs ys : List (List ℕ)) → Assigned value a p xs → Assigned value a (p + length xs) ys → Assigned value a p (xs ++ ys)
assigned-append value a p [] ys h k = subst (λ (m : ℕ). Assigned value a m ys) (add-zero p) k
assigned-append value a p (x ∷ xs) ys h k =
    let e : p + suc (length xs) ≡ suc p + length xs = omega arith in
    (h.0, assigned-append value a (suc p) xs ys h.1 (subst (λ (m : ℕ). Assigned value a m ys) e k))

after_is : (t : List ℕ) (ws : List Word) → words_after (map (bytes_of t) ws) ≡ map (bytes_of t) (rest_of ws)
after_is t [] = refl
after_is t (w ∷ ws) = refl

module _ (t a : List ℕ) (ha : Bits a) where
  assigned_on : (h h' : Held) (p : ℕ) (ss : List (List ℕ)) → Wired (length h.nodes) h.names → Grows t a h h' → All (Known t a h) ss → Assigned (value t a h) a p ss → Assigned (value t a h') a p ss
  assigned_on h h' p [] wd g k e = tt
  assigned_on h h' p (s ∷ ss) wd g k e = (value_kept t a h h' s wd g k.0 ∙ e.0, assigned_on h h' (suc p) ss wd g k.1 e.1)

  -- what lines give from a state to another
  record Reads (ls : List (List ℕ)) (s s' : State) : Type 0 where
    grows : Grows t a s.held s'.held
    wired : Wired (length s'.held.nodes) s'.held.names
    assigned : Assigned (value t a s'.held) a (input_count s.held.nodes) (declared inputs ls)
    equations : All (λ (g : LogicGate). Equation (value t a s'.held) g.signals g.rows) (gates ls)
    collects : map (bytes_of t) s'.outputs ≡ map (bytes_of t) s.outputs ++ declared outputs ls

  abbrev HeldWired : State → Type 0
  HeldWired s = Wired (length s.held.nodes) s.held.names

  -- a line that declares nothing and leaves the state
  skipped : (l : List ℕ) (ls : List (List ℕ)) (s s' : State) → is_line_of inputs l ≡ false → is_line_of outputs l ≡ false → is_line_of names l ≡ false → Reads ls s s' → Reads (l ∷ ls) s s'
  skipped l ls s s' i o n r = record {
    grows = r.grows;
    wired = r.wired;
    assigned = unfold declared in rw i r.assigned;
    equations = unfold gates in rw n r.equations;
    collects = r.collects ∙ unfold declared in rw o;
  }

  -- a line of inputs
  declares : (l : List ℕ) (ls : List (List ℕ)) (ss : List (List ℕ)) (s mid s' : State) → is_line_of inputs l ≡ true → is_line_of outputs l ≡ false → is_line_of names l ≡ false
      → words_after (split_whitespace l) ≡ ss → mid.outputs ≡ s.outputs → InputsRead t a s.held mid.held ss → Reads ls mid s' → Reads (l ∷ ls) s s'
  declares l ls ss s mid s' i o n e q d r = record {
    grows = grows_on (lookup t) (wire_value a) s.held mid.held s'.held d.grows r.grows;
    wired = r.wired;
    assigned =
        unfold declared in
        rw (i, e)
        (assigned-append (value t a s'.held) a (input_count s.held.nodes) ss (declared inputs ls)
        (assigned_on mid.held s'.held (input_count s.held.nodes) ss d.wired r.grows d.known d.assigned)
        (subst (λ (m : ℕ). Assigned (value t a s'.held) a m (declared inputs ls)) d.counted r.assigned));
    equations = unfold gates in rw n r.equations;
    collects = r.collects ∙ ap (λ (os : List Word). map (bytes_of t) os ++ declared outputs ls) q ∙ unfold declared in rw o;
  }

  -- a line of outputs
  outputs_read : (l : List ℕ) (ls : List (List ℕ)) (ws : List Word) (s mid s' : State) → is_line_of inputs l ≡ false → is_line_of outputs l ≡ true → is_line_of names l ≡ false
      → words_after (split_whitespace l) ≡ map (bytes_of t) ws → mid.held ≡ s.held → mid.outputs ≡ s.outputs ++ ws → Reads ls mid s' → Reads (l ∷ ls) s s'
  outputs_read l ls ws s mid s' i o n e q d r = record {
    grows = subst (λ (h : Held). Grows t a h s'.held) q r.grows;
    wired = r.wired;
    assigned = unfold declared in rw i (subst (λ (h : Held). Assigned (value t a s'.held) a (input_count h.nodes) (declared inputs ls)) q r.assigned);
    equations = unfold gates in rw n r.equations;
    collects =
        r.collects ∙ ap (λ (os : List Word). map (bytes_of t) os ++ declared outputs ls) d ∙ ap (λ (x : List (List ℕ)). x ++ declared outputs ls) (map-append (bytes_of t) s.outputs ws)
        ∙ append_assoc (map (bytes_of t) s.outputs) (map (bytes_of t) ws) (declared outputs ls) ∙ more;
  }
    where
      more : map (bytes_of t) s.outputs ++ (map (bytes_of t) ws ++ declared outputs ls) ≡ map (bytes_of t) s.outputs ++ declared outputs (l ∷ ls)
      more = unfold declared in rw (o, e)

  -- a gate
  gate-line : (l : List ℕ) (ls : List (List ℕ)) (ss : List (List ℕ)) (rows : List (List (List ℕ))) (s mid s' : State) → is_line_of inputs l ≡ false → is_line_of outputs l ≡ false → is_line_of names l ≡ true
      → words_after (split_whitespace l) ≡ ss → cover_after ls ≡ rows → mid.outputs ≡ s.outputs → GateRead t a s.held mid.held ss rows → Reads ls mid s' → Reads (l ∷ ls) s s'
  gate-line l ls ss rows s mid s' i o n e c q d r = record {
    grows = grows_on (lookup t) (wire_value a) s.held mid.held s'.held d.grows r.grows;
    wired = r.wired;
    assigned = unfold declared in rw i (subst (λ (m : ℕ). Assigned (value t a s'.held) a m (declared inputs ls)) d.counted r.assigned);
    equations = unfold gates in rw (n, e, c) (equation_on t a mid.held s'.held ss rows d.wired r.grows d.known d.equation, r.equations);
    collects = r.collects ∙ ap (λ (os : List Word). map (bytes_of t) os ++ declared outputs ls) q ∙ unfold declared in rw o;
  }

  lines_read : (p : Places) (row : Bool) (ls : List Word) (s s' : State) → All (LineOk t) ls → HeldWired s → read_lines t p row ls s ≡ Ok s' → Reads (map (bytes_of t) ls) s s'
  unfolding read_lines
  lines_read p row [] s s' oks wd q =
      subst (λ (x : State). Reads [] s x) (yes_same q)
      (record { grows = grows_none (lookup t) (wire_value a) s.held; wired = wd; assigned = unfold declared in tt; equations = unfold gates in tt; collects = unfold declared in sym (append-nil (map (bytes_of t) s.outputs)) })
  lines_read p row (l ∷ ls) s s' oks wd q =
      let r = then_yes (line_step t p row l ls s) (read_lines t p (row_next t l) ls) s' q in
      step r.0 (λ k. lines_read p (row_next t l) ls r.0 s' oks.1 k r.2) (line_yes t p row l ls s r.0 r.1) (dotted t l) refl
    where
      words_of : words_after (split_whitespace (bytes_of t l)) ≡ map (bytes_of t) (rest_of (line_words t l))
      words_of = ap words_after (words_are t l oks.0) ∙ after_is t (line_words t l)

      by : (mid : State) → (HeldWired mid → Reads (map (bytes_of t) ls) mid s') → (d : Directive) → directive_of t l ≡ d → directive_step t p d (rest_of (line_words t l)) (rows_of t ls) s ≡ Ok mid
          → Reads (map (bytes_of t) (l ∷ ls)) s s'
      by mid k Ignored e z =
          let y : s ≡ mid = yes_same (unfold directive_step in z) in
          skipped (bytes_of t l) (map (bytes_of t) ls) s s' (inputs_line t l oks.0 ∙ ap is_inputs e) (outputs_line t l oks.0 ∙ ap is_outputs e) (names-line t l oks.0 ∙ ap is_names e)
          (subst (λ (x : State). Reads (map (bytes_of t) ls) x s') (sym y) (k (subst HeldWired y wd)))
      by mid k Inputs e z =
          let i = held_yes s.outputs (each (add_input false t p) (rest_of (line_words t l)) s.held) mid (unfold directive_step in z) in
          let d = inputs_read t a p (rest_of (line_words t l)) s.held mid.held wd i.0 in
          declares (bytes_of t l) (map (bytes_of t) ls) (map (bytes_of t) (rest_of (line_words t l))) s mid s' (inputs_line t l oks.0 ∙ ap is_inputs e) (outputs_line t l oks.0 ∙ ap is_outputs e)
          (names-line t l oks.0 ∙ ap is_names e) words_of i.1 d (k d.wired)
      by mid k Outputs e z =
          let i = outputs-yes s.held (each (add_output p.outputs) (rest_of (line_words t l)) s.outputs) mid (unfold directive_step in z) in
          outputs_read (bytes_of t l) (map (bytes_of t) ls) (rest_of (line_words t l)) s mid s' (inputs_line t l oks.0 ∙ ap is_inputs e) (outputs_line t l oks.0 ∙ ap is_outputs e)
          (names-line t l oks.0 ∙ ap is_names e) words_of i.1 (collected p.outputs (rest_of (line_words t l)) s.outputs mid.outputs i.0)
          (k (subst (λ (h : Held). Wired (length h.nodes) h.names) (sym i.1) wd))
      by mid k Names e z =
          let i = held_yes s.outputs (names_line t p (rest_of (line_words t l)) (rows_of t ls) s.held) mid (unfold directive_step in z) in
          let d = names_read t a ha p (rest_of (line_words t l)) (rows_of t ls) s.held mid.held wd (rows_inside t ls oks.1) i.0 in
          gate-line (bytes_of t l) (map (bytes_of t) ls) (map (bytes_of t) (rest_of (line_words t l))) (row_bytes t (rows_of t ls)) s mid s' (inputs_line t l oks.0 ∙ ap is_inputs e)
          (outputs_line t l oks.0 ∙ ap is_outputs e) (names-line t l oks.0 ∙ ap is_names e) words_of (rows_are t ls oks.1) i.1 d (k d.wired)
      by mid k Other e z = let y : ◌≡◌ {A = Try State} (Err Unknown) (Ok mid) = (unfold directive_step in z) in absurd (no_yes y)

      step : (mid : State) → (HeldWired mid → Reads (map (bytes_of t) ls) mid s')
          → (dotted t l ≡ true → directive_step t p (directive_of t l) (rest_of (line_words t l)) (rows_of t ls) s ≡ Ok mid) × (dotted t l ≡ false → s ≡ mid)
          → (b : Bool) → dotted t l ≡ b → Reads (map (bytes_of t) (l ∷ ls)) s s'
      step mid k z true e = by mid k (directive_of t l) refl (z.0 e)
      step mid k z false e =
          let y : s ≡ mid = z.1 e in
          let nd : starts_with_dot (bytes_of t l) ≡ false = dot_is t l oks.0 ∙ e in
          skipped (bytes_of t l) (map (bytes_of t) ls) s s' (no_directive (bytes_of t l) oks.0.line nd _) (no_directive (bytes_of t l) oks.0.line nd _) (no_directive (bytes_of t l) oks.0.line nd _)
          (subst (λ (x : State). Reads (map (bytes_of t) ls) x s') (sym y) (k (subst HeldWired y wd)))

  -- the outputs at the end
  resolved : (h : Held) (ws : List Word) (os : List Out) → resolve false t h.names ws ≡ Ok os
      → map (signal_value (values a h.nodes)) (map (λ (o : Output). o.wire) (map output_of os)) ≡ map (value t a h) (map (bytes_of t) ws)
  unfolding find
  resolved h ws os q = resolved_wires false t (signal_value (values a h.nodes)) h.names ws os q ∙ sym (map-map (value t a h) (bytes_of t) ws)

-- ---- the theorem

no_inputs : input_count [] ≡ 0
unfolding input_count
no_inputs = refl

evaluated_is : (a : List ℕ) (ns : List BoolNode) (ws : List BoolWire) → evaluated ns ws a ≡ map (signal_value (values a ns)) ws
unfolding evaluated outputs_from
evaluated_is a ns ws = refl

-- the wire of a name; of one that is not defined the constant 0
abbrev pub name_wire : List ℕ → Held → List ℕ → BoolWire
name_wire t h name = wire_at (lookup t name h.names)

-- a circuit that was read means what its text says: there is a wire for each name, and under every assignment of bits the text's equations hold
pub text_means : (text : List ℕ) (j n m o : ℕ) (c : Circuit) → blif text j n m o ≡ Ok c
    → (wire : List ℕ → BoolWire) × ((a : List ℕ) → Bits a → Means (logical_lines text) c.nodes (wires_out c) wire a)
text_means text j n m o c q =
    let y = text_yes text j n m o c q in
    let t : List ℕ = joined_text text in
    let e = finish_yes false t y.state c y.finished in
    (name_wire t y.state.held, λ a ha. subst (λ (x : Circuit). Means (logical_lines text) x.nodes (wires_out x) (name_wire t y.state.held) a) e.2 (made a ha y.state y.read e.0 e.1))
  where
    made : (a : List ℕ) → Bits a → (s : State) → read_lines (joined_text text) (places_in n m o) false (lines 0 (joined_text text)) start ≡ Ok s
        → (os : List Out) → resolve false (joined_text text) s.held.names s.outputs ≡ Ok os
        → Means (logical_lines text) s.held.nodes (map (λ (x : Output). x.wire) (map output_of os)) (name_wire (joined_text text) s.held) a
    made a ha s z os y =
        let t : List ℕ = joined_text text in
        let r = lines_read t a ha (places_in n m o) false (lines 0 t) start s (joined_ok text) tt z in
        let b = joined_bytes text in
        record {
          assigned = rw (no_inputs, b) at r.assigned;
          equations = rw b at r.equations;
          outputs_are = evaluated_is a s.held.nodes (map (λ (x : Output). x.wire) (map output_of os)) ∙ resolved t a ha s.held s.outputs os y ∙ ap (map (value t a s.held)) (r.collects ∙ ap (declared outputs) b);
        }
