-- What a line of inputs and a gate leave: every name keeps its value, the inputs have the assignment's, and the gate's equation holds.
-- Assumes nothing.
use Rattle.std.specs.Prelude.{None, Ok, Option, Some}
use Prim.Native.Nat.{ℕ, suc, ◌+◌, ◌^◌, ◌≤◌, ◌<◌}
use mathlib.Core.Path.{◌≡◌, refl, sym, ap, ap₂, ◌∙◌, subst}
use mathlib.Core.Bool.{Bool, true, false, cond}
use mathlib.Core.List.{List, [], ◌∷◌, ◌++◌, map}
use native.Mathlib.Nat.{add-zero}
use native.Mathlib.Omega.{arith}
use lib.ListN.{length, get_or, length-append}
use lib.Dec.{eqb}
use borrow.Author.Tests.{eqb-true}
use Rattle.laws.specs.Stretches.{All}
use Rattle.laws.proofs.Rows.{one_bit}
use Rattle.std.proofs.lemmas.List.{length-map}
use Rattle.circuit.specs.declared.records.BoolNode.{BoolNode}
use Rattle.circuit.specs.declared.records.TheConstants.{WIRES}
use Rattle.circuit.specs.Records.{is_cell_node, wire_of, cell_node, input_node}
use Rattle.circuit.proofs.Tries.{yes_same, then_yes}
use Rattle.cells.specs.Cells.{entry, index_from}
use Rattle.text.specs.Words.{bytes_of}
use Rattle.text.specs.declared.words.Word.{Word}
use Rattle.names.specs.Names.{Entry, lookup}
use Rattle.reading.specs.Reading.{Places, Held, find, driver, add_alias, add_named, stretch_name, declared_input, add_input, each}
use Rattle.reading.proofs.States.{undefined_yes}
use Rattle.names.proofs.Lookups.{lookup_new, lookup-kept}
use Rattle.reading.proofs.Ended.{wire_at}
use Rattle.reading.proofs.Made.{entry as entry_for, alias_made, named_made, driver_found}
use Rattle.reading.proofs.Sound.{Wired, wired_more, lookup_below}
use Rattle.values.proofs.NodeValues.{count_append}
use Rattle.values.specs.Values.{signal_value, entry_of}
use Rattle.values.specs.Assignments.{input_count}
use Rattle.cover.specs.Cover.{last_of, input_names, cover}
use Rattle.cover.proofs.TableLaws.{cover-fits}
use Rattle.blif.specs.Blif.{drivers, gate_cell, gate, names_line}
use Rattle.blif.proofs.Accepted.{names-none, names-yes}
use Rattle.documents.specs.BlifDocument.{gate_inputs, gate_output, IsCover, cover_value, Equation, Assigned}
use Rattle.documents.proofs.BlifCover.{Bits, Inside, row_bytes, Covers, cover_means}
use Rattle.documents.proofs.BlifValues.{values, wire_value, wire_bit, value, Known, Grows, value_at, value_kept, values_kept}
use Rattle.values.proofs.WireValues.{wire_kept, wire_new}
use Rattle.values.proofs.CellNodes.{entry_of_words}
use Rattle.reading.proofs.Growing.{grows_none, grows_on, known_on, all_known_on}

-- ---- what a record more leaves

pub find-lookup : (t : List ℕ) (w : Word) (es : List Entry) → find false t w es ≡ lookup t (bytes_of t w) es
unfolding find
find-lookup t w es = refl

pub driver_at : (t : List ℕ) (w : Word) (es : List Entry) (x : ℕ) → driver (find false t w es) ≡ Ok x → lookup t (bytes_of t w) es ≡ Some x
driver_at t w es x q = sym (find-lookup t w es) ∙ driver_found (find false t w es) x q

module _ (t a : List ℕ) where
  -- a name more, with its value
  record Added (h h' : Held) (name : List ℕ) (v : ℕ) : Type 0 where
    grows : Grows t a h h'
    wired : Wired (length h'.nodes) h'.names
    known : Known t a h' name
    is : value t a h' name ≡ v

  added_alias : (p : Places) (w : Word) (wire : ℕ) (h h' : Held) → Wired (length h.nodes) h.names → lookup t (bytes_of t w) h.names ≡ None → wire < length h.nodes + 2
      → add_alias p w wire h ≡ Ok h' → Added h h' (bytes_of t w) (wire_value a h.nodes wire) × (h'.nodes ≡ h.nodes)
  added_alias p w wire h h' wd new below q =
      subst (λ (x : Held). Added h x (bytes_of t w) (wire_value a h.nodes wire) × (x.nodes ≡ h.nodes)) (alias_made p w wire h h' q) (
        record {
          grows = record { names = λ name x r. lookup-kept t (entry_for w wire) h.names name x new r; wires = λ x k. refl; more = omega arith };
          wired = (below, wd);
          known = (wire, lookup_new t (entry_for w wire) h.names);
          is = value_at t a (record { nodes = h.nodes; names = entry_for w wire ∷ h.names }) (bytes_of t w) wire (lookup_new t (entry_for w wire) h.names);
        },
        refl,
      )

  -- the value of a node at the end of others
  abbrev at_end : Held → BoolNode → ℕ
  at_end h n = cond (is_cell_node n) (entry_of (values a h.nodes) n) (get_or a (input_count h.nodes) 0)

  added_node : (p : Places) (w : Word) (n : BoolNode) (h h' : Held) → Wired (length h.nodes) h.names → lookup t (bytes_of t w) h.names ≡ None
      → add_named p w n h ≡ Ok h' → Added h h' (bytes_of t w) (at_end h n) × (h'.nodes ≡ h.nodes ++ (n ∷ []))
  added_node p w n h h' wd new q =
      let x : ℕ = length h.nodes + 2 in
      let r : Held = record { nodes = h.nodes ++ (n ∷ []); names = entry_for w x ∷ h.names } in
      let l : length (h.nodes ++ (n ∷ [])) ≡ length h.nodes + 1 = length-append h.nodes (n ∷ []) in
      subst (λ (y : Held). Added h y (bytes_of t w) (at_end h n) × (y.nodes ≡ h.nodes ++ (n ∷ []))) (named_made p w n h h' q) (
        record {
          grows = record { names = λ name y s. lookup-kept t (entry_for w x) h.names name y new s; wires = λ y k. wire_kept entry_of a h.nodes (n ∷ []) y k; more = omega (arith, l) };
          wired = (omega (arith, l), wired_more (length h.nodes) (length (h.nodes ++ (n ∷ []))) (omega (arith, l)) h.names wd);
          known = (x, lookup_new t (entry_for w x) h.names);
          is = value_at t a r (bytes_of t w) x (lookup_new t (entry_for w x) h.names) ∙ wire_new entry_of a h.nodes n;
        },
        refl,
      )

  -- ---- the words of `.inputs`

  pub record InputsRead (h h' : Held) (names : List (List ℕ)) : Type 0 where
    pub grows : Grows t a h h'
    pub wired : Wired (length h'.nodes) h'.names
    pub known : All (Known t a h') names
    pub assigned : Assigned (value t a h') a (input_count h.nodes) names
    pub counted : input_count h'.nodes ≡ input_count h.nodes + length names

  pub inputs_read : (p : Places) (ws : List Word) (h h' : Held) → Wired (length h.nodes) h.names → each (add_input false t p) ws h ≡ Ok h' → InputsRead h h' (map (bytes_of t) ws)
  unfolding each
  inputs_read p [] h h' wd q =
      subst (λ (x : Held). InputsRead h x []) (yes_same q)
      (record { grows = grows_none (lookup t) (wire_value a) h; wired = wd; known = tt; assigned = tt; counted = sym (add-zero (input_count h.nodes)) })
  inputs_read p (w ∷ ws) h h' wd q =
      let s = then_yes (add_input false t p w h) (each (add_input false t p) ws) h' q in
      let u = undefined_yes (find false t w h.names) (add_named p w (declared_input w) h) s.0 (unfold add_input in s.1) in
      let d = added_node p w (declared_input w) h s.0 wd (sym (find-lookup t w h.names) ∙ u.0) u.1 in
      joined s.0 d.0 d.1 (inputs_read p ws s.0 h' d.0.wired s.2)
    where
      joined : (mid : Held) → Added h mid (bytes_of t w) (at_end h (declared_input w)) → mid.nodes ≡ h.nodes ++ (declared_input w ∷ []) → InputsRead mid h' (map (bytes_of t) ws) → InputsRead h h' (map (bytes_of t) (w ∷ ws))
      joined mid d e r =
          let c : input_count mid.nodes ≡ input_count h.nodes + 1 = ap input_count e ∙ count_append h.nodes (declared_input w ∷ []) ∙ unfold input_count is_cell_node input_node in refl in
          let f : input_count mid.nodes ≡ suc (input_count h.nodes) = omega (arith, c) in
          record {
            grows = grows_on (lookup t) (wire_value a) h mid h' d.grows r.grows;
            wired = r.wired;
            known = (known_on (lookup t) (wire_value a) mid h' r.grows (bytes_of t w) d.known, r.known);
            assigned = (
              value_kept t a mid h' (bytes_of t w) d.wired r.grows d.known ∙ d.is ∙ unfold is_cell_node input_node in refl,
              subst (λ (k : ℕ). Assigned (value t a h') a k (map (bytes_of t) ws)) f r.assigned,
            );
            counted = r.counted ∙ omega (arith, c);
          }

  -- ---- the wires of a gate's inputs

  record Driven (h : Held) (ins : List Word) (xs : List ℕ) : Type 0 where
    count : length xs ≡ length ins
    known : All (Known t a h) (map (bytes_of t) ins)
    below : All (λ x. x < length h.nodes + 2) xs
    are : map (wire_value a h.nodes) xs ≡ map (value t a h) (map (bytes_of t) ins)

  drivers_read : (h : Held) (ins : List Word) (xs : List ℕ) → Wired (length h.nodes) h.names → drivers t h.names ins ≡ Ok xs → Driven h ins xs
  unfolding drivers
  drivers_read h [] xs wd q = subst (λ (l : List ℕ). Driven h [] l) (yes_same q) (record { count = refl; known = tt; below = tt; are = refl })
  drivers_read h (w ∷ ws) xs wd q =
      let x = then_yes (driver (find false t w h.names)) _ xs q in
      let r = then_yes (drivers t h.names ws) _ xs x.2 in
      joined x.0 r.0 (driver_at t w h.names x.0 x.1) (yes_same r.2) (drivers_read h ws r.0 wd r.1)
    where
      joined : (x : ℕ) (ys : List ℕ) → lookup t (bytes_of t w) h.names ≡ Some x → x ∷ ys ≡ xs → Driven h ws ys → Driven h (w ∷ ws) xs
      joined x ys f e d =
          subst (λ (l : List ℕ). Driven h (w ∷ ws) l) e
          (record {
            count = ap suc d.count;
            known = ((x, f), d.known);
            below = (lookup_below (length h.nodes) t (bytes_of t w) h.names x wd f, d.below);
            are = ap₂ (λ (v : ℕ) (vs : List ℕ). v ∷ vs) (sym (value_at t a h (bytes_of t w) x f)) d.are;
          })

  -- ---- a gate's value is its table's entry

  a_cell : (out : Word) (xs : List ℕ) (table : ℕ) → is_cell_node (gate_cell out xs table) ≡ true
  unfolding is_cell_node cell_node
  a_cell out xs table = refl

  cell_entry : (h : Held) (out : Word) (xs : List ℕ) (table : ℕ) → length xs ≤ WIRES → at_end h (gate_cell out xs table) ≡ entry table (index_from 0 (map (wire_value a h.nodes) xs))
  unfolding is_cell_node cell_node
  cell_entry h out xs table few = entry_of_words (values a h.nodes) (stretch_name out) table xs (omega (arith, length-map xs wire_of))

  alias_entry : (v : ℕ) → v < 2 → v ≡ entry 2 (index_from 0 (v ∷ []))
  unfolding index_from
  alias_entry = one_bit (λ (v : ℕ). v ≡ entry 2 (index_from 0 (v ∷ []))) refl refl

  constant-entry : (h : Held) (table : ℕ) → table < 2 → wire_value a h.nodes table ≡ entry table (index_from 0 [])
  unfolding index_from
  constant-entry h = one_bit (λ (table : ℕ). wire_value a h.nodes table ≡ entry table (index_from 0 [])) refl refl

  record Gated (h h' : Held) (out : Word) (v : ℕ) : Type 0 where
    added : Added h h' (bytes_of t out) v
    counted : input_count h'.nodes ≡ input_count h.nodes

  gated : (h h' : Held) (out : Word) (v u : ℕ) (n : BoolNode) → is_cell_node n ≡ true → v ≡ u → Added h h' (bytes_of t out) v × (h'.nodes ≡ h.nodes ++ (n ∷ [])) → Gated h h' out u
  gated h h' out v u n c e d = record {
    added = subst (λ (x : ℕ). Added h h' (bytes_of t out) x) e d.0;
    counted = ap input_count d.1 ∙ count_append h.nodes (n ∷ []) ∙ unfold input_count in rw c (add-zero (input_count h.nodes));
  }

  aliased : (h h' : Held) (out : Word) (v u : ℕ) → v ≡ u → Added h h' (bytes_of t out) v × (h'.nodes ≡ h.nodes) → Gated h h' out u
  aliased h h' out v u e d = record { added = subst (λ (x : ℕ). Added h h' (bytes_of t out) x) e d.0; counted = ap input_count d.1 }

  gate_read : Bits a → (p : Places) (out : Word) (xs : List ℕ) (table : ℕ) (h h' : Held) → Wired (length h.nodes) h.names → lookup t (bytes_of t out) h.names ≡ None
      → All (λ x. x < length h.nodes + 2) xs → length xs ≤ WIRES → (length xs ≡ 0 → table < 2) → gate p out xs table h ≡ Ok h'
      → Gated h h' out (entry table (index_from 0 (map (wire_value a h.nodes) xs)))
  unfolding gate
  gate_read ha p out [] table h h' wd new below few small q =
      aliased h h' out _ _ (constant-entry h table (small refl)) (added_alias p out table h h' wd new (omega (arith, small refl)) q)
  gate_read ha p out (x ∷ []) table h h' wd new below few small q = go (eqb table 2) refl q
    where
      go : (b : Bool) → eqb table 2 ≡ b → cond b (add_alias p out x h) (add_named p out (gate_cell out (x ∷ []) table) h) ≡ Ok h'
          → Gated h h' out (entry table (index_from 0 (map (wire_value a h.nodes) (x ∷ []))))
      go true e r =
          aliased h h' out _ _ (alias_entry (wire_value a h.nodes x) (wire_bit a ha h.nodes x) ∙ ap (λ (k : ℕ). entry k (index_from 0 (wire_value a h.nodes x ∷ []))) (sym (eqb-true table 2 e)))
          (added_alias p out x h h' wd new below.0 r)
      go false e r =
          gated h h' out _ _ (gate_cell out (x ∷ []) table) (a_cell out (x ∷ []) table) (cell_entry h out (x ∷ []) table (omega arith)) (added_node p out (gate_cell out (x ∷ []) table) h h' wd new r)
  gate_read ha p out (x ∷ y ∷ []) table h h' wd new below few small q =
      gated h h' out _ _ (gate_cell out (x ∷ y ∷ []) table) (a_cell out (x ∷ y ∷ []) table) (cell_entry h out (x ∷ y ∷ []) table (omega arith)) (added_node p out (gate_cell out (x ∷ y ∷ []) table) h h' wd new q)
  gate_read ha p out (x ∷ y ∷ z ∷ zs) table h h' wd new below few small q = absurd (omega arith)

  -- ---- a `.names` line

  constant_small : (rows : List (List Word)) (n table : ℕ) → n ≡ 0 → cover t n rows ≡ Some table → table < 2
  constant_small rows n table z q = subst (λ (m : ℕ). table < 2 ^ 2 ^ m) z (cover-fits t n rows table q)

  inputs_are : (w : Word) (ws : List Word) → gate_inputs (bytes_of t w) (map (bytes_of t) ws) ≡ map (bytes_of t) (input_names w ws)
  unfolding input_names
  inputs_are w [] = refl
  inputs_are w (x ∷ xs) = ap (λ (l : List (List ℕ)). bytes_of t w ∷ l) (inputs_are x xs)

  output_is : (w : Word) (ws : List Word) → gate_output (bytes_of t w) (map (bytes_of t) ws) ≡ bytes_of t (last_of w ws)
  unfolding last_of
  output_is w [] = refl
  output_is w (x ∷ xs) = output_is x xs

  -- every signal of a gate is known
  abbrev pub GateKnown : Held → List (List ℕ) → Type 0
  GateKnown h [] = Unit
  GateKnown h (s ∷ ss) = Known t a h (gate_output s ss) × All (Known t a h) (gate_inputs s ss)

  pub equation_on : (h h' : Held) (signals : List (List ℕ)) (rows : List (List (List ℕ))) → Wired (length h.nodes) h.names → Grows t a h h' → GateKnown h signals
      → Equation (value t a h) signals rows → Equation (value t a h') signals rows
  equation_on h h' [] rows wd g k e = tt
  equation_on h h' (s ∷ ss) rows wd g k e =
      λ v ps hv is.
      value_kept t a h h' (gate_output s ss) wd g k.0 ∙ e v ps hv is ∙ ap (cover_value v ps) (sym (values_kept t a h h' (gate_inputs s ss) wd g k.1))

  value_bit : Bits a → (h : Held) (name : List ℕ) → value t a h name < 2
  value_bit ha h name = go (lookup t name h.names)
    where
      go : (f : Option ℕ) → signal_value (values a h.nodes) (wire_at f) < 2
      go (Some x) = wire_bit a ha h.nodes x
      go None = omega arith

  value_bits : Bits a → (h : Held) (names : List (List ℕ)) → Bits (map (value t a h) names)
  value_bits ha h [] = tt
  value_bits ha h (s ∷ ss) = (value_bit ha h s, value_bits ha h ss)

  pub record GateRead (h h' : Held) (signals : List (List ℕ)) (rows : List (List (List ℕ))) : Type 0 where
    pub grows : Grows t a h h'
    pub wired : Wired (length h'.nodes) h'.names
    pub known : GateKnown h' signals
    pub equation : Equation (value t a h') signals rows
    pub counted : input_count h'.nodes ≡ input_count h.nodes

  -- a gate that passed its checks
  module _ (ha : Bits a) (p : Places) (w : Word) (ws : List Word) (rows : List (List Word)) (h h' : Held) (wd : Wired (length h.nodes) h.names) (ins : Inside t rows)
      (new : lookup t (bytes_of t (last_of w ws)) h.names ≡ None) (few : length (input_names w ws) ≤ WIRES) (xs : List ℕ) (table : ℕ)
      (dr : Driven h (input_names w ws) xs) (cv : cover t (length (input_names w ws)) rows ≡ Some table) (q : gate p (last_of w ws) xs table h ≡ Ok h')
    where
      g : Gated h h' (last_of w ws) (entry table (index_from 0 (map (wire_value a h.nodes) xs)))
      g =
          gate_read ha p (last_of w ws) xs table h h' wd new dr.below (omega (arith, dr.count)) (λ z. constant_small rows (length (input_names w ws)) table (sym dr.count ∙ z) cv) q

      abbrev names : List (List ℕ)
      names = map (bytes_of t) (input_names w ws)

      holds : (v : ℕ) (ps : List (List ℕ)) → v < 2 → IsCover (length (input_names w ws)) v (row_bytes t rows) ps
          → value t a h' (bytes_of t (last_of w ws)) ≡ cover_value v ps (map (value t a h') (map (bytes_of t) (input_names w ws)))
      holds v ps hv is =
          let c : Covers t (length (input_names w ws)) v rows ps = cover_means t (length (input_names w ws)) v rows ps hv ins is in
          let e : c.table ≡ table = same c.table (sym c.is ∙ cv) in
          let vs : List ℕ = map (value t a h) names in
          let l : length vs ≡ length (input_names w ws) = length-map names (value t a h) ∙ length-map (input_names w ws) (bytes_of t) in
          g.added.is
          ∙ ap₂ (λ (k : ℕ) (us : List ℕ). entry k (index_from 0 us)) (sym e) dr.are
          ∙ c.means vs l (value_bits ha h names)
          ∙ ap (cover_value v ps) (sym (values_kept t a h h' names wd g.added.grows dr.known))
        where
          same : (x : ℕ) → Some x ≡ Some table → x ≡ table
          same x r = cc

      gate_made : GateRead h h' (map (bytes_of t) (w ∷ ws)) (row_bytes t rows)
      gate_made = record {
        grows = g.added.grows;
        wired = g.added.wired;
        known = rw (inputs_are w ws, output_is w ws) (g.added.known, all_known_on (lookup t) (wire_value a) h h' g.added.grows names dr.known);
        equation = rw (inputs_are w ws, output_is w ws, length-map (input_names w ws) (bytes_of t)) holds;
        counted = g.counted;
      }

  pub names_read : Bits a → (p : Places) (ws : List Word) (rows : List (List Word)) (h h' : Held) → Wired (length h.nodes) h.names → Inside t rows → names_line t p ws rows h ≡ Ok h'
      → GateRead h h' (map (bytes_of t) ws) (row_bytes t rows)
  names_read ha p [] rows h h' wd ins q = absurd (names-none t p rows h h' q)
  names_read ha p (w ∷ ws) rows h h' wd ins q =
      let y = names-yes t p w ws rows h h' q in
      gate_made ha p w ws rows h h' wd ins (sym (find-lookup t (last_of w ws) h.names) ∙ y.new) y.few y.wires y.table (drivers_read h (input_names w ws) y.wires wd y.driven) y.rows_are y.made
