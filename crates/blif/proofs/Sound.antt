-- A circuit that was read passes the circuit check.
-- Assumes nothing.
use Rattle.std.specs.Prelude.{Ok}
use Prim.Native.Nat.{ℕ, suc, ◌+◌, ◌^◌, ◌≤◌, ◌<◌}
use mathlib.Core.Path.{◌≡◌, refl, sym, ap, subst}
use mathlib.Core.Bool.{Bool, true, false, cond}
use mathlib.Core.List.{List, [], ◌∷◌}
use native.Mathlib.Omega.{arith}
use lib.ListN.{length}
use lib.Dec.{eqb}
use Rattle.laws.specs.Stretches.{All}
use Rattle.circuit.specs.declared.records.TheConstants.{WIRES}
use Rattle.circuit.specs.Circuits.{Circuit, KeepsRules}
use Rattle.circuit.proofs.Tries.{no_yes, yes_same, then_yes}
use Rattle.circuit.proofs.Words.{word_cell_sits}
use Rattle.text.specs.Lines.{lines, line_words}
use Rattle.text.specs.Joining.{joined_text}
use Rattle.text.specs.declared.words.Word.{Word}
use Rattle.cover.specs.declared.directives.Directive.{Directive}
use Rattle.cover.specs.declared.directives.Directive.TheVariants.{Ignored, Inputs, Outputs, Names, Other}
use Rattle.cover.specs.Cover.{last_of, input_names}
use Rattle.cover.specs.Directives.{dotted, directive_of, rest_of, rows_of}
use Rattle.cover.proofs.TableLaws.{cover-fits}
use Rattle.reading.specs.Reading.{Places, places_in, Held, State, start, find, stretch_name, driver, add_alias, add_input, add_output, each}
use Rattle.reading.proofs.Sound.{HeldSound, start-sound, driver_below, alias_sound, named-sound, input_sound, each_keeps, finish-sound}
use Rattle.blif.specs.Blif.{drivers, gate_cell, cell, gate, names_line, directive_step, line_step, row_next, read_lines, blif}
use Rattle.reading.proofs.States.{held_yes, outputs-yes}
use Rattle.blif.specs.declared.gates.TheConstants.{BUFFER}
use Rattle.blif.proofs.Accepted.{names-none, names-yes, line_yes, text_yes}

-- ---- gates

record Driven (m : ℕ) (ins : List Word) (xs : List ℕ) : Type 0 where
  count : length xs ≡ length ins
  below : All (λ x. x < m + 2) xs

drivers_below : (t : List ℕ) (h : Held) → HeldSound h → (ins : List Word) (xs : List ℕ) → drivers t h.names ins ≡ Ok xs → Driven (length h.nodes) ins xs
unfolding drivers
drivers_below t h s [] xs q = subst (λ (l : List ℕ). Driven (length h.nodes) [] l) (yes_same q) (record { count = refl; below = tt })
drivers_below t h s (w ∷ ws) xs q =
    let x = then_yes (driver (find false t w h.names)) _ xs q in
    let r = then_yes (drivers t h.names ws) _ xs x.2 in
    let d = drivers_below t h s ws r.0 r.1 in
    subst (λ (l : List ℕ). Driven (length h.nodes) (w ∷ ws) l) (yes_same r.2)
    (record { count = ap suc d.count; below = (driver_below (length h.nodes) false t w h.names x.0 s.names x.1, d.below) })

cell-sound : (p : Places) (out : Word) (xs : List ℕ) (table : ℕ) (h h' : Held) → HeldSound h → All (λ x. x < length h.nodes + 2) xs → 1 ≤ length xs → length xs ≤ WIRES → table < 2 ^ 2 ^ length xs
    → cell p out xs table h ≡ Ok h' → HeldSound h'
cell-sound p out xs table h h' s below some few fits q =
    named-sound p out (gate_cell out xs table) h h' (word_cell_sits (length h.nodes) (stretch_name out) table xs some few fits below) s q

gate-sound : (p : Places) (out : Word) (xs : List ℕ) (table : ℕ) (h h' : Held) → HeldSound h → All (λ x. x < length h.nodes + 2) xs → length xs ≤ WIRES → table < 2 ^ 2 ^ length xs
    → gate p out xs table h ≡ Ok h' → HeldSound h'
unfolding gate
gate-sound p out [] table h h' s below few fits q = alias_sound p out table h h' (omega arith) s q
gate-sound p out (x ∷ []) table h h' s below few fits q = go (eqb table BUFFER) q
  where
    go : (b : Bool) → cond b (add_alias p out x h) (cell p out (x ∷ []) table h) ≡ Ok h' → HeldSound h'
    go true r = alias_sound p out x h h' below.0 s r
    go false r = cell-sound p out (x ∷ []) table h h' s below (omega arith) few fits r
gate-sound p out (x ∷ y ∷ ys) table h h' s below few fits q = cell-sound p out (x ∷ y ∷ ys) table h h' s below (omega arith) few fits q

names-sound : (t : List ℕ) (p : Places) (ws : List Word) (rows : List (List Word)) (h h' : Held) → HeldSound h → names_line t p ws rows h ≡ Ok h' → HeldSound h'
names-sound t p [] rows h h' s q = absurd (names-none t p rows h h' q)
names-sound t p (w ∷ ws) rows h h' s q =
    let y = names-yes t p w ws rows h h' q in
    let d = drivers_below t h s (input_names w ws) y.wires y.driven in
    gate-sound p (last_of w ws) y.wires y.table h h' s d.below (omega (arith, d.count, y.few))
    (subst (λ (m : ℕ). y.table < 2 ^ 2 ^ m) (sym d.count) (cover-fits t (length (input_names w ws)) rows y.table y.rows_are)) y.made

-- ---- lines

directive-sound : (t : List ℕ) (p : Places) (d : Directive) (ws : List Word) (rows : List (List Word)) (s s' : State) → HeldSound s.held → directive_step t p d ws rows s ≡ Ok s' → HeldSound s'.held
unfolding directive_step
directive-sound t p Ignored ws rows s s' k q = subst (λ (x : State). HeldSound x.held) (yes_same q) k
directive-sound t p Inputs ws rows s s' k q =
    each_keeps HeldSound (add_input false t p) (λ w a b h e. input_sound false t p w a b h e) ws s.held s'.held k (held_yes s.outputs (each (add_input false t p) ws s.held) s' q).0
directive-sound t p Outputs ws rows s s' k q = subst HeldSound (sym (outputs-yes s.held (each (add_output p.outputs) ws s.outputs) s' q).1) k
directive-sound t p Names ws rows s s' k q = names-sound t p ws rows s.held s'.held k (held_yes s.outputs (names_line t p ws rows s.held) s' q).0
directive-sound t p Other ws rows s s' k q = absurd (no_yes q)

lines-sound : (t : List ℕ) (p : Places) (row : Bool) (ls : List Word) (s s' : State) → HeldSound s.held → read_lines t p row ls s ≡ Ok s' → HeldSound s'.held
unfolding read_lines
lines-sound t p row [] s s' k q = subst (λ (x : State). HeldSound x.held) (yes_same q) k
lines-sound t p row (l ∷ ls) s s' k q =
    let r = then_yes (line_step t p row l ls s) (read_lines t p (row_next t l) ls) s' q in
    lines-sound t p (row_next t l) ls r.0 s' (step r.0 (line_yes t p row l ls s r.0 r.1) (dotted t l) refl) r.2
  where
    step : (mid : State) → (dotted t l ≡ true → directive_step t p (directive_of t l) (rest_of (line_words t l)) (rows_of t ls) s ≡ Ok mid) × (dotted t l ≡ false → s ≡ mid)
        → (b : Bool) → dotted t l ≡ b → HeldSound mid.held
    step mid z true e = directive-sound t p (directive_of t l) (rest_of (line_words t l)) (rows_of t ls) s mid k (z.0 e)
    step mid z false e = subst (λ (x : State). HeldSound x.held) (z.1 e) k

pub blif-sound : (text : List ℕ) (j n m o : ℕ) (c : Circuit) → blif text j n m o ≡ Ok c → KeepsRules c
blif-sound text j n m o c q =
    let y = text_yes text j n m o c q in
    finish-sound false (joined_text text) y.state c
    (lines-sound (joined_text text) (places_in n m o) false (lines 0 (joined_text text)) start y.state start-sound y.read) y.finished
