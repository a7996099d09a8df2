-- What it tells that a gate, a directive or a text was accepted.
-- Assumes nothing.
use Rattle.std.specs.Prelude.{None, Ok, Option, Some}
use Prim.Native.Nat.{ℕ, ◌≤◌}
use mathlib.Core.Path.{◌≡◌, refl, sym, subst}
use mathlib.Core.Bool.{Bool, true, false}
use mathlib.Core.List.{List, [], ◌∷◌}
use lib.ListN.{length}
use lib.Dec.{leb}
use borrow.Author.Tests.{leb-true}
use Rattle.circuit.specs.declared.records.TheConstants.{WIRES}
use Rattle.circuit.specs.declared.refusals.Refusal.TheVariants.{WrongCount, Malformed}
use Rattle.circuit.specs.Refusals.{and_then}
use Rattle.circuit.specs.Circuits.{Circuit}
use Rattle.circuit.proofs.Tries.{no_yes, yes_same, then_yes, need-yes, check_yes}
use Rattle.text.specs.Lines.{lines, line_words}
use Rattle.text.specs.Joining.{joined_text}
use Rattle.text.specs.declared.words.Word.{Word}
use Rattle.cover.specs.Cover.{last_of, input_names, cover}
use Rattle.cover.specs.Directives.{dotted, directive_of, rest_of, rows_of}
use Rattle.reading.specs.Reading.{Places, places_in, Held, State, start, find, finish, text_fault}
use Rattle.reading.specs.Areas.{read_text}
use Rattle.reading.proofs.States.{undefined_yes}
use Rattle.blif.specs.Blif.{drivers, gate, Plan, covered, plan, names_line, directive_step, line_step, read_lines, blif_lines, blif}

covered-yes : (out : Word) (xs : List ℕ) (c : Option ℕ) (g : Plan) → covered out xs c ≡ Ok g → (table : ℕ) × (c ≡ Some table) × (record { out = out; wires = xs; table = table } ≡ g)
unfolding covered
covered-yes out xs None g q = absurd (no_yes q)
covered-yes out xs (Some table) g q = (table, refl, yes_same q)

-- ---- a `.names` line

pub names-none : (t : List ℕ) (p : Places) (rows : List (List Word)) (h h' : Held) → names_line t p [] rows h ≡ Ok h' → ⊥
unfolding names_line plan
names-none t p rows h h' q = no_yes q

pub record NamesYes (t : List ℕ) (p : Places) (w : Word) (ws : List Word) (rows : List (List Word)) (h h' : Held) : Type 0 where
  pub new : find false t (last_of w ws) h.names ≡ None
  pub few : length (input_names w ws) ≤ WIRES
  pub wires : List ℕ
  pub driven : drivers t h.names (input_names w ws) ≡ Ok wires
  pub table : ℕ
  pub rows_are : cover t (length (input_names w ws)) rows ≡ Some table
  pub made : gate p (last_of w ws) wires table h ≡ Ok h'

pub names-yes : (t : List ℕ) (p : Places) (w : Word) (ws : List Word) (rows : List (List Word)) (h h' : Held) → names_line t p (w ∷ ws) rows h ≡ Ok h' → NamesYes t p w ws rows h h'
unfolding names_line plan
names-yes t p w ws rows h h' q =
    let g = then_yes (plan t (w ∷ ws) rows h.names) (λ g. gate p g.out g.wires g.table h) h' q in
    let u = undefined_yes (find false t (last_of w ws) h.names) _ g.0 g.1 in
    let n = need-yes (leb (length (input_names w ws)) WIRES) WrongCount _ g.0 u.1 in
    let d = then_yes (drivers t h.names (input_names w ws)) (λ xs. covered (last_of w ws) xs (cover t (length (input_names w ws)) rows)) g.0 n.1 in
    let c = covered-yes (last_of w ws) d.0 (cover t (length (input_names w ws)) rows) g.0 d.2 in
    record {
      new = u.0;
      few = leb-true (length (input_names w ws)) WIRES n.0;
      wires = d.0;
      driven = d.1;
      table = c.0;
      rows_are = c.1;
      made = subst (λ (x : Plan). gate p x.out x.wires x.table h ≡ Ok h') (sym c.2) g.2;
    }

-- ---- lines

-- a line is a directive or a row
pub line_yes : (t : List ℕ) (p : Places) (row : Bool) (l : Word) (ls : List Word) (s s' : State) → line_step t p row l ls s ≡ Ok s'
    → (dotted t l ≡ true → directive_step t p (directive_of t l) (rest_of (line_words t l)) (rows_of t ls) s ≡ Ok s') × (dotted t l ≡ false → s ≡ s')
unfolding line_step
line_yes t p row l ls s s' q = (λ e. rw e at q, λ e. yes_same (need-yes row Malformed (Ok s) s' (rw e at q)).1)

-- ---- the text

pub record TextYes (text : List ℕ) (n m o : ℕ) (c : Circuit) : Type 0 where
  pub state : State
  pub read : read_lines (joined_text text) (places_in n m o) false (lines 0 (joined_text text)) start ≡ Ok state
  pub finished : finish false (joined_text text) state ≡ Ok c

pub text_yes : (text : List ℕ) (j n m o : ℕ) (c : Circuit) → blif text j n m o ≡ Ok c → TextYes text n m o c
unfolding read_text blif_lines
text_yes text j n m o c q =
    let k = check_yes (text_fault text j) (and_then (read_lines (joined_text text) (places_in n m o) false (lines 0 (joined_text text)) start) (finish false (joined_text text))) c q in
    let r = then_yes (read_lines (joined_text text) (places_in n m o) false (lines 0 (joined_text text)) start) (finish false (joined_text text)) c k.1 in
    record { state = r.0; read = r.1; finished = r.2 }
