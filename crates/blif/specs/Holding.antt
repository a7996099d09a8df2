-- A gate as the code plans it, and BLIF as a format.
-- Assumes nothing.
use Rattle.std.specs.Prelude.{ℕ, ◌≡◌, false, List, take, IfOk}
use mathlib.Core.Path.{refl}
use Rattle.circuit.specs.Refusals.{Try, and_then}
use Rattle.text.specs.Lines.{lines, line_words}
use Rattle.text.specs.declared.words.Word.{Word}
use Rattle.names.specs.Names.{Entry}
use Rattle.names.specs.Chains.{IsNew}
use Rattle.names.specs.declared.NameTable.{NameTable}
use Rattle.cover.specs.declared.directives.Directive.{Directive}
use Rattle.reading.specs.Reading.{Places, State, start, find, driver, finish}
use Rattle.reading.specs.Holding.{outcome}
use Rattle.blif.specs.declared.planned.Planned.{Planned}
use Rattle.blif.specs.Blif.{Plan, directive_step, read_lines, blif_lines}

abbrev pub planned : Planned → Plan
planned p = record { out = p.out.word; wires = take p.count p.wires; table = p.table }

-- the wire of an input word
abbrev pub driver_of : List ℕ → List Entry → Word → Try ℕ
driver_of t es w = driver (find false t w es)

-- what planning answers: the plan, whose output is a new name of the table, or its refusal
pub record PlanIs (t : NameTable) (r : Try Planned) (o : Try Plan) : Type 0 where
  pub is : outcome planned r ≡ o
  pub new : IfOk r (λ p. IsNew t.text.now t.heads.now t.names.now t.count p.out)

-- a directive with the stretch after it, and the rows after that
abbrev pub directive_at : List ℕ → Directive → Word → List (List Word) → Places → State → Try State
directive_at t directive line rows p s = directive_step t p directive (line_words t line) rows s

-- what the lines of a joined text add to nothing
abbrev pub blif_reads : List ℕ → Places → Try State
blif_reads t p = read_lines t p false (lines 0 t) start

pub blif_ends : (t : List ℕ) (p : Places) → blif_lines t p ≡ and_then (blif_reads t p) (finish false t)
unfolding blif_lines
blif_ends t p = refl
