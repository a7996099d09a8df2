-- What the code notes of a line before it adds anything, and what it leaves.
-- Assumes nothing.
use Rattle.std.specs.Prelude.{ℕ, ◌+◌, ◌≤◌, ◌≡◌, true, List, length, Err, Ok, IfOk}
use mathlib.Core.Path.{refl}
use Rattle.circuit.specs.Refusals.{Try, and_then}
use Rattle.text.specs.Lines.{lines}
use Rattle.text.specs.declared.words.Word.{Word}
use Rattle.names.specs.Names.{Entry}
use Rattle.names.specs.Chains.{Table, IsNew}
use Rattle.names.specs.declared.NameTable.{NameTable}
use Rattle.reading.specs.Reading.{Places, State, start, each, finish}
use Rattle.reading.specs.declared.records.Reading.{Reading}
use Rattle.reading.specs.Holding.{outcome, entries_of, NodesHold, WordsHold, AreasHold}
use Rattle.bench_invocations.specs.Walks.{arguments_at}
use Rattle.bench_gates.specs.declared.plans.Plan.{Plan}
use Rattle.bench_gates.specs.Gates.{input_wires}
use Rattle.bench_gates.specs.Walks.{Driven}
use Rattle.bench.specs.declared.declarations.Named.{Named}
use Rattle.bench.specs.Bench.{Gate, Declared, read_line, bench_lines}

-- the gate of a plan, its inputs looked up
abbrev pub planned : List ℕ → List Entry → Plan → Try Gate
planned t es p = and_then (input_wires t es (arguments_at t p.arguments)) (λ xs. Ok (record { operation = p.operation; inputs = xs }))

-- a plan for an output, a new name of the table, whose inputs have drivers
pub record PlanFits (t : NameTable) (out : Word) (p : Plan) : Type 0 where
  pub out_is : out ≡ p.out.word
  pub new : IsNew t.text.now t.heads.now t.names.now t.count p.out
  pub driven : Driven t.text.now (entries_of t) p

-- the plan of a gate, or the refusal
pub record PlanIs (t : NameTable) (out : Word) (r : Try Plan) (g : Try Gate) : Type 0 where
  pub is : and_then r (planned t.text.now (entries_of t)) ≡ g
  pub fits : IfOk r (PlanFits t out)

-- what is declared, as the definition has it
abbrev pub declared_as : Named → Declared
declared_as n = record { declaration = n.declaration; name = n.name }

-- a declaration, or the refusal
pub record NamedIs (t : List ℕ) (r : Try Named) (d : Try Declared) : Type 0 where
  pub is : outcome declared_as r ≡ d
  pub inside : IfOk r (λ n. n.name.start + n.name.len ≤ length t)

-- the areas hold as much as a line answers; on a refusal some nodes and names, and the output words as they were
abbrev pub AreasHoldAfterLine : List ℕ → List ℕ → List ℕ → List ℕ → List ℕ → Reading → Try Reading → Type 0
AreasHoldAfterLine t heads ns ms os read (Ok r) = AreasHold t heads ns ms os r
AreasHoldAfterLine t heads ns ms os read (Err e) = ((n : ℕ) × NodesHold ns n) × ((m : ℕ) × Table t heads ms m) × WordsHold t os read.outputs

-- what the lines of a text add to nothing, one after the other; the circuit is what they give, once the outputs have their wires
abbrev pub bench_reads : List ℕ → Places → Try State
bench_reads t p = each (read_line t p) (lines 0 t) start

pub bench_ends : (t : List ℕ) (p : Places) → bench_lines t p ≡ and_then (bench_reads t p) (finish true t)
unfolding bench_lines
bench_ends t p = refl
