-- The BENCH reader: the lines of a joined text, one after the other.
-- Assumes nothing.
use Rattle.std.specs.Prelude.{ℕ, ◌+◌, true, cond, List, [], ◌∷◌, ltb, Err, Ok}
use Rattle.laws.specs.Stretches.{run, is_not}
use Rattle.circuit.specs.declared.refusals.Refusal.TheVariants.{Unknown, Malformed}
use Rattle.circuit.specs.Refusals.{Try, and_then, need}
use Rattle.circuit.specs.Circuits.{Circuit}
use Rattle.text.specs.Bytes.{is_named}
use Rattle.text.specs.Blanks.{trimmed}
use Rattle.text.specs.Words.{bytes_of, between}
use Rattle.text.specs.Lines.{lines}
use Rattle.text.specs.declared.words.Word.{Word}
use Rattle.names.specs.Names.{Entry}
use Rattle.reading.specs.Reading.{Places, Held, State, start, find, unless_defined, add_input, add_output, each, finish}
use Rattle.reading.specs.States.{with_held, with_outputs}
use Rattle.reading.specs.Areas.{read_text}
use Rattle.bench_invocations.specs.Invocations.{Invoked, parse_invocation}
use Rattle.bench_gates.specs.declared.operations.Operation.{Operation}
use Rattle.bench_gates.specs.Operations.{operation_of}
use Rattle.bench_gates.specs.Gates.{input_wires, only_one, lower_gate}
use Rattle.bench.specs.declared.declarations.Declaration.{Declaration}
use Rattle.bench.specs.declared.declarations.Declaration.TheVariants.{Input, Output, Other}

-- ---- gates

-- the operation of a gate, and the words of its inputs' wires
pub record Gate : Type 0 where
  pub operation : Operation
  pub inputs : List ℕ

-- "invocation, 5, operation"
unfoldable pub gate_invoked : List ℕ → List Entry → Invoked → Try Gate
gate_invoked t es i = and_then (input_wires t es i.arguments) (λ xs. Ok (record { operation = operation_of (bytes_of t i.operation); inputs = xs }))

-- "a gate: empty output 9, 4, invocation, 5, operation"
unfoldable pub gate_of : List ℕ → Word → Word → List Entry → Try Gate
gate_of t out expression es =
    need (ltb 0 out.len) Malformed (unless_defined (find true t out es) (and_then (parse_invocation t expression) (gate_invoked t es)))

unfoldable pub gate_line : List ℕ → Places → Word → Word → Held → Try Held
gate_line t p out expression h = and_then (gate_of t out expression h.names) (λ g. lower_gate p out g.operation g.inputs h)

-- ---- declarations

unfoldable pub declaration_of : List ℕ → Declaration
declaration_of w =
    cond (is_named w (73 ∷ 78 ∷ 80 ∷ 85 ∷ 84 ∷ [])) Input
    (cond (is_named w (79 ∷ 85 ∷ 84 ∷ 80 ∷ 85 ∷ 84 ∷ [])) Output Other)

-- what is declared, and the one name
pub record Declared : Type 0 where
  pub declaration : Declaration
  pub name : Word

-- "9, not one name 6"
unfoldable pub declared_in : List ℕ → Word → Try Declared
declared_in t l =
    and_then (parse_invocation t l)
    (λ i. and_then (only_one i.arguments) (λ w. Ok (record { declaration = declaration_of (bytes_of t i.operation); name = w })))

-- "`INPUT` 4, `OUTPUT` collected, others 8"
unfoldable pub declare : List ℕ → Places → Declaration → Word → State → Try State
declare t p Input w s = with_held s.outputs (add_input true t p w s.held)
declare t p Output w s = with_outputs s.held (add_output p.outputs w s.outputs)
declare t p Other w s = Err Unknown

-- "Other lines are declarations: 9, not one name 6, `INPUT` 4, `OUTPUT` collected, others 8."
unfoldable pub declaration_line : List ℕ → Places → Word → State → Try State
declaration_line t p l s = and_then (declared_in t l) (λ d. declare t p d.declaration d.name s)

-- ---- lines

-- the line from `at` to `end`, whose first `=` is at `cut`: at the end if there is none
unfoldable pub line_step : List ℕ → Places → ℕ → ℕ → ℕ → State → Try State
line_step t p at end cut s =
    cond (ltb cut end) (with_held s.outputs (gate_line t p (trimmed t (between at cut)) (between (cut + 1) end) s.held))
    (declaration_line t p (between at end) s)

-- "A line with `=` (the first splits it) is a gate", "Other lines are declarations"
unfoldable pub read_line : List ℕ → Places → Word → State → Try State
read_line t p l s = line_step t p l.start (l.start + l.len) (l.start + run (is_not 61) (bytes_of t l)) s

-- "`FALSE` and `TRUE` are defined first", "The end is as in BLIF."
unfoldable pub bench_lines : List ℕ → Places → Try Circuit
bench_lines t p = and_then (each (read_line t p) (lines 0 t) start) (finish true t)

-- `parse_bench`, with areas of so many bytes and words
abbrev pub bench : List ℕ → ℕ → ℕ → ℕ → ℕ → Try Circuit
bench text j n m o = read_text bench_lines text j n m o
