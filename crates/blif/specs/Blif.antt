-- The BLIF reader: a joined text's lines, one after the other, with the circuit, the names and the output words so far.
-- Assumes nothing.
use Rattle.std.specs.Prelude.{ℕ, Bool, true, false, cond, List, [], ◌∷◌, length, eqb, leb, Err, None, Ok, Option, Some}
use Rattle.circuit.specs.declared.refusals.Refusal.TheVariants.{WrongCount, BadRow, Unknown, Malformed}
use Rattle.circuit.specs.declared.records.BoolNode.{BoolNode}
use Rattle.circuit.specs.declared.records.TheConstants.{WIRES}
use Rattle.circuit.specs.Refusals.{Try, and_then, need}
use Rattle.circuit.specs.Circuits.{Circuit}
use Rattle.text.specs.Lines.{lines, line_words}
use Rattle.text.specs.declared.words.Word.{Word}
use Rattle.names.specs.Names.{Entry}
use Rattle.cover.specs.declared.directives.Directive.{Directive}
use Rattle.cover.specs.declared.directives.Directive.TheVariants.{Ignored, Inputs, Outputs, Names, Other}
use Rattle.cover.specs.Cover.{last_of, input_names, cover}
use Rattle.cover.specs.Directives.{dotted, directive_of, rest_of, rows_of, rows_after}
use Rattle.reading.specs.Reading.{Places, Held, State, start, find, unless_defined, driver, word_cell, stretch_name, add_alias, add_named, add_input, add_output, each, finish}
use Rattle.reading.specs.States.{with_held, with_outputs}
use Rattle.reading.specs.Areas.{read_text}
use Rattle.blif.specs.declared.gates.TheConstants.{BUFFER}

-- ---- gates

-- "5": the wires of the input names
unfoldable pub drivers : List ℕ → List Entry → List Word → Try (List ℕ)
drivers t es [] = Ok []
drivers t es (w ∷ ws) = and_then (driver (find false t w es)) (λ x. and_then (drivers t es ws) (λ xs. Ok (x ∷ xs)))

-- the cell of a gate that is named by its output word, by the words of its wires
abbrev pub gate_cell : Word → List ℕ → ℕ → BoolNode
gate_cell out xs table = word_cell (stretch_name out) table xs

abbrev pub cell : Places → Word → List ℕ → ℕ → Held → Try Held
cell p out xs table h = add_named p out (gate_cell out xs table) h

-- A gate without inputs is a constant wire, and one that gives its one input is another name of that wire: neither makes a node.
unfoldable pub gate : Places → Word → List ℕ → ℕ → Held → Try Held
gate p out [] table h = add_alias p out table h
gate p out (x ∷ []) table h = cond (eqb table BUFFER) (add_alias p out x h) (cell p out (x ∷ []) table h)
gate p out (x ∷ y ∷ ys) table h = cell p out (x ∷ y ∷ ys) table h

-- a gate that passed its checks: its output word, its wires and its table
pub record Plan : Type 0 where
  pub out : Word
  pub wires : List ℕ
  pub table : ℕ

-- "then its rows ..: 7"
unfoldable pub covered : Word → List ℕ → Option ℕ → Try Plan
covered out xs None = Err BadRow
covered out xs (Some table) = Ok (record { out = out; wires = xs; table = table })

-- a `.names` line: without a word it is malformed; then its name is new, its inputs are few enough and driven, and its rows right
unfoldable pub plan : List ℕ → List Word → List (List Word) → List Entry → Try Plan
plan t [] rows es = Err Malformed
plan t (w ∷ ws) rows es =
    unless_defined (find false t (last_of w ws) es)
    (need (leb (length (input_names w ws)) WIRES) WrongCount
    (and_then (drivers t es (input_names w ws)) (λ xs. covered (last_of w ws) xs (cover t (length (input_names w ws)) rows))))

unfoldable pub names_line : List ℕ → Places → List Word → List (List Word) → Held → Try Held
names_line t p ws rows h = and_then (plan t ws rows h.names) (λ g. gate p g.out g.wires g.table h)

-- ---- lines

-- "`.model`, `.end`: ignored. `.inputs`: per word 4, else an input node. `.outputs`: collected, repeats allowed. .. Other words with `.` first 8"
unfoldable pub directive_step : List ℕ → Places → Directive → List Word → List (List Word) → State → Try State
directive_step t p Ignored ws rows s = Ok s
directive_step t p Inputs ws rows s = with_held s.outputs (each (add_input false t p) ws s.held)
directive_step t p Outputs ws rows s = with_outputs s.held (each (add_output p.outputs) ws s.outputs)
directive_step t p Names ws rows s = with_held s.outputs (names_line t p ws rows s.held)
directive_step t p Other ws rows s = Err Unknown

-- a line, with those after it, where `row` says whether a row may stand: "Other words with `.` first 8; other lines 9."
unfoldable pub line_step : List ℕ → Places → Bool → Word → List Word → State → Try State
line_step t p row l ls s = cond (dotted t l) (directive_step t p (directive_of t l) (rest_of (line_words t l)) (rows_of t ls) s) (need row Malformed (Ok s))

-- rows go on "up to the next line with `.` first"
unfoldable pub row_next : List ℕ → Word → Bool
row_next t l = cond (dotted t l) (rows_after (directive_of t l)) true

unfoldable pub read_lines : List ℕ → Places → Bool → List Word → State → Try State
read_lines t p row [] s = Ok s
read_lines t p row (l ∷ ls) s = and_then (line_step t p row l ls s) (read_lines t p (row_next t l) ls)

-- the lines of a joined text; "At the end outputs: 5, then 10."
unfoldable pub blif_lines : List ℕ → Places → Try Circuit
blif_lines t p = and_then (read_lines t p false (lines 0 t) start) (finish false t)

-- `parse_blif`, with areas of so many bytes and words
abbrev pub blif : List ℕ → ℕ → ℕ → ℕ → ℕ → Try Circuit
blif text j n m o = read_text blif_lines text j n m o
