-- A gate of BENCH: the wires of its inputs, and the nodes and the name that it adds.
-- Assumes nothing.
use Rattle.std.specs.Prelude.{ℕ, suc, true, List, [], ◌∷◌, Err, Ok}
use Rattle.circuit.specs.declared.refusals.Refusal.TheVariants.{WrongCount, Unknown}
use Rattle.circuit.specs.declared.records.Name.{Name}
use Rattle.circuit.specs.declared.records.Name.TheVariants.{Step}
use Rattle.circuit.specs.declared.records.BoolNode.{BoolNode}
use Rattle.circuit.specs.Refusals.{Try, and_then}
use Rattle.text.specs.declared.words.Word.{Word}
use Rattle.names.specs.Names.{Entry}
use Rattle.reading.specs.Reading.{Places, Held, find, driver, next_wire, add_node, word_cell, stretch_name, add_alias, add_named}
use Rattle.bench_gates.specs.declared.operations.TheConstants.{NOT_TABLE}
use Rattle.bench_gates.specs.declared.operations.Operation.{Operation}
use Rattle.bench_gates.specs.declared.operations.Operation.TheVariants.{Buf, Not, Chain, Other}
use Rattle.bench_gates.specs.declared.operations.Binary.{Binary}
use Rattle.bench_gates.specs.Operations.{truth_table, associative}

-- "5: gate input .. without a driver": the words of the inputs' wires
unfoldable pub input_wires : List ℕ → List Entry → List Word → Try (List ℕ)
input_wires t es [] = Ok []
input_wires t es (w ∷ ws) = and_then (driver (find true t w es)) (λ x. and_then (input_wires t es ws) (λ xs. Ok (x ∷ xs)))

-- "Wrong count 6": a list of one
abbrev pub only_one : {A : Type 0} → List A → Try A
only_one [] = Err WrongCount
only_one (x ∷ []) = Ok x
only_one (x ∷ y ∷ ys) = Err WrongCount

-- the name of step k of a chain, counted from 1: that of its gate with the step
abbrev pub step_name : Word → ℕ → Name
step_name out k = Step out.start out.len k

-- a cell that is on where its input is off
abbrev pub inverter : Word → ℕ → BoolNode
inverter out x = word_cell (stretch_name out) NOT_TABLE (x ∷ [])

-- a step before the last is not negated
abbrev pub step_cell : Word → Binary → ℕ → ℕ → ℕ → BoolNode
step_cell out o k x y = word_cell (step_name out k) (truth_table (associative o)) (x ∷ y ∷ [])

abbrev pub last_cell : Word → Binary → ℕ → ℕ → BoolNode
last_cell out o x y = word_cell (stretch_name out) (truth_table o) (x ∷ y ∷ [])

abbrev pub with_nodes : List BoolNode → List Entry → Held
with_nodes ns es = record { nodes = ns; names = es }

-- "two or more, chained left": from step k on, x chained so far; a step takes a node record and no name record
unfoldable pub chain : Places → Word → Binary → ℕ → ℕ → List ℕ → Held → Try Held
chain p out o k x [] h = Err WrongCount
chain p out o k x (y ∷ []) h = add_named p out (last_cell out o x y) h
chain p out o k x (y ∷ z ∷ zs) h =
    and_then (add_node p.nodes (step_cell out o k x y) h.nodes)
    (λ ns. chain p out o (suc k) (next_wire h.nodes) (z ∷ zs) (with_nodes ns h.names))

unfoldable pub chained : Places → Word → Binary → List ℕ → Held → Try Held
chained p out o [] h = Err WrongCount
chained p out o (x ∷ ys) h = chain p out o 1 x ys h

-- "BUFF, BUF: one input, alias. NOT, INV: one input, cell. AND, .. XNOR: two or more .. Wrong count 6, other operation 8."
unfoldable pub lower_gate : Places → Word → Operation → List ℕ → Held → Try Held
lower_gate p out Buf xs h = and_then (only_one xs) (λ x. add_alias p out x h)
lower_gate p out Not xs h = and_then (only_one xs) (λ x. add_named p out (inverter out x) h)
lower_gate p out (Chain o) xs h = chained p out o xs h
lower_gate p out Other xs h = Err Unknown
