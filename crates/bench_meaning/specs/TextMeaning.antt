-- What a BENCH text says: the inputs and outputs that it declares and the equations of its gates, by the lines of its joined text.
-- A name is a stretch of the joined text; its bytes decide what it stands for.
-- Assumes nothing.
use Rattle.std.specs.Prelude.{ℕ, suc, ◌+◌, ◌<◌, ◌≡◌, Bool, true, false, cond, List, [], ◌∷◌, ◌++◌, map, ltb, get_or, Err, Ok}
use Rattle.laws.specs.Stretches.{run, is_not, All}
use Rattle.circuit.specs.declared.records.BoolWire.{BoolWire}
use Rattle.circuit.specs.declared.records.BoolWire.TheVariants.{Const}
use Rattle.circuit.specs.declared.records.BoolNode.{BoolNode}
use Rattle.circuit.specs.Refusals.{Try}
use Rattle.text.specs.Blanks.{trimmed}
use Rattle.text.specs.Words.{bytes_of, between}
use Rattle.text.specs.declared.words.Word.{Word}
use Rattle.values.specs.Values.{signal_value, storage_values, storage_outputs, evaluated}
use Rattle.bench_invocations.specs.Invocations.{Invoked, parse_invocation}
use Rattle.bench_gates.specs.declared.operations.Operation.{Operation}
use Rattle.bench_gates.specs.Operations.{operation_of}
use Rattle.bench.specs.declared.declarations.Declaration.{Declaration}
use Rattle.bench.specs.declared.declarations.Declaration.TheVariants.{Input, Output, Other}
use Rattle.bench.specs.Bench.{Declared, declared_in}
use Rattle.bench_meaning.specs.Operations.{operation_bit}

-- ---- lines

-- "the first splits it": the place of a line's first `=`; the line's end if it has none
abbrev pub cut_of : List ℕ → Word → ℕ
cut_of t l = l.start + run (is_not 61) (bytes_of t l)

-- "A line with `=` (the first splits it) is a gate"
abbrev pub is_gate : List ℕ → Word → Bool
is_gate t l = ltb (cut_of t l) (l.start + l.len)

-- "A line with `=` .. is a gate": the name that it defines, its operation and the names of its inputs
pub record GateLine : Type 0 where
  pub out : Word
  pub operation : Operation
  pub inputs : List Word

-- "Invocation: from the first `(` to the last `)`", "letters of the operation in any case; names trimmed"
abbrev pub gate_said : List ℕ → Word → Try Invoked → List GateLine
gate_said t out (Err e) = []
gate_said t out (Ok i) = record { out = out; operation = operation_of (bytes_of t i.operation); inputs = i.arguments } ∷ []

abbrev pub gate_in : List ℕ → Word → List GateLine
gate_in t l = cond (is_gate t l) (gate_said t (trimmed t (between l.start (cut_of t l))) (parse_invocation t (between (cut_of t l + 1) (l.start + l.len)))) []

-- the gates of lines, in order
unfoldable pub gates : List ℕ → List Word → List GateLine
gates t [] = []
gates t (l ∷ ls) = gate_in t l ++ gates t ls

-- "Other lines are declarations: .. `INPUT` .., `OUTPUT` collected": the names of the one kind, and of the other
abbrev pub input_named : Declaration → Word → List Word
input_named Input w = w ∷ []
input_named Output w = []
input_named Other w = []

abbrev pub output_named : Declaration → Word → List Word
output_named Input w = []
output_named Output w = w ∷ []
output_named Other w = []

abbrev pub said : (Declaration → Word → List Word) → Try Declared → List Word
said f (Err e) = []
said f (Ok d) = f d.declaration d.name

-- the names that lines declare, in order: those of `INPUT` or those of `OUTPUT`
unfoldable pub declared : (Declaration → Word → List Word) → List ℕ → List Word → List Word
declared f t [] = []
declared f t (l ∷ ls) = cond (is_gate t l) [] (said f (declared_in t (between l.start (l.start + l.len)))) ++ declared f t ls

-- ---- equations

-- "AND, NAND, OR, NOR, XOR, XNOR: two or more", "BUFF, BUF: one input .. NOT, INV: one input": a gate's name has the operation's bit of all its inputs,
-- wherever none of them is unknown
abbrev pub Equation : (Word → ℕ) → GateLine → Type 0
Equation value g = All (λ (w : Word). value w < 2) g.inputs → value g.out ≡ operation_bit g.operation (map value g.inputs)

-- "an assignment has one per input in storage order": the names of `INPUT` have its values, from place p on
abbrev pub Assigned : (Word → ℕ) → List ℕ → ℕ → List Word → Type 0
Assigned value assignment p [] = Unit
Assigned value assignment p (w ∷ ws) = (value w ≡ get_or assignment p 0) × Assigned value assignment (suc p) ws

-- ---- a circuit that means what a text says

-- "an output the value of its wire": the value of a name is that of the wire that its bytes stand for
abbrev pub name_value : List ℕ → List BoolNode → (List ℕ → BoolWire) → List ℕ → Word → ℕ
name_value t nodes wire assignment w = signal_value (storage_values nodes assignment) (wire (bytes_of t w))

-- under an assignment, unknowns among its values or not, every equation of the text holds, and the outputs are the values of the names of `OUTPUT`
pub record Means (t : List ℕ) (ls : List Word) (nodes : List BoolNode) (outs : List BoolWire) (wire : List ℕ → BoolWire) (assignment : List ℕ) : Type 0 where
  -- "`FALSE` and `TRUE` are defined first"
  pub false_is : wire (70 ∷ 65 ∷ 76 ∷ 83 ∷ 69 ∷ []) ≡ Const false
  pub true_is : wire (84 ∷ 82 ∷ 85 ∷ 69 ∷ []) ≡ Const true
  pub assigned : Assigned (name_value t nodes wire assignment) assignment 0 (declared input_named t ls)
  pub equations : All (Equation (name_value t nodes wire assignment)) (gates t ls)
  pub outputs_are : storage_outputs nodes outs assignment ≡ map (name_value t nodes wire assignment) (declared output_named t ls)
  -- without unknowns every name has a bit, and the outputs are those of `evaluate`
  pub bits : ((p : ℕ) → get_or assignment p 0 < 2) → (w : Word) → name_value t nodes wire assignment w < 2
  pub evaluates : ((p : ℕ) → get_or assignment p 0 < 2) → evaluated nodes outs assignment ≡ map (name_value t nodes wire assignment) (declared output_named t ls)
