-- What the readers of joined texts share: text faults, the circuit and the names so far, a record more, the outputs at the end.
-- Assumes nothing.
use Rattle.std.specs.Prelude.{ℕ, Bool, cond, not, ◌&&◌, List, [], ◌∷◌, ◌++◌, map, length, ltb, leb, None, Option, Some, Ok, Err}
use Rattle.laws.specs.Areas.{capacity}
use Rattle.laws.specs.Stretches.{same_bytes}
use Rattle.circuit.specs.declared.refusals.Refusal.TheVariants.{TextTooLong, NotAscii, NoRoom, DefinedBefore, NoDriver, NoOutputs}
use Rattle.circuit.specs.Refusals.{Checked}
use Rattle.circuit.specs.declared.records.BoolWire.TheVariants.{Node}
use Rattle.circuit.specs.declared.records.Name.{Name}
use Rattle.circuit.specs.declared.records.Name.TheVariants.{Stretch}
use Rattle.circuit.specs.declared.records.BoolNode.{BoolNode}
use Rattle.circuit.specs.declared.records.Output.{Output}
use Rattle.circuit.specs.declared.records.TheConstants.{NODE_WORDS, OUTPUT_WORDS}
use Rattle.circuit.specs.Refusals.{refuse_if, first_fault, Try, and_then, need}
use Rattle.circuit.specs.Records.{wire_word, wire_of, input_node, cell_node}
use Rattle.circuit.specs.Circuits.{Circuit}
use Rattle.text.specs.declared.TheConstants.{MOST_TEXT}
use Rattle.text.specs.Bytes.{is_ascii}
use Rattle.text.specs.Words.{bytes_of}
use Rattle.text.specs.declared.words.Word.{Word}
use Rattle.names.specs.declared.records.TheConstants.{NAME_WORDS}
use Rattle.names.specs.Names.{Entry, lookup}

-- ---- the text

-- a text is too long, or a byte of it is not ASCII, in a comment too
unfoldable pub bytes_fault : List ℕ → Checked
bytes_fault text = first_fault (refuse_if (ltb MOST_TEXT (length text)) TextTooLong) (refuse_if (not (is_ascii text)) NotAscii)

-- the text's own faults come before a joined area that is too short: the joined text may be one byte longer than the text
unfoldable pub text_fault : List ℕ → ℕ → Checked
text_fault text joined = first_fault (bytes_fault text) (refuse_if (leb joined (length text)) NoRoom)

-- ---- the state

-- the places for records in the lent areas
pub record Places : Type 0 where
  pub nodes : ℕ
  pub names : ℕ
  pub outputs : ℕ

-- those of areas of so many words
abbrev pub places_in : ℕ → ℕ → ℕ → Places
places_in n m o = record { nodes = capacity NODE_WORDS n; names = capacity NAME_WORDS m; outputs = capacity OUTPUT_WORDS o }

-- the nodes so far, and the names defined, the newest first
pub record Held : Type 0 where
  pub nodes : List BoolNode
  pub names : List Entry

-- with the output words collected
pub record State : Type 0 where
  pub held : Held
  pub outputs : List Word

abbrev pub start : State
start = record { held = record { nodes = []; names = [] }; outputs = [] }

-- ---- names

-- "`FALSE` and `TRUE` are defined first" where `constants` holds (BENCH); then the names of the text
unfoldable pub find : Bool → List ℕ → Word → List Entry → Option ℕ
find constants t w es =
    cond (constants && same_bytes (bytes_of t w) (70 ∷ 65 ∷ 76 ∷ 83 ∷ 69 ∷ [])) (Some 0)
    (cond (constants && same_bytes (bytes_of t w) (84 ∷ 82 ∷ 85 ∷ 69 ∷ [])) (Some 1) (lookup t (bytes_of t w) es))

-- "4: name defined before"
abbrev pub unless_defined : {A : Type 0} → Option ℕ → Try A → Try A
unless_defined (Some w) k = Err DefinedBefore
unless_defined None k = k

-- "5: gate input or output without a driver"
abbrev pub driver : Option ℕ → Try ℕ
driver (Some w) = Ok w
driver None = Err NoDriver

-- ---- a record more

-- "3 comes only when the next record has no free place in its area"
abbrev pub if_room : {A B : Type 0} → List A → ℕ → Try B → Try B
if_room xs room k = need (ltb (length xs) room) NoRoom k

-- "Each defined name takes one name record": a name for the word of a wire
unfoldable pub add_name : ℕ → Word → ℕ → List Entry → Try (List Entry)
add_name room w wire es = if_room es room (Ok (record { start = w.start; len = w.len; wire = wire } ∷ es))

abbrev pub with_names : List BoolNode → Try (List Entry) → Try Held
with_names ns (Err e) = Err e
with_names ns (Ok es) = Ok (record { nodes = ns; names = es })

-- a node more: the next place in the circuit
unfoldable pub add_node : ℕ → BoolNode → List BoolNode → Try (List BoolNode)
add_node room n ns = if_room ns room (Ok (ns ++ (n ∷ [])))

-- a name for a wire that is there: an alias or a constant
unfoldable pub add_alias : Places → Word → ℕ → Held → Try Held
add_alias p w wire h = with_names h.nodes (add_name p.names w wire h.names)

-- the word of the wire of the node that comes next
abbrev pub next_wire : List BoolNode → ℕ
next_wire ns = wire_word (Node (record { 0 = length ns }))

-- a node and its name
unfoldable pub add_named : Places → Word → BoolNode → Held → Try Held
add_named p w n h =
    and_then (add_node p.nodes n h.nodes)
    (λ ns. with_names ns (add_name p.names w (next_wire h.nodes) h.names))

-- a cell by the words of its wires
abbrev pub word_cell : Name → ℕ → List ℕ → BoolNode
word_cell name table xs = cell_node name table (map wire_of xs)

-- a node has its name where it is defined in the joined text
abbrev pub stretch_name : Word → Name
stretch_name w = Stretch w.start w.len

-- the node of an input that is declared at a word
abbrev pub declared_input : Word → BoolNode
declared_input w = input_node (stretch_name w)

-- a declared input, unless its name is defined
unfoldable pub add_input : Bool → List ℕ → Places → Word → Held → Try Held
add_input constants t p w h =
    unless_defined (find constants t w h.names) (add_named p w (declared_input w) h)

-- "In BLIF and BENCH an output's place is taken when its word is read"
unfoldable pub add_output : ℕ → Word → List Word → Try (List Word)
add_output room w ws = if_room ws room (Ok (ws ++ (w ∷ [])))

-- one word after the other
unfoldable pub each : {A B : Type 0} → (B → A → Try A) → List B → A → Try A
each f [] a = Ok a
each f (w ∷ ws) a = and_then (f w a) (each f ws)

-- ---- the end

-- an output: "for an output its own output word", and the word of its wire
pub record Out : Type 0 where
  pub word : Word
  pub wire : ℕ

abbrev pub output_of : Out → Output
output_of o = record { name = stretch_name o.word; wire = wire_of o.wire }

unfoldable pub resolve : Bool → List ℕ → List Entry → List Word → Try (List Out)
resolve constants t es [] = Ok []
resolve constants t es (w ∷ ws) =
    and_then (driver (find constants t w es)) (λ x. and_then (resolve constants t es ws) (λ os. Ok (record { word = w; wire = x } ∷ os)))

-- "At the end outputs: 5, then 10."
unfoldable pub closed : List BoolNode → List Out → Try Circuit
closed ns [] = Err NoOutputs
closed ns (o ∷ os) = Ok (record { nodes = ns; outputs = map output_of (o ∷ os) })

unfoldable pub finish : Bool → List ℕ → State → Try Circuit
finish constants t s = and_then (resolve constants t s.held.names s.outputs) (closed s.held.nodes)
