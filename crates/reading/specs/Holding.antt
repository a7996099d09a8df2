-- What the areas hold while lines are read, and what the steps answer.
-- Assumes nothing.
use Rattle.std.specs.Prelude.{ℕ, ◌+◌, ◌-◌, ◌*◌, ◌≤◌, ◌≡◌, Bool, List, [], ◌∷◌, ◌++◌, length, replicate, get_or, None, Ok, Err, Option, Some, Result, IfOk, OnOk}
use Rattle.laws.specs.Areas.{encodes, up_from, stored, capacity}
use Rattle.laws.specs.Stretches.{All}
use Rattle.circuit.specs.Refusals.{Checked}
use Rattle.circuit.specs.declared.records.BoolNode.{BoolNode}
use Rattle.circuit.specs.declared.records.Sizes.{Sizes}
use Rattle.circuit.specs.declared.records.TheConstants.{NAME_LEN, NODE_WORDS, OUTPUT_WORDS}
use Rattle.circuit.specs.Refusals.{Try, and_then}
use Rattle.circuit.specs.Records.{encode_node, nodes_of, encode_output, outputs_of}
use Rattle.circuit.specs.Circuits.{Circuit}
use Rattle.text.specs.declared.words.Word.{Word}
use Rattle.names.specs.Names.{Entry}
use Rattle.names.specs.Chains.{entries, Table, SearchIs}
use Rattle.names.specs.declared.NameTable.{NameTable}
use Rattle.names.specs.declared.new_name.NewName.{NewName}
use Rattle.names.specs.declared.records.TheConstants.{NAME_WORDS}
use Rattle.reading.specs.declared.outputs.TheConstants.{START_AT, LEN_AT}
use Rattle.reading.specs.declared.records.Counts.{Counts}
use Rattle.reading.specs.declared.records.Reading.{Reading}
use Rattle.reading.specs.Reading.{Places, Held, State, places_in, Out, find, resolve, closed}

-- a refusal of the code, or what it leaves, from what it answers
abbrev pub outcome : {A B : Type 0} → (A → B) → Try A → Try B
outcome f (Err e) = Err e
outcome f (Ok a) = Ok (f a)

-- the places of lent areas
abbrev pub places_of : List ℕ → List ℕ → List ℕ → Places
places_of ns ms os = places_in (length ns) (length ms) (length os)

-- the names that a table has
abbrev pub entries_of : NameTable → List Entry
entries_of t = entries t.names.now t.count

-- what a search for a word answers, where `FALSE` and `TRUE` may be defined first
abbrev pub WordSearch : Bool → NameTable → Word → Result ℕ NewName → Type 0
WordSearch constants t word r = SearchIs (find constants t.text.now word (entries_of t)) t.text.now t.heads.now t.names.now t.count word r

-- the nodes and names of areas that hold so many
abbrev pub held_of : List ℕ → List ℕ → Counts → Held
held_of ns ms c = record { nodes = nodes_of ns c.nodes; names = entries ms c.names }

-- ---- areas in order

-- the area of the nodes holds so many records, and zeros after them
pub record NodesHold (ns : List ℕ) (n : ℕ) : Type 0 where
  pub room : n * NODE_WORDS ≤ length ns
  pub clean : ns ≡ encodes encode_node (nodes_of ns n) ++ replicate (length ns - n * NODE_WORDS) 0

-- after a step: as many as it answers; on a refusal some
abbrev pub NodesHoldAfter : List ℕ → Try ℕ → Type 0
NodesHoldAfter ns (Ok n) = NodesHold ns n
NodesHoldAfter ns (Err e) = (n : ℕ) × NodesHold ns n

-- the areas of the nodes and names hold so many, and the name table is in order
pub record NamedNodesHold (t heads ns ms : List ℕ) (c : Counts) : Type 0 where
  pub table : Table t heads ms c.names
  pub nodes : NodesHold ns c.nodes

-- after a step: as many as it answers; on a refusal some of each
abbrev pub NamedNodesHoldAfter : List ℕ → List ℕ → List ℕ → List ℕ → Try Counts → Type 0
NamedNodesHoldAfter t heads ns ms (Ok c) = NamedNodesHold t heads ns ms c
NamedNodesHoldAfter t heads ns ms (Err e) = ((n : ℕ) × NodesHold ns n) × ((m : ℕ) × Table t heads ms m)

-- the output words of an area: records whose wire is not known yet
abbrev pub output_word : List ℕ → ℕ → Word
output_word a j = record {
  start = get_or a (j * OUTPUT_WORDS + START_AT) 0;
  len = get_or a (j * OUTPUT_WORDS + LEN_AT) 0;
}

abbrev pub words_of : List ℕ → ℕ → List Word
words_of a n = up_from (output_word a) 0 n

abbrev pub encode_word : Word → List ℕ
encode_word w = 1 ∷ w.start ∷ w.len ∷ 0 ∷ 0 ∷ []

abbrev pub InText : ℕ → List Word → Type 0
InText n ws = All (λ (w : Word). w.start + w.len ≤ n) ws

-- the area of the outputs holds so many words of the text, and zeros after them
pub record WordsHold (t os : List ℕ) (n : ℕ) : Type 0 where
  pub room : n * OUTPUT_WORDS ≤ length os
  pub clean : os ≡ encodes encode_word (words_of os n) ++ replicate (length os - n * OUTPUT_WORDS) 0
  pub inside : InText (length t) (words_of os n)

-- after a step: as many as it answers; on a refusal some
abbrev pub WordsHoldAfter : List ℕ → List ℕ → Try ℕ → Type 0
WordsHoldAfter t os (Ok n) = WordsHold t os n
WordsHoldAfter t os (Err e) = (n : ℕ) × WordsHold t os n

-- the areas hold what has been read
pub record AreasHold (t heads ns ms os : List ℕ) (r : Reading) : Type 0 where
  pub named : NamedNodesHold t heads ns ms r.counts
  pub words : WordsHold t os r.outputs

-- before the first line
abbrev pub nothing_read : Reading
nothing_read = record { counts = record { nodes = 0; names = 0 }; outputs = 0 }

-- after a step: as much as it answers; on a refusal some of each
abbrev pub AreasHoldAfter : List ℕ → List ℕ → List ℕ → List ℕ → List ℕ → Try Reading → Type 0
AreasHoldAfter t heads ns ms os (Ok r) = AreasHold t heads ns ms os r
AreasHoldAfter t heads ns ms os (Err e) = ((n : ℕ) × NodesHold ns n) × ((m : ℕ) × Table t heads ms m) × ((l : ℕ) × WordsHold t os l)

-- the area of the outputs holds so many records with their wires, and zeros after them
pub record OutputsHold (os : List ℕ) (n : ℕ) : Type 0 where
  pub room : n * OUTPUT_WORDS ≤ length os
  pub clean : os ≡ encodes encode_output (outputs_of os n) ++ replicate (length os - n * OUTPUT_WORDS) 0

-- what has been read, in its areas
abbrev pub state_of : List ℕ → List ℕ → List ℕ → Reading → State
state_of ns ms os r = record { held = held_of ns ms r.counts; outputs = words_of os r.outputs }

-- ---- steps: what the definition gives of the contents before is what the areas hold after, or the refusal

-- of names, where the area has room for so many
abbrev pub NamesStep : (ℕ → List Entry → Try (List Entry)) → List ℕ → ℕ → List ℕ → Try ℕ → Type 0
NamesStep f ms n ms' r = outcome (entries ms') r ≡ f (capacity NAME_WORDS (length ms)) (entries ms n)

-- of nodes
abbrev pub NodesStep : (ℕ → List BoolNode → Try (List BoolNode)) → List ℕ → ℕ → List ℕ → Try ℕ → Type 0
NodesStep f ns n ns' r = outcome (nodes_of ns') r ≡ f (capacity NODE_WORDS (length ns)) (nodes_of ns n)

-- of output words
abbrev pub WordsStep : (ℕ → List Word → Try (List Word)) → List ℕ → ℕ → List ℕ → Try ℕ → Type 0
WordsStep f os n os' r = outcome (words_of os') r ≡ f (capacity OUTPUT_WORDS (length os)) (words_of os n)

-- of nodes and names, whatever area the outputs have
abbrev pub HeldStep : (Places → Held → Try Held) → List ℕ → List ℕ → Counts → List ℕ → List ℕ → Try Counts → Type 0
HeldStep f ns ms c ns' ms' r = (o : ℕ) → outcome (held_of ns' ms') r ≡ f (places_in (length ns) (length ms) o) (held_of ns ms c)

-- of all that has been read
abbrev pub StateStep : (Places → State → Try State) → List ℕ → List ℕ → List ℕ → Reading → List ℕ → List ℕ → List ℕ → Try Reading → Type 0
StateStep f ns ms os r ns' ms' os' r' = outcome (state_of ns' ms' os') r' ≡ f (places_of ns ms os) (state_of ns ms os r)

-- ---- the outputs' wires

-- the outputs of an area, with their wires
abbrev pub out_at : List ℕ → ℕ → Out
out_at a j = record { word = output_word a j; wire = get_or a (j * OUTPUT_WORDS + NAME_LEN) 0 }

abbrev pub outs_of : List ℕ → ℕ → List Out
outs_of a n = up_from (out_at a) 0 n

abbrev pub encode_out : Out → List ℕ
encode_out o = 1 ∷ o.word.start ∷ o.word.len ∷ 0 ∷ o.wire ∷ []

-- record j of an area with the wire that was found
abbrev pub put_wire : List ℕ → ℕ → Option ℕ → List ℕ
put_wire a j (Some x) = stored a (j * OUTPUT_WORDS) (encode_out (record { word = output_word a j; wire = x }))
put_wire a j None = a

-- so many nodes and outputs of the areas
abbrev pub circuit_of : List ℕ → List ℕ → Sizes → Circuit
circuit_of ns os s = record { nodes = nodes_of ns s.nodes; outputs = outputs_of os s.outputs }

-- what the end of the reading leaves: the circuit of the areas, or the fault
pub record Ends (c : Try Circuit) (e : Try Sizes) (ns os : List ℕ) : Type 0 where
  pub is : outcome (circuit_of ns os) e ≡ c
  pub nodes_kept : IfOk e (λ s. NodesHold ns s.nodes)
  pub outputs_kept : IfOk e (λ s. OutputsHold os s.outputs)

-- the wires of the outputs are found, or the fault; whatever the nodes are
pub record Resolved (constants : Bool) (t : List ℕ) (es : List Entry) (ws : List Word) (fault : Checked) (os : List ℕ) (n : ℕ) : Type 0 where
  pub is : (ns : List BoolNode) → outcome (λ u. record { nodes = ns; outputs = outputs_of os n }) fault ≡ and_then (resolve constants t es ws) (closed ns)
  pub kept : OnOk fault (OutputsHold os n)
