-- The starred examples of 01 as one table: what the definitions give, and what 01 says.
-- Assumes nothing.
use Rattle.std.specs.Prelude.{ℕ, ◌+◌, ◌*◌, Bool, true, ◌&&◌, List, [], ◌∷◌, ◌++◌, map, length, take, replicate, Err, Ok}
use Prim.Native.String.{String}
use Rattle.laws.specs.Stretches.{same_bytes}
use Rattle.circuit.specs.declared.records.BoolNode.{BoolNode}
use Rattle.circuit.specs.declared.records.BoolWire.{BoolWire}
use Rattle.circuit.specs.declared.records.Output.{Output}
use Rattle.circuit.specs.Refusals.{Try, checked_number}
use Rattle.circuit.specs.Records.{wire_word}
use Rattle.circuit.specs.Circuits.{Circuit, node_words, output_words}
use Rattle.text.specs.Joining.{joined_text}
use Rattle.names.specs.declared.records.TheConstants.{NAME_WORDS}
use Rattle.blif.specs.Blif.{blif}
use Rattle.bench.specs.Bench.{bench}
use Rattle.bristol.specs.Bristol.{bristol_circuit}
use Rattle.schedule.specs.Call.{Left, ordered_cells, schedule_call}
use Rattle.values.specs.Values.{storage_outputs}
use Rattle.runs.specs.Calls.{run_call}
use Rattle.circuit.specs.declared.records.TheConstants.{NODE_WORDS, OUTPUT_WORDS}
use Rattle.listing.specs.declared.TheConstants.{LISTED, LISTED_TEXT}
use Rattle.listing.specs.Ascii.{ascii}
use Rattle.listing.specs.Listing.{keys_from, listing}

-- ---- what is looked at

-- the circuit of a text, "with places for 1,024 nodes, names, outputs and wires each"
abbrev pub from_blif : String → Try Circuit
from_blif s = blif (ascii s) (LISTED_TEXT + 1) (LISTED * NODE_WORDS) (LISTED * NAME_WORDS) (LISTED * OUTPUT_WORDS)

abbrev pub from_bench : String → Try Circuit
from_bench s = bench (ascii s) (LISTED_TEXT + 1) (LISTED * NODE_WORDS) (LISTED * NAME_WORDS) (LISTED * OUTPUT_WORDS)

abbrev pub from_bristol : String → Try Circuit
from_bristol s = bristol_circuit (ascii s) (LISTED * NODE_WORDS) (LISTED * OUTPUT_WORDS) LISTED

-- the circuit's parts; none where the text is refused
abbrev pub nodes_of : Try Circuit → List BoolNode
nodes_of (Err e) = []
nodes_of (Ok c) = c.nodes

abbrev pub outputs_of : Try Circuit → List Output
outputs_of (Err e) = []
outputs_of (Ok c) = c.outputs

abbrev pub wires_out : Try Circuit → List BoolWire
wires_out c = map (λ o. o.wire) (outputs_of c)

-- the tables of the nodes; an input has none, which is 0
abbrev pub tables : Try Circuit → List ℕ
tables c = map (λ n. n.table) (nodes_of c)

-- how many nodes there are, and the words of the outputs' wires: k + 2 is node k
abbrev pub shape : Try Circuit → List ℕ
shape c = length (nodes_of c) ∷ map wire_word (wires_out c)

-- the schedule with key (0, 0, node number)
abbrev pub scheduled : ℕ → Try Circuit → Left
scheduled window c = schedule_call (node_words c) (output_words c) window (keys_from 0 (length (nodes_of c))) (replicate 16 0) (replicate 12 0) (replicate 6 0)

abbrev pub order : Try Circuit → List ℕ
order c = take (ordered_cells (scheduled 2 c).answer) (scheduled 2 c).order

-- the one output of a run along that order, and that of the storage order
abbrev pub values : Try Circuit → List ℕ → List ℕ
values c assignment =
    (run_call (node_words c) (output_words c) (order c) assignment (replicate 6 7) (replicate 1 7)).outputs
    ++ storage_outputs (nodes_of c) (wires_out c) assignment

-- all lines of the listing
abbrev pub joined : List (List ℕ) → List ℕ
joined [] = []
joined (l ∷ ls) = l ++ joined ls

abbrev pub listed : String → Try Circuit → List ℕ
listed s c = joined (listing (joined_text (ascii s)) (nodes_of c) (outputs_of c) (order c))

-- ---- the table

pub record Row : Type 0 where
  pub given : List ℕ
  pub says : List ℕ

abbrev pub row : List ℕ → List ℕ → Row
row g s = record { given = g; says = s }

-- every row gives what 01 says
abbrev pub agree : List Row → Bool
agree [] = true
agree (r ∷ rs) = same_bytes r.given r.says && agree rs

-- "`.inputs a b`, `.outputs y`, `.names a b t`, `10 1`, `.names a u`, `0 1`, `.names t u y`, `11 1`, one line each"
unfoldable pub sample : String
sample = ".inputs a b\n.outputs y\n.names a b t\n10 1\n.names a u\n0 1\n.names t u y\n11 1\n"

unfoldable pub starred : List Row
unfolding sample
starred =
    -- "* that table 4"
    row (tables (from_blif sample)) (0 ∷ 0 ∷ 4 ∷ 1 ∷ 8 ∷ [])
    -- "* that order"
    ∷ row (order (from_blif sample)) (3 ∷ 2 ∷ 4 ∷ [])
    -- "`blif-list` prints"
    ∷ row (listed sample (from_blif sample)) (ascii "nodes 5\nI 0 a\nI 1 b\nL 2 t 4 n0 n1\nL 3 u 1 n0\nL 4 y 8 n2 n3\nO y n4\nS 3 2 4\n")
    -- "* a unknown, b 1: y 0"
    ∷ row (values (from_blif sample) (2 ∷ 1 ∷ [])) (0 ∷ 0 ∷ [])
    -- "* a unknown, b 0: y unknown"
    ∷ row (values (from_blif sample) (2 ∷ 0 ∷ [])) (2 ∷ 2 ∷ [])
    -- "* rows `1- 0` give 3"
    ∷ row (tables (from_blif ".inputs a b\n.outputs y\n.names a b y\n1- 0\n")) (0 ∷ 0 ∷ 3 ∷ [])
    -- "* `2- 1` gives 0"
    ∷ row (tables (from_blif ".inputs a b\n.outputs y\n.names a b y\n2- 1\n")) (0 ∷ 0 ∷ 0 ∷ [])
    -- "* `1 1` alias": the input is the only node, and the output's wire
    ∷ row (shape (from_blif ".inputs a\n.outputs y\n.names a y\n1 1\n")) (1 ∷ 2 ∷ [])
    -- "* NAND(a,b,c): 8 then 7"
    ∷ row (tables (from_bench "INPUT(a)\nINPUT(b)\nINPUT(c)\nOUTPUT(y)\ny = NAND(a,b,c)\n")) (0 ∷ 0 ∷ 0 ∷ 8 ∷ 7 ∷ [])
    -- "* XOR(a,a), a unknown: unknown"
    ∷ row (values (from_bench "INPUT(a)\nOUTPUT(y)\ny = XOR(a,a)\n") (2 ∷ [])) (2 ∷ 2 ∷ [])
    -- "* Bristol `0 1`, `1 1`, `0` accepted": one input and no outputs
    ∷ row (shape (from_bristol "0 1\n1 1\n0\n")) (1 ∷ [])
    -- "* window 0: 18"
    ∷ row (checked_number (scheduled 0 (from_blif sample)).answer ∷ []) (18 ∷ [])
    ∷ []
