-- The listing of a circuit: its lines as bytes.
-- Assumes nothing.
use Rattle.std.specs.Prelude.{ℕ, zero, suc, cond, List, [], ◌∷◌, ◌++◌, length}
use Prim.Native.Char.{code}
use Rattle.laws.specs.Stretches.{stretch}
use Rattle.circuit.specs.declared.records.BoolWire.{BoolWire}
use Rattle.circuit.specs.declared.records.BoolWire.TheVariants.{Const, Node}
use Rattle.circuit.specs.declared.records.Name.{Name}
use Rattle.circuit.specs.declared.records.Name.TheVariants.{Stretch, Step, Number}
use Rattle.circuit.specs.declared.records.BoolNode.{BoolNode}
use Rattle.circuit.specs.declared.records.Output.{Output}
use Rattle.circuit.specs.Records.{is_cell_node, wires_of}
use Rattle.listing.specs.Ascii.{ascii}
use Rattle.listing.specs.Decimal.{decimal}

-- "Each line ends in byte 10"
abbrev pub line_end : List ℕ
line_end = ascii "\n"

-- a space before the next word of a line
abbrev pub word : List ℕ → List ℕ
word l = ascii " " ++ l

-- "wires (`n` with a node number; `c0`, `c1` constants)"
abbrev pub wire_bytes : BoolWire → List ℕ
wire_bytes (Const b) = cond b (ascii "c1") (ascii "c0")
wire_bytes (Node n) = ascii "n" ++ decimal n.0

-- each of a list as a word
unfoldable pub words : {A : Type 0} → (A → List ℕ) → List A → List ℕ
words f [] = []
words f (x ∷ xs) = word (f x) ++ words f xs

-- "A node's name is a stretch of the joined text, that stretch with a chain step, or a Bristol wire number",
-- "named `out$bench$k`"; before a wire number stand the bytes given
abbrev pub name_bytes : List ℕ → List ℕ → Name → List ℕ
name_bytes t before (Stretch s l) = stretch t s l
name_bytes t before (Step s l k) = stretch t s l ++ (ascii "$bench$" ++ decimal k)
name_bytes t before (Number w) = before ++ decimal w.0

-- a node's letter, number and name
unfoldable pub node_head : List ℕ → ℕ → List ℕ → ℕ → Name → List ℕ
node_head t letter before i name = letter ∷ (word (decimal i) ++ word (name_bytes t before name))

-- "I: number, name"; "named by the letter i, an underscore and its wire number"
unfoldable pub input_line : List ℕ → ℕ → BoolNode → List ℕ
input_line t i n = node_head t (code "I") (ascii "i_") i n.name ++ line_end

-- "L: number, name, table, wires"; "named by the letter w, an underscore and the wire number"
unfoldable pub cell_line : List ℕ → ℕ → BoolNode → List ℕ
cell_line t i n = node_head t (code "L") (ascii "w_") i n.name ++ (word (decimal n.table) ++ (words wire_bytes (wires_of n) ++ line_end))

unfoldable pub node_line : List ℕ → ℕ → BoolNode → List ℕ
node_line t i n = cond (is_cell_node n) (cell_line t i n) (input_line t i n)

-- the lines of nodes i, i + 1, ..
unfoldable pub node_lines : List ℕ → ℕ → List BoolNode → List (List ℕ)
node_lines t i [] = []
node_lines t i (n ∷ ns) = node_line t i n ∷ node_lines t (suc i) ns

-- "O: name, wire"; "an output's name is its wire number"
unfoldable pub output_line : List ℕ → Output → List ℕ
output_line t o = (ascii "O" ++ word (name_bytes t [] o.name)) ++ (word (wire_bytes o.wire) ++ line_end)

unfoldable pub output_lines : List ℕ → List Output → List (List ℕ)
output_lines t [] = []
output_lines t (o ∷ os) = output_line t o ∷ output_lines t os

-- "The first gives the node count": `nodes` and it
unfoldable pub count_line : ℕ → List ℕ
count_line n = ascii "nodes" ++ (word (decimal n) ++ line_end)

-- "S: order ..; `S` alone if there are no cells"
unfoldable pub order_line : List ℕ → List ℕ
order_line order = ascii "S" ++ (words decimal order ++ line_end)

-- "print `refused N` or the circuit"
unfoldable pub refused_line : ℕ → List ℕ
refused_line n = ascii "refused" ++ (word (decimal n) ++ line_end)

-- the lines of a circuit, whose names are in the joined text, and of its order
unfoldable pub listing : List ℕ → List BoolNode → List Output → List ℕ → List (List ℕ)
listing t ns os order = count_line (length ns) ∷ (node_lines t 0 ns ++ (output_lines t os ++ (order_line order ∷ [])))

-- "key (0, 0, node number)": those of nodes k, k + 1, .., n of them
unfoldable pub keys_from : ℕ → ℕ → List ℕ
keys_from k zero = []
keys_from k (suc n) = 0 ∷ 0 ∷ k ∷ keys_from (suc k) n
