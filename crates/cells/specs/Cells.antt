-- Tables packed in a number, and the cell rule. A value is 0, 1 or 2, the unknown; any greater number counts as unknown.
-- Assumes nothing.
use Rattle.std.specs.Prelude.{List, [], ◌∷◌, ◌++◌, map, Bool, cond, ℕ, zero, suc, ◌+◌, ◌*◌, ◌/◌, ◌%◌, T, eqb}
use Rattle.laws.specs.Bits.{bit, set_bit}
use Rattle.laws.specs.Table.{every}
use Rattle.cells.specs.declared.pairs.TheConstants.{VALUES, PAIRS}

-- Entry j of a table, 0 or 1: bit j of the number, bit 0 the lowest.
abbrev pub entry : ℕ → ℕ → ℕ
entry table j = bit table j

-- The table with entry j set to a bit.
abbrev pub set_entry : ℕ → ℕ → ℕ → ℕ
set_entry table j b = set_bit table j b

-- The index that known values pick, the first the most significant bit; k is what the values before gave.
unfoldable pub index_from : ℕ → List ℕ → ℕ
index_from k [] = k
index_from k (v ∷ vs) = index_from (2 * k + v) vs

-- The indices that the fillings of the unknown values pick; k is what the values before gave.
abbrev pub fillings : ℕ → List ℕ → List ℕ
fillings k [] = k ∷ []
fillings k (zero ∷ vs) = fillings (2 * k) vs
fillings k (suc zero ∷ vs) = fillings (2 * k + 1) vs
fillings k (suc (suc u) ∷ vs) = fillings (2 * k) vs ++ fillings (2 * k + 1) vs

-- What the bits agree on: b where each of them is b, else 2.
abbrev pub agreed : List ℕ → ℕ
agreed [] = 2
agreed (b ∷ []) = b
agreed (b ∷ c ∷ bs) = cond (eqb b (agreed (c ∷ bs))) b 2

-- The answer of a cell: the entry that every filling of its unknown values picks, else 2. Each value is filled on its own, also where one wire is read twice.
abbrev pub cell_rule : ℕ → List ℕ → ℕ
cell_rule table vs = agreed (map (entry table) (fillings 0 vs))

-- The answers for two inputs stand at PAIRS * table + VALUES * first + second: whether the one at place k is the rule's.
unfoldable pub right_answer : ℕ → ℕ → Bool
right_answer k answer = eqb answer (cell_rule (k / PAIRS) (k % PAIRS / VALUES ∷ k % VALUES ∷ []))

-- Each of the answers passes the test.
abbrev pub AnswersRight : List ℕ → Type 0
AnswersRight answers = T (every right_answer 0 answers)
