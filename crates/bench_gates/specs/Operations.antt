-- The operations of BENCH and their tables.
-- Assumes nothing.
use Rattle.std.specs.Prelude.{ℕ, cond, List, [], ◌∷◌}
use Rattle.text.specs.Bytes.{is_named}
use Rattle.bench_gates.specs.declared.operations.Operation.{Operation}
use Rattle.bench_gates.specs.declared.operations.Operation.TheVariants.{Buf, Not, Chain, Other}
use Rattle.bench_gates.specs.declared.operations.Binary.{Binary}
use Rattle.bench_gates.specs.declared.operations.Binary.TheVariants.{And, Nand, Or, Nor, Xor, Xnor}

-- "AND, NAND, OR, NOR, XOR, XNOR: two or more", "other operation 8"
unfoldable pub binary_of : List ℕ → Operation
binary_of w =
    cond (is_named w (65 ∷ 78 ∷ 68 ∷ [])) (Chain And)
    (cond (is_named w (78 ∷ 65 ∷ 78 ∷ 68 ∷ [])) (Chain Nand)
    (cond (is_named w (79 ∷ 82 ∷ [])) (Chain Or)
    (cond (is_named w (78 ∷ 79 ∷ 82 ∷ [])) (Chain Nor)
    (cond (is_named w (88 ∷ 79 ∷ 82 ∷ [])) (Chain Xor)
    (cond (is_named w (88 ∷ 78 ∷ 79 ∷ 82 ∷ [])) (Chain Xnor) Other)))))

-- "letters of the operation in any case", "BUFF, BUF: one input, alias. NOT, INV: one input, cell."
unfoldable pub operation_of : List ℕ → Operation
operation_of w =
    cond (is_named w (66 ∷ 85 ∷ 70 ∷ 70 ∷ [])) Buf
    (cond (is_named w (66 ∷ 85 ∷ 70 ∷ [])) Buf
    (cond (is_named w (78 ∷ 79 ∷ 84 ∷ [])) Not
    (cond (is_named w (73 ∷ 78 ∷ 86 ∷ [])) Not (binary_of w))))

-- "AND 8, NAND 7, OR 14, NOR 1, XOR 6, XNOR 9"
abbrev pub truth_table : Binary → ℕ
truth_table And = 8
truth_table Nand = 7
truth_table Or = 14
truth_table Nor = 1
truth_table Xor = 6
truth_table Xnor = 9

-- "step k (from 1) before the last .. isn't negated": the operation of those steps
abbrev pub associative : Binary → Binary
associative And = And
associative Nand = And
associative Or = Or
associative Nor = Or
associative Xor = Xor
associative Xnor = Xor
