-- What the operations of BENCH give on the bits of their inputs, all at once: no chain, no table. A bit is 0 or 1.
-- Assumes nothing.
use Rattle.std.specs.Prelude.{ℕ, ◌-◌, ◌%◌, cond, List, [], ◌∷◌, eqb}
use Rattle.laws.specs.Lists.{some}
use Rattle.laws.specs.Sums.{sum}
use Rattle.bench_gates.specs.declared.operations.Operation.{Operation}
use Rattle.bench_gates.specs.declared.operations.Operation.TheVariants.{Buf, Not, Chain, Other}
use Rattle.bench_gates.specs.declared.operations.Binary.{Binary}
use Rattle.bench_gates.specs.declared.operations.Binary.TheVariants.{And, Nand, Or, Nor, Xor, Xnor}

-- "AND .. two or more": 1 unless some bit is 0
unfoldable pub conjunction : List ℕ → ℕ
conjunction bits = cond (some (eqb 0) bits) 0 1

-- "OR .. two or more": 1 if some bit is 1
unfoldable pub disjunction : List ℕ → ℕ
disjunction bits = cond (some (eqb 1) bits) 1 0

-- 1 if a number is odd, else 0
unfoldable pub odd : ℕ → ℕ
odd n = n % 2

-- "XOR .. two or more": 1 if an odd number of bits is 1
unfoldable pub parity : List ℕ → ℕ
parity bits = odd (sum bits)

-- "NOT", and what the N of NAND, NOR and XNOR says
abbrev pub negation : ℕ → ℕ
negation b = 1 - b

-- "AND, NAND, OR, NOR, XOR, XNOR: two or more .. step k (from 1) before the last .. isn't negated": the operation of all bits, negated once
abbrev pub binary_bit : Binary → List ℕ → ℕ
binary_bit And bits = conjunction bits
binary_bit Nand bits = negation (conjunction bits)
binary_bit Or bits = disjunction bits
binary_bit Nor bits = negation (disjunction bits)
binary_bit Xor bits = parity bits
binary_bit Xnor bits = negation (parity bits)

-- the bit of a list of one
abbrev pub one_bit : List ℕ → ℕ
one_bit [] = 0
one_bit (b ∷ bits) = b

-- "BUFF, BUF: one input, alias. NOT, INV: one input, cell."; of another operation there is no gate
abbrev pub operation_bit : Operation → List ℕ → ℕ
operation_bit Buf bits = one_bit bits
operation_bit Not bits = negation (one_bit bits)
operation_bit (Chain o) bits = binary_bit o bits
operation_bit Other bits = 0
