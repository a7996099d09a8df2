-- Cells of two inputs chained left give the operation of all their bits, negated once, whatever their number.
-- Assumes nothing.
use Prim.Native.Nat.{ℕ, ◌+◌, ◌<◌}
use mathlib.Core.Path.{◌≡◌, refl, subst, sym, ap, ◌∙◌}
use mathlib.Core.List.{List, [], ◌∷◌}
use native.Mathlib.Omega.{arith}
use Rattle.laws.specs.Sums.{sum}
use Rattle.laws.proofs.Rows.{two_bits}
use Rattle.cells.specs.Cells.{index_from}
use Rattle.cells.proofs.Rule.{rule_known, entry-bit}
use Rattle.bench_gates.specs.declared.operations.Binary.{Binary}
use Rattle.bench_gates.specs.declared.operations.Binary.TheVariants.{And, Nand, Or, Nor, Xor, Xnor}
use Rattle.bench_gates.specs.Operations.{truth_table, associative}
use Rattle.bench_meaning.specs.Operations.{conjunction, disjunction, odd, parity, negation, binary_bit}
use Rattle.bench_meaning.specs.Chains.{step_value, last_value, chain_value}
use Rattle.bench_meaning.specs.GateMeaning.{Bits}

-- the last cell gives the operation of its two bits
abbrev LastIs : Binary → ℕ → ℕ → Type 0
LastIs o x y = last_value o x y ≡ binary_bit o (x ∷ y ∷ [])

last_is : (o : Binary) (x y : ℕ) → x < 2 → y < 2 → LastIs o x y
unfolding conjunction disjunction odd parity sum
last_is And = two_bits (LastIs And) refl refl refl refl
last_is Nand = two_bits (LastIs Nand) refl refl refl refl
last_is Or = two_bits (LastIs Or) refl refl refl refl
last_is Nor = two_bits (LastIs Nor) refl refl refl refl
last_is Xor = two_bits (LastIs Xor) refl refl refl refl
last_is Xnor = two_bits (LastIs Xnor) refl refl refl refl

-- a step's cell stands for its two bits among the others
abbrev StepIs : Binary → List ℕ → ℕ → ℕ → Type 0
StepIs o zs x y = binary_bit o (step_value o x y ∷ zs) ≡ binary_bit o (x ∷ y ∷ zs)

-- two ones more or less leave a number odd or even
two_more : (n : ℕ) → odd (0 + n) ≡ odd (1 + (1 + n))
unfolding odd
two_more n = omega arith

step_is : (o : Binary) (zs : List ℕ) (x y : ℕ) → x < 2 → y < 2 → StepIs o zs x y
unfolding conjunction disjunction parity sum
step_is And zs = two_bits (StepIs And zs) refl refl refl refl
step_is Nand zs = two_bits (StepIs Nand zs) refl refl refl refl
step_is Or zs = two_bits (StepIs Or zs) refl refl refl refl
step_is Nor zs = two_bits (StepIs Nor zs) refl refl refl refl
step_is Xor zs = two_bits (StepIs Xor zs) (ap odd (omega arith)) (ap odd (omega arith)) (ap odd (omega arith)) (two_more (sum zs))
step_is Xnor zs =
    two_bits (StepIs Xnor zs) (ap (λ n. negation (odd n)) (omega arith)) (ap (λ n. negation (odd n)) (omega arith)) (ap (λ n. negation (odd n)) (omega arith)) (ap negation (two_more (sum zs)))

step-bit : (o : Binary) (x y : ℕ) → x < 2 → y < 2 → step_value o x y < 2
step-bit o x y h k =
    subst (λ (v : ℕ). v < 2) (sym (rule_known (truth_table (associative o)) (x ∷ y ∷ []) (h, (k, tt)))) (entry-bit (truth_table (associative o)) (index_from 0 (x ∷ y ∷ [])))

-- for every number of bits from two on
pub chain_bits : (o : Binary) (x y : ℕ) (zs : List ℕ) → Bits (x ∷ y ∷ zs) → chain_value o x (y ∷ zs) ≡ binary_bit o (x ∷ y ∷ zs)
unfolding chain_value
chain_bits o x y [] h = last_is o x y h.0 h.1.0
chain_bits o x y (z ∷ zs) h = chain_bits o (step_value o x y) z zs (step-bit o x y h.0 h.1.0, h.1.1) ∙ step_is o (z ∷ zs) x y h.0 h.1.0
