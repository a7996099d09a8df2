-- The rules of a record.
-- Assumes nothing.
use Rattle.std.proofs.Common.{ℕ, ◌*◌, ◌/◌, ◌%◌, ◌^◌, ◌<◌, ◌≤◌, ◌≡◌, Bool, true, false, refl, ap, ◌∙◌, arith}
use lib.Dec.{eqb, leb}
use lib.Pow.{pow_mono, pow_pos}
use borrow.Author.Tests.{leb-true, leb-false, ne_eqb, le-leb, lt-leb}
use Rattle.std.proofs.Math.Nat.{div-eq_of_lt, mod-lt, div-add-mod', mod-eq_of_lt}
use mathlib.Core.Bool.{not}
use Rattle.circuit.specs.declared.records.BoolNode.{BoolNode}
use Rattle.circuit.specs.declared.records.TheConstants.{WIRES, INPUT, CELL}
use Rattle.circuit.specs.Check.{cell_broken, record_broken}

-- so few wires that the shift by their entries is below 64
pub few_entries : (n : ℕ) → n ≤ WIRES → 2 ^ n < 64
few_entries n h = let p : 2 ^ n ≤ 2 ^ WIRES = pow_mono {i = n} {j = WIRES} h in omega arith

pub shift_is : (n : ℕ) → n ≤ WIRES → 1 * 2 ^ n % 18446744073709551616 ≡ 2 ^ n
shift_is n h = let p = few_entries n h in let q : 1 * 2 ^ n < 18446744073709551616 = omega arith in mod-eq_of_lt q ∙ omega arith

nothing_above : (t m : ℕ) → 2 ^ m ≤ t → t / 2 ^ m ≡ 0 → ⊥
nothing_above t m l e =
    let z : t / 2 ^ m * 2 ^ m ≡ 0 * 2 ^ m = ap (λ (q : ℕ). q * 2 ^ m) e in
    omega (arith, div-add-mod' t (2 ^ m), mod-lt t (pow_pos m), z)

-- bits at or above place m
pub above : (t m : ℕ) → not (eqb (t / 2 ^ m) 0) ≡ leb (2 ^ m) t
above t m = go (leb (2 ^ m) t) refl
  where
    go : (b : Bool) → leb (2 ^ m) t ≡ b → not (eqb (t / 2 ^ m) 0) ≡ leb (2 ^ m) t
    go true e =
        let l : 2 ^ m ≤ t = leb-true (2 ^ m) t e in
        rw (ne_eqb (t / 2 ^ m) 0 (λ z. nothing_above t m l z), e)
    go false e =
        let l : t < 2 ^ m = leb-false (2 ^ m) t e in
        rw (div-eq_of_lt l, e)

-- the test by a shift
pub above_entries : (t n : ℕ) → n ≤ WIRES → not (eqb (t / 2 ^ (1 * 2 ^ n % 18446744073709551616)) 0) ≡ leb (2 ^ 2 ^ n) t
above_entries t n h = rw (shift_is n h) (above t (2 ^ n))

module _ (n : BoolNode) where
  pub input_sound : n.kind ≡ INPUT → false ≡ record_broken n
  unfolding record_broken
  input_sound e = rw e

  pub wrong_kind : (n.kind ≡ INPUT → ⊥) → (n.kind ≡ CELL → ⊥) → true ≡ record_broken n
  unfolding record_broken
  wrong_kind p q = rw (ne_eqb n.kind INPUT p, ne_eqb n.kind CELL q)

  pub too_few : n.kind ≡ CELL → n.count < 1 → true ≡ record_broken n
  unfolding record_broken cell_broken
  too_few e h = rw (e, lt-leb 1 n.count h)

  pub too_many : n.kind ≡ CELL → WIRES < n.count → true ≡ record_broken n
  unfolding record_broken cell_broken
  too_many e h = let l : 1 ≤ n.count = omega arith in rw (e, le-leb 1 n.count l, lt-leb n.count WIRES h)

  pub by_table : n.kind ≡ CELL → 1 ≤ n.count → n.count ≤ WIRES → (t : Bool) → t ≡ leb (2 ^ 2 ^ n.count) n.table → t ≡ record_broken n
  unfolding record_broken cell_broken
  by_table e l h t p = rw (e, le-leb 1 n.count l, le-leb n.count WIRES h, p)
