-- The laws of numbered assignments.
-- Assumes nothing.
use Rattle.std.specs.Prelude.{Err, Ok}
use mathlib.Core.Path.{◌≡◌, refl, sym, ap, ◌∙◌}
use mathlib.Core.List.{List, ◌++◌}
use mathlib.Core.Bool.{Bool, true, false, not}
use Prim.Native.Nat.{ℕ, zero, suc, ◌-◌, ◌*◌, ◌/◌, ◌^◌, ◌<◌, ◌≤◌}
use native.Mathlib.Nat.{mod-lt, div-add-mod', div-eq_of_lt}
use native.Mathlib.Omega.{arith}
use lib.Dec.{ltb}
use lib.Pow.{pow_pos}
use borrow.Author.Tests.{ltb-true, ltb-false, lt-ltb, le-ltb}
use lib.ListN.{length, get_or, replicate}
use Rattle.circuit.specs.declared.refusals.Refusal.{Refusal}
use Rattle.circuit.specs.declared.refusals.Refusal.TheVariants.{NoRoom, WrongValues, TooManyInputs}
use Rattle.circuit.specs.Refusals.{number_of, Checked, refuse_if}
use Rattle.circuit.specs.Check.{nodes_in, records_fault}
use Rattle.circuit.proofs.Checks.{no_fault, not_refused}
use Rattle.cells.specs.Cells.{entry}
use Rattle.values.specs.Assignments.{input_count}
use Rattle.numbered.specs.Numbered.{numbered, number_fault, exhaustive_fault, after_numbering, exhaustive_call, numbered_result}

-- ---- the number

low : (a n : ℕ) → a / 2 ^ n ≡ 0 → a < 2 ^ n
low a n e =
    let z : a / 2 ^ n * 2 ^ n ≡ 0 * 2 ^ n = ap (λ (q : ℕ). q * 2 ^ n) e in
    omega (arith, div-add-mod' a (2 ^ n), mod-lt a (pow_pos n), z)

high : (a n : ℕ) → (a / 2 ^ n ≡ 0 → ⊥) → 2 ^ n ≤ a
high a n h = go (ltb a (2 ^ n)) refl
  where
    go : (t : Bool) → ltb a (2 ^ n) ≡ t → 2 ^ n ≤ a
    go true e = absurd (h (div-eq_of_lt (ltb-true a (2 ^ n) e)))
    go false e = ltb-false a (2 ^ n) e

module _ (n a size : ℕ) where
  pub too_many : 20 < n → Err TooManyInputs ≡ number_fault n a size
  unfolding number_fault
  too_many h = rw (lt-ltb 20 n h)

  module _ (h : n ≤ 20) where
    pub too_large : (a / 2 ^ n ≡ 0 → ⊥) → Err WrongValues ≡ number_fault n a size
    unfolding number_fault
    too_large l = rw (le-ltb 20 n h, le-ltb a (2 ^ n) (high a n l))

    module _ (l : a / 2 ^ n ≡ 0) where
      pub too_short : size < n → Err NoRoom ≡ number_fault n a size
      unfolding number_fault
      too_short s = rw (le-ltb 20 n h, lt-ltb a (2 ^ n) (low a n l), lt-ltb size n s)

      pub number_fine : n ≤ size → (Ok tt) ≡ number_fault n a size
      unfolding number_fault
      number_fine s = rw (le-ltb 20 n h, lt-ltb a (2 ^ n) (low a n l), le-ltb size n s)

  pub number_fits : number_fault n a size ≡ Ok tt → (n ≤ 20) × (n ≤ size)
  unfolding number_fault
  number_fits e =
      let p = no_fault (refuse_if (ltb 20 n) TooManyInputs) _ e in
      let q = no_fault (refuse_if (not (ltb a (2 ^ n))) WrongValues) _ p.1 in
      (ltb-false 20 n (not_refused (ltb 20 n) TooManyInputs p.0), ltb-false size n (not_refused (ltb size n) NoRoom q.1))

pub length-numbered : (n a : ℕ) → length (numbered n a) ≡ n
unfolding numbered
length-numbered zero a = refl
length-numbered (suc n) a = ap suc (length-numbered n a)

pub numbered_at : (n a p : ℕ) → p < n → get_or (numbered n a) p 0 ≡ entry a (n - p - 1)
unfolding numbered
numbered_at zero a p h = absurd (omega arith)
numbered_at (suc n) a zero h = let e : n ≡ suc n - 0 - 1 = omega arith in ap (entry a) e
numbered_at (suc n) a (suc p) h = let e : n - p - 1 ≡ suc n - suc p - 1 = omega arith in numbered_at n a p (omega arith) ∙ ap (entry a) e

-- ---- the first refusal

module _ (nodes outputs : List ℕ) (a size : ℕ) where
  pub exhaustive_broken : (r : Refusal) → records_fault nodes outputs ≡ Err r → exhaustive_fault nodes outputs a size ≡ Err r
  unfolding exhaustive_fault
  exhaustive_broken r e = rw e

  exhaustive_sound : records_fault nodes outputs ≡ Ok tt → number_fault (input_count (nodes_in nodes)) a size ≡ exhaustive_fault nodes outputs a size
  unfolding exhaustive_fault
  exhaustive_sound e = rw e

  -- for n inputs, and an area of its size once it is zeros
  pub exhaustive_counted : records_fault nodes outputs ≡ Ok tt → (n : ℕ) → n ≡ input_count (nodes_in nodes) → (m : ℕ) → m ≡ size → (r : Checked) → number_fault n a m ≡ r → exhaustive_fault nodes outputs a size ≡ r
  exhaustive_counted e n p m q r f = sym (exhaustive_sound e) ∙ ap (λ (k : ℕ). number_fault k a size) (sym p) ∙ ap (λ (k : ℕ). number_fault n a k) (sym q) ∙ f

-- ---- what the call leaves

module _ (nodes outputs : List ℕ) (a : ℕ) (old : List ℕ) where
  pub assigned_call : exhaustive_fault nodes outputs a (length old) ≡ Ok tt → (m : ℕ) (l : List ℕ) → m ≡ input_count (nodes_in nodes) → l ≡ numbered m a ++ replicate (length old - m) 0
      → numbered_result (Ok m) l ≡ exhaustive_call nodes outputs a old
  unfolding exhaustive_call after_numbering
  assigned_call e m l p q =
      let n = input_count (nodes_in nodes) in
      let r : l ≡ numbered n a ++ replicate (length old - n) 0 = q ∙ ap (λ (k : ℕ). numbered k a ++ replicate (length old - k) 0) p in
      rw e (λ i. record { number = 0; count = p i; assignment = r i })

  pub unassigned_call : (x : Refusal) → exhaustive_fault nodes outputs a (length old) ≡ Err x → (l : List ℕ) → l ≡ replicate (length old) 0 → numbered_result (Err x) l ≡ exhaustive_call nodes outputs a old
  unfolding exhaustive_call after_numbering
  unassigned_call x e l q = rw e (λ i. record { number = number_of x; count = 0; assignment = q i })
