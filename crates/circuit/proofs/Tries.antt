-- What an accepting answer of a definition tells.
-- Assumes nothing.
use Rattle.std.specs.Prelude.{Err, Ok}
use mathlib.Core.Path.{◌≡◌, refl}
use mathlib.Core.Bool.{Bool, true, false}
use Prim.Native.Nat.{ℕ}
use native.Mathlib.Omega.{arith}
use Rattle.circuit.specs.declared.refusals.Refusal.{Refusal}
use Rattle.circuit.specs.Refusals.{Checked}
use Rattle.circuit.specs.Refusals.{Try, and_then, need, check_then}

pub no_yes : {A : Type 0} {e : Refusal} {a : A} → ◌≡◌ {A = Try A} (Err e) (Ok a) → ⊥
no_yes q = let z : ◌≡◌ {A = ℕ} 0 1 = cc in omega arith

pub yes_same : {A : Type 0} {a b : A} → ◌≡◌ {A = Try A} (Ok a) (Ok b) → a ≡ b
yes_same q = cc

pub then_yes : {A B : Type 0} (x : Try A) (f : A → Try B) (b : B) → and_then x f ≡ Ok b → (a : A) × (x ≡ Ok a) × (f a ≡ Ok b)
then_yes (Err e) f b q = absurd (no_yes q)
then_yes (Ok a) f b q = (a, refl, q)

pub need-yes : {A : Type 0} (t : Bool) (e : Refusal) (k : Try A) (a : A) → need t e k ≡ Ok a → (t ≡ true) × (k ≡ Ok a)
need-yes true e k a q = (refl, q)
need-yes false e k a q = absurd (no_yes q)

pub check_yes : {A : Type 0} (c : Checked) (k : Try A) (a : A) → check_then c k ≡ Ok a → (c ≡ Ok tt) × (k ≡ Ok a)
check_yes (Ok u) k a q = (refl, q)
check_yes (Err e) k a q = absurd (no_yes q)
