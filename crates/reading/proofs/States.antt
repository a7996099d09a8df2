-- What it tells that a step of a reader was accepted: of a state with a part of it replaced, and of a name that must be new.
-- Assumes nothing.
use Rattle.std.specs.Prelude.{Err, None, Ok, Option, Some}
use Prim.Native.Nat.{ℕ}
use mathlib.Core.Path.{◌≡◌, refl, sym, ap}
use mathlib.Core.List.{List}
use Rattle.circuit.specs.Refusals.{Try}
use Rattle.circuit.proofs.Tries.{no_yes, yes_same}
use Rattle.text.specs.declared.words.Word.{Word}
use Rattle.reading.specs.Reading.{Held, State, unless_defined}
use Rattle.reading.specs.States.{with_held, with_outputs}

pub held_yes : (os : List Word) (r : Try Held) (s : State) → with_held os r ≡ Ok s → (r ≡ Ok s.held) × (s.outputs ≡ os)
held_yes os (Err e) s q = absurd (no_yes q)
held_yes os (Ok h) s q = let e = yes_same q in (ap (λ (x : State). Ok x.held) e, sym (ap (λ (x : State). x.outputs) e))

pub outputs-yes : (h : Held) (r : Try (List Word)) (s : State) → with_outputs h r ≡ Ok s → (r ≡ Ok s.outputs) × (s.held ≡ h)
outputs-yes h (Err e) s q = absurd (no_yes q)
outputs-yes h (Ok os) s q = let e = yes_same q in (ap (λ (x : State). Ok x.outputs) e, sym (ap (λ (x : State). x.held) e))

pub undefined_yes : {A : Type 0} (f : Option ℕ) (k : Try A) (a : A) → unless_defined f k ≡ Ok a → (f ≡ None) × (k ≡ Ok a)
undefined_yes (Some x) k a q = absurd (no_yes q)
undefined_yes None k a q = (refl, q)
