-- What the exits of `?` return.
-- Assumes nothing.
use Rattle.std.specs.Prelude.{Err, None, Option, Result, Some}
use Rattle.std.specs.Option.{ok_or}
use mathlib.Core.Path.{◌≡◌}
use Rattle.circuit.specs.declared.refusals.Refusal.{Refusal}

-- an `ok_or` that refuses does so with the refusal that it was given
pub refusal_given : {A : Type 0} (x : Option A) (e f : Refusal) → ◌≡◌ {A = Result A Refusal} (Err e) (ok_or x f) → e ≡ f
refusal_given None e f h = cc
refusal_given (Some a) e f h = cc
