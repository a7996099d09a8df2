-- Words as numbers, or the refusal.
-- Assumes nothing.
use Rattle.std.specs.Prelude.{ℕ, List, Err, Ok}
use Rattle.std.proofs.Math.Option.{Option, none, some}
use Rattle.circuit.specs.declared.refusals.Refusal.{Refusal}
use Rattle.circuit.specs.declared.refusals.Refusal.TheVariants.{NotNumber}
use Rattle.circuit.specs.Refusals.{Try}
use Rattle.text.specs.Numbers.{parse_usize, parse_each}

abbrev pub or_refuse : {A : Type 0} → Refusal → Option A → Try A
or_refuse e none = Err e
or_refuse e (some a) = Ok a

-- "not an unsigned 64-bit number": 12
unfoldable pub number : List ℕ → Try ℕ
number w = or_refuse NotNumber (parse_usize w)

unfoldable pub each_number : List (List ℕ) → Try (List ℕ)
each_number ws = or_refuse NotNumber (parse_each ws)
