-- Numbered assignments, and the call that gives one: its first refusal, and one definition of its answer and of what the lent area holds after it.
-- Assumes nothing.
use Rattle.std.specs.Prelude.{List, [], ◌∷◌, ◌++◌, not, ℕ, zero, suc, ◌-◌, ◌^◌, ltb, length, replicate, Err, Ok}
use Rattle.circuit.specs.declared.refusals.Refusal.TheVariants.{NoRoom, WrongValues, TooManyInputs}
use Rattle.circuit.specs.Refusals.{number_of, Try, Checked, refuse_if, first_fault}
use Rattle.circuit.specs.Check.{nodes_in, records_fault}
use Rattle.cells.specs.Cells.{entry}
use Rattle.values.specs.Assignments.{input_count}
use Rattle.numbered.specs.declared.TheConstants.{MOST_NUMBERED}

-- Assignment number a of n inputs: input p has bit n - p - 1 of a.
unfoldable pub numbered : ℕ → ℕ → List ℕ
numbered zero a = []
numbered (suc n) a = entry a n ∷ numbered n a

-- Of n inputs, number a, and an area for so many values: `TooManyInputs`, `WrongValues` for a number that is not below 2 ^ n, `NoRoom`.
unfoldable pub number_fault : ℕ → ℕ → ℕ → Checked
number_fault n a size =
    first_fault (refuse_if (ltb MOST_NUMBERED n) TooManyInputs)
    (first_fault (refuse_if (not (ltb a (2 ^ n))) WrongValues) (refuse_if (ltb size n) NoRoom))

-- `Broken`, then these.
unfoldable pub exhaustive_fault : List ℕ → List ℕ → ℕ → ℕ → Checked
exhaustive_fault nodes outputs a size =
    first_fault (records_fault nodes outputs) (number_fault (input_count (nodes_in nodes)) a size)

-- The refusal's number, 0 where the call is accepted; the number of inputs; the area.
pub record Assigned : Type 0 where
  pub number : ℕ
  pub count : ℕ
  pub assignment : List ℕ

-- The area holds the values and zeros after them, or zeros alone after a refusal.
unfoldable pub after_numbering : Checked → ℕ → ℕ → ℕ → Assigned
after_numbering (Ok u) n a size = record { number = 0; count = n; assignment = numbered n a ++ replicate (size - n) 0 }
after_numbering (Err e) n a size = record { number = number_of e; count = 0; assignment = replicate size 0 }

-- One numbered assignment for a call.
unfoldable pub exhaustive_call : List ℕ → List ℕ → ℕ → List ℕ → Assigned
exhaustive_call nodes outputs a assignment =
    after_numbering (exhaustive_fault nodes outputs a (length assignment)) (input_count (nodes_in nodes)) a (length assignment)

-- The number and the count of each case of an answer, with what the area then holds.
abbrev pub numbered_result : Try ℕ → List ℕ → Assigned
numbered_result (Ok n) assignment = record { number = 0; count = n; assignment = assignment }
numbered_result (Err e) assignment = record { number = number_of e; count = 0; assignment = assignment }
