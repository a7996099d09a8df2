-- The call `evaluate`: its first refusal, and one definition of its answer and of what every lent area holds after it. What the run's call shares with it.
-- Assumes nothing.
use Rattle.std.specs.Prelude.{List, ◌++◌, ◌||◌, ℕ, ◌-◌, ◌/◌, ltb, length, replicate, Err, Ok}
use Rattle.circuit.specs.declared.records.TheConstants.{NODE_WORDS, OUTPUT_WORDS}
use Rattle.circuit.specs.declared.refusals.Refusal.TheVariants.{NoRoom, WrongValues}
use Rattle.circuit.specs.Refusals.{number_of, Try, Checked, refuse_if, first_fault}
use Rattle.circuit.specs.Check.{nodes_in, wires_in, topological_fault}
use Rattle.values.specs.Values.{evaluated}
use Rattle.values.specs.Assignments.{wrong_assignment}

-- ---- the first refusal

-- `WrongValues`: the assignment has not one value for each input, or a value above the top.
unfoldable pub assignment_fault : ℕ → List ℕ → List ℕ → Checked
assignment_fault top nodes assignment = refuse_if (wrong_assignment top (nodes_in nodes) assignment) WrongValues

-- What both calls begin with: `Broken`, `NotEarlier`, `WrongValues`.
abbrev pub assigned_fault : ℕ → List ℕ → List ℕ → List ℕ → Checked
assigned_fault top nodes outputs assignment =
    first_fault (topological_fault nodes outputs) (assignment_fault top nodes assignment)

-- `NoRoom`, by the lengths of two areas: the value store is shorter than the nodes, or the output area than the outputs.
unfoldable pub room_fault : List ℕ → List ℕ → ℕ → ℕ → Checked
room_fault nodes outputs store answers =
    refuse_if (ltb store (length nodes / NODE_WORDS) || ltb answers (length outputs / OUTPUT_WORDS)) NoRoom

-- `Broken`, `NotEarlier`, `WrongValues`, `NoRoom`.
unfoldable pub evaluate_fault : List ℕ → List ℕ → List ℕ → ℕ → ℕ → Checked
evaluate_fault nodes outputs assignment store answers =
    first_fault (topological_fault nodes outputs)
    (first_fault (assignment_fault 1 nodes assignment) (room_fault nodes outputs store answers))

-- ---- what a call leaves

-- The refusal's number, 0 where the call is accepted; the count that it returns; the value store; the output area.
pub record CallResult : Type 0 where
  pub number : ℕ
  pub count : ℕ
  pub store : List ℕ
  pub outputs : List ℕ

-- The value store is zeros after any call, and the output area holds the outputs and zeros after them, or zeros alone after a refusal.
unfoldable pub after_call : Checked → ℕ → List ℕ → ℕ → ℕ → CallResult
after_call (Ok u) count outputs store answers =
    record { number = 0; count = count; store = replicate store 0; outputs = outputs ++ replicate (answers - length outputs) 0 }
after_call (Err e) count outputs store answers =
    record { number = number_of e; count = 0; store = replicate store 0; outputs = replicate answers 0 }

-- `evaluate` returns the number of outputs.
unfoldable pub evaluate_call : List ℕ → List ℕ → List ℕ → List ℕ → List ℕ → CallResult
evaluate_call nodes outputs assignment store answers =
    after_call (evaluate_fault nodes outputs assignment (length store) (length answers)) (length outputs / OUTPUT_WORDS)
    (evaluated (nodes_in nodes) (wires_in outputs) assignment) (length store) (length answers)

-- The number and the count of each case of an answer, with what the areas then hold.
abbrev pub call_result : Try ℕ → List ℕ → List ℕ → CallResult
call_result (Ok n) store outputs = record { number = 0; count = n; store = store; outputs = outputs }
call_result (Err e) store outputs = record { number = number_of e; count = 0; store = store; outputs = outputs }
