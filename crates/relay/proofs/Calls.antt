-- From a library's answer and areas, with the answer's number and counts, to what an exported call promises.
-- Assumes nothing.
use Rattle.std.specs.Prelude.{Ok, Err}
use Rattle.circuit.specs.declared.records.Sizes.{Sizes}
use Prim.Native.Nat.{ℕ}
use mathlib.Core.Path.{◌≡◌, refl, sym, ap, ◌∙◌}
use mathlib.Core.List.{List}
use Rattle.circuit.specs.Refusals.{Try, checked_number}
use Rattle.circuit.specs.Circuits.{Circuit}
use Rattle.reading.specs.Areas.{Leaves}
use Rattle.bristol.specs.Bristol as bristol
use Rattle.bristol.specs.Promises as bristolContracts
use Rattle.schedule.specs.Call as schedule
use Rattle.values.specs.Calls.{call_result}
use Rattle.numbered.specs.Numbered.{numbered_result}
use Rattle.relay.specs.Answers.{read_nodes, read_outputs, ReadGives, JoinedCall, BristolCall, count_of, CountGives, OrderCall, result_of, assigned}

gives_same : (a b : Try Sizes) (number n m : ℕ) → a ≡ b → ReadGives a number n m → ReadGives b number n m
gives_same a b number n m e g = record {
  number_is = g.number_is ∙ ap checked_number e;
  nodes_are = g.nodes_are ∙ ap read_nodes e;
  outputs_are = g.outputs_are ∙ ap read_outputs e;
}

pub joined_call : (means : List ℕ → ℕ → ℕ → ℕ → ℕ → Try Circuit) (text : List ℕ) (j n m o : ℕ) (read : Try Sizes) (number k l : ℕ) (joined nodes names outputs : List ℕ) → Leaves text (means text j n m o) j n m o read joined nodes names outputs → ReadGives read number k l → JoinedCall means text j n m o number k l joined nodes names outputs
joined_call means text j n m o read number k l joined nodes names outputs d g = record {
  gives = gives_same _ _ number k l d.answer g;
  leaves = record { answer = refl; joined_is = d.joined_is; nodes_is = d.nodes_is; names_is = d.names_is; outputs_is = d.outputs_is };
}

pub bristol_call : (left : bristol.Left) (read : Try Sizes) (number k l : ℕ) (nodes outputs wires : List ℕ) → bristolContracts.Leaves left read nodes outputs wires → ReadGives read number k l → BristolCall left number k l nodes outputs wires
bristol_call left read number k l nodes outputs wires d g = record {
  gives = gives_same _ _ number k l d.answer_is g;
  leaves = record { answer_is = refl; nodes_are = d.nodes_are; outputs_are = d.outputs_are; wires_are = d.wires_are };
}

pub order_call : (left : schedule.Left) (ordered : Try ℕ) (number cells : ℕ) (ready successors order : List ℕ) → schedule.leaves ordered ready successors order ≡ left → CountGives ordered number cells → OrderCall left number cells ready successors order
order_call left ordered number cells ready successors order e g =
    let answer : ordered ≡ left.answer = ap (λ (l : schedule.Left). l.answer) e in
    record {
      gives = record { number_is = g.number_is ∙ ap checked_number answer; count_is = g.count_is ∙ ap count_of answer };
      leaves = ap (λ (x : Try ℕ). schedule.leaves x ready successors order) (sym answer) ∙ e;
    }

-- what the code answers is what its number and count say
pub result_given : (counted : Try ℕ) (number count : ℕ) (values answers : List ℕ) → CountGives counted number count → result_of number count values answers ≡ call_result counted values answers
result_given (Ok n) number count values answers g = rw (g.number_is, g.count_is)
result_given (Err e) number count values answers g = rw (g.number_is, g.count_is)

pub assigned_given : (counted : Try ℕ) (number count : ℕ) (assignment : List ℕ) → CountGives counted number count → assigned number count assignment ≡ numbered_result counted assignment
assigned_given (Ok n) number count assignment g = rw (g.number_is, g.count_is)
assigned_given (Err e) number count assignment g = rw (g.number_is, g.count_is)
