-- What the exported calls give: the number and counts of each answer, and the areas of the libraries' definitions.
-- Assumes nothing.
use Rattle.std.specs.Prelude.{ℕ, ◌≡◌, List, Ok, Err}
use Rattle.circuit.specs.declared.records.Sizes.{Sizes}
use Rattle.circuit.specs.Refusals.{Try, checked_number}
use Rattle.circuit.specs.Circuits.{Circuit, read_answer}
use Rattle.reading.specs.Areas.{Leaves}
use Rattle.bristol.specs.Bristol as bristol
use Rattle.bristol.specs.Promises as bristol_promises
use Rattle.schedule.specs.Call as schedule
use Rattle.values.specs.Calls.{CallResult}
use Rattle.numbered.specs.Numbered.{Assigned}

-- ---- the readers

-- the number of nodes, and of outputs: 0 on a refusal
abbrev pub read_nodes : Try Sizes → ℕ
read_nodes (Ok s) = s.nodes
read_nodes (Err e) = 0

abbrev pub read_outputs : Try Sizes → ℕ
read_outputs (Ok s) = s.outputs
read_outputs (Err e) = 0

pub record ReadGives (read : Try Sizes) (number nodes outputs : ℕ) : Type 0 where
  pub number_is : number ≡ checked_number read
  pub nodes_are : nodes ≡ read_nodes read
  pub outputs_are : outputs ≡ read_outputs read

-- a reader of joined texts, given by what a text means in areas of so many bytes and words: the number, the counts, every area
pub record JoinedCall (means : List ℕ → ℕ → ℕ → ℕ → ℕ → Try Circuit) (text : List ℕ) (j n m o : ℕ) (number node_count output_count : ℕ) (joined nodes names outputs : List ℕ) : Type 0 where
  pub gives : ReadGives (read_answer (means text j n m o)) number node_count output_count
  pub leaves : Leaves text (means text j n m o) j n m o (read_answer (means text j n m o)) joined nodes names outputs

-- the reader of Bristol texts, whose definition gives the answer and the areas
pub record BristolCall (left : bristol.Left) (number node_count output_count : ℕ) (nodes outputs wires : List ℕ) : Type 0 where
  pub gives : ReadGives left.answer number node_count output_count
  pub leaves : bristol_promises.Leaves left left.answer nodes outputs wires

-- ---- the calls that count cells, outputs or inputs

-- how many there are: 0 on a refusal
abbrev pub count_of : Try ℕ → ℕ
count_of (Ok n) = n
count_of (Err e) = 0

pub record CountGives (counted : Try ℕ) (number count : ℕ) : Type 0 where
  pub number_is : number ≡ checked_number counted
  pub count_is : count ≡ count_of counted

-- ---- the schedule

pub record OrderCall (left : schedule.Left) (number cells : ℕ) (ready successors order : List ℕ) : Type 0 where
  pub gives : CountGives left.answer number cells
  pub leaves : schedule.leaves left.answer ready successors order ≡ left

-- ---- the runs

abbrev pub result_of : ℕ → ℕ → List ℕ → List ℕ → CallResult
result_of number count values answers = record { number = number; count = count; store = values; outputs = answers }

abbrev pub assigned : ℕ → ℕ → List ℕ → Assigned
assigned number count assignment = record { number = number; count = count; assignment = assignment }
