-- What the areas hold while a Bristol text is read, and what the steps answer.
-- Assumes nothing.
use Rattle.std.specs.Prelude.{ℕ, ◌+◌, ◌≤◌, ◌≡◌, List, length, replicate, Err, Ok}
use Rattle.laws.specs.Areas.{capacity}
use Rattle.circuit.specs.declared.records.NodeNumber.{NodeNumber}
use Rattle.circuit.specs.declared.records.Output.{Output}
use Rattle.circuit.specs.declared.records.Sizes.{Sizes}
use Rattle.circuit.specs.declared.records.TheConstants.{NODE_WORDS, OUTPUT_WORDS}
use Rattle.circuit.specs.Refusals.{Try}
use Rattle.circuit.specs.Records.{nodes_of, outputs_of}
use Rattle.circuit.specs.Circuits.{Circuit}
use Rattle.reading.specs.Holding.{outcome, NodesHold, NodesHoldAfter, OutputsHold}
use Rattle.bristol_rows.specs.declared.answers.Head.{Head}
use Rattle.bristol.specs.declared.answers.Rows.{Rows}
use Rattle.bristol.specs.Bristol.{State, Left, leave}

abbrev pub Zeros : List ℕ → Type 0
Zeros a = a ≡ replicate (length a) 0

-- ---- the rows

-- the nodes before the next one, and the wires
abbrev pub state_of : List ℕ → List ℕ → NodeNumber → State
state_of ns ws next = record { nodes = nodes_of ns next.0; wires = ws }

-- after a step the area holds the nodes before the next one; on a refusal some
abbrev pub NodesHoldNext : List ℕ → Try NodeNumber → Type 0
NodesHoldNext ns r = NodesHoldAfter ns (outcome (λ n. n.0) r)

-- what a step gives of the state before is the state after, or the refusal; it is told how many nodes the area takes
abbrev pub StateStep : (ℕ → State → Try State) → List ℕ → List ℕ → NodeNumber → List ℕ → List ℕ → Try NodeNumber → Type 0
StateStep f ns ws next ns' ws' r =
    outcome (state_of ns' ws') r ≡ f (capacity NODE_WORDS (length ns)) (state_of ns ws next)

-- the next node after the rows
abbrev pub next_of : Try Rows → Try NodeNumber
next_of r = outcome (λ x. x.next) r

-- ---- the outputs

-- after a step the area holds as many outputs as it answers; on a refusal some
abbrev pub OutputsHoldAfter : List ℕ → Try ℕ → Type 0
OutputsHoldAfter os (Ok n) = OutputsHold os n
OutputsHoldAfter os (Err e) = (n : ℕ) × OutputsHold os n

-- what a step gives of the outputs before are those after, or the refusal; it is told how many the area takes
abbrev pub OutputsStep : (ℕ → List Output → Try (List Output)) → List ℕ → ℕ → List ℕ → Try ℕ → Type 0
OutputsStep f os n os' r = outcome (outputs_of os') r ≡ f (capacity OUTPUT_WORDS (length os)) (outputs_of os n)

-- ---- the whole

-- a header that fits the areas, which hold nothing; the wires have a place for each wire
pub record Ready (head : Head) (nodes outputs wires : List ℕ) : Type 0 where
  pub fits : head.inputs + head.outputs ≤ head.wires
  pub room : head.inputs ≤ capacity NODE_WORDS (length nodes)
  pub nodes_hold : NodesHold nodes 0
  pub outputs_hold : OutputsHold outputs 0
  pub wires_zero : wires ≡ replicate head.wires 0

-- answer and areas are those of the definition
pub record Leaves (l : Left) (r : Try Sizes) (nodes outputs wires : List ℕ) : Type 0 where
  pub answer_is : r ≡ l.answer
  pub nodes_are : nodes ≡ l.nodes
  pub outputs_are : outputs ≡ l.outputs
  pub wires_are : wires ≡ l.wires

-- the same, by the areas that were lent
abbrev pub LeavesAreas : (ℕ → ℕ → ℕ → Left) → List ℕ → List ℕ → List ℕ → Try Sizes → List ℕ → List ℕ → List ℕ → Type 0
LeavesAreas left ns os ws r ns' os' ws' = Leaves (left (length ns) (length os) (length ws)) r ns' os' ws'

-- what a circuit, or its refusal, leaves in areas of so many words
abbrev pub leaving : (ℕ → ℕ → ℕ → Try Circuit) → ℕ → ℕ → ℕ → Left
leaving made n o w = leave n o w (made n o w)
