-- The exported calls one after the other, a reader, the schedule, the run along its order and `evaluate`: together they do what `Assured` claims of the circuit read.
-- Assumes nothing.
use Rattle.std.specs.Prelude.{ℕ, ◌*◌, ◌≤◌, ◌≡◌, false, List, length, take, replicate, Ok}
use Rattle.circuit.specs.declared.records.TheConstants.{NODE_WORDS, OUTPUT_WORDS}
use Rattle.circuit.specs.Refusals.{Try}
use Rattle.circuit.specs.Circuits.{Circuit, filled}
use Rattle.circuit.specs.Graph.{graph_of}
use Rattle.graphs.specs.Graph.{cells_of}
use Rattle.schedule.specs.Call.{schedule_call}
use Rattle.values.specs.Assignments.{wrong_assignment}
use Rattle.values.specs.Calls.{evaluate_call}
use Rattle.runs.specs.Calls.{run_call}
use Rattle.blif.specs.Blif.{blif}
use Rattle.bench.specs.Bench.{bench}
use Rattle.bristol.specs.Bristol.{bristol, bristol_circuit}
use Rattle.assurance.specs.Assurance.{Question, Areas, order_of, outputs_of, Lent, Assured}
use Rattle.relay.specs.Answers.{JoinedCall, BristolCall, OrderCall, result_of}

-- What a call answers: the refusal's number, 0 where it accepts, and its count.
pub record Answer : Type 0 where
  pub number : ℕ
  pub count : ℕ

-- The answers of the schedule, of the run and of `evaluate`.
pub record Answers : Type 0 where
  pub ordered : Answer
  pub ran : Answer
  pub evaluated : Answer

-- The three calls on a circuit's records. Each is given what the one before it left: the run as many entries as the schedule counted, `evaluate` the store of the run.
pub record Called (nodes outputs : List ℕ) (q : Question) (before : Areas) (r : Answers) (mid : List ℕ) (after : Areas) : Type 0 where
  pub ordered : OrderCall (schedule_call nodes outputs q.window q.keys before.ready before.successors before.order)
      r.ordered.number r.ordered.count after.ready after.successors after.order
  pub ran : result_of r.ran.number r.ran.count mid after.answers
      ≡ run_call nodes outputs (take r.ordered.count after.order) q.assignment before.values before.answers
  pub evaluated : result_of r.evaluated.number r.evaluated.count after.values after.evaluated
      ≡ evaluate_call nodes outputs q.assignment mid before.evaluated

-- All three accept, with the order, the cells and the outputs that `Assured` speaks of; `evaluate` where nothing is unknown and its area is long enough.
pub record CallsAssured (c : Circuit) (q : Question) (before : Areas) (r : Answers) (after : Areas) : Type 0 where
  pub assured : Assured c q before
  pub order_accepted : r.ordered.number ≡ 0
  pub order_is : after.order ≡ filled (order_of c q) (length before.order)
  pub run_accepted : r.ran.number ≡ 0
  pub run_cells : r.ran.count ≡ length (cells_of (graph_of c.nodes))
  pub outputs_are : after.answers ≡ filled (outputs_of c q.assignment) (length before.answers)
  pub evaluate_is : wrong_assignment 1 c.nodes q.assignment ≡ false → length c.outputs ≤ length before.evaluated
      → result_of r.evaluated.number r.evaluated.count after.values after.evaluated
      ≡ record {
        number = 0;
        count = length c.outputs;
        store = replicate (length before.values) 0;
        outputs = filled (outputs_of c q.assignment) (length before.evaluated);
      }

-- Whatever is then asked of a circuit whose reader counted so many records at the front of two areas.
abbrev pub AssuredOf : Circuit → ℕ → List ℕ → ℕ → List ℕ → Type 0
AssuredOf c n nodes o outputs =
    (q : Question) (before : Areas) (r : Answers) (mid : List ℕ) (after : Areas) → Lent c q before
    → Called (take (n * NODE_WORDS) nodes) (take (o * OUTPUT_WORDS) outputs) q before r mid after → CallsAssured c q before r after

-- After a reader of joined texts that accepts the text.
abbrev pub JoinedAssured : (List ℕ → ℕ → ℕ → ℕ → ℕ → Try Circuit) → Type 0
JoinedAssured means =
    (text : List ℕ) (j n m o number k l : ℕ) (joined nodes names outputs : List ℕ) (c : Circuit)
    → JoinedCall means text j n m o number k l joined nodes names outputs → means text j n m o ≡ Ok c
    → AssuredOf c k nodes l outputs

abbrev pub BlifAssured : Type 0
BlifAssured = JoinedAssured blif

abbrev pub BenchAssured : Type 0
BenchAssured = JoinedAssured bench

-- After the reader of Bristol texts.
abbrev pub BristolAssured : Type 0
BristolAssured =
    (text : List ℕ) (n o w number k l : ℕ) (nodes outputs wires : List ℕ) (c : Circuit)
    → BristolCall (bristol text n o w) number k l nodes outputs wires → bristol_circuit text n o w ≡ Ok c
    → AssuredOf c k nodes l outputs
