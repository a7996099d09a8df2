-- What the composed calls answer and leave, whatever they are given.
-- Assumes nothing.
use Rattle.std.specs.Prelude.{ℕ, ◌/◌, ◌≤◌, ◌≡◌, false, List, length, replicate, Err, Ok}
use Rattle.circuit.specs.declared.records.TheConstants.{NODE_WORDS}
use Rattle.circuit.specs.declared.refusals.Refusal.{Refusal}
use Rattle.circuit.specs.Refusals.{Try, Checked}
use Rattle.circuit.specs.Graph.{graph_of}
use Rattle.circuit.specs.Circuits.{Circuit, filled, read_answer, KeepsRules}
use Rattle.graphs.specs.Graph.{cells_of}
use Rattle.reading.specs.Reading.{Places}
use Rattle.reading.specs.Areas.{read_text, Leaves}
use Rattle.bristol.specs.Bristol.{bristol}
use Rattle.bristol.specs.Promises as bristol_promises
use Rattle.schedule.specs.Call.{order_in}
use Rattle.values.specs.Assignments.{wrong_assignment}
use Rattle.values.specs.Calls.{call_result, evaluate_call}
use Rattle.runs.specs.Calls.{run_call}
use Rattle.assurance.specs.declared.circuits.Asked.{Asked}
use Rattle.assurance.specs.declared.circuits.Both.{Both}
use Rattle.assurance.specs.Assurance.{Question, Areas, asked_fault, node_records, output_records, order_of, outputs_of, Lent, Assured}

-- What is asked, by what is lent for it.
abbrev pub question : Asked → Question
question a = record { window = a.window; keys = a.keys.now; assignment = a.assignment.now }

-- ---- in every case

-- Zeros in each area.
abbrev pub zeroed : Areas → Areas
zeroed a = record {
  ready = replicate (length a.ready) 0;
  successors = replicate (length a.successors) 0;
  order = replicate (length a.order) 0;
  values = replicate (length a.values) 0;
  answers = replicate (length a.answers) 0;
  evaluated = replicate (length a.evaluated) 0;
}

-- Nothing is run: both answers are the refusal, and every area is zeros.
pub record Refused (e : Refusal) (before : Areas) (r : Both) (after : Areas) : Type 0 where
  pub ran_is : r.ran ≡ Err e
  pub evaluated_is : r.evaluated ≡ Err e
  pub areas_are : after ≡ zeroed before

-- Nothing is run: both answers are the refusal, and the areas of the run and of `evaluate`, of so many bytes, are zeros.
pub record RefusedRun (e : Refusal) (values answers evaluated : ℕ) (r : Both) (values' answers' evaluated' : List ℕ) : Type 0 where
  pub ran_is : r.ran ≡ Err e
  pub evaluated_is : r.evaluated ≡ Err e
  pub values_are : values' ≡ replicate values 0
  pub answers_are : answers' ≡ replicate answers 0
  pub evaluated_are : evaluated' ≡ replicate evaluated 0

-- The run along a list, then `evaluate`: each answers and leaves what its own definition says of the areas as they were, whether it accepts or refuses.
pub record RanThenEvaluated (nodes outputs order assignment values answers evaluated : List ℕ) (r : Both) (values' answers' evaluated' : List ℕ) : Type 0 where
  pub run_is : call_result r.ran values' answers' ≡ run_call nodes outputs order assignment values answers
  pub evaluate_is : call_result r.evaluated values' evaluated' ≡ evaluate_call nodes outputs assignment values evaluated

-- The order that is asked for, of the records that an area holds.
abbrev pub order_asked : List ℕ → Question → List ℕ
order_asked nodes q = order_in nodes (length nodes / NODE_WORDS) q.window q.keys

-- The schedule accepts: its order stands in front of its area, and its two work areas are zeros. The run along that order and then `evaluate` answer and leave what
-- their own definitions say, whether they accept or refuse; both leave the value store as zeros.
pub record Ran (nodes outputs : List ℕ) (q : Question) (before : Areas) (r : Both) (after : Areas) : Type 0 where
  pub ready_is : after.ready ≡ replicate (length before.ready) 0
  pub successors_are : after.successors ≡ replicate (length before.successors) 0
  pub order_is : after.order ≡ filled (order_asked nodes q) (length before.order)
  pub run_is : call_result r.ran after.values after.answers
      ≡ run_call nodes outputs (order_asked nodes q) q.assignment before.values before.answers
  pub evaluate_is : call_result r.evaluated after.values after.evaluated
      ≡ evaluate_call nodes outputs q.assignment before.values before.evaluated

-- By the schedule's answer.
abbrev pub RanOrRefused : Checked → List ℕ → List ℕ → Question → Areas → Both → Areas → Type 0
RanOrRefused (Err e) nodes outputs q before r after = Refused e before r after
RanOrRefused (Ok u) nodes outputs q before r after = Ran nodes outputs q before r after

-- Of the records that two areas hold.
abbrev pub CircuitRun : List ℕ → List ℕ → Question → Areas → Both → Areas → Type 0
CircuitRun nodes outputs q before r after =
    RanOrRefused (asked_fault nodes outputs q before) nodes outputs q before r after

-- Of a text, by what its reader gives of it: the reader's refusal, or the circuit's run.
abbrev pub TextRun : Try Circuit → Question → Areas → Both → Areas → Type 0
TextRun (Err e) q before r after = Refused e before r after
TextRun (Ok c) q before r after = CircuitRun (node_records c) (output_records c) q before r after

-- What its reader leaves in areas of so many bytes and words: the joined text, the nodes and the outputs in front, zeros in the work area for names.
abbrev pub TextLeft : (List ℕ → Places → Try Circuit) → List ℕ → ℕ → ℕ → ℕ → ℕ → List ℕ → List ℕ → List ℕ → List ℕ → Type 0
TextLeft lines text j n m o joined nodes names outputs =
    Leaves text (read_text lines text j n m o) j n m o (read_answer (read_text lines text j n m o)) joined nodes names outputs

-- The same of a Bristol text, whose reader has a work area for wires.
abbrev pub BristolLeft : List ℕ → ℕ → ℕ → ℕ → List ℕ → List ℕ → List ℕ → Type 0
BristolLeft text n o w nodes outputs wires =
    bristol_promises.Leaves (bristol text n o w) (bristol text n o w).answer nodes outputs wires

-- ---- of a circuit that keeps the rules, with areas that are long enough

-- The answers and the areas are those that the statement speaks of.
pub record Carried (c : Circuit) (q : Question) (before : Areas) (r : Both) (after : Areas) : Type 0 where
  pub assured : Assured c q before
  -- the order area has the order, zeros after it
  pub order_is : after.order ≡ filled (order_of c q) (length before.order)
  -- the run is accepted, it worked out every cell of the circuit, and its outputs are the storage order's
  pub run_is : call_result r.ran after.values after.answers
      ≡ record {
        number = 0;
        count = length (cells_of (graph_of c.nodes));
        store = replicate (length before.values) 0;
        outputs = filled (outputs_of c q.assignment) (length before.answers);
      }
  -- without unknowns `evaluate` is accepted where its area is long enough, and gives the same
  pub evaluate_is : wrong_assignment 1 c.nodes q.assignment ≡ false → length c.outputs ≤ length before.evaluated
      → call_result r.evaluated after.values after.evaluated
      ≡ record {
        number = 0;
        count = length c.outputs;
        store = replicate (length before.values) 0;
        outputs = filled (outputs_of c q.assignment) (length before.evaluated);
      }

-- The call on records.
pub record CircuitAssured (nodes outputs : List ℕ) (q : Question) (before : Areas) (r : Both) (after : Areas) : Type 0 where
  pub run : CircuitRun nodes outputs q before r after
  pub carried : (c : Circuit) → nodes ≡ node_records c → outputs ≡ output_records c → KeepsRules c
      → Lent c q before → Carried c q before r after

-- The call on a text.
pub record TextAssured (read : Try Circuit) (q : Question) (before : Areas) (r : Both) (after : Areas) : Type 0 where
  pub run : TextRun read q before r after
  pub carried : (c : Circuit) → read ≡ Ok c → Lent c q before → Carried c q before r after
