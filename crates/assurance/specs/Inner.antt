-- What only the functions under the composed calls ask and promise.
-- Assumes nothing.
use Rattle.std.specs.Prelude.{◌*◌, ◌≤◌, ◌<◌, List, ℕ, ◌≡◌, length, take, Err, Ok}
use Rattle.circuit.specs.declared.records.TheConstants.{NODE_WORDS, OUTPUT_WORDS}
use Rattle.circuit.specs.declared.records.Sizes.{Sizes}
use Rattle.circuit.specs.declared.refusals.Refusal.TheVariants.{Broken}
use Rattle.circuit.specs.Refusals.{Try}
use Rattle.circuit.specs.Circuits.{Circuit, KeepsRules}
use Rattle.reading.specs.Reading.{Places}
use Rattle.reading.specs.Areas.{read_text}
use Rattle.assurance.specs.declared.circuits.Both.{Both}
use Rattle.assurance.specs.Assurance.{Question, Areas}
use Rattle.assurance.specs.Composed.{Refused, CircuitRun, CircuitAssured}

-- What is read of a text of the format passes the circuit check, whatever the areas' sizes.
abbrev pub Sounds : (List ℕ → Places → Try Circuit) → Type 0
Sounds lines = (text : List ℕ) (j n m o : ℕ) (c : Circuit) → read_text lines text j n m o ≡ Ok c → KeepsRules c

-- So many records stand in two areas.
pub record Inside (nodes outputs : List ℕ) (sizes : Sizes) : Type 0 where
  pub nodes_inside : sizes.nodes * NODE_WORDS ≤ length nodes
  pub outputs_inside : sizes.outputs * OUTPUT_WORDS ≤ length outputs

-- By a reader's answer: its refusal, or the run of the first records of the areas that it wrote.
abbrev pub ReadRun : List ℕ → List ℕ → Try Sizes → Question → Areas → Both → Areas → Type 0
ReadRun nodes outputs (Err e) q before r after = Refused e before r after
ReadRun nodes outputs (Ok sizes) q before r after =
    CircuitRun (take (sizes.nodes * NODE_WORDS) nodes) (take (sizes.outputs * OUTPUT_WORDS) outputs) q before r after

-- The call on the first records of two areas, so many of each: `Broken` where an area has fewer.
pub record SizesRun (nodes outputs : List ℕ) (sizes : Sizes) (q : Question) (before : Areas) (r : Both) (after : Areas) : Type 0 where
  pub few_nodes : length nodes < sizes.nodes * NODE_WORDS → Refused Broken before r after
  pub few_outputs : length outputs < sizes.outputs * OUTPUT_WORDS → Refused Broken before r after
  pub run : Inside nodes outputs sizes
      → CircuitAssured (take (sizes.nodes * NODE_WORDS) nodes) (take (sizes.outputs * OUTPUT_WORDS) outputs) q before r after

-- By a reader's answer, whatever it counts: its refusal, or the call on the first records of two areas.
abbrev pub ReadSizesRun : List ℕ → List ℕ → Try Sizes → Question → Areas → Both → Areas → Type 0
ReadSizesRun nodes outputs (Err e) q before r after = Refused e before r after
ReadSizesRun nodes outputs (Ok sizes) q before r after = SizesRun nodes outputs sizes q before r after
