-- What a reader of a joined text answers and leaves in every area.
-- Assumes nothing.
use Rattle.std.specs.Prelude.{ℕ, ◌+◌, ◌≤◌, ◌≡◌, List, [], length, replicate, take, Err, Ok}
use Rattle.circuit.specs.declared.refusals.Refusal.{Refusal}
use Rattle.circuit.specs.declared.records.Sizes.{Sizes}
use Rattle.circuit.specs.Refusals.{Try, check_then}
use Rattle.circuit.specs.Circuits.{Circuit, filled, read_answer, node_words, output_words}
use Rattle.text.specs.declared.TheConstants.{MOST_TEXT}
use Rattle.text.specs.Joining.{joined_text}
use Rattle.reading.specs.Reading.{Places, places_in, text_fault}
use Rattle.reading.specs.Holding.{Ends}

-- a text read by the reader of its joined lines, with areas of so many bytes and words
unfoldable pub read_text : (List ℕ → Places → Try Circuit) → List ℕ → ℕ → ℕ → ℕ → ℕ → Try Circuit
read_text lines text j n m o = check_then (text_fault text j) (lines (joined_text text) (places_in n m o))

abbrev pub joined_bytes : List ℕ → Try Circuit → List ℕ
joined_bytes text (Err e) = []
joined_bytes text (Ok c) = joined_text text

-- a call's answer and every area's contents, from what the text gives and the areas' lengths; the names area is a work area
pub record Leaves (text : List ℕ) (c : Try Circuit) (j n m o : ℕ) (r : Try Sizes) (joined nodes names outputs : List ℕ) : Type 0 where
  pub answer : r ≡ read_answer c
  pub joined_is : joined ≡ filled (joined_bytes text c) j
  pub nodes_is : nodes ≡ filled (node_words c) n
  pub names_is : names ≡ replicate m 0
  pub outputs_is : outputs ≡ filled (output_words c) o

-- the same, of what a reader makes of the areas that were lent
abbrev pub LeavesAreas : List ℕ → (ℕ → ℕ → ℕ → ℕ → Try Circuit) → List ℕ → List ℕ → List ℕ → List ℕ → Try Sizes → List ℕ → List ℕ → List ℕ → List ℕ → Type 0
LeavesAreas text read joined nodes names outputs r joined' nodes' names' outputs' =
    Leaves text (read (length joined) (length nodes) (length names) (length outputs)) (length joined) (length nodes) (length names) (length outputs) r joined' nodes' names' outputs'

-- "A refusal .. zeros every area lent for writing"
pub record Zeroed (e : Refusal) (j n m o : ℕ) (r : Try Sizes) (joined nodes names outputs : List ℕ) : Type 0 where
  pub answer : r ≡ Err e
  pub joined_is : joined ≡ replicate j 0
  pub nodes_is : nodes ≡ replicate n 0
  pub names_is : names ≡ replicate m 0
  pub outputs_is : outputs ≡ replicate o 0

-- the joined text stands in front of its area, zeros after it
pub record JoinedIn (text : List ℕ) (used : ℕ) (joined : List ℕ) : Type 0 where
  pub inside : used ≤ length joined
  pub front : take used joined ≡ joined_text text
  pub area : joined ≡ filled (joined_text text) (length joined)

-- a text that has no fault, with its areas ready to be read into
pub record Readied (text : List ℕ) (j n o used : ℕ) (joined nodes outputs : List ℕ) : Type 0 where
  pub sound : text_fault text j ≡ Ok tt
  pub short : used ≤ MOST_TEXT + 1
  pub joined_in : JoinedIn text used joined
  pub nodes_is : nodes ≡ replicate n 0
  pub outputs_is : outputs ≡ replicate o 0

abbrev pub PreparedIs : List ℕ → ℕ → ℕ → ℕ → List ℕ → List ℕ → List ℕ → Try ℕ → Type 0
PreparedIs text j n o joined nodes outputs (Err e) = text_fault text j ≡ Err e
PreparedIs text j n o joined nodes outputs (Ok used) = Readied text j n o used joined nodes outputs

-- whatever text is joined and whatever circuit the reading ended in
abbrev pub Concludes : Try Sizes → List ℕ → List ℕ → ℕ → List ℕ → Try Sizes → List ℕ → List ℕ → List ℕ → List ℕ → Type 0
Concludes ended joined nodes m outputs r joined' nodes' names' outputs' =
    (text : List ℕ) (used : ℕ) (c : Try Circuit) → JoinedIn text used joined → Ends c ended nodes outputs
    → Leaves text c (length joined) (length nodes) m (length outputs) r joined' nodes' names' outputs'
