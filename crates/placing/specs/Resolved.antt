-- Definitions of which each input is looked up, and what placing them gives.
-- Assumes nothing.
use Rattle.std.specs.Prelude.{ℕ, zero, suc, ◌+◌, ◌-◌, ◌*◌, ◌≤◌, ◌<◌, ◌≡◌, ◌≢◌, Ok, List, [], length, take, slice_index, slice_index_or}
use Rattle.circuit.specs.declared.refusals.Refusal.TheVariants.{Circle}
use Rattle.circuit.specs.Refusals.{Checked, refuse_if}
use Rattle.graphs.specs.declared.TheConstants.{READS}
use Rattle.ordering.specs.Areas.{sources}
use Rattle.placing.specs.Definitions.{Definition, definition_at, definers_of}
use Rattle.placing.specs.Placing.{placing}
use Rattle.placing.specs.Promises.{leaves_some}

-- read (definition, position) has word READS × definition + position: 0 no definition, x + 1 definition x
abbrev pub source_in : List ℕ → ℕ → ℕ
source_in words e = slice_index words (e - 1)

-- each word is 0 or that of one of n definitions
abbrev pub Inside : List ℕ → ℕ → Type 0
Inside words n = (e : ℕ) → 1 ≤ e → e ≤ READS * n → source_in words e ≤ n

-- the words are those of the definitions among the inputs of each definition
abbrev pub Resolves : List ℕ → List Definition → Type 0
Resolves words ds = (k : ℕ) → k < length ds → sources (source_in words) (READS * k + 1) READS ≡ definers_of ds (definition_at ds k).inputs

-- no word is defined twice (4)
abbrev pub Unique : List Definition → Type 0
Unique ds = (i j : ℕ) → i < length ds → j < length ds → (definition_at ds i).output ≡ (definition_at ds j).output → i ≡ j

-- what a look-up of a word gives: 0 where nothing defines it, x + 1 where definition x does
abbrev pub Found : List Definition → List ℕ → ℕ → Type 0
Found ds w zero = (j : ℕ) → j < length ds → (definition_at ds j).output ≢ w
Found ds w (suc x) = (x < length ds) × ((definition_at ds x).output ≡ w)

-- every input is looked up, and the words past the inputs of a definition are 0
pub record LookedUp (words : List ℕ) (ds : List Definition) : Type 0 where
  pub few : (k : ℕ) → k < length ds → length (definition_at ds k).inputs ≤ READS
  pub inputs : (k p : ℕ) → k < length ds → p < length (definition_at ds k).inputs → Found ds (slice_index_or (definition_at ds k).inputs p []) (slice_index words (READS * k + p))
  pub rest : (k p : ℕ) → k < length ds → length (definition_at ds k).inputs ≤ p → p < READS → slice_index words (READS * k + p) ≡ 0

-- then the words are those of the definitions
abbrev pub LookedUpResolves : Type 0
LookedUpResolves = (words : List ℕ) (ds : List Definition) → Unique ds → LookedUp words ds → Resolves words ds

-- whatever n definitions the words are those of: 17 where placing leaves some out, otherwise the order is that of placing
abbrev pub PlacedIn : List ℕ → ℕ → List ℕ → Checked → Type 0
PlacedIn words n order result =
    (ds : List Definition) → length ds ≡ n → Resolves words ds → (result ≡ refuse_if (leaves_some ds) Circle) × (result ≡ Ok tt → take n order ≡ placing ds)
