-- Cases of a reader of joined texts, for examples that are computed: a text with places for its records, and what is seen of the answer.
-- Assumes nothing.
use Rattle.std.specs.Prelude.{Err, Ok}
use Prim.Native.Nat.{ℕ}
use mathlib.Core.List.{List, [], ◌∷◌, ◌++◌}
use Rattle.laws.specs.Areas.{encodes}
use Rattle.circuit.specs.Refusals.{Try, number_of}
use Rattle.circuit.specs.Records.{encode_node, encode_output}
use Rattle.circuit.specs.Circuits.{Circuit}

-- the words of the nodes, then of the outputs; or the refusal's number alone
abbrev pub seen : Try Circuit → List ℕ
seen (Err e) = number_of e ∷ []
seen (Ok c) = encodes encode_node c.nodes ++ encodes encode_output c.outputs

-- a text, and how many words there are for nodes, names and outputs
pub record Case : Type 0 where
  pub text : List ℕ
  pub nodes : ℕ
  pub names : ℕ
  pub outputs : ℕ

abbrev pub areas : List ℕ → ℕ → ℕ → ℕ → Case
areas t n m o = record { text = t; nodes = n; names = m; outputs = o }

-- of a reader
abbrev pub read_by : (List ℕ → ℕ → ℕ → ℕ → ℕ → Try Circuit) → Case → List ℕ
read_by reader c = seen (reader c.text 128 c.nodes c.names c.outputs)
