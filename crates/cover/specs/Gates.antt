-- The words of a `.names` line: the last, which is the output, and those before it, the inputs.
-- Assumes nothing.
use Rattle.std.specs.Prelude.{ℕ, ◌+◌, ◌≤◌, ◌≡◌, if◌then◌else◌, ltb, leb, List, [], ◌∷◌, ◌++◌, length, take, Option, Some, None, IfSome}
use Rattle.laws.specs.Stretches.{All}
use Rattle.circuit.specs.declared.records.TheConstants.{WIRES}
use Rattle.text.specs.declared.words.Word.{Word}
use Rattle.cover.specs.Cover.{last_of, input_names}
use Rattle.cover.specs.declared.gate.Gate.{Gate}

-- the output word and the inputs; none where there are more than a cell has wires
pub record GateWords : Type 0 where
  pub out : Word
  pub inputs : Option (List Word)

abbrev pub first_of : List Word → Option ℕ → Option (List Word)
first_of ws None = None
first_of ws (Some n) = Some (take n ws)

-- as the code has them
abbrev pub words_seen : Gate → GateWords
words_seen g = record { out = g.out; inputs = first_of g.inputs g.count }

-- as many as a cell has wires
abbrev pub few_enough : List Word → Option (List Word)
few_enough ws = if leb (length ws) WIRES then Some ws else None

-- the words of a line with its first one and the others
abbrev pub gate_of : List Word → Option GateWords
gate_of [] = None
gate_of (w ∷ ws) = Some (record { out = last_of w ws; inputs = few_enough (input_names w ws) })

-- one input word more
abbrev pub with_input : Option (List Word) → Word → Option (List Word)
with_input None w = None
with_input (Some ws) w = if ltb (length ws) WIRES then Some (ws ++ (w ∷ [])) else None

-- one word more, after which what was the output is an input
abbrev pub with_word : GateWords → Word → GateWords
with_word g w = record { out = w; inputs = with_input g.inputs g.out }

-- each word ends at a place or before it
pub record GateFits (end : ℕ) (g : GateWords) : Type 0 where
  pub out : g.out.start + g.out.len ≤ end
  pub inputs : IfSome g.inputs (All (λ (w : Word). w.start + w.len ≤ end))

abbrev pub seen_of : Option Gate → Option GateWords
seen_of None = None
seen_of (Some g) = Some (words_seen g)

-- what `gate_words` answers
pub record GateIs (end : ℕ) (r : Option Gate) (ws : List Word) : Type 0 where
  pub is : seen_of r ≡ gate_of ws
  pub inside : IfSome r (λ g. GateFits end (words_seen g))
