-- What the document "Berkeley Logic Interchange Format" says that a text means: single-output covers, and the equations of a text's gates.
-- A name, a word and a row of the input plane are lists of bytes; a value is 0 or 1.
-- Assumes nothing.
use Rattle.std.specs.Prelude.{ℕ, zero, suc, ◌+◌, ◌-◌, ◌<◌, ◌≡◌, Bool, true, false, cond, ◌&&◌, ◌||◌, List, [], ◌∷◌, ◌++◌, map, length, get_or, eqb}
use Rattle.laws.specs.Lists.{some}
use Rattle.laws.specs.Stretches.{same_bytes, All}
use Rattle.circuit.specs.declared.records.BoolWire.{BoolWire}
use Rattle.circuit.specs.declared.records.BoolNode.{BoolNode}
use Rattle.text.specs.Words.{split_whitespace}
use Rattle.values.specs.Values.{signal_value, values_from, entry_of, evaluated}
use Rattle.cover.specs.Directives.{inputs, outputs, names}

-- ---- single-output covers

-- "{0, 1, -} is used in the n-bit wide "input plane""
abbrev pub is_plane : ℕ → Bool
is_plane b = eqb b 48 || (eqb b 49 || eqb b 45)

-- ""1" means the input is used in uncomplemented form, "0" means the input is complemented, and "-" means not used."
abbrev pub literal : ℕ → ℕ → Bool
literal b v = cond (eqb b 49) (eqb v 1) (cond (eqb b 48) (eqb v 0) true)

-- "Elements of a row are ANDed together"
unfoldable pub cube : List ℕ → List ℕ → Bool
cube [] vs = true
cube (b ∷ bs) [] = true
cube (b ∷ bs) (v ∷ vs) = literal b v && cube bs vs

-- "and then all rows are ORed. .. The ON-set is specified with 1's in the "output plane," and the OFF-set is specified with 0's";
-- "To assign the constant "0" to some logic gate j": no rows
unfoldable pub cover_value : ℕ → List (List ℕ) → List ℕ → ℕ
cover_value v [] vs = 0
cover_value v (p ∷ ps) vs = cond (some (λ q. cube q vs) (p ∷ ps)) v (1 - v)

-- the words of a row of n inputs whose output plane is v: "A space between the columns of the "input plane" and the "output plane" is required."
abbrev pub IsRow : ℕ → ℕ → List (List ℕ) → List ℕ → Type 0
IsRow zero v r p = (r ≡ ((48 + v) ∷ []) ∷ []) × (p ≡ [])
IsRow (suc n) v r p = (r ≡ p ∷ ((48 + v) ∷ []) ∷ []) × (length p ≡ suc n) × All (λ b. is_plane b ≡ true) p

-- rows of one output plane, and their input planes: where the document speaks
abbrev pub IsCover : ℕ → ℕ → List (List (List ℕ)) → List (List ℕ) → Type 0
IsCover n v [] [] = Unit
IsCover n v [] (p ∷ ps) = ⊥
IsCover n v (r ∷ rs) [] = ⊥
IsCover n v (r ∷ rs) (p ∷ ps) = IsRow n v r p × IsCover n v rs ps

-- ---- a text's signals and gates, by its logical lines

abbrev pub first_word : List (List ℕ) → List ℕ
first_word [] = []
first_word (w ∷ ws) = w

abbrev pub words_after : List (List ℕ) → List (List ℕ)
words_after [] = []
words_after (w ∷ ws) = ws

-- a line that starts with a directive
abbrev pub is_line_of : List ℕ → List ℕ → Bool
is_line_of directive l = same_bytes (first_word (split_whitespace l)) directive

-- the words of every line of a directive, in order: those of `.inputs` and `.outputs`
unfoldable pub declared : List ℕ → List (List ℕ) → List (List ℕ)
declared directive [] = []
declared directive (l ∷ ls) = cond (is_line_of directive l) (words_after (split_whitespace l) ++ declared directive ls) (declared directive ls)

abbrev pub starts_with_dot : List ℕ → Bool
starts_with_dot [] = false
starts_with_dot (b ∷ bs) = eqb b 46

-- the cover after a `.names` line, by the words of its rows
unfoldable pub cover_after : List (List ℕ) → List (List (List ℕ))
cover_after [] = []
cover_after (l ∷ ls) = cond (starts_with_dot l) [] (split_whitespace l ∷ cover_after ls)

-- ".names <in-1> <in-2> ... <in-n> <output>", with its single-output cover
pub record LogicGate : Type 0 where
  pub signals : List (List ℕ)
  pub rows : List (List (List ℕ))

unfoldable pub gates : List (List ℕ) → List LogicGate
gates [] = []
gates (l ∷ ls) = cond (is_line_of names l) (record { signals = words_after (split_whitespace l); rows = cover_after ls } ∷ gates ls) (gates ls)

-- the signals of a gate: all but the last are its inputs, the last its output
abbrev pub gate_inputs : List ℕ → List (List ℕ) → List (List ℕ)
gate_inputs s [] = []
gate_inputs s (x ∷ xs) = s ∷ gate_inputs x xs

abbrev pub gate_output : List ℕ → List (List ℕ) → List ℕ
gate_output s [] = s
gate_output s (x ∷ xs) = gate_output x xs

-- the equation of a gate under a value of each signal, wherever the document speaks of its cover
abbrev pub Equation : (List ℕ → ℕ) → List (List ℕ) → List (List (List ℕ)) → Type 0
Equation value [] rows = Unit
Equation value (s ∷ ss) rows =
    (v : ℕ) (ps : List (List ℕ)) → v < 2 → IsCover (length (gate_inputs s ss)) v rows ps
    → value (gate_output s ss) ≡ cover_value v ps (map value (gate_inputs s ss))

-- the signals of `.inputs` have the values of an assignment, from its place p on
abbrev pub Assigned : (List ℕ → ℕ) → List ℕ → ℕ → List (List ℕ) → Type 0
Assigned value assignment p [] = Unit
Assigned value assignment p (s ∷ ss) = (value s ≡ get_or assignment p 0) × Assigned value assignment (suc p) ss

-- ---- a circuit that means what a text says

-- the value of a signal: that of its wire, where the nodes have the values that `evaluate` gives them
abbrev pub signal : List BoolNode → (List ℕ → BoolWire) → List ℕ → List ℕ → ℕ
signal nodes wire assignment name = signal_value (values_from entry_of assignment 0 [] nodes) (wire name)

-- under an assignment every equation of the text holds, and the outputs are the values of the signals of `.outputs`
pub record Means (lines : List (List ℕ)) (nodes : List BoolNode) (wires : List BoolWire) (wire : List ℕ → BoolWire) (assignment : List ℕ) : Type 0 where
  pub assigned : Assigned (signal nodes wire assignment) assignment 0 (declared inputs lines)
  pub equations : All (λ (g : LogicGate). Equation (signal nodes wire assignment) g.signals g.rows) (gates lines)
  pub outputs_are : evaluated nodes wires assignment ≡ map (signal nodes wire assignment) (declared outputs lines)
