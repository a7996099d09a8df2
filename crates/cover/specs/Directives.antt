-- The lines of a joined BLIF text: directives, and the rows among them.
-- Assumes nothing.
use Rattle.std.specs.Prelude.{ℕ, Bool, true, false, cond, List, [], ◌∷◌, get_or, eqb}
use Rattle.laws.specs.Stretches.{same_bytes}
use Rattle.text.specs.Words.{bytes_of}
use Rattle.text.specs.Lines.{line_words}
use Rattle.text.specs.declared.words.Word.{Word}
use Rattle.cover.specs.declared.directives.Directive.{Directive}
use Rattle.cover.specs.declared.directives.Directive.TheVariants.{Ignored, Inputs, Outputs, Names, Other}

-- .model .end .inputs .outputs .names
abbrev pub model : List ℕ
model = 46 ∷ 109 ∷ 111 ∷ 100 ∷ 101 ∷ 108 ∷ []

abbrev pub the_end : List ℕ
the_end = 46 ∷ 101 ∷ 110 ∷ 100 ∷ []

abbrev pub inputs : List ℕ
inputs = 46 ∷ 105 ∷ 110 ∷ 112 ∷ 117 ∷ 116 ∷ 115 ∷ []

abbrev pub outputs : List ℕ
outputs = 46 ∷ 111 ∷ 117 ∷ 116 ∷ 112 ∷ 117 ∷ 116 ∷ 115 ∷ []

abbrev pub names : List ℕ
names = 46 ∷ 110 ∷ 97 ∷ 109 ∷ 101 ∷ 115 ∷ []

-- "`.model`, `.end`: ignored. `.inputs`: .. `.outputs`: .. `.names`: .. Other words with `.` first 8"
unfoldable pub directive : List ℕ → Directive
directive w =
    cond (same_bytes w model) Ignored
    (cond (same_bytes w the_end) Ignored
    (cond (same_bytes w inputs) Inputs
    (cond (same_bytes w outputs) Outputs
    (cond (same_bytes w names) Names Other))))

-- a line "with `.` first"
abbrev pub dotted : List ℕ → Word → Bool
dotted t l = eqb (get_or t l.start 0) 46

abbrev pub first_of : List ℕ → List Word → List ℕ
first_of t [] = []
first_of t (w ∷ ws) = bytes_of t w

abbrev pub rest_of : List Word → List Word
rest_of [] = []
rest_of (w ∷ ws) = ws

-- the directive of a line, by its first word
unfoldable pub directive_of : List ℕ → Word → Directive
directive_of t l = directive (first_of t (line_words t l))

-- "its rows up to the next line with `.` first", by their words
unfoldable pub rows_of : List ℕ → List Word → List (List Word)
rows_of t [] = []
rows_of t (l ∷ ls) = cond (dotted t l) [] (line_words t l ∷ rows_of t ls)

-- rows follow `.names`
abbrev pub rows_after : Directive → Bool
rows_after Ignored = false
rows_after Inputs = false
rows_after Outputs = false
rows_after Names = true
rows_after Other = false
