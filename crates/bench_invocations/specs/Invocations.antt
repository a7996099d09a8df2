-- An invocation of BENCH: an operation, and its arguments in parentheses.
-- Assumes nothing.
use Rattle.std.specs.Prelude.{ℕ, suc, ◌+◌, ◌-◌, Bool, true, cond, not, ◌&&◌, List, [], ◌∷◌, map, eqb, ltb, Ok}
use Rattle.laws.specs.Stretches.{run, is_not}
use Rattle.circuit.specs.declared.refusals.Refusal.TheVariants.{Malformed}
use Rattle.circuit.specs.Refusals.{Try, need}
use Rattle.text.specs.Blanks.{trimmed}
use Rattle.text.specs.Words.{bytes_of, between}
use Rattle.text.specs.Lines.{add_first, places}
use Rattle.text.specs.declared.words.Word.{Word}

pub record Invoked : Type 0 where
  pub operation : Word
  pub arguments : List Word

-- nothing, or blanks alone
abbrev pub blank : List ℕ → Word → Bool
blank t w = eqb (trimmed t w).len 0

-- how many bytes there are up to the last x, with it; 0 if there is none
unfoldable pub up_to_last : ℕ → List ℕ → ℕ
up_to_last x [] = 0
up_to_last x (b ∷ bs) = cond (ltb 0 (up_to_last x bs)) (suc (up_to_last x bs)) (cond (eqb b x) 1 0)

-- what stands before, between and after the x of a list
unfoldable pub parts : ℕ → List ℕ → List (List ℕ)
parts x [] = [] ∷ []
parts x (b ∷ bs) = cond (eqb b x) ([] ∷ parts x bs) (add_first b (parts x bs))

-- "names trimmed, inner blanks allowed": the parts between commas
abbrev pub trimmed_parts : List ℕ → Word → List Word
trimmed_parts t w = map (trimmed t) (places w.start (parts 44 (bytes_of t w)))

-- "blank arguments mean none"
unfoldable pub arguments_of : List ℕ → Word → List Word
arguments_of t w = cond (blank t w) [] (trimmed_parts t w)

unfoldable pub none_empty : List Word → Bool
none_empty [] = true
none_empty (w ∷ ws) = ltb 0 w.len && none_empty ws

-- "A lacking or reversed parenthesis, other text after the last one, an empty operation or empty argument is 9":
-- what stands from `from` to `end`, where the first `(` is at `opening` and the last `)` just before `closing`
unfoldable pub invocation : List ℕ → ℕ → ℕ → ℕ → ℕ → Try Invoked
invocation t from end opening closing =
    need (ltb opening end) Malformed
    (need (ltb (opening + 1) closing) Malformed
    (need (blank t (between closing end)) Malformed
    (need (not (blank t (between from opening))) Malformed
    (need (none_empty (arguments_of t (between (opening + 1) (closing - 1)))) Malformed
    (Ok (record { operation = trimmed t (between from opening); arguments = arguments_of t (between (opening + 1) (closing - 1)) }))))))

-- "Invocation: from the first `(` to the last `)`, only blanks after"
unfoldable pub parse_invocation : List ℕ → Word → Try Invoked
parse_invocation t w =
    invocation t w.start (w.start + w.len) (w.start + run (is_not 40) (bytes_of t w)) (w.start + up_to_last 41 (bytes_of t w))
