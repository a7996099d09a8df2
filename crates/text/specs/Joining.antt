-- The joined lines of a text (`logical_lines`).
-- Assumes nothing.
use Rattle.std.specs.Prelude.{ℕ, ◌+◌, ◌-◌, ◌≤◌, ◌≡◌, Bool, false, cond, List, [], ◌∷◌, ◌++◌, length, replicate, eqb}
use Rattle.laws.specs.Stretches.{is_empty, All}
use Rattle.text.specs.Blanks.{is_blank, trim_end}
use Rattle.text.specs.Lines.{kept_lines}

-- whether the last byte is `\`, and a line without its last byte
unfoldable pub continued : List ℕ → Bool
continued [] = false
continued (b ∷ []) = eqb b 92
continued (b ∷ c ∷ cs) = continued (c ∷ cs)

unfoldable pub all_but_last : List ℕ → List ℕ
all_but_last [] = []
all_but_last (b ∷ []) = []
all_but_last (b ∷ c ∷ cs) = b ∷ all_but_last (c ∷ cs)

-- "A final `\` (one is removed, then blanks before it)": what a kept line adds to what is gathered
unfoldable pub part : List ℕ → List ℕ
part l = cond (continued l) (trim_end (all_but_last l)) l

-- "with a space between unless nothing has been gathered yet"
unfoldable pub gather : List ℕ → List ℕ → List ℕ
gather [] p = p
gather (c ∷ cs) p = (c ∷ cs) ++ (32 ∷ p)

-- "A final `\` .. joins the next kept line ..; at the end of the text what is gathered, if anything, is a line": the lines, where `current` has been gathered
unfoldable pub joined_from : List ℕ → List (List ℕ) → List (List ℕ)
joined_from current [] = cond (is_empty current) [] (current ∷ [])
joined_from current (l ∷ ls) =
    cond (continued l) (joined_from (gather current (part l)) ls) (gather current (part l) ∷ joined_from [] ls)

unfoldable pub logical_lines : List ℕ → List (List ℕ)
logical_lines text = joined_from [] (kept_lines text)

-- "Each joined line goes into the joined area, followed by byte 10."
unfoldable pub ended : List (List ℕ) → List ℕ
ended [] = []
ended (l ∷ ls) = l ++ (10 ∷ ended ls)

unfoldable pub joined_text : List ℕ → List ℕ
joined_text text = ended (logical_lines text)

-- what `logical_lines` answers and leaves in an area of `size` bytes: the joined text, zeros after it
pub record Joins (text : List ℕ) (size r : ℕ) (joined : List ℕ) : Type 0 where
  pub count : r ≡ length (joined_text text)
  pub area : joined ≡ joined_text text ++ replicate (size - r) 0
  pub fits : r ≤ length text + 1

-- bytes that are not empty and start with no blank
abbrev pub Starts : List ℕ → Type 0
Starts [] = ⊥
Starts (b ∷ bs) = is_blank b ≡ false

abbrev pub Lacks : ℕ → List ℕ → Type 0
Lacks x l = All (λ b. eqb b x ≡ false) l

-- a joined line is not empty, starts with no blank and holds no byte 10
pub record IsLine (l : List ℕ) : Type 0 where
  pub starts : Starts l
  pub lacks : Lacks 10 l
