-- `.names` lines one after the other, in the order of the file and in the order of placing.
-- Assumes nothing.
use Rattle.std.specs.Prelude.{ℕ, ◌≡◌, List, [], ◌∷◌, map, length, slice_index_or, Ok, Option, None, Some}
use Rattle.circuit.specs.Refusals.{Try}
use Rattle.text.specs.Words.{bytes_of}
use Rattle.text.specs.declared.words.Word.{Word}
use Rattle.cover.specs.Cover.{last_of, input_names, cover}
use Rattle.reading.specs.Reading.{Places, Held, each}
use Rattle.blif.specs.Blif.{names_line}
use Rattle.placing.specs.Definitions.{Definition}
use Rattle.placing.specs.Placing.{placing}

-- a `.names` line by its words, of which there is one, and the words of its rows
pub record NamesLine : Type 0 where
  pub first : Word
  pub others : List Word
  pub rows : List (List Word)

abbrev pub line_at : List NamesLine → ℕ → NamesLine
line_at ls k = slice_index_or ls k (record { first = record { start = 0; len = 0 }; others = []; rows = [] })

abbrev pub table_of : Option ℕ → ℕ
table_of None = 0
table_of (Some table) = table

-- what it defines
unfoldable pub definition_of : List ℕ → NamesLine → Definition
definition_of t l = record {
  output = bytes_of t (last_of l.first l.others);
  inputs = map (bytes_of t) (input_names l.first l.others);
  table = table_of (cover t (length (input_names l.first l.others)) l.rows);
}

-- the lines in the order in which their definitions are placed
unfoldable pub placed_lines : List ℕ → List NamesLine → List NamesLine
placed_lines t ls = map (line_at ls) (placing (map (definition_of t) ls))

-- each gate after the one before
unfoldable pub gates_of : List ℕ → Places → List NamesLine → Held → Try Held
gates_of t p ls h = each (λ l h. names_line t p (l.first ∷ l.others) l.rows h) ls h

-- where the lines are accepted as they stand, the placed lines are accepted too, with the same nodes and names
abbrev pub BuiltAlike : Type 0
BuiltAlike = (t : List ℕ) (p : Places) (ls : List NamesLine) (h h' : Held) → gates_of t p ls h ≡ Ok h' → gates_of t p (placed_lines t ls) h ≡ Ok h'
