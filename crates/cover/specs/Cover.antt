-- The rows of a `.names` line, and the packed table that they give, over the number of inputs.
-- Assumes nothing.
use Rattle.std.specs.Prelude.{ℕ, zero, suc, ◌+◌, ◌-◌, ◌*◌, ◌^◌, ◌≤◌, ◌<◌, ◌≡◌, Bool, true, cond, ◌&&◌, ◌||◌, List, [], ◌∷◌, length, eqb, None, Option, Some}
use Rattle.cells.specs.Cells.{entry, set_entry}
use Rattle.laws.specs.Stretches.{stretch}
use Rattle.text.specs.Words.{bytes_of}
use Rattle.text.specs.declared.words.Word.{Word}
use Rattle.cover.specs.declared.rows.Row.{Row}

-- "0 or 1 (else 7)": `parse_bit`
unfoldable pub bit_of : List ℕ → Option ℕ
bit_of [] = None
bit_of (b ∷ []) = cond (eqb b 48) (Some 0) (cond (eqb b 49) (Some 1) None)
bit_of (b ∷ c ∷ cs) = None

-- a row whose pattern starts at s, with its value
abbrev pub sets : ℕ → ℕ → Option Row
sets s v = Some (record { start = s; value = v })

-- "wrong width is 7": a pattern of n bytes with its value
unfoldable pub row_with : ℕ → Word → Option ℕ → Option Row
row_with n p None = None
row_with n p (Some v) = cond (eqb p.len n) (sets p.start v) None

-- "A row is a pattern and a value 0 or 1, value absent meaning 1; a third word or wrong width is 7."
unfoldable pub row_of : List ℕ → ℕ → List Word → Option Row
row_of t n [] = None
row_of t n (p ∷ []) = row_with n p (Some 1)
row_of t n (p ∷ v ∷ []) = row_with n p (bit_of (bytes_of t v))
row_of t n (p ∷ v ∷ x ∷ xs) = None

-- "`-` matches both, `0` and `1` themselves, any other byte nothing."
unfoldable pub fits : ℕ → ℕ → Bool
fits b bit = eqb b 45 || eqb b (48 + bit)

-- "index j takes the first input as its most significant bit": a pattern matches an index
unfoldable pub matches : List ℕ → ℕ → Bool
matches [] j = true
matches (b ∷ bs) j = fits b (entry j (length bs)) && matches bs j

-- the entries j, j + 1, .., m of them, that a pattern matches
unfoldable pub set_from : List ℕ → ℕ → ℕ → ℕ → ℕ → ℕ
set_from p v j zero table = table
set_from p v j (suc m) table = set_from p v (suc j) m (cond (matches p j) (set_entry table j v) table)

-- a table of n inputs has so many entries
abbrev pub entry_count : ℕ → ℕ
entry_count n = 2 ^ n

-- "each row sets its matching entries in turn"
unfoldable pub set_row : ℕ → List ℕ → ℕ → ℕ → ℕ
set_row n p v table = set_from p v 0 (entry_count n) table

-- what a row's pattern and value give; nothing of a bad row
unfoldable pub with_row : Option Row → (ℕ → ℕ → Option ℕ) → Option ℕ
with_row None f = None
with_row (Some r) f = f r.start r.value

-- the table after the rows, over one before them
unfoldable pub set_rows : List ℕ → ℕ → List (List Word) → ℕ → Option ℕ
set_rows t n [] table = Some table
set_rows t n (r ∷ rs) table = with_row (row_of t n r) (λ s v. set_rows t n rs (set_row n (stretch t s n) v table))

-- "the table starts as 1 minus the first row's value", each entry
unfoldable pub start_table : ℕ → ℕ → ℕ
start_table n v = (1 - v) * (2 ^ entry_count n - 1)

-- the last of words, the first of which is w
unfoldable pub last_of : Word → List Word → Word
last_of w [] = w
last_of w (x ∷ xs) = last_of x xs

-- those before it
unfoldable pub input_names : Word → List Word → List Word
input_names w [] = []
input_names w (x ∷ xs) = w ∷ input_names x xs

-- "Rows without inputs: none is 0; else the first row's last word, 0 or 1 (else 7); later rows unread."
unfoldable pub constant : List ℕ → List (List Word) → Option ℕ
constant t [] = Some 0
constant t ([] ∷ rs) = None
constant t ((w ∷ ws) ∷ rs) = bit_of (bytes_of t (last_of w ws))

-- "With inputs: no rows, all 0. Otherwise the table starts as 1 minus the first row's value, and each row sets its matching entries in turn."
unfoldable pub rows_table : List ℕ → ℕ → List (List Word) → Option ℕ
rows_table t n [] = Some 0
rows_table t n (r ∷ rs) = with_row (row_of t n r) (λ s v. set_rows t n (r ∷ rs) (start_table n v))

-- `parse_cover`: the table of n inputs, of none the constant, or 7
unfoldable pub cover : List ℕ → ℕ → List (List Word) → Option ℕ
cover t zero rows = constant t rows
cover t (suc n) rows = rows_table t (suc n) rows

-- what `parse_bit` and `parse_row` answer: the definition's answer, and its bounds
pub record BitIs (r : Option ℕ) (l : List ℕ) : Type 0 where
  pub is : r ≡ bit_of l
  pub bit : (v : ℕ) → r ≡ Some v → v < 2

pub record RowIs (t : List ℕ) (n end : ℕ) (r : Option Row) (ws : List Word) : Type 0 where
  pub is : r ≡ row_of t n ws
  pub inside : (row : Row) → r ≡ Some row → (row.start + n ≤ end) × (row.value < 2)
