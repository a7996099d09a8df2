-- How many records a search comes to, whatever other names are in the table.
-- Assumes nothing.
use Rattle.std.specs.Prelude.{◌≡◌, ℕ, suc, ◌+◌, ◌*◌, ◌<◌, List, length, slice_index}
use Rattle.names.specs.Chains.{reached, Table}
use Rattle.names.specs.declared.records.TheConstants.{HALF, KEY_DIGITS, BYTE_DIGITS}

-- each element is a byte
abbrev pub Bytes : List ℕ → Type 0
Bytes l = (i : ℕ) → slice_index l i < 256

-- how many digits tell a name from any other: those of its key, then four of each byte
abbrev pub digit_count : List ℕ → ℕ
digit_count name = KEY_DIGITS + BYTE_DIGITS * length name

-- after as many links as a name has digits and one, the search for it is at its end: so it comes to at most 25 + 4 * length records
abbrev pub FewReached : Type 0
FewReached =
    (text heads names : List ℕ) (count : ℕ) → Table text heads names count → Bytes text
    → (name : List ℕ) → Bytes name → length name < HALF → reached heads names name (suc (digit_count name)) ≡ 0
