-- The operations of gate rows.
-- Assumes nothing.
use Rattle.std.specs.Prelude.{ℕ, Bool, if◌then◌else◌, ◌||◌, List, [], ◌∷◌}
use Rattle.text.specs.Bytes.{is_named}
use Rattle.bristol_rows.specs.declared.operation.Operation.{Operation}
use Rattle.bristol_rows.specs.declared.operation.Operation.TheVariants.{Copy, One, Two, Unlisted}

-- the names of the operations that make no cell, in letters of any case: EQ, EQW, BUF
unfoldable pub is_alias : List ℕ → Bool
is_alias w = is_named w (69 ∷ 81 ∷ []) || is_named w (69 ∷ 81 ∷ 87 ∷ []) || is_named w (66 ∷ 85 ∷ 70 ∷ [])

-- of those that turn their input: INV, NOT
unfoldable pub inverts : List ℕ → Bool
inverts w = is_named w (73 ∷ 78 ∷ 86 ∷ []) || is_named w (78 ∷ 79 ∷ 84 ∷ [])

-- the operation of a name: AND, NAND, OR, NOR, XOR and XNOR have two inputs; a name may be that of no operation
unfoldable pub operation : List ℕ → Operation
operation w =
    if is_named w (65 ∷ 78 ∷ 68 ∷ []) then Two 8
    else if is_named w (78 ∷ 65 ∷ 78 ∷ 68 ∷ []) then Two 7
    else if is_named w (79 ∷ 82 ∷ []) then Two 14
    else if is_named w (78 ∷ 79 ∷ 82 ∷ []) then Two 1
    else if is_named w (88 ∷ 79 ∷ 82 ∷ []) then Two 6
    else if is_named w (88 ∷ 78 ∷ 79 ∷ 82 ∷ []) then Two 9
    else if inverts w then One 1
    else if is_alias w then Copy
    else Unlisted
