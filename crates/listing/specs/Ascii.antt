-- The bytes of a quoted text.
-- Assumes nothing.
use Rattle.std.specs.Prelude.{ℕ, List, [], ◌∷◌}
use Prim.Native.Char.{code}
use Prim.Native.String.{String, [] as []ˢ, ◌∷◌ as ◌∷ˢ◌}

abbrev pub ascii : String → List ℕ
ascii []ˢ = []
ascii (c ∷ˢ s) = code c ∷ ascii s
