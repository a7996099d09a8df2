-- Names and their wires: an association list, looked up by the names' bytes.
-- Assumes nothing.
use Rattle.std.specs.Prelude.{ℕ, cond, List, [], ◌∷◌, None, Option, Some}
use Rattle.laws.specs.Stretches.{stretch, same_bytes}

-- a defined name: "a stretch of the joined text", and the word of its wire
pub record Entry : Type 0 where
  pub start : ℕ
  pub len : ℕ
  pub wire : ℕ

abbrev pub name_of : List ℕ → Entry → List ℕ
name_of text e = stretch text e.start e.len

-- the wire of the name with these bytes, the newest entry first
unfoldable pub lookup : List ℕ → List ℕ → List Entry → (Option ℕ)
lookup text bytes [] = None
lookup text bytes (e ∷ es) = cond (same_bytes (name_of text e) bytes) (Some e.wire) (lookup text bytes es)
