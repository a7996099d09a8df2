-- Names as they are defined, one after the other: a new name has its wire, and every other keeps its own.
-- Assumes nothing.
use Rattle.std.specs.Prelude.{None, Option, Some}
use Prim.Native.Nat.{ℕ}
use mathlib.Core.Path.{◌≡◌, refl, sym, ◌∙◌}
use mathlib.Core.Bool.{Bool, true, false, cond}
use mathlib.Core.List.{List, [], ◌∷◌}
use Rattle.laws.specs.Stretches.{same_bytes}
use Rattle.text.specs.Words.{bytes_of}
use Rattle.text.specs.declared.words.Word.{Word}
use Rattle.names.specs.Names.{Entry, lookup}
use Rattle.names.proofs.Lookups.{lookup_new, lookup-kept}
use Rattle.reading.specs.Reading.{find}
use Rattle.reading.proofs.Made.{entry}

module _ (t : List ℕ) where
  -- what bytes stand for, the constants first
  abbrev pub found_in : List Entry → List ℕ → Option ℕ
  found_in es bytes = cond (same_bytes bytes (70 ∷ 65 ∷ 76 ∷ 83 ∷ 69 ∷ [])) (Some 0) (cond (same_bytes bytes (84 ∷ 82 ∷ 85 ∷ 69 ∷ [])) (Some 1) (lookup t bytes es))

  pub find-is : (w : Word) (es : List Entry) → find true t w es ≡ found_in es (bytes_of t w)
  unfolding find
  find-is w es = refl

  -- a name that is not defined yet
  record Fresh (bytes : List ℕ) (es : List Entry) : Type 0 where
    not_false : same_bytes bytes (70 ∷ 65 ∷ 76 ∷ 83 ∷ 69 ∷ []) ≡ false
    not_true : same_bytes bytes (84 ∷ 82 ∷ 85 ∷ 69 ∷ []) ≡ false
    unknown : lookup t bytes es ≡ None

  fresh : (bytes : List ℕ) (es : List Entry) → found_in es bytes ≡ None → Fresh bytes es
  fresh bytes es q = go (same_bytes bytes _) refl (same_bytes bytes _) refl q
    where
      go : (u : Bool) → same_bytes bytes (70 ∷ 65 ∷ 76 ∷ 83 ∷ 69 ∷ []) ≡ u → (v : Bool) → same_bytes bytes (84 ∷ 82 ∷ 85 ∷ 69 ∷ []) ≡ v
          → cond u (Some 0) (cond v (Some 1) (lookup t bytes es)) ≡ None → Fresh bytes es
      go true e v f r = cc
      go false e true f r = cc
      go false e false f r = record { not_false = e; not_true = f; unknown = r }

  pub find_new : (w : Word) (x : ℕ) (es : List Entry) → find true t w es ≡ None → find true t w (entry w x ∷ es) ≡ Some x
  find_new w x es q =
      let f = fresh (bytes_of t w) es (sym (find-is w es) ∙ q) in
      find-is w (entry w x ∷ es) ∙ rw (f.not_false, f.not_true) (lookup_new t (entry w x) es)

  pub find-kept : (w u : Word) (x y : ℕ) (es : List Entry) → find true t w es ≡ None → find true t u es ≡ Some y → find true t u (entry w x ∷ es) ≡ Some y
  find-kept w u x y es q r =
      let f = fresh (bytes_of t w) es (sym (find-is w es) ∙ q) in
      find-is u (entry w x ∷ es) ∙ go f.unknown (same_bytes (bytes_of t u) _) (same_bytes (bytes_of t u) _) (sym (find-is u es) ∙ r)
    where
      go : lookup t (bytes_of t w) es ≡ None → (c d : Bool) → cond c (Some 0) (cond d (Some 1) (lookup t (bytes_of t u) es)) ≡ Some y
          → cond c (Some 0) (cond d (Some 1) (lookup t (bytes_of t u) (entry w x ∷ es))) ≡ Some y
      go none true d s = s
      go none false true s = s
      go none false false s = lookup-kept t (entry w x) es (bytes_of t u) y none s
