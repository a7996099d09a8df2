-- A name more that was not there before: it has its wire, and every other name keeps its own.
-- Assumes nothing.
use Rattle.std.specs.Prelude.{None, Some}
use Prim.Native.Nat.{ℕ}
use mathlib.Core.Path.{◌≡◌, refl, subst}
use mathlib.Core.Bool.{Bool, true, false, cond}
use mathlib.Core.List.{List, ◌∷◌}
use Rattle.laws.specs.Stretches.{same_bytes}
use Rattle.laws.proofs.Stretches.{same_eq, same_refl}
use Rattle.names.specs.Names.{Entry, name_of, lookup}

module _ (t : List ℕ) (e : Entry) (es : List Entry) where
  pub lookup_new : lookup t (name_of t e) (e ∷ es) ≡ Some e.wire
  unfolding lookup
  lookup_new = rw (same_refl (name_of t e))

  pub lookup-kept : (bytes : List ℕ) (x : ℕ) → lookup t (name_of t e) es ≡ None → lookup t bytes es ≡ Some x → lookup t bytes (e ∷ es) ≡ Some x
  unfolding lookup
  lookup-kept bytes x new q = go (same_bytes (name_of t e) bytes) refl
    where
      go : (b : Bool) → same_bytes (name_of t e) bytes ≡ b → cond b (Some e.wire) (lookup t bytes es) ≡ Some x
      go true r =
          let s : lookup t bytes es ≡ None = subst (λ (y : List ℕ). lookup t y es ≡ None) (same_eq (name_of t e) bytes r) new in
          cc
      go false r = q
