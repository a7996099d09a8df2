-- A test is true or false, and not both.
-- Assumes nothing.
use mathlib.Core.Path.{◌≡◌, refl, sym, ◌∙◌}
use mathlib.Core.Logic.{◌⊎◌, inl, inr}
use mathlib.Core.Bool.{Bool, true, false, true≢false}

pub split_on : (t : Bool) → (t ≡ true) ⊎ (t ≡ false)
split_on true = inl refl
split_on false = inr refl

pub clash : {t : Bool} → t ≡ true → t ≡ false → ⊥
clash p q = true≢false (sym p ∙ q)
