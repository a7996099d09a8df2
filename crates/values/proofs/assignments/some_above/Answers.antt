use Rattle.std.proofs.Common.{◌≡◌, Bool, List, ◌||◌, [], ◌∷◌, ℕ, ltb, refl, ap, rules, tests}
use mathlib.Core.Path.{◌∙◌}
use Rattle.std.specs.List.{list_any}
use Rattle.std.proofs.lemmas.Iterator.{YieldsList-from_slice}
use Rattle.std.proofs.lemmas.Iterator.Search.{any_from_yields_List}
use Rattle.laws.specs.Lists.{some}
use Rattle.values.proofs.assignments.some_above.Goals as goal

any_some : (p : ℕ → Bool) (xs : List ℕ) → list_any p xs ≡ some p xs
any_some p [] = refl
any_some p (x ∷ xs) = ap (λ (b : Bool). p x || b) (any_some p xs)

pub returns : goal.returns
returns c = any_from_yields_List (ltb c.args.top) _ _ _ c.any.ensures.ran (YieldsList-from_slice c.args.assignment.now cc) (λ x b q h. search (rules, tests)) ∙ any_some (ltb c.args.top) c.args.assignment.now
