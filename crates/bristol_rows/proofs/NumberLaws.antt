-- Laws of words read as numbers.
-- Assumes nothing.
use Rattle.std.specs.Prelude.{Err, Ok}
use Prim.Native.Nat.{ℕ}
use mathlib.Core.Path.{◌≡◌, refl}
use mathlib.Core.List.{List, [], ◌∷◌}
use mathlib.Core.Option.{Option, none, some}
use lib.ListN.{length, drop}
use Prim.Native.Nat.{zero-le}
use borrow.Author.Tests.{le-ltb}
use Rattle.circuit.specs.declared.refusals.Refusal.{Refusal}
use Rattle.circuit.specs.declared.refusals.Refusal.TheVariants.{NotNumber}
use Rattle.text.specs.Numbers.{parse_usize, parse_each, and_then as then}
use Rattle.bristol_rows.specs.Numbers.{or_refuse, number}
use Rattle.bristol_rows.specs.Promises.{first_number, first_arity}

pub each_none : (ws : List (List ℕ)) → ws ≡ [] → parse_each ws ≡ some []
unfolding parse_each
each_none ws e = rw e

-- a word that is read, and one that is no number
module _ (ws us : List (List ℕ)) (w : List ℕ) (h : ws ≡ w ∷ us) where
  pub each_value : (n : ℕ) → Ok n ≡ number w → parse_each ws ≡ then (parse_each us) (λ ns. some (n ∷ ns))
  unfolding parse_each number
  each_value n e = rw h (go (parse_usize w) e)
    where
      go : (x : Option ℕ) → Ok n ≡ or_refuse NotNumber x → then x (λ m. then (parse_each us) (λ ms. some (m ∷ ms))) ≡ then (parse_each us) (λ ns. some (n ∷ ns))
      go none e = cc
      go (some m) e =
          let q : m ≡ n = cc in
          rw q

  pub each_bad : (e : Refusal) → Err e ≡ number w → (parse_each ws ≡ none) × (e ≡ NotNumber)
  unfolding parse_each number
  each_bad e p = rw h (go (parse_usize w) p)
    where
      go : (x : Option ℕ) → Err e ≡ or_refuse NotNumber x → (then x (λ m. then (parse_each us) (λ ms. some (m ∷ ms))) ≡ none) × (e ≡ NotNumber)
      go none p = (cc, cc)
      go (some m) p = cc

-- as an arity that any number of words may follow
pub first_any : (ws : List (List ℕ)) → first_arity 0 ws ≡ first_number ws
unfolding number
first_any [] = refl
first_any (w ∷ ws) = rw (le-ltb (length ws) 0 zero-le)

pub first_value : (ws us : List (List ℕ)) (n : ℕ) → Ok n ≡ first_number ws → us ≡ drop 1 ws → parse_each ws ≡ then (parse_each us) (λ ns. some (n ∷ ns))
first_value [] us n e q = cc
first_value (w ∷ vs) us n e q = rw q (each_value (w ∷ vs) vs w refl n e)
