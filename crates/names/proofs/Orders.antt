-- The empty table is in order; entries with distinct names may be searched from either end.
-- Assumes nothing.
use Rattle.std.specs.Prelude.{None, Option, Some}
use Rattle.std.proofs.Common.{◌≡◌, ℕ, zero, suc, ◌<◌, Bool, true, false, cond, List, [], ◌∷◌, ◌++◌, reverse, length, replicate, sym, refl, ap, ◌∙◌, arith}
use mathlib.Core.List.{reverse-cons}
use lib.ListN.{length-replicate, get_or-replicate}
use Rattle.laws.specs.Stretches.{same_bytes}
use Rattle.laws.proofs.Stretches.{same_eq}
use Rattle.names.specs.Names.{Entry, name_of, lookup}
use Rattle.names.specs.Chains.{bucket_of, digit_of, next, reached, Table}
use Rattle.names.specs.declared.records.TheConstants.{HALF}
use Rattle.names.proofs.Searches.{bucket_small}

none-reached : (names w : List ℕ) (d : ℕ) → reached (replicate 256 0) names w d ≡ 0
unfolding reached next
none-reached names w zero = get_or-replicate 256 (bucket_of w) 0 0 (bucket_small w)
none-reached names w (suc d) = ap (λ (x : ℕ). next names x (digit_of w d)) (none-reached names w d)

pub empty_table : (text names : List ℕ) → length text < HALF → Table text (replicate 256 0) names 0
empty_table text names h =
    record {
      sized = h;
      heads_sized = length-replicate {A = ℕ} 256 0;
      room = omega arith;
      inside = λ k l. absurd (omega arith);
      keyed = λ k l. absurd (omega arith);
      once = λ j k l. absurd (omega arith);
      head = λ b j l e. absurd (omega (arith, get_or-replicate {A = ℕ} 256 b 0 0 l, e));
      link = λ k x j l m e. absurd (omega arith);
      there = λ k l. absurd (omega arith);
      alike = λ w d k e. absurd (omega (arith, none-reached names w d, e));
    }

abbrev pub Distinct : List ℕ → List Entry → Type 0
Distinct text [] = Unit {0}
Distinct text (e ∷ es) = (lookup text (name_of text e) es ≡ None) × Distinct text es

abbrev or_else : (Option ℕ) → (Option ℕ) → (Option ℕ)
or_else (Some w) f = Some w
or_else None f = f

or_else_nothing : (f : (Option ℕ)) → or_else f None ≡ f
or_else_nothing (Some w) = refl
or_else_nothing None = refl

lookup_snoc : (text w : List ℕ) (xs : List Entry) (e : Entry) → lookup text w (xs ++ (e ∷ [])) ≡ or_else (lookup text w xs) (lookup text w (e ∷ []))
unfolding lookup
lookup_snoc text w [] e = refl
lookup_snoc text w (x ∷ xs) e = go (same_bytes (name_of text x) w) (lookup_snoc text w xs e)
  where
    go : (t : Bool) → lookup text w (xs ++ (e ∷ [])) ≡ or_else (lookup text w xs) (lookup text w (e ∷ []))
        → cond t (Some x.wire) (lookup text w (xs ++ (e ∷ []))) ≡ or_else (cond t (Some x.wire) (lookup text w xs)) (lookup text w (e ∷ []))
    go true h = refl
    go false h = h

-- in the order of definition
pub either_end : (text w : List ℕ) (es : List Entry) → Distinct text es → lookup text w (reverse es) ≡ lookup text w es
unfolding lookup
either_end text w [] d = refl
either_end text w (e ∷ es) d =
    rw (reverse-cons e es) (lookup_snoc text w (reverse es) e ∙ ap (λ (f : (Option ℕ)). or_else f (lookup text w (e ∷ []))) (either_end text w es d.1) ∙ go (same_bytes (name_of text e) w) refl)
  where
    go : (t : Bool) → same_bytes (name_of text e) w ≡ t → or_else (lookup text w es) (lookup text w (e ∷ [])) ≡ lookup text w (e ∷ es)
    go true q =
        let n : lookup text w es ≡ None = ap (λ (v : List ℕ). lookup text v es) (sym (same_eq _ _ q)) ∙ d.0 in
        rw (q, n)
    go false q = rw q (or_else_nothing (lookup text w es))
