-- Where no word is defined twice, inputs that are looked up one by one are the definitions that a definition reads.
-- Assumes nothing.
use Prim.Native.Nat.{ℕ, zero, suc, ◌+◌, ◌-◌, ◌*◌, ◌≤◌, ◌<◌}
use mathlib.Core.Path.{◌≡◌, refl, sym, ap, ◌∙◌, subst}
use mathlib.Core.Bool.{Bool, false}
use mathlib.Core.List.{List, [], ◌∷◌, ◌++◌}
use native.Mathlib.Omega.{arith}
use lib.ListN.{length, get_or}
use Rattle.std.proofs.lemmas.Bool.{false_from_ne_true}
use Rattle.laws.specs.Lists.{numbers}
use Rattle.laws.specs.Stretches.{same_bytes}
use Rattle.laws.proofs.Lists.{numbers-empty}
use Rattle.laws.proofs.Stretches.{same_eq, same_refl}
use Rattle.graphs.specs.declared.TheConstants.{READS}
use Rattle.ordering.specs.Areas.{with_source, sources}
use Rattle.ordering.proofs.Scan.{first_some}
use Rattle.placing.specs.Definitions.{Definition, definition_at, definers, definers_of}
use Rattle.placing.specs.Resolved.{source_in, Resolves, Unique, Found, LookedUp}

module _ (ds : List Definition) (unique : Unique ds) where
  abbrev defines : List ℕ → ℕ → Bool
  defines w j = same_bytes (definition_at ds j).output w

  definers-none : (w : List ℕ) → Found ds w 0 → definers ds w ≡ []
  unfolding definers
  definers-none w h = numbers-empty (defines w) 0 (length ds) (λ j a b. false_from_ne_true (defines w j) (λ t. h j (omega arith) (same_eq (definition_at ds j).output w t)))

  definers-one : (w : List ℕ) (x : ℕ) → Found ds w (suc x) → definers ds w ≡ x ∷ []
  unfolding definers
  definers-one w x h =
      let m : length ds - 0 ≡ length ds = omega arith in
      ap (numbers (defines w) 0) (sym m) ∙ first_some (defines w) (length ds) 0 x (record { from = omega arith; none = λ j a b c. other j c (omega arith); here = λ l. ap (λ (v : List ℕ). same_bytes v w) h.1 ∙ same_refl w }) h.0
      ∙ ap (λ (l : List ℕ). x ∷ l) (numbers-empty (defines w) (x + 1) (length ds - (x + 1)) (λ j a b. other j (omega arith) (omega arith)))
    where
      other : (j : ℕ) → j < length ds → (j ≡ x → ⊥) → defines w j ≡ false
      other j l n = false_from_ne_true (defines w j) (λ t. n (unique j x l h.0 (same_eq (definition_at ds j).output w t ∙ sym h.1)))

  found-definers : (w : List ℕ) (k : ℕ) (xs : List ℕ) → Found ds w k → with_source k xs ≡ definers ds w ++ xs
  found-definers w zero xs h = ap (λ (l : List ℕ). l ++ xs) (sym (definers-none w h))
  found-definers w (suc x) xs h = ap (λ (l : List ℕ). l ++ xs) (sym (definers-one w x h))

  -- the words from e on are those of inputs, and 0
  by-words : (src : ℕ → ℕ) (ws : List (List ℕ)) (e m : ℕ) → length ws ≤ m → ((p : ℕ) → p < length ws → Found ds (get_or ws p []) (src (e + p))) → ((p : ℕ) → length ws ≤ p → p < m → src (e + p) ≡ 0) → sources src e m ≡ definers_of ds ws
  unfolding sources definers_of
  by-words src [] e zero few found none = refl
  by-words src [] e (suc m) few found none =
      let z : e ≡ e + 0 = omega arith in
      rw (ap src z ∙ none 0 (omega arith) (omega arith))
      (by-words src [] (suc e) m (omega arith) (λ p h. absurd (omega arith)) (λ p a b. let s : suc e + p ≡ e + suc p = omega arith in ap src s ∙ none (suc p) (omega arith) (omega arith)))
  by-words src (w ∷ ws) e zero few found none = absurd (omega arith)
  by-words src (w ∷ ws) e (suc m) few found none =
      let z : e + 0 ≡ e = omega arith in
      found-definers w (src e) (sources src (suc e) m) (subst (λ (i : ℕ). Found ds w (src i)) z (found 0 (omega arith)))
      ∙ ap (λ (l : List ℕ). definers ds w ++ l) (by-words src ws (suc e) m (omega arith)
      (λ p h. let s : e + suc p ≡ suc e + p = omega arith in subst (λ (i : ℕ). Found ds (get_or ws p []) (src i)) s (found (suc p) (omega arith)))
      (λ p a b. let s : suc e + p ≡ e + suc p = omega arith in ap src s ∙ none (suc p) (omega arith) (omega arith)))

pub looked-up-resolves : (words : List ℕ) (ds : List Definition) → Unique ds → LookedUp words ds → Resolves words ds
looked-up-resolves words ds unique looked k h =
    by-words ds unique (source_in words) (definition_at ds k).inputs (READS * k + 1) READS (looked.few k h)
    (λ p l. let s : READS * k + p ≡ READS * k + 1 + p - 1 = omega arith in subst (λ (i : ℕ). Found ds (get_or (definition_at ds k).inputs p []) (get_or words i 0)) s (looked.inputs k p h l))
    (λ p l m. let s : READS * k + 1 + p - 1 ≡ READS * k + p = omega arith in ap (λ (i : ℕ). get_or words i 0) s ∙ looked.rest k p h l m)
