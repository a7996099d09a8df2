-- Numbers in a list, and the numbers of a range that pass a test.
-- Assumes nothing.
use Prim.Native.Nat.{ℕ, zero, suc, ◌+◌, ◌≤◌, ◌<◌}
use mathlib.Core.Path.{◌≡◌, refl, sym, ap, ◌∙◌}
use mathlib.Core.Logic.{◌⊎◌, inl, inr, ◌≢◌}
use mathlib.Core.Bool.{Bool, true, false, ◌||◌, false≢true}
use mathlib.Core.List.{List, [], ◌∷◌, ◌++◌}
use native.Mathlib.Omega.{arith}
use native.Mathlib.Numerals.{add-one}
use lib.Dec.{eqb}
use lib.ListN.{length, get_or, take, drop, drop_of_length-le}
use lib.Seq.{drop-cons}
use borrow.Author.Tests.{eqb-true, eqb-false, eq-eqb, ne_eqb}
use Rattle.std.proofs.Math.Bool.{or-false, or-true, or_assoc}
use Rattle.std.proofs.lemmas.Bool.{false_from_ne_true, or_parts}
use Rattle.laws.specs.Lists.{elem, keep, numbers, some}
use Rattle.laws.proofs.Tests.{clash}

pub elem-append : (k : ℕ) (s t : List ℕ) → elem k (s ++ t) ≡ elem k s || elem k t
elem-append k [] t = refl
elem-append k (x ∷ s) t = ap (λ z. eqb k x || z) (elem-append k s t) ∙ sym (or_assoc (eqb k x) (elem k s) (elem k t))

pub elem_snoc_same : (p : ℕ) (t : List ℕ) → elem p (t ++ p ∷ []) ≡ true
elem_snoc_same p t = rw (elem-append p t (p ∷ []), eq-eqb p p refl) (or-true (elem p t))

pub elem_snoc_more : (k p : ℕ) (t : List ℕ) → elem k t ≡ true → elem k (t ++ p ∷ []) ≡ true
elem_snoc_more k p t h = rw (elem-append k t (p ∷ []), h)

pub elem_snoc_other : (k p : ℕ) (t : List ℕ) → k ≢ p → elem k (t ++ p ∷ []) ≡ elem k t
elem_snoc_other k p t h = rw (elem-append k t (p ∷ []), ne_eqb k p h) (or-false (elem k t))

pub elem-cons-split : (k x : ℕ) (xs : List ℕ) → elem k (x ∷ xs) ≡ true → (k ≡ x) ⊎ (elem k xs ≡ true)
elem-cons-split k x xs h = go (eqb k x) refl
  where
    go : (t : Bool) → eqb k x ≡ t → (k ≡ x) ⊎ (elem k xs ≡ true)
    go true e = inl (eqb-true k x e)
    go false e = inr (rw e at h)

pub elem_snoc_split : (k p : ℕ) (t : List ℕ) → elem k (t ++ p ∷ []) ≡ true → (k ≡ p) ⊎ (elem k t ≡ true)
elem_snoc_split k p t h = go (eqb k p) refl
  where
    go : (b : Bool) → eqb k p ≡ b → (k ≡ p) ⊎ (elem k t ≡ true)
    go true e = inl (eqb-true k p e)
    go false e = inr (sym (elem_snoc_other k p t (eqb-false k p e)) ∙ h)

-- the numbers that pass a test

pub numbers_in : (p : ℕ → Bool) (from n k : ℕ) → elem k (numbers p from n) ≡ true → (p k ≡ true) × (from ≤ k) × (k < from + n)
unfolding numbers
numbers_in p from zero k h = absurd (false≢true h)
numbers_in p from (suc n) k h = go (p from) refl (λ g. numbers_in p (suc from) n k g)
  where
    wide : (p k ≡ true) × (suc from ≤ k) × (k < suc from + n) → (p k ≡ true) × (from ≤ k) × (k < from + suc n)
    wide t = (t.0, omega (arith, t.1), omega (arith, t.2))

    go : (b : Bool) → p from ≡ b → (elem k (numbers p (suc from) n) ≡ true → (p k ≡ true) × (suc from ≤ k) × (k < suc from + n)) → (p k ≡ true) × (from ≤ k) × (k < from + suc n)
    go false e below = wide (below (rw e at h))
    go true e below = fork (elem-cons-split k from (numbers p (suc from) n) (rw e at h))
      where
        fork : (k ≡ from) ⊎ (elem k (numbers p (suc from) n) ≡ true) → (p k ≡ true) × (from ≤ k) × (k < from + suc n)
        fork (inl q) = (ap p q ∙ e, omega arith, omega arith)
        fork (inr g) = wide (below g)

pub in_numbers : (p : ℕ → Bool) (from n k : ℕ) → p k ≡ true → from ≤ k → k < from + n → elem k (numbers p from n) ≡ true
unfolding numbers
in_numbers p from zero k h a b = absurd (omega arith)
in_numbers p from (suc n) k h a b = go (p from) refl (eqb k from) refl (λ g. in_numbers p (suc from) n k h g (omega arith))
  where
    go : (t : Bool) → p from ≡ t → (u : Bool) → eqb k from ≡ u → (suc from ≤ k → elem k (numbers p (suc from) n) ≡ true) → elem k (keep (p from) from (numbers p (suc from) n)) ≡ true
    go true e true q below = rw (e, q)
    go true e false q below = rw (e, q) (below (omega (arith, eqb-false k from q)))
    go false e true q below = absurd (clash h (ap p (eqb-true k from q) ∙ e))
    go false e false q below = rw e (below (omega (arith, eqb-false k from q)))

pub numbers-none : (p : ℕ → Bool) (n k : ℕ) → numbers p 0 n ≡ [] → k < n → p k ≡ false
numbers-none p n k e h = false_from_ne_true (p k) (λ q. false≢true (sym (ap (elem k) e) ∙ in_numbers p 0 n k q (omega arith) (omega arith)))

-- two tests that agree on every number pass the same numbers
pub numbers_same : (p q : ℕ → Bool) (from n : ℕ) → ((k : ℕ) → from ≤ k → k < from + n → q k ≡ p k) → numbers q from n ≡ numbers p from n
unfolding numbers
numbers_same p q from zero h = refl
numbers_same p q from (suc n) h =
    rw (h from (omega arith) (omega arith)) (ap (keep (p from) from) (numbers_same p q (suc from) n (λ k a b. h k (omega arith) (omega arith))))

-- the test q passes one number less than p
pub one_less : (p q : ℕ → Bool) (from n x : ℕ) → from ≤ x → x < from + n → p x ≡ true → q x ≡ false → ((k : ℕ) → k ≢ x → q k ≡ p k) → suc (length (numbers q from n)) ≡ length (numbers p from n)
unfolding numbers
one_less p q from zero x a b hp hq same = absurd (omega arith)
one_less p q from (suc n) x a b hp hq same = go (eqb x from) refl (λ g. one_less p q (suc from) n x g (omega arith) hp hq same)
  where
    others : (k : ℕ) → suc from ≤ k → (x ≡ from) → k < suc from + n → q k ≡ p k
    others k g e l = same k (omega arith)

    grow : (t : Bool) (l₁ l₂ : List ℕ) → suc (length l₁) ≡ length l₂ → suc (length (keep t from l₁)) ≡ length (keep t from l₂)
    grow true l₁ l₂ e = ap suc e
    grow false l₁ l₂ e = e

    go : (t : Bool) → eqb x from ≡ t → (suc from ≤ x → suc (length (numbers q (suc from) n)) ≡ length (numbers p (suc from) n)) → suc (length (keep (q from) from (numbers q (suc from) n))) ≡ length (keep (p from) from (numbers p (suc from) n))
    go true e below =
        let at : x ≡ from = eqb-true x from e in
        rw (ap q (sym at) ∙ hq, ap p (sym at) ∙ hp, numbers_same p q (suc from) n (λ k g l. others k g at l))
    go false e below =
        rw (same from (λ z. eqb-false x from e (sym z))) (grow (p from) _ _ (below (omega (arith, eqb-false x from e))))

pub numbers-empty : (p : ℕ → Bool) (from n : ℕ) → ((k : ℕ) → from ≤ k → k < from + n → p k ≡ false) → numbers p from n ≡ []
unfolding numbers
numbers-empty p from zero h = refl
numbers-empty p from (suc n) h = rw (h from (omega arith) (omega arith)) (numbers-empty p (suc from) n (λ k a b. h k (omega arith) (omega arith)))

pub elem-later : (k x : ℕ) (xs : List ℕ) → elem k xs ≡ true → elem k (x ∷ xs) ≡ true
elem-later k x xs h = rw h (or-true (eqb k x))

pub elem_here : (k x : ℕ) (xs : List ℕ) → k ≡ x → elem k (x ∷ xs) ≡ true
elem_here k x xs e = rw (eq-eqb k x e)

pub elem-take : (w k : ℕ) (l : List ℕ) → elem k (take w l) ≡ true → elem k l ≡ true
elem-take zero k l h = absurd (false≢true h)
elem-take (suc w) k [] h = h
elem-take (suc w) k (x ∷ xs) h = fork (elem-cons-split k x (take w xs) h) (elem-take w k xs)
  where
    fork : (k ≡ x) ⊎ (elem k (take w xs) ≡ true) → (elem k (take w xs) ≡ true → elem k xs ≡ true) → elem k (x ∷ xs) ≡ true
    fork (inl e) below = elem_here k x xs e
    fork (inr g) below = elem-later k x xs (below g)

-- ---- a scan for an element that passes a test: of a list from place k on, and of f i, f (i + 1), .. up to m

module _ {A : Type 0} (p : A → Bool) (l : List A) (d : A) (k : ℕ) where
  pub some_here : k < length l → p (get_or l k d) ≡ true → some p (drop k l) ≡ true
  some_here h e = rw (drop-cons l k d h, e)

  pub some-later : k < length l → p (get_or l k d) ≡ false → some p (drop k l) ≡ some p (drop (k + 1) l)
  some-later h e = rw (drop-cons l k d h, e, add-one k)

pub some_past : {A : Type 0} (p : A → Bool) (l : List A) (k : ℕ) → length l ≤ k → some p (drop k l) ≡ false
some_past p l k h = rw (drop_of_length-le l h)

-- none of a list passes: then not the one at k
pub none_at : {A : Type 0} (p : A → Bool) (l : List A) (d : A) (k : ℕ) → k < length l → some p l ≡ false → p (get_or l k d) ≡ false
none_at p [] d k h e = absurd (omega arith)
none_at p (x ∷ xs) d zero h e = (or_parts (p x) (some p xs) e).0
none_at p (x ∷ xs) d (suc k) h e = none_at p xs d k (omega arith) (or_parts (p x) (some p xs) e).1

-- where no element passes a test, none passes a narrower one
pub none_narrower : {A : Type 0} (p q : A → Bool) → ((a : A) → p a ≡ false → q a ≡ false) → (l : List A) → some p l ≡ false → some q l ≡ false
none_narrower p q h [] e = refl
none_narrower p q h (x ∷ xs) e = rw (h x (or_parts (p x) (some p xs) e).0) (none_narrower p q h xs (or_parts (p x) (some p xs) e).1)
