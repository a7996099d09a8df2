-- The elements of a list that pass a test: where each stands among them, and which one stands at a place.
-- Assumes nothing.
use Rattle.std.proofs.Common.{ℕ, zero, suc, ◌+◌, ◌<◌, ◌≤◌, ◌≡◌, Bool, true, false, cond, List, [], ◌∷◌, length, take, get_or, refl, ap, ◌∙◌, arith, length-take-le}
use Rattle.std.specs.List.{filter, count_by}
use Rattle.std.proofs.lemmas.List.{get_or-take, take-take}
use Rattle.std.proofs.lemmas.List.Sums.{length-filter, sum_by-cons}

module _ {A : Type 0} (p : A → Bool) (d : A) where
  -- how many pass before place k
  abbrev pub before : List A → ℕ → ℕ
  before xs k = count_by p (take k xs)

  before_more : (x : A) (xs : List A) (k : ℕ) → before (x ∷ xs) (suc k) ≡ cond (p x) 1 0 + before xs k
  before_more x xs k = sum_by-cons (λ y. cond (p y) 1 0) x (take k xs)

  after_one : (x : A) (xs : List A) (k : ℕ) → p x ≡ true → before (x ∷ xs) (suc k) ≡ suc (before xs k)
  after_one x xs k e = before_more x xs k ∙ rw e (omega arith)

  after_other : (x : A) (xs : List A) (k : ℕ) → p x ≡ false → before (x ∷ xs) (suc k) ≡ before xs k
  after_other x xs k e = before_more x xs k ∙ rw e (omega arith)

  -- one that passes stands among them after those before it
  pub record KeptAt (xs : List A) (k : ℕ) : Type 0 where
    pub inside : before xs k < length (filter p xs)
    pub at : get_or (filter p xs) (before xs k) d ≡ get_or xs k d

  pub kept_at : (xs : List A) (k : ℕ) → k < length xs → p (get_or xs k d) ≡ true → KeptAt xs k
  kept_at [] k h e = absurd (omega arith)
  kept_at (x ∷ xs) zero h e = record { inside = rw e (omega arith); at = rw e }
  kept_at (x ∷ xs) (suc k) h e = go (p x) refl (kept_at xs k (omega arith) e)
    where
      go : (t : Bool) → p x ≡ t → KeptAt xs k → KeptAt (x ∷ xs) (suc k)
      go true q s = let b = after_one x xs k q in record { inside = rw (b, q) (omega (arith, s.inside)); at = rw (b, q) s.at }
      go false q s = let b = after_other x xs k q in record { inside = rw (b, q) s.inside; at = rw (b, q) s.at }

  -- so of two that pass the earlier stands earlier
  pub kept_before : (xs : List A) (j k : ℕ) → j < k → k ≤ length xs → p (get_or xs j d) ≡ true → before xs j < before xs k
  kept_before xs j k h l e =
      let front = kept_at (take k xs) j (omega (arith, length-take-le k xs l)) (ap p (get_or-take k xs j d h) ∙ e) in
      let z : before (take k xs) j ≡ before xs j = let w : j ≤ k = omega arith in ap (count_by p) (take-take j k xs w) in
      omega (arith, front.inside, z, length-filter p (take k xs))

  -- the one at a place passes
  pub record StandsAt (xs : List A) (i : ℕ) : Type 0 where
    pub place : ℕ
    pub within : place < length xs
    pub passes : p (get_or xs place d) ≡ true
    pub is : before xs place ≡ i

  pub stands_at : (xs : List A) (i : ℕ) → i < before xs (length xs) → StandsAt xs i
  stands_at [] i h = absurd (omega arith)
  stands_at (x ∷ xs) i h = go (p x) refl i h (stands_at xs)
    where
      go : (t : Bool) → p x ≡ t → (i : ℕ) → i < before (x ∷ xs) (suc (length xs)) → ((i : ℕ) → i < before xs (length xs) → StandsAt xs i) → StandsAt (x ∷ xs) i
      go true q zero h later = record { place = 0; within = omega arith; passes = q; is = refl }
      go true q (suc i) h later =
          let s = later i (omega (arith, h, after_one x xs (length xs) q)) in
          record { place = suc s.place; within = omega (arith, s.within); passes = s.passes; is = after_one x xs s.place q ∙ ap suc s.is }
      go false q i h later =
          let s = later i (omega (arith, h, after_other x xs (length xs) q)) in
          record { place = suc s.place; within = omega (arith, s.within); passes = s.passes; is = after_other x xs s.place q ∙ s.is }
