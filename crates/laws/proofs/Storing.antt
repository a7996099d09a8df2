-- An area that holds records and zeros after them: the list read back, and what storing the next record leaves.
-- Assumes nothing.
use Prim.Native.Nat.{ℕ, zero, suc, ◌+◌, ◌-◌, ◌*◌, ◌<◌}
use mathlib.Core.Path.{◌≡◌, refl, sym, ap, ap₂, ◌∙◌}
use mathlib.Core.List.{List, [], ◌∷◌, ◌++◌}
use native.Mathlib.Nat.{suc-mul, add-zero}
use native.Mathlib.Numerals.{add-one}
use native.Mathlib.Omega.{arith}
use native.Mathlib.Decide.{dec_lt}
use lib.ListN.{length, get_or, replicate, length-append}
use Rattle.std.proofs.Common.{subst, zero-add}
use Rattle.std.proofs.Math.ListN.{get_or-append}
use Rattle.std.proofs.Math.Seq.{get_or-append_seam}
use Rattle.laws.specs.Areas.{encodes, stored, up_from}
use Rattle.laws.proofs.Areas.{length_up, word, append_record}

pub up_list : {A : Type 0} (f : ℕ → A) (xs : List A) (d : A) (i : ℕ) → ((k : ℕ) → k < length xs → f (i + k) ≡ get_or xs k d) → up_from f i (length xs) ≡ xs
up_list f [] d i h = refl
up_list f (x ∷ xs) d i h =
    ap₂ (λ y ys. y ∷ ys) (ap f (sym (add-zero i)) ∙ h 0 (omega arith))
    (up_list f xs d (suc i) (λ k q. ap f (omega arith) ∙ h (suc k) (omega arith)))

pub up_at : {A : Type 0} (f : ℕ → A) (d : A) (i m k : ℕ) → k < m → get_or (up_from f i m) k d ≡ f (i + k)
up_at f d i zero k h = absurd (omega arith)
up_at f d i (suc m) zero h = ap f (sym (add-zero i))
up_at f d i (suc m) (suc k) h = up_at f d (suc i) m k (omega arith) ∙ ap f (omega arith)

module _ {A : Type 0} (enc : A → List ℕ) (w : ℕ) (wide : (a : A) → length (enc a) ≡ w) (dec : (ℕ → ℕ) → A) (d : A) where
  abbrev pub record_at : List ℕ → ℕ → A
  record_at a i = dec (λ j. get_or a (i * w + j) 0)

  -- records whose code comes back where they are good, as every record is that was read
  module _ (Good : A → Type 0) (back : (a : A) → Good a → (f : ℕ → ℕ) → ((j : ℕ) → j < w → f j ≡ get_or (enc a) j 0) → dec f ≡ a)
      (made : (f : ℕ → ℕ) → Good (dec f)) where
    pub list_of_good : (a : List ℕ) (xs : List A) (rest : List ℕ) → ((k : ℕ) → k < length xs → Good (get_or xs k d)) → a ≡ encodes enc xs ++ rest
        → up_from (record_at a) 0 (length xs) ≡ xs
    list_of_good a xs rest good e =
        up_list (record_at a) xs d 0
        (λ k h. ap (λ (i : ℕ). record_at a i) (zero-add k) ∙ ap (λ (l : List ℕ). record_at l k) e
        ∙ back (get_or xs k d) (good k h) (λ j. get_or (encodes enc xs ++ rest) (k * w + j) 0) (λ j l. word enc w wide xs rest d k j h l))

    module _ (a b : List ℕ) (m : ℕ) (x : A) (fine : Good x) (put : b ≡ stored a (m * w) (enc x)) (same : length b ≡ length a)
        (clean : a ≡ encodes enc (up_from (record_at a) 0 m) ++ replicate (length a - m * w) 0) where
      xs : List A
      xs = up_from (record_at a) 0 m

      count : length xs ≡ m
      unfolding xs
      count = length_up (record_at a) 0 m

      now_is : b ≡ encodes enc (xs ++ (x ∷ [])) ++ replicate (length a - m * w - w) 0
      unfolding xs
      now_is =
          put
          ∙ ap₂ (λ (l : List ℕ) (k : ℕ). stored l (k * w) (enc x)) clean (sym count)
          ∙ append_record enc w wide xs x (length a - m * w)

      size : length (xs ++ (x ∷ [])) ≡ m + 1
      size = length-append xs (x ∷ []) ∙ omega (arith, count)

      good : (k : ℕ) → k < length (xs ++ (x ∷ [])) → Good (get_or (xs ++ (x ∷ [])) k d)
      unfolding xs
      good k h = go (dec_lt k m)
        where
          go : Dec (k < m) → Good (get_or (xs ++ (x ∷ [])) k d)
          go (yes l) =
              let e : get_or (xs ++ (x ∷ [])) k d ≡ record_at a (0 + k) = get_or-append xs (x ∷ []) d k (omega (arith, count)) ∙ up_at (record_at a) d 0 m k l in
              subst Good (sym e) (made (λ j. get_or a ((0 + k) * w + j) 0))
          go (no l) =
              let e : length xs ≡ k = omega (arith, count, size) in
              subst (λ (j : ℕ). Good (get_or (xs ++ (x ∷ [])) j d)) e (subst Good (sym (get_or-append_seam xs x [] d)) fine)

      pub more_good_list : up_from (record_at b) 0 (m + 1) ≡ up_from (record_at a) 0 m ++ (x ∷ [])
      unfolding xs
      more_good_list = ap (λ (k : ℕ). up_from (record_at b) 0 k) (sym size) ∙ list_of_good b (xs ++ (x ∷ [])) _ good now_is

      pub more_good_clean : b ≡ encodes enc (up_from (record_at b) 0 (m + 1)) ++ replicate (length b - (m + 1) * w) 0
      unfolding xs
      more_good_clean =
          let q : (m + 1) * w ≡ m * w + w = rw (add-one m) (omega (arith, suc-mul m w)) in
          let r : length a - m * w - w ≡ length b - (m + 1) * w = omega (arith, q, same) in
          now_is ∙ ap₂ (λ (l : List A) (k : ℕ). encodes enc l ++ replicate k 0) (sym more_good_list) r

-- records that all come back from their code
module _ {A : Type 0} (enc : A → List ℕ) (w : ℕ) (wide : (a : A) → length (enc a) ≡ w) (dec : (ℕ → ℕ) → A)
    (back : (a : A) (f : ℕ → ℕ) → ((j : ℕ) → j < w → f j ≡ get_or (enc a) j 0) → dec f ≡ a) (d : A) where
  abbrev Any : A → Type 0
  Any x = Unit

  pub list_of : (a : List ℕ) (xs : List A) (rest : List ℕ) → a ≡ encodes enc xs ++ rest → up_from (λ i. dec (λ j. get_or a (i * w + j) 0)) 0 (length xs) ≡ xs
  list_of a xs rest e = list_of_good enc w wide dec d Any (λ x _. back x) (λ f. tt) a xs rest (λ k h. tt) e

  module _ (a b : List ℕ) (m : ℕ) (x : A) (put : b ≡ stored a (m * w) (enc x)) (same : length b ≡ length a)
      (clean : a ≡ encodes enc (up_from (λ i. dec (λ j. get_or a (i * w + j) 0)) 0 m) ++ replicate (length a - m * w) 0) where
    pub more_list : up_from (λ i. dec (λ j. get_or b (i * w + j) 0)) 0 (m + 1) ≡ up_from (λ i. dec (λ j. get_or a (i * w + j) 0)) 0 m ++ (x ∷ [])
    more_list = more_good_list enc w wide dec d Any (λ y _. back y) (λ f. tt) a b m x tt put same clean

    pub more_clean : b ≡ encodes enc (up_from (λ i. dec (λ j. get_or b (i * w + j) 0)) 0 (m + 1)) ++ replicate (length b - (m + 1) * w) 0
    more_clean = more_good_clean enc w wide dec d Any (λ y _. back y) (λ f. tt) a b m x tt put same clean
