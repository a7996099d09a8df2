-- Lists that grow at the end or are filled from the front, zeros, and what a choice has.
-- Assumes nothing.
use mathlib.Core.Path.{◌≡◌, refl, sym, ap, ap₂, ◌∙◌}
use mathlib.Core.Bool.{Bool, true, false, cond}
use mathlib.Core.List.{List, [], ◌∷◌, ◌++◌, append_assoc}
use Prim.Native.Nat.{ℕ, suc, ◌+◌, ◌-◌, ◌<◌, ◌≤◌}
use native.Mathlib.Numerals.{add-one}
use native.Mathlib.Omega.{arith}
use lib.Dec.{ltb}
use borrow.Author.Tests.{ltb-true, ltb-false}
use lib.ListN.{length, get_or, set, take, drop, replicate, length-append, length-replicate, get_or-replicate, get_or-append, get_or-eq_default, drop_of_length-le}
use lib.Seq.{drop-cons, take-suc, set_at, length-take-le, get_or-append_seam}
use Rattle.std.proofs.lemmas.List.{drop-replicate, take_all}
use Rattle.std.proofs.Common.{append-nil}

-- ---- a choice

-- what holds of both holds of the one that a test chooses
pub cond_both : {A : Type 0} (P : A → Type 0) (t : Bool) (x y : A) → P x → P y → P (cond t x y)
cond_both P true x y p q = p
cond_both P false x y p q = q

pub cond_pair : {A : Type 0} (P : A → A → Type 0) (t : Bool) (x y u v : A) → P x u → P y v → P (cond t x y) (cond t u v)
cond_pair P true x y u v p q = p
cond_pair P false x y u v p q = q

-- ---- one element more at the end

pub length_snoc : {A : Type 0} (l : List A) (x : A) → length (l ++ x ∷ []) ≡ suc (length l)
length_snoc l x = length-append l (x ∷ []) ∙ omega arith

module _ (l : List ℕ) (x : ℕ) where
  pub snoc_below : (k : ℕ) → k < length l → get_or (l ++ x ∷ []) k 0 ≡ get_or l k 0
  snoc_below k h = get_or-append l (x ∷ []) 0 k h

  pub snoc_last : get_or (l ++ x ∷ []) (length l) 0 ≡ x
  snoc_last = get_or-append_seam l x [] 0

  pub snoc_past : (k : ℕ) → length l < k → get_or (l ++ x ∷ []) k 0 ≡ 0
  snoc_past k h = get_or-eq_default (l ++ x ∷ []) 0 (omega (arith, length_snoc l x))

-- ---- a list filled from the front

pub take_next : (l : List ℕ) (i : ℕ) → i < length l → take i l ++ get_or l i 0 ∷ [] ≡ take (i + 1) l
take_next l i h = sym (take-suc l i 0 h) ∙ ap (λ (k : ℕ). take k l) (sym (add-one i))

-- the next element of the full list is stored
pub fill_next : {A : Type 0} (d : A) (full a : List A) (j : ℕ) → j < length full → j < length a
    → set (take j full ++ drop j a) j (get_or full j d) ≡ take (j + 1) full ++ drop (j + 1) a
fill_next d full a j h g =
    ap (λ l. set (take j full ++ l) j (get_or full j d)) (drop-cons a j d g)
    ∙ set_at (take j full) (get_or a j d) (drop (suc j) a) (get_or full j d) j (length-take-le j full (omega arith))
    ∙ sym (append_assoc (take j full) (get_or full j d ∷ []) (drop (suc j) a))
    ∙ ap₂ (λ x k. x ++ drop k a) (sym (take-suc full j d h) ∙ ap (λ (k : ℕ). take k full) (sym (add-one j))) (sym (add-one j))

-- filled up to its end it is the full list
pub fill_all : {A : Type 0} (full a : List A) (j : ℕ) → length full ≤ j → length a ≤ j → take j full ++ drop j a ≡ full
fill_all full a j h g = ap₂ (λ x y. x ++ y) (take_all j full h) (drop_of_length-le a g) ∙ append-nil full

-- what was zeros is zeros after what was filled in
pub filled_zeros : (a b : List ℕ) (n count : ℕ) (full : List ℕ) → a ≡ full ++ drop count b → b ≡ replicate n 0 → a ≡ full ++ replicate (n - count) 0
filled_zeros a b n count full e f = e ∙ ap (λ (l : List ℕ). full ++ l) (ap (drop count) f ∙ drop-replicate {X = ℕ} count n 0)

-- ---- zeros

pub zero_at : (n i : ℕ) → ◌≡◌ {A = ℕ} (get_or (replicate n 0) i 0) 0
zero_at n i = go (ltb i n) refl
  where
    go : (t : Bool) → ltb i n ≡ t → ◌≡◌ {A = ℕ} (get_or (replicate n 0) i 0) 0
    go true e = get_or-replicate n i 0 0 (ltb-true i n e)
    go false e = get_or-eq_default (replicate n 0) 0 (omega (arith, length-replicate {A = ℕ} n 0, ltb-false i n e))
