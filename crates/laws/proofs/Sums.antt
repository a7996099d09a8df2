-- Lists written from the front, zeros, and areas of records with zeros after them.
-- Assumes nothing.
use mathlib.Core.Path.{◌≡◌, sym, ap, ap₂, ◌∙◌}
use mathlib.Core.List.{List, [], ◌∷◌, ◌++◌, append_assoc}
use Prim.Native.Nat.{ℕ, zero, suc, ◌+◌, ◌-◌, ◌*◌, ◌≤◌, ◌<◌}
use native.Mathlib.Nat.{add-zero, zero-add, suc-mul}
use native.Mathlib.Numerals.{add-one}
use native.Mathlib.Omega.{arith}
use lib.ListN.{length, get_or, set, drop, replicate, get_or-append}
use lib.Seq.{drop-cons, set_at, get_or-append-add}
use Rattle.laws.specs.Areas.{encodes, stored, up_from}
use Rattle.laws.proofs.Areas.{length_up, append_record}
use Rattle.laws.proofs.Filling.{length_snoc, zero_at}
use Rattle.laws.proofs.Storing.{up_at}

-- ---- f 0, f 1, .. in the place of the first elements of a list

module _ {A : Type 0} (f : ℕ → A) where
  up_snoc : (i m : ℕ) → up_from f i (suc m) ≡ up_from f i m ++ (f (i + m) ∷ [])
  up_snoc i zero = rw (add-zero i)
  up_snoc i (suc m) =
      let q : suc i + m ≡ i + suc m = omega arith in
      ap (λ (l : List A). f i ∷ l) (up_snoc (suc i) m ∙ ap (λ (k : ℕ). up_from f (suc i) m ++ (f k ∷ [])) q)

  -- the next one
  pub up_next : (m : ℕ) → up_from f 0 (m + 1) ≡ up_from f 0 m ++ (f m ∷ [])
  up_next m = ap (λ (k : ℕ). up_from f 0 k) (add-one m) ∙ up_snoc 0 m ∙ ap (λ (k : ℕ). up_from f 0 m ++ (f k ∷ [])) (zero-add m)

  pub front_more : (a l : List A) (d : A) (k : ℕ) → k < length l → a ≡ up_from f 0 k ++ drop k l → set a k (f k) ≡ up_from f 0 (k + 1) ++ drop (k + 1) l
  front_more a l d k h e =
      let p : List A = up_from f 0 k in
      ap (λ (x : List A). set x k (f k)) (e ∙ ap (λ (x : List A). p ++ x) (drop-cons l k d h))
      ∙ set_at p (get_or l k d) (drop (suc k) l) (f k) k (length_up f 0 k)
      ∙ sym (append_assoc p (f k ∷ []) (drop (suc k) l))
      ∙ ap₂ (λ (x : List A) (j : ℕ). x ++ drop j l) (sym (up_next k)) (sym (add-one k))

-- their elements, and those after them, which are zero
pub front_at : (f : ℕ → ℕ) (m k : ℕ) (rest : List ℕ) → k < m → get_or (up_from f 0 m ++ rest) k 0 ≡ f k
front_at f m k rest h =
    get_or-append (up_from f 0 m) rest 0 k (omega (arith, length_up f 0 m)) ∙ up_at f 0 0 m k h ∙ ap f (zero-add k)

pub past_front : (xs : List ℕ) (n k : ℕ) → length xs ≤ k → get_or (xs ++ replicate n 0) k 0 ≡ 0
past_front xs n k h =
    let q : k ≡ length xs + (k - length xs) = omega arith in
    ap (λ (j : ℕ). get_or (xs ++ replicate n 0) j 0) q ∙ get_or-append-add xs (replicate n 0) (k - length xs) 0 ∙ zero_at n (k - length xs)

-- ---- the next record of an area, its other words zero

pub next_record : {A : Type 0} (enc : A → List ℕ) (w : ℕ) → ((x : A) → length (enc x) ≡ w)
    → (a b : List ℕ) (xs : List A) (x : A) (k : ℕ) → length xs ≡ k → b ≡ stored a (k * w) (enc x) → length b ≡ length a
    → a ≡ encodes enc xs ++ replicate (length a - length xs * w) 0
    → b ≡ encodes enc (xs ++ (x ∷ [])) ++ replicate (length b - length (xs ++ (x ∷ [])) * w) 0
next_record enc w wide a b xs x k p e l h =
    let q : length (xs ++ (x ∷ [])) * w ≡ length xs * w + w = ap (λ (j : ℕ). j * w) (length_snoc xs x) ∙ omega (arith, suc-mul (length xs) w) in
    let r : length a - length xs * w - w ≡ length b - length (xs ++ (x ∷ [])) * w = omega (arith, q, l) in
    e
    ∙ ap₂ (λ (y : List ℕ) (j : ℕ). stored y (j * w) (enc x)) h (sym p)
    ∙ append_record enc w wide xs x (length a - length xs * w)
    ∙ ap (λ (j : ℕ). encodes enc (xs ++ (x ∷ [])) ++ replicate j 0) r
