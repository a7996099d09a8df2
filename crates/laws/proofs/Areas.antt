-- Areas of records of one width: what stands in a record of `encodes xs ++ rest`, and what a store of the next record gives.
-- Assumes nothing.
use mathlib.Core.Path.{◌≡◌, refl, sym, ap, ap₂, ◌∙◌}
use mathlib.Core.List.{List, [], ◌∷◌, ◌++◌, append_assoc, append-nil}
use Prim.Native.Nat.{ℕ, zero, suc, ◌+◌, ◌-◌, ◌*◌, ◌≤◌, ◌<◌}
use native.Mathlib.Nat.{suc-mul, zero-mul, add_assoc, zero-add, le_of_suc-le-suc, not-suc-le-zero, sub-zero}
use native.Mathlib.Numerals.{add-one}
use native.Mathlib.Omega.{arith}
use lib.ListN.{length, set, get_or, take, drop, replicate, length-append, get_or-append}
use lib.Seq.{paste, take-length, drop_at, take-append-add, take_at, drop-append-add, get_or-append-add}
use Rattle.laws.specs.Areas.{encodes, stored, up_from}
use Rattle.std.proofs.lemmas.List.{drop-replicate}

-- ---- what a scan has left

module _ {A : Type 0} (f : ℕ → A) where
  pub length_up : (i m : ℕ) → length (up_from f i m) ≡ m
  length_up i zero = refl
  length_up i (suc m) = ap suc (length_up (suc i) m)

  pub up_start : (m : ℕ) → up_from f 0 m ≡ up_from f 0 (m - 0)
  up_start m = ap (λ (k : ℕ). up_from f 0 k) (sym (sub-zero m))

  pub up_more : (i m : ℕ) → i < m → up_from f i (m - i) ≡ f i ∷ up_from f (i + 1) (m - (i + 1))
  up_more i m h =
      let more : m - i ≡ suc (m - (i + 1)) = omega arith in
      ap (λ (k : ℕ). up_from f i k) more ∙ ap (λ (j : ℕ). f i ∷ up_from f j (m - (i + 1))) (sym (add-one i))

  pub up_none : (i m : ℕ) → m ≤ i → up_from f i (m - i) ≡ []
  up_none i m h =
      let none : m - i ≡ 0 = omega arith in
      ap (λ (k : ℕ). up_from f i k) none

pub paste-stored : (d : List ℕ) (at : ℕ) (s : List ℕ) (j : ℕ) → j ≡ length s → paste d at s j ≡ stored d at s
unfolding stored
paste-stored d at s j e =
    ap (λ (k : ℕ). paste d at s k) e ∙ ap (λ (l : List ℕ). take at d ++ l ++ drop (at + length s) d) (take-length s)

stored_front : (p l v : List ℕ) → length p ≡ length v → stored (p ++ l) 0 v ≡ v ++ l
unfolding stored
stored_front p l v e = ap (λ (m : List ℕ). v ++ m) (drop_at p l (0 + length v) (omega (arith, e)))

stored_after : (p l v : List ℕ) (k : ℕ) → stored (p ++ l) (length p + k) v ≡ p ++ stored l k v
unfolding stored
stored_after p l v k =
    ap₂ (λ (x y : List ℕ). x ++ v ++ y) (take-append-add p l k)
    (ap (λ (n : ℕ). drop n (p ++ l)) (add_assoc (length p) k (length v)) ∙ drop-append-add p l (k + length v))
    ∙ simp append_assoc

module _ {A : Type 0} (enc : A → List ℕ) where
  pub encodes-append : (xs ys : List A) → encodes enc (xs ++ ys) ≡ encodes enc xs ++ encodes enc ys
  encodes-append [] ys = refl
  encodes-append (x ∷ xs) ys = ap (λ (l : List ℕ). enc x ++ l) (encodes-append xs ys) ∙ sym (append_assoc (enc x) (encodes enc xs) (encodes enc ys))

  module _ (w : ℕ) (wide : (a : A) → length (enc a) ≡ w) where
    pub length-encodes : (xs : List A) → length (encodes enc xs) ≡ length xs * w
    length-encodes [] = sym (zero-mul w)
    length-encodes (x ∷ xs) =
        length-append (enc x) (encodes enc xs)
        ∙ omega (arith, wide x, length-encodes xs, suc-mul (length xs) w)

    -- word j of record i
    pub word : (xs : List A) (rest : List ℕ) (d : A) (i j : ℕ) → i < length xs → j < w
        → get_or (encodes enc xs ++ rest) (i * w + j) 0 ≡ get_or (enc (get_or xs i d)) j 0
    word [] rest d i j hi hj = absurd (not-suc-le-zero hi)
    word (x ∷ xs) rest d zero j hi hj =
        ap₂ (λ (l : List ℕ) (k : ℕ). get_or l k 0) (append_assoc (enc x) (encodes enc xs) rest) (ap (λ (k : ℕ). k + j) (zero-mul w) ∙ zero-add j)
        ∙ get_or-append (enc x) (encodes enc xs ++ rest) 0 j (omega (arith, wide x))
    word (x ∷ xs) rest d (suc i) j hi hj =
        ap₂ (λ (l : List ℕ) (k : ℕ). get_or l k 0) (append_assoc (enc x) (encodes enc xs) rest) (omega (arith, wide x, suc-mul i w))
        ∙ get_or-append-add (enc x) (encodes enc xs ++ rest) (i * w + j) 0
        ∙ word xs rest d i j (le_of_suc-le-suc hi) hj

    -- a record comes back from its words
    pub record-at : (dec : (ℕ → ℕ) → A) → ((a : A) (f : ℕ → ℕ) → ((j : ℕ) → j < w → f j ≡ get_or (enc a) j 0) → dec f ≡ a)
        → (xs : List A) (rest : List ℕ) (d : A) (i : ℕ) → i < length xs
        → dec (λ j. get_or (encodes enc xs ++ rest) (i * w + j) 0) ≡ get_or xs i d
    record-at dec back xs rest d i hi =
        back (get_or xs i d) (λ j. get_or (encodes enc xs ++ rest) (i * w + j) 0) (λ j hj. word xs rest d i j hi hj)

    -- the next record, stored where the zeros begin
    pub append_record : (xs : List A) (x : A) (m : ℕ)
        → stored (encodes enc xs ++ replicate m 0) (length xs * w) (enc x) ≡ encodes enc (xs ++ (x ∷ [])) ++ replicate (m - w) 0
    unfolding stored
    append_record xs x m =
        let E = encodes enc xs in
        let Z : List ℕ = replicate m 0 in
        ap₂ (λ (p q : List ℕ). p ++ enc x ++ q) (take_at E Z (length xs * w) (length-encodes xs))
        (ap (λ (k : ℕ). drop (k + length (enc x)) (E ++ Z)) (sym (length-encodes xs))
        ∙ drop-append-add E Z (length (enc x)) ∙ drop-replicate {X = ℕ} (length (enc x)) m 0 ∙ ap (λ (k : ℕ). replicate (m - k) 0) (wide x))
        ∙ ap (λ (l : List ℕ). l ++ replicate (m - w) 0)
        (sym (encodes-append xs (x ∷ []) ∙ ap (λ (l : List ℕ). E ++ l) (append-nil (enc x))))

    -- record i, stored anew
    pub set_record : (xs : List A) (x : A) (i : ℕ) (rest : List ℕ) → i < length xs
        → stored (encodes enc xs ++ rest) (i * w) (enc x) ≡ encodes enc (set xs i x) ++ rest
    set_record [] x i rest h = absurd (not-suc-le-zero h)
    set_record (y ∷ xs) x zero rest h =
        ap₂ (λ (l : List ℕ) (k : ℕ). stored l k (enc x)) (append_assoc (enc y) (encodes enc xs) rest) (zero-mul w)
        ∙ stored_front (enc y) (encodes enc xs ++ rest) (enc x) (wide y ∙ sym (wide x))
        ∙ sym (append_assoc (enc x) (encodes enc xs) rest)
    set_record (y ∷ xs) x (suc i) rest h =
        ap₂ (λ (l : List ℕ) (k : ℕ). stored l k (enc x)) (append_assoc (enc y) (encodes enc xs) rest) (omega (arith, wide y, suc-mul i w))
        ∙ stored_after (enc y) (encodes enc xs ++ rest) (enc x) (i * w)
        ∙ ap (λ (l : List ℕ). enc y ++ l) (set_record xs x i rest (le_of_suc-le-suc h))
        ∙ sym (append_assoc (enc y) (encodes enc (set xs i x)) rest)
