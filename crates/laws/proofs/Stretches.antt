-- Laws of stretches, of runs and of lists compared element by element; what a loop over a stretch has left.
-- Assumes nothing.
use Prim.Native.Nat.{ℕ, zero, suc, ◌+◌, ◌-◌, ◌≤◌, ◌<◌}
use mathlib.Core.Path.{◌≡◌, refl, sym, ap, ap₂, ◌∙◌}
use mathlib.Core.Bool.{Bool, true, false, cond, ◌&&◌, false≢true}
use mathlib.Core.List.{List, [], ◌∷◌, ◌++◌}
use native.Mathlib.Nat.{sub-zero, suc-sub-suc}
use native.Mathlib.Numerals.{add-one}
use native.Mathlib.Omega.{arith}
use lib.ListN.{length, get_or, take, drop, length-take, length-drop}
use lib.Seq.{drop-cons, drop-drop, take-nil, take-take, take-length, get_or-drop, get_or-take}
use lib.Dec.{eqb, eqb-suc-zero}
use borrow.Author.Tests.{eq-eqb, eqb-true}
use Rattle.laws.specs.Stretches.{stretch, run, same_bytes, is_empty, All}

-- ---- what is left of a stretch after i elements, and at its end

pub rest_step : (t : List ℕ) (s n i : ℕ) → i < n → s + n ≤ length t → stretch t (s + i) (n - i) ≡ get_or t (s + i) 0 ∷ stretch t (s + (i + 1)) (n - (i + 1))
unfolding stretch
rest_step t s n i h k =
    let l : s + i < length t = omega arith in
    let e : n - i ≡ suc (n - (i + 1)) = omega arith in
    let f : suc (s + i) ≡ s + (i + 1) = omega arith in
    rw (e, drop-cons t (s + i) 0 l, f)

pub rest_end : (t : List ℕ) (s n i : ℕ) → n ≤ i → stretch t s (n - i) ≡ []
unfolding stretch
rest_end t s n i h =
    let e : n - i ≡ 0 = omega arith in
    rw e

-- what is left of a stretch up to an end, from its first place
pub part_step : (t : List ℕ) (s e : ℕ) → s < e → e ≤ length t → stretch t s (e - s) ≡ get_or t s 0 ∷ stretch t (s + 1) (e - (s + 1))
unfolding stretch
part_step t s e h k =
    let l : s < length t = omega arith in
    let q : e - s ≡ suc (e - (s + 1)) = omega arith in
    let f : suc s ≡ s + 1 = omega arith in
    rw (q, drop-cons t s 0 l, f)

pub head_step : (t : List ℕ) (s n : ℕ) → 0 < n → s + n ≤ length t → stretch t s n ≡ get_or t s 0 ∷ stretch t (s + 1) (n - 1)
unfolding stretch
head_step t s n h k =
    let l : s < length t = omega arith in
    let q : n ≡ suc (n - 1) = omega arith in
    rw (drop-cons t s 0 l, add-one s) (ap (λ (m : ℕ). take m (get_or t s 0 ∷ drop (suc s) t)) q)

pub stretch-none : (t : List ℕ) (s n : ℕ) → n ≡ 0 → stretch t s n ≡ []
unfolding stretch
stretch-none t s n e = rw e

pub stretch_all : (t : List ℕ) (s m : ℕ) → m ≡ length t → stretch t s (m - s) ≡ drop s t
unfolding stretch
stretch_all t s m e =
    let q : m - s ≡ length (drop s t) = rw e (sym (length-drop s t)) in
    ap (λ (k : ℕ). take k (drop s t)) q ∙ take-length (drop s t)

pub length-stretch : (t : List ℕ) (s n : ℕ) → s + n ≤ length t → length (stretch t s n) ≡ n
unfolding stretch
length-stretch t s n h = simp (length-take, length-drop) (omega arith)

pub length-stretch_le : (t : List ℕ) (s n : ℕ) → length (stretch t s n) ≤ n
unfolding stretch
length-stretch_le t s n = simp length-take (omega arith)

pub get_or-stretch : (t : List ℕ) (s n i : ℕ) → i < n → get_or (stretch t s n) i 0 ≡ get_or t (s + i) 0
unfolding stretch
get_or-stretch t s n i h = get_or-take n (drop s t) i 0 h ∙ get_or-drop s t i 0

pub take-stretch : (k : ℕ) (t : List ℕ) (s n : ℕ) → k ≤ n → take k (stretch t s n) ≡ stretch t s k
unfolding stretch
take-stretch k t s n h = take-take k n (drop s t) h

drop-take : (k m : ℕ) (l : List ℕ) → drop k (take m l) ≡ take (m - k) (drop k l)
drop-take zero m l = rw (sub-zero m)
drop-take (suc k) zero l = let e : zero - suc k ≡ 0 = omega arith in rw e
drop-take (suc k) (suc m) [] = sym (take-nil (suc m - suc k))
drop-take (suc k) (suc m) (x ∷ xs) = rw (suc-sub-suc m k) (drop-take k m xs)

pub drop-stretch : (k : ℕ) (t : List ℕ) (s n : ℕ) → drop k (stretch t s n) ≡ stretch t (s + k) (n - k)
unfolding stretch
drop-stretch k t s n = drop-take k n (drop s t) ∙ ap (take (n - k)) (drop-drop k s t)

-- the same, up to an end
pub drop-part : (k : ℕ) (t : List ℕ) (from end : ℕ) → drop k (stretch t from (end - from)) ≡ stretch t (from + k) (end - (from + k))
drop-part k t from end =
    let q : end - from - k ≡ end - (from + k) = omega arith in
    rw (drop-stretch k t from (end - from), q)

-- a stretch of a stretch
pub stretch-stretch : (t : List ℕ) (s n k m : ℕ) → k + m ≤ n → stretch (stretch t s n) k m ≡ stretch t (s + k) m
stretch-stretch t s n k m h =
    let l : m ≤ n - k = omega arith in
    opened ∙ ap (take m) (drop-stretch k t s n) ∙ take-stretch m t (s + k) (n - k) l
  where
    opened : stretch (stretch t s n) k m ≡ take m (drop k (stretch t s n))
    opened = unfold stretch in refl

-- ---- runs

module _ (p : ℕ → Bool) (t : List ℕ) (s e : ℕ) where
  pub run_end : e ≤ s → s ≡ s + run p (stretch t s (e - s))
  unfolding run
  run_end h = rw (rest_end t s e s h) (omega arith)

pub run_length : (p : ℕ → Bool) (l : List ℕ) → run p l ≤ length l
unfolding run
run_length p [] = omega arith
run_length p (b ∷ bs) = go (p b) (run_length p bs)
  where
    go : (t : Bool) → run p bs ≤ length bs → cond t (suc (run p bs)) 0 ≤ suc (length bs)
    go true h = omega arith
    go false h = omega arith

-- after the elements that pass there is none in front
pub run_drop : (p : ℕ → Bool) (l : List ℕ) → run p (drop (run p l) l) ≡ 0
unfolding run
run_drop p [] = refl
run_drop p (b ∷ bs) = go (p b) refl (run_drop p bs)
  where
    go : (t : Bool) → p b ≡ t → run p (drop (run p bs) bs) ≡ 0 → run p (drop (run p (b ∷ bs)) (b ∷ bs)) ≡ 0
    go true e h = rw e h
    go false e h = rw (e, e)

-- each of them passes
pub run_all : (p : ℕ → Bool) (l : List ℕ) → All (λ b. p b ≡ true) (take (run p l) l)
unfolding run
run_all p [] = tt
run_all p (b ∷ bs) = go (p b) refl (run_all p bs)
  where
    go : (t : Bool) → p b ≡ t → All (λ b. p b ≡ true) (take (run p bs) bs) → All (λ b. p b ≡ true) (take (cond t (suc (run p bs)) 0) (b ∷ bs))
    go true e h = (e, h)
    go false e h = tt

-- ---- lists compared

pub same_eq : (x y : List ℕ) → same_bytes x y ≡ true → x ≡ y
unfolding same_bytes
same_eq [] [] h = refl
same_eq [] (y ∷ ys) h = absurd (false≢true h)
same_eq (x ∷ xs) [] h = absurd (false≢true h)
same_eq (x ∷ xs) (y ∷ ys) h = both (eqb x y) refl h (same_eq xs ys)
  where
    both : (t : Bool) → eqb x y ≡ t → (t && same_bytes xs ys) ≡ true → (same_bytes xs ys ≡ true → xs ≡ ys) → ◌≡◌ {A = List ℕ} (x ∷ xs) (y ∷ ys)
    both true e k r = ap₂ (λ (a : ℕ) (l : List ℕ). a ∷ l) (eqb-true x y e) (r k)
    both false e k r = absurd (false≢true k)

pub same_refl : (x : List ℕ) → same_bytes x x ≡ true
unfolding same_bytes
same_refl [] = refl
same_refl (x ∷ xs) = rw (eq-eqb x x refl) (same_refl xs)

-- lists of other lengths are not the same
pub other_length : (x y : List ℕ) → (length x ≡ length y → ⊥) → false ≡ same_bytes x y
other_length x y ne = go (same_bytes x y) refl
  where
    go : (r : Bool) → same_bytes x y ≡ r → false ≡ r
    go false e = refl
    go true e = absurd (ne (ap length (same_eq x y e)))

-- ---- facts of each element

pub all_append : {A : Type 0} (P : A → Type 0) (xs ys : List A) → All P xs → All P ys → All P (xs ++ ys)
all_append P [] ys p q = q
all_append P (x ∷ xs) ys p q = (p.0, all_append P xs ys p.1 q)

pub all_map : {A : Type 0} {P Q : A → Type 0} (xs : List A) → ((x : A) → P x → Q x) → All P xs → All Q xs
all_map [] f p = tt
all_map (x ∷ xs) f p = (f x p.0, all_map xs f p.1)

pub all_at : (P : ℕ → Type 0) (xs : List ℕ) (i : ℕ) → All P xs → i < length xs → P (get_or xs i 0)
all_at P [] i p h = absurd (omega arith)
all_at P (x ∷ xs) zero p h = p.0
all_at P (x ∷ xs) (suc i) p h = all_at P xs i p.1 (omega arith)

pub empty-length : {A : Type 0} (l : List A) → eqb (length l) 0 ≡ is_empty l
empty-length [] = refl
empty-length (x ∷ xs) = eqb-suc-zero (length xs)
