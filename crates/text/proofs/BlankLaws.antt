-- Laws of trimming, on lists and on stretches.
-- Assumes nothing.
use Prim.Native.Nat.{ℕ, zero, suc, ◌+◌, ◌-◌, ◌≤◌, ◌<◌}
use mathlib.Core.Path.{◌≡◌, refl, sym, ap, ap₂, ◌∙◌}
use mathlib.Core.Bool.{Bool, true, false, cond}
use mathlib.Core.List.{List, [], ◌∷◌}
use native.Mathlib.Omega.{arith}
use native.Mathlib.Nat.{not-suc-le-zero}
use lib.ListN.{length, get_or, take, drop}
use Rattle.laws.specs.Stretches.{stretch, run, All}
use Rattle.laws.proofs.Stretches.{drop-stretch, take-stretch, length-stretch_le}
use Rattle.text.specs.Blanks.{is_blank, trim_start, before, trim_end, trim, trimmed}
use Rattle.text.specs.Words.{bytes_of}
use Rattle.text.specs.declared.words.Word.{Word}

-- ---- by the last byte that is no blank

pub trim_end_none : (l : List ℕ) → ((k : ℕ) → k < length l → is_blank (get_or l k 0) ≡ true) → [] ≡ trim_end l
unfolding trim_end
trim_end_none [] f = refl
trim_end_none (b ∷ bs) f = rw (← trim_end_none bs (λ k h. f (suc k) (omega arith)), f 0 (omega arith))

pub trim_end_last : (l : List ℕ) (i : ℕ) → i < length l → is_blank (get_or l i 0) ≡ false
    → ((k : ℕ) → i + 1 ≤ k → k < length l → is_blank (get_or l k 0) ≡ true) → take (suc i) l ≡ trim_end l
unfolding trim_end
trim_end_last [] i h e f = absurd (not-suc-le-zero h)
trim_end_last (b ∷ bs) zero h e f = rw (← trim_end_none bs (λ k j. f (suc k) (omega arith) (omega arith)), e)
trim_end_last (b ∷ []) (suc i) h e f = absurd (omega arith)
trim_end_last (b ∷ c ∷ cs) (suc i) h e f =
    ap (before b) (trim_end_last (c ∷ cs) i (omega arith) e (λ k j m. f (suc k) (omega arith) (omega arith)))

-- ---- what trimming leaves is short

trim_start-length : (l : List ℕ) → length (trim_start l) ≤ length l
unfolding trim_start
trim_start-length [] = omega arith
trim_start-length (b ∷ bs) = go (is_blank b) (trim_start-length bs)
  where
    go : (t : Bool) → length (trim_start bs) ≤ length bs → length (cond t (trim_start bs) (b ∷ bs)) ≤ suc (length bs)
    go true h = omega arith
    go false h = omega arith

before-length : (b : ℕ) (l : List ℕ) → length (before b l) ≤ suc (length l)
before-length b [] = go (is_blank b)
  where
    go : (t : Bool) → length (cond t [] (b ∷ [])) ≤ 1
    go true = omega arith
    go false = omega arith
before-length b (c ∷ cs) = omega arith

pub trim_end-length : (l : List ℕ) → length (trim_end l) ≤ length l
unfolding trim_end
trim_end-length [] = omega arith
trim_end-length (b ∷ bs) = omega (arith, before-length b (trim_end bs), trim_end-length bs)

pub trim-length : (l : List ℕ) → length (trim l) ≤ length l
unfolding trim
trim-length l = omega (arith, trim_end-length (trim_start l), trim_start-length l)

-- ---- from the front

trim_start-run : (l : List ℕ) → trim_start l ≡ drop (run is_blank l) l
unfolding trim_start run
trim_start-run [] = refl
trim_start-run (b ∷ bs) = go (is_blank b) refl (trim_start-run bs)
  where
    go : (t : Bool) → is_blank b ≡ t → trim_start bs ≡ drop (run is_blank bs) bs → trim_start (b ∷ bs) ≡ drop (run is_blank (b ∷ bs)) (b ∷ bs)
    go true e h = rw e h
    go false e h = rw e

-- a stretch, by the place where its blanks in front end, and what is left there without the blanks behind
pub trim_made : (t : List ℕ) (w : Word) (s : ℕ) (l : List ℕ) → s ≡ w.start + run is_blank (bytes_of t w) → l ≡ trim_end (stretch t s (w.start + w.len - s))
    → ◌≡◌ {A = Word} (record { start = s; len = length l }) (trimmed t w)
unfolding trimmed trim
trim_made t w s l ps pl =
    let f : trim_start (bytes_of t w) ≡ stretch t s (w.start + w.len - s) =
    trim_start-run (bytes_of t w) ∙ drop-stretch (run is_blank (bytes_of t w)) t w.start w.len ∙ ap₂ (stretch t) (sym ps) (omega arith) in
    rw (pl, ← f, ps)

-- ---- the bytes at the place of what `trim` leaves

trim_end_front : (l : List ℕ) → trim_end l ≡ take (length (trim_end l)) l
unfolding trim_end
trim_end_front [] = refl
trim_end_front (b ∷ bs) = go (trim_end bs) (trim_end_front bs)
  where
    go : (m : List ℕ) → m ≡ take (length m) bs → before b m ≡ take (length (before b m)) (b ∷ bs)
    go [] h = alone (is_blank b)
      where
        alone : (t : Bool) → cond t [] (b ∷ []) ≡ take (length (cond t [] (b ∷ []))) (b ∷ bs)
        alone true = refl
        alone false = refl
    go (c ∷ cs) h = ap (λ (x : List ℕ). b ∷ x) h

pub trimmed_bytes : (t : List ℕ) (w : Word) → bytes_of t (trimmed t w) ≡ trim (bytes_of t w)
unfolding trim trimmed
trimmed_bytes t w =
    let l : List ℕ = bytes_of t w in
    let k : ℕ = run is_blank l in
    let x : List ℕ = trim_start l in
    let f : x ≡ stretch t (w.start + k) (w.len - k) = trim_start-run l ∙ drop-stretch k t w.start w.len in
    let n : length (trim_end x) ≤ w.len - k = omega (arith, trim_end-length x, ap length f, length-stretch_le t (w.start + k) (w.len - k)) in
    sym (trim_end_front x ∙ ap (take (length (trim_end x))) f ∙ take-stretch (length (trim_end x)) t (w.start + k) (w.len - k) n)

-- ---- a fact of each byte stays

module _ (P : ℕ → Type 0) where
  trim_start_all : (l : List ℕ) → All P l → All P (trim_start l)
  unfolding trim_start
  trim_start_all [] p = tt
  trim_start_all (b ∷ bs) p = go (is_blank b) (trim_start_all bs p.1)
    where
      go : (t : Bool) → All P (trim_start bs) → All P (cond t (trim_start bs) (b ∷ bs))
      go true h = h
      go false h = p

  before_all : (b : ℕ) (l : List ℕ) → P b → All P l → All P (before b l)
  before_all b [] p q = go (is_blank b)
    where
      go : (t : Bool) → All P (cond t [] (b ∷ []))
      go true = tt
      go false = (p, tt)
  before_all b (c ∷ cs) p q = (p, q)

  pub trim_end_all : (l : List ℕ) → All P l → All P (trim_end l)
  unfolding trim_end
  trim_end_all [] p = tt
  trim_end_all (b ∷ bs) p = before_all b (trim_end bs) p.0 (trim_end_all bs p.1)

  pub trim_all : (l : List ℕ) → All P l → All P (trim l)
  unfolding trim
  trim_all l p = trim_end_all (trim_start l) (trim_start_all l p)
