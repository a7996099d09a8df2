-- Laws of the pieces of a line.
-- Assumes nothing.
use Prim.Native.Nat.{ℕ, ◌+◌, ◌-◌, ◌≤◌, ◌<◌, min}
use mathlib.Core.Path.{◌≡◌, sym, ap, ◌∙◌}
use mathlib.Core.Logic.{⊎_elim}
use mathlib.Core.List.{List, [], ◌∷◌, ◌++◌, append-nil, append_assoc}
use native.Mathlib.Omega.{arith}
use native.Mathlib.Numerals.{add-one}
use lib.ListN.{length, length-drop, take, drop, get_or, drop_of_length-le}
use lib.Seq.{take-suc, take_all}
use Rattle.std.proofs.lemmas.Bool.{cases_lt}
use Rattle.laws.specs.Stretches.{stretch}
use Rattle.listing.specs.Listing.{word, words}

-- ---- words of a list

module _ {A : Type 0} (f : A → List ℕ) where
  words_snoc : (l : List A) (x : A) → words f (l ++ (x ∷ [])) ≡ words f l ++ word (f x)
  unfolding words
  words_snoc [] x = append-nil (word (f x))
  words_snoc (y ∷ l) x = ap (λ (z : List ℕ). word (f y) ++ z) (words_snoc l x) ∙ sym (append_assoc (word (f y)) (words f l) (word (f x)))

  pub words-none : (l : List A) (old : List ℕ) → old ≡ old ++ words f (take 0 l)
  unfolding words
  words-none l old = sym (append-nil old)

  -- the first k + 1 of a list
  pub words-next : (l : List A) (d : A) (k : ℕ) (old mid new : List ℕ) → k < length l → mid ≡ old ++ words f (take k l) → new ≡ mid ++ word (f (get_or l k d)) → new ≡ old ++ words f (take (k + 1) l)
  words-next l d k old mid new h p q =
      let e : words f (take (k + 1) l) ≡ words f (take k l) ++ word (f (get_or l k d)) = rw (add-one k, take-suc l k d h) (words_snoc (take k l) (get_or l k d)) in
      q ∙ ap (λ (z : List ℕ). z ++ word (f (get_or l k d))) p ∙ append_assoc old (words f (take k l)) (word (f (get_or l k d))) ∙ ap (λ (z : List ℕ). old ++ z) (sym e)

-- ---- a stretch as far as the text goes

pub clipped : (t : List ℕ) (s n : ℕ) → take (min n (length t - min s (length t))) (drop (min s (length t)) t) ≡ stretch t s n
unfolding stretch
clipped t s n = ⊎_elim past inside (cases_lt (length t) s)
  where
    cut : (l : List ℕ) (k : ℕ) → length l ≡ k → take (min n k) l ≡ take n l
    cut l k e = ⊎_elim (λ (h : k < n). take_all (min n k) l (omega arith) ∙ sym (take_all n l (omega arith))) (λ (h : n ≤ k). let z : min n k ≡ n = omega arith in ap (λ (m : ℕ). take m l) z) (cases_lt k n)

    inside : s ≤ length t → take (min n (length t - min s (length t))) (drop (min s (length t)) t) ≡ take n (drop s t)
    inside h =
        let z : min s (length t) ≡ s = omega arith in
        rw z (cut (drop s t) (length t - s) (length-drop s t))

    past : length t < s → take (min n (length t - min s (length t))) (drop (min s (length t)) t) ≡ take n (drop s t)
    past h =
        let z : min s (length t) ≡ length t = omega arith in
        rw z (cut (drop (length t) t) (length t - length t) (length-drop (length t) t) ∙ ap (take n) (drop_of_length-le t (omega arith) ∙ sym (drop_of_length-le t (omega arith))))
