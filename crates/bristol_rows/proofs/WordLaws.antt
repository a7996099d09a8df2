-- Laws of a line split at its blanks, by where a word begins and where it ends.
-- Assumes nothing.
use Prim.Native.Nat.{ℕ, ◌+◌, ◌-◌, ◌≤◌}
use mathlib.Core.Path.{◌≡◌, refl, sym, ap, ap₂, ◌∙◌}
use mathlib.Core.List.{List, [], ◌∷◌}
use native.Mathlib.Nat.{zero-add}
use native.Mathlib.Omega.{arith}
use lib.ListN.{length, take, drop}
use Rattle.std.proofs.lemmas.List.{drop-drop}
use Rattle.laws.specs.Stretches.{stretch, run}
use Rattle.laws.proofs.Stretches.{stretch_all}
use Rattle.text.specs.Blanks.{is_blank, not_blank}
use Rattle.text.specs.Words.{split_whitespace, next_word}
use Rattle.text.specs.declared.words.Word.{Word}
use Rattle.text.proofs.WordLaws.{next_made, count_between, rest, rest_none, rest_next, rest_count}

whole : (l : List ℕ) → rest l 0 (length l) ≡ split_whitespace l
whole l = ap split_whitespace (stretch_all l 0 (length l) refl)

-- past the blanks in front, and up to the blank after them
module _ (l : List ℕ) (s e : ℕ) (p : s ≡ run is_blank l) (q : e ≡ run not_blank (take (length l - s) (drop s l))) where
  abbrev from : List ℕ
  from = take (length l - s) (drop s l)

  abbrev word : Word
  word = record { start = s; len = s + e - s }

  past : from ≡ drop s l
  past = unfold stretch in stretch_all l s (length l) refl

  word_next : word ≡ next_word l 0 (length l)
  word_next =
      next_made l 0 (length l) s (s + e) (p ∙ ap (run is_blank) (sym (stretch_all l 0 (length l) refl)) ∙ sym (zero-add _))
      (ap (λ (k : ℕ). s + k) (q ∙ unfold stretch in refl))

  pub words_none : e ≡ 0 → split_whitespace l ≡ []
  words_none z = sym (whole l) ∙ rest_none l 0 (length l) word word_next (omega (arith, z))

  pub words_next : (e ≡ 0 → ⊥) → split_whitespace l ≡ take e from ∷ split_whitespace (take (length from - e) (drop e from))
  unfolding stretch
  words_next h =
      let some : word.len ≡ 0 → ⊥ = λ z. h (omega (arith, z)) in
      let size : s + e - s ≡ e = omega arith in
      let after : rest l (s + (s + e - s)) (length l) ≡ split_whitespace (take (length from - e) (drop e from)) =
      ap split_whitespace (stretch_all l (s + (s + e - s)) (length l) refl ∙ ap (λ (k : ℕ). drop (s + k) l) size ∙ sym (drop-drop e s l) ∙ ap (drop e) (sym past) ∙ sym (stretch_all from e (length from) refl))
      in
      sym (whole l)
      ∙ rest_next l 0 (length l) word word_next some
      ∙ ap₂ (λ (x : List ℕ) (xs : List (List ℕ)). x ∷ xs) (ap (λ (k : ℕ). take k (drop s l)) size ∙ ap (take e) (sym past)) after

pub words_few : (l : List ℕ) → length (split_whitespace l) ≤ length l
words_few l =
    let n : length (rest l 0 (length l)) ≤ length l - 0 = rw (rest_count l 0 (length l)) (count_between l 0 (length l)) in
    omega (arith, n, ap length (whole l))
