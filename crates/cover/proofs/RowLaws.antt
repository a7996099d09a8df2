-- Laws of patterns, tables and constants.
-- Assumes nothing.
use Rattle.std.specs.Prelude.{None, Option, Some}
use Rattle.std.specs.Iterator.{Yields, Drains}
use Rattle.std.specs.List.{list_all, enumerate_from, last_or}
use Rattle.std.proofs.lemmas.List.{reverse-append, length-reverse}
use Rattle.std.proofs.lemmas.List.Folds.{list_all-append}
use Prim.Native.Nat.{ℕ, suc, ◌+◌, ◌-◌, ◌^◌, ◌≤◌, ◌<◌}
use mathlib.Core.Path.{◌≡◌, refl, sym, ap, ◌∙◌}
use mathlib.Core.Bool.{Bool, true, false, cond, ◌&&◌}
use mathlib.Core.List.{List, [], ◌∷◌, ◌++◌, reverse}
use native.Mathlib.Nat.{add-zero, sub-zero}
use native.Mathlib.Numerals.{add-one}
use native.Mathlib.Omega.{arith}
use lib.ListN.{length}
use Rattle.cells.specs.Cells.{entry, set_entry}
use Rattle.laws.specs.Stretches.{All}
use Rattle.text.specs.Words.{bytes_of}
use Rattle.text.specs.declared.words.Word.{Word}
use Rattle.text.specs.declared.words.Words.{Words}
use Rattle.text.specs.Iterators.{words_left, GivesWord}
use Rattle.cover.specs.Cover.{bit_of, fits, matches, set_from, set_row, start_table, last_of, constant}

-- ---- patterns

enumerate_snoc : (k : ℕ) (xs : List ℕ) (x : ℕ) → enumerate_from k (xs ++ x ∷ []) ≡ enumerate_from k xs ++ (k + length xs, x) ∷ []
enumerate_snoc k [] x = rw (add-zero k)
enumerate_snoc k (y ∷ ys) x =
    let e : k + 1 + length ys ≡ k + suc (length ys) = omega arith in
    ap (λ (ps : List (ℕ × ℕ)). (k, y) ∷ ps) (enumerate_snoc (k + 1) ys x ∙ ap (λ (n : ℕ). enumerate_from (k + 1) ys ++ (n, x) ∷ []) e)

and_swap : (a b : Bool) → (a && (b && true)) ≡ b && a
and_swap true true = refl
and_swap true false = refl
and_swap false true = refl
and_swap false false = refl

-- the bits of an index stand for the bytes of a pattern, from its last on
pub matches_reversed : (p : List ℕ) (j : ℕ) → list_all (λ (x : ℕ × ℕ). fits x.1 (entry j x.0)) (enumerate_from 0 (reverse p)) ≡ matches p j
unfolding matches
matches_reversed [] j = refl
matches_reversed (b ∷ bs) j =
    let test : ℕ × ℕ → Bool = λ x. fits x.1 (entry j x.0) in
    let turned : reverse (b ∷ bs) ≡ reverse bs ++ b ∷ [] = reverse-append (b ∷ []) bs in
    let size : 0 + length (reverse bs) ≡ length bs = omega (arith, length-reverse bs) in
    ap (λ (l : List ℕ). list_all test (enumerate_from 0 l)) turned
    ∙ ap (list_all test) (enumerate_snoc 0 (reverse bs) b)
    ∙ list_all-append test (enumerate_from 0 (reverse bs)) ((0 + length (reverse bs), b) ∷ [])
    ∙ ap (λ (n : ℕ). list_all test (enumerate_from 0 (reverse bs)) && (fits b (entry j n) && true)) size
    ∙ and_swap _ _
    ∙ ap (λ (r : Bool). fits b (entry j (length bs)) && r) (matches_reversed bs j)

-- ---- tables

module _ (p : List ℕ) (v j m table : ℕ) where
  more : j < m → set_from p v j (m - j) table ≡ set_from p v (j + 1) (m - (j + 1)) (cond (matches p j) (set_entry table j v) table)
  unfolding set_from
  more h =
      let q : m - j ≡ suc (m - (j + 1)) = omega arith in
      rw (q, add-one j)

  pub set_matched : j < m → true ≡ matches p j → set_from p v (j + 1) (m - (j + 1)) (set_entry table j v) ≡ set_from p v j (m - j) table
  set_matched h e = rw (more h, ← e)

  pub set_unmatched : j < m → false ≡ matches p j → set_from p v (j + 1) (m - (j + 1)) table ≡ set_from p v j (m - j) table
  set_unmatched h e = rw (more h, ← e)

  pub set_end : m ≤ j → set_from p v j (m - j) table ≡ table
  unfolding set_from
  set_end h =
      let q : m - j ≡ 0 = omega arith in
      rw q

pub set_start : (p : List ℕ) (n v table : ℕ) → set_from p v 0 (2 ^ n - 0) table ≡ set_row n p v table
unfolding set_row
set_start p n v table = rw (sub-zero (2 ^ n))

pub start-zero : (n v k : ℕ) → v ≡ 0 → k ≡ 2 ^ 2 ^ n - 1 → k ≡ start_table n v
unfolding start_table
start-zero n v k e q = rw e (omega (arith, q))

-- ---- the constant of no inputs

-- the last word of some
last_some : (w : Word) (ws : List Word) → last_or (Some w) ws ≡ Some (last_of w ws)
unfolding last_of
last_some w [] = refl
last_some w (x ∷ xs) = last_some x xs

-- the words that calls of `next` gave are those that were left
drained : (w : Words) (xs : List Word) (t u : Words) → Yields GivesWord w xs t → GivesWord t None u → words_left w ≡ xs
drained w [] t u y e = rw y e.first.0
drained w (x ∷ xs) t u y e = y.1.first ∙ ap (λ (ws : List Word). x ∷ ws) (drained y.0 xs t u y.2 e)

pub last_given : (w : Words) (r : Option Word) → (xs : List Word) × Drains GivesWord w xs × (r ≡ last_or None xs) → last_or None (words_left w) ≡ r
last_given w r ran = ap (last_or None) (drained w ran.0 ran.1.1.0 ran.1.0 ran.1.1.1 ran.1.1.2) ∙ sym ran.2

pub last_word : (P : Word → Type 0) (ws : List Word) (l : Word) → All P ws → last_or None ws ≡ Some l → P l
last_word P [] l h e = cc
last_word P (w ∷ ws) l h e = go w ws h e
  where
    go : (w : Word) (ws : List Word) → All P (w ∷ ws) → last_or (Some w) ws ≡ Some l → P l
    go w [] h e = let same : w ≡ l = cc in rw (← same) h.0
    go w (x ∷ xs) h e = go x xs h.1 e

pub constant_bad : (t : List ℕ) (ws : List Word) (rs all : List (List Word)) → all ≡ ws ∷ rs → last_or None ws ≡ None → None ≡ constant t all
unfolding constant
constant_bad t [] rs all e h = rw e
constant_bad t (w ∷ ws) rs all e h = let q : Some (last_of w ws) ≡ None = sym (last_some w ws) ∙ h in cc

pub constant_last : (t : List ℕ) (ws : List Word) (rs all : List (List Word)) (l : Word) (r : Option ℕ) → all ≡ ws ∷ rs → last_or None ws ≡ Some l → r ≡ bit_of (bytes_of t l) → r ≡ constant t all
unfolding constant
constant_last t [] rs all l r e h q = cc
constant_last t (w ∷ ws) rs all l r e h q =
    let some : Some (last_of w ws) ≡ Some l = sym (last_some w ws) ∙ h in
    let same : last_of w ws ≡ l = cc in
    rw (e, same) q
