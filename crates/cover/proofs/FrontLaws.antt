-- The rows of a text's front give the table that they give in the whole text.
-- Assumes nothing.
use Rattle.std.specs.Prelude.{None, Option, Some}
use Prim.Native.Nat.{ℕ, zero, suc, ◌+◌, ◌-◌, ◌≤◌, ◌<◌}
use mathlib.Core.Path.{◌≡◌, refl, ap, ◌∙◌}
use mathlib.Core.Bool.{Bool, true, false, cond}
use mathlib.Core.List.{List, [], ◌∷◌}
use native.Mathlib.Nat.{zero-add}
use native.Mathlib.Omega.{arith}
use lib.Dec.{eqb, leb}
use lib.ListN.{length, get_or, take}
use borrow.Author.Tests.{eqb-true, eqb-false, leb-true, leb-false}
use Rattle.laws.specs.Stretches.{stretch, run, is_not, All}
use Rattle.laws.proofs.Stretches.{stretch-stretch, run_length, length-stretch_le, all_map}
use Rattle.text.specs.Words.{bytes_of, words}
use Rattle.text.specs.declared.words.Word.{Word}
use Rattle.text.proofs.WordLaws.{each_word}
use Rattle.cover.specs.declared.rows.Row.{Row}
use Rattle.cover.specs.Rows.{rows_from}
use Rattle.cover.specs.Cover.{bit_of, sets, row_with, row_of, set_row, with_row, set_rows, start_table, last_of, constant, rows_table, cover}
use Rattle.cover.proofs.LineLaws.{rows_next, rows_dot, rows_end}

-- ---- the words of rows lie in their text

module _ (t : List ℕ) where
  abbrev pub Inside : Word → Type 0
  Inside w = w.start + w.len ≤ length t

  row_inside : (at e : ℕ) → e ≤ length t → All Inside (words at (stretch t at (e - at)))
  row_inside at e h = all_map (words at (stretch t at (e - at))) (λ w i. omega (arith, i.inside)) (each_word t at e)

  rows_inside_up_to : (m at : ℕ) → length t < at + m → All (All Inside) (rows_from t at)
  rows_inside_up_to zero at h = rw (rows_end t at (length t) (omega arith)) tt
  rows_inside_up_to (suc m) at h = over (leb (length t) at) refl (λ next more. rows_inside_up_to m next more)
    where
      over : (b : Bool) → leb (length t) at ≡ b → ((next : ℕ) → length t < next + m → All (All Inside) (rows_from t next)) → All (All Inside) (rows_from t at)
      over true q on = rw (rows_end t at (length t) (leb-true (length t) at q)) tt
      over false q on = dot (eqb (get_or t at 0) 46) refl
        where
          before : at < length t
          before = leb-false (length t) at q

          e : ℕ
          e = at + run (is_not 10) (stretch t at (length t - at))

          most : e ≤ length t
          most = omega (arith, run_length (is_not 10) (stretch t at (length t - at)), length-stretch_le t at (length t - at), before)

          dot : (b : Bool) → eqb (get_or t at 0) 46 ≡ b → All (All Inside) (rows_from t at)
          dot true d = rw (rows_dot t at (length t) e before (omega arith) refl (eqb-true _ _ d)) tt
          dot false d = rw (rows_next t at (length t) e before (omega arith) refl (eqb-false _ _ d)) (row_inside at e most, on (e + 1) (omega (arith, h, before)))

  pub rows_inside : (at : ℕ) → All (All Inside) (rows_from t at)
  rows_inside at = rows_inside_up_to (suc (length t)) at (omega arith)

-- ---- what such rows give

module _ (u t : List ℕ) (front : u ≡ take (length u) t) where
  bytes_front : (s n : ℕ) → s + n ≤ length u → stretch u s n ≡ stretch t s n
  bytes_front s n h =
      let whole : u ≡ stretch t 0 (length u) = unfold stretch in front in
      ap (λ (x : List ℕ). stretch x s n) whole ∙ stretch-stretch t 0 (length u) s n h ∙ ap (λ (k : ℕ). stretch t k n) (zero-add s)

  row_front : (n : ℕ) (ws : List Word) → All (Inside u) ws → row_of u n ws ≡ row_of t n ws
  unfolding row_of
  row_front n [] h = refl
  row_front n (p ∷ []) h = refl
  row_front n (p ∷ v ∷ []) h = ap (λ (l : List ℕ). row_with n p (bit_of l)) (bytes_front v.start v.len h.1.0)
  row_front n (p ∷ v ∷ x ∷ xs) h = refl

  with_inside : (n : ℕ) (p : Word) (c : Option ℕ) (r : Row) → Inside u p → row_with n p c ≡ Some r → r.start + n ≤ length u
  unfolding row_with
  with_inside n p None r h q = cc
  with_inside n p (Some v) r h q = go (eqb p.len n) refl q
    where
      go : (b : Bool) → eqb p.len n ≡ b → cond b (sets p.start v) None ≡ Some r → r.start + n ≤ length u
      go true e z =
          let same : ◌≡◌ {A = Row} (record { start = p.start; value = v }) r = cc in
          omega (arith, h, eqb-true _ _ e, ap (λ (x : Row). x.start) same)
      go false e z = cc

  pattern_inside : (n : ℕ) (ws : List Word) (r : Row) → All (Inside u) ws → row_of u n ws ≡ Some r → r.start + n ≤ length u
  unfolding row_of
  pattern_inside n [] r h q = cc
  pattern_inside n (p ∷ []) r h q = with_inside n p (Some 1) r h.0 q
  pattern_inside n (p ∷ v ∷ []) r h q = with_inside n p (bit_of (bytes_of u v)) r h.0 q
  pattern_inside n (p ∷ v ∷ x ∷ xs) r h q = cc

  set_rows_front : (n : ℕ) (rows : List (List Word)) (table : ℕ) → All (All (Inside u)) rows → set_rows u n rows table ≡ set_rows t n rows table
  unfolding set_rows with_row
  set_rows_front n [] table h = refl
  set_rows_front n (r ∷ rs) table h = rw (← row_front n r h.0) (go (row_of u n r) refl (λ new. set_rows_front n rs new h.1))
    where
      go : (row : Option Row) → row_of u n r ≡ row → ((new : ℕ) → set_rows u n rs new ≡ set_rows t n rs new)
          → with_row row (λ s v. set_rows u n rs (set_row n (stretch u s n) v table)) ≡ with_row row (λ s v. set_rows t n rs (set_row n (stretch t s n) v table))
      go None e rest = refl
      go (Some row) e rest =
          rest (set_row n (stretch u row.start n) row.value table)
          ∙ ap (λ (l : List ℕ). set_rows t n rs (set_row n l row.value table)) (bytes_front row.start n (pattern_inside n r row h.0 e))

  last_front : (w : Word) (ws : List Word) → All (Inside u) (w ∷ ws) → bytes_of u (last_of w ws) ≡ bytes_of t (last_of w ws)
  unfolding last_of
  last_front w [] h = bytes_front w.start w.len h.0
  last_front w (x ∷ xs) h = last_front x xs h.1

  cover_inside : (n : ℕ) (rows : List (List Word)) → All (All (Inside u)) rows → cover u n rows ≡ cover t n rows
  unfolding cover constant rows_table with_row
  cover_inside zero [] h = refl
  cover_inside zero ([] ∷ rs) h = refl
  cover_inside zero ((w ∷ ws) ∷ rs) h = ap bit_of (last_front w ws h.0)
  cover_inside (suc n) [] h = refl
  cover_inside (suc n) (r ∷ rs) h = rw (← row_front (suc n) r h.0) (go (row_of u (suc n) r))
    where
      go : (row : Option Row)
          → with_row row (λ s v. set_rows u (suc n) (r ∷ rs) (start_table (suc n) v)) ≡ with_row row (λ s v. set_rows t (suc n) (r ∷ rs) (start_table (suc n) v))
      go None = refl
      go (Some row) = set_rows_front (suc n) (r ∷ rs) (start_table (suc n) row.value) h

  pub cover_front : (n at : ℕ) → cover u n (rows_from u at) ≡ cover t n (rows_from u at)
  cover_front n at = cover_inside n (rows_from u at) (rows_inside u at)
