-- The table of n inputs has no bit above its 2 ^ n entries.
-- Assumes nothing.
use Rattle.std.specs.Prelude.{None, Option, Some}
use Prim.Native.Nat.{ℕ, zero, suc, ◌+◌, ◌-◌, ◌^◌, ◌≤◌, ◌<◌}
use mathlib.Core.Path.{◌≡◌, refl, ap, subst}
use mathlib.Core.Bool.{Bool, true, false, cond}
use mathlib.Core.List.{List, [], ◌∷◌}
use native.Mathlib.Nat.{zero-mul}
use native.Mathlib.Omega.{arith}
use lib.Dec.{eqb}
use lib.Pow.{pow_pos, ones_lt}
use Rattle.laws.specs.Bits.{set_bit}
use Rattle.laws.specs.Stretches.{stretch}
use Rattle.laws.proofs.Bits.{set-fits}
use Rattle.text.specs.Words.{bytes_of}
use Rattle.text.specs.declared.words.Word.{Word}
use Rattle.cover.specs.declared.rows.Row.{Row}
use Rattle.cover.specs.Cover.{bit_of, sets, row_with, row_of, matches, set_from, set_row, with_row, set_rows, start_table, last_of, constant, rows_table, cover}

bad_value : {v : ℕ} → None ≡ Some v → ⊥
bad_value q = let z : ◌≡◌ {A = ℕ} 0 1 = cc in omega arith

no_row : {s v : ℕ} → None ≡ sets s v → ⊥
no_row q = let z : ◌≡◌ {A = ℕ} 0 1 = cc in omega arith

pub bit_value : (l : List ℕ) (v : ℕ) → bit_of l ≡ Some v → v < 2
unfolding bit_of
bit_value [] v q = absurd (bad_value q)
bit_value (b ∷ []) v q = go (eqb b 48) (eqb b 49) q
  where
    go : (x y : Bool) → cond x (Some 0) (cond y (Some 1) None) ≡ Some v → v < 2
    go true y r = let e : 0 ≡ v = cc in omega arith
    go false true r = let e : 1 ≡ v = cc in omega arith
    go false false r = absurd (bad_value r)
bit_value (b ∷ c ∷ cs) v q = absurd (bad_value q)

with_value : (n : ℕ) (p : Word) (c : Option ℕ) (s v : ℕ) → ((u : ℕ) → c ≡ Some u → u < 2) → row_with n p c ≡ sets s v → v < 2
unfolding row_with
with_value n p None s v h q = absurd (no_row q)
with_value n p (Some u) s v h q = go (eqb p.len n) q
  where
    go : (b : Bool) → cond b (sets p.start u) None ≡ sets s v → v < 2
    go true r =
        let same : ◌≡◌ {A = Row} (record { start = p.start; value = u }) (record { start = s; value = v }) = cc in
        let e : u ≡ v = ap (λ (x : Row). x.value) same in
        omega (arith, h u refl)
    go false r = absurd (no_row r)

row_value_small : (t : List ℕ) (n : ℕ) (r : List Word) (s v : ℕ) → row_of t n r ≡ sets s v → v < 2
unfolding row_of
row_value_small t n [] s v q = absurd (no_row q)
row_value_small t n (p ∷ []) s v q = with_value n p (Some 1) s v (λ u e. let z : 1 ≡ u = cc in omega arith) q
row_value_small t n (p ∷ x ∷ []) s v q = with_value n p (bit_of (bytes_of t x)) s v (λ u e. bit_value (bytes_of t x) u e) q
row_value_small t n (p ∷ x ∷ y ∷ ys) s v q = absurd (no_row q)

set-from-fits : (size : ℕ) (p : List ℕ) (v j m table : ℕ) → v < 2 → j + m ≤ size → table < 2 ^ size → set_from p v j m table < 2 ^ size
unfolding set_from
set-from-fits size p v j zero table hv h k = k
set-from-fits size p v j (suc m) table hv h k =
    set-from-fits size p v (suc j) m (cond (matches p j) (set_bit table j v) table) hv (omega arith) (go (matches p j))
  where
    go : (b : Bool) → cond b (set_bit table j v) table < 2 ^ size
    go true = set-fits size table j v k (omega arith) hv
    go false = k

start_fits : (n v : ℕ) → v < 2 → start_table n v < 2 ^ 2 ^ n
unfolding start_table
start_fits n zero h = omega (arith, ones_lt (2 ^ n))
start_fits n (suc zero) h = rw (zero-mul (2 ^ 2 ^ n - 1)) (pow_pos (2 ^ n))
start_fits n (suc (suc v)) h = absurd (omega arith)

rows_fit : (t : List ℕ) (n : ℕ) (rows : List (List Word)) (old table : ℕ) → old < 2 ^ 2 ^ n → set_rows t n rows old ≡ Some table → table < 2 ^ 2 ^ n
unfolding set_rows
rows_fit t n [] old table h q = let e : old ≡ table = cc in subst (λ (x : ℕ). x < 2 ^ 2 ^ n) e h
rows_fit t n (r ∷ rs) old table h q = go (row_of t n r) refl q (λ new k z. rows_fit t n rs new table k z)
  where
    go : (row : Option Row) → row_of t n r ≡ row → with_row row (λ s v. set_rows t n rs (set_row n (stretch t s n) v old)) ≡ Some table
        → ((new : ℕ) → new < 2 ^ 2 ^ n → set_rows t n rs new ≡ Some table → table < 2 ^ 2 ^ n) → table < 2 ^ 2 ^ n
    go None e z rest = let y : None ≡ Some table = (unfold with_row in z) in absurd (bad_value y)
    go (Some row) e z rest =
        rest (set_row n (stretch t row.start n) row.value old)
        (unfold set_row in set-from-fits (2 ^ n) (stretch t row.start n) row.value 0 (2 ^ n) old (row_value_small t n r row.start row.value e) (omega arith) h)
        (unfold with_row in z)

pub cover-fits : (t : List ℕ) (n : ℕ) (rows : List (List Word)) (table : ℕ) → cover t n rows ≡ Some table → table < 2 ^ 2 ^ n
unfolding cover constant rows_table
cover-fits t zero [] table q = let e : 0 ≡ table = cc in omega arith
cover-fits t zero ([] ∷ rs) table q = absurd (bad_value q)
cover-fits t zero ((w ∷ ws) ∷ rs) table q = bit_value (bytes_of t (last_of w ws)) table q
cover-fits t (suc n) [] table q = let e : 0 ≡ table = cc in subst (λ (x : ℕ). x < 2 ^ 2 ^ suc n) e (pow_pos (2 ^ suc n))
cover-fits t (suc n) (r ∷ rs) table q = go (row_of t (suc n) r) refl q
  where
    go : (row : Option Row) → row_of t (suc n) r ≡ row → with_row row (λ s v. set_rows t (suc n) (r ∷ rs) (start_table (suc n) v)) ≡ Some table → table < 2 ^ 2 ^ suc n
    go None e z = let y : None ≡ Some table = (unfold with_row in z) in absurd (bad_value y)
    go (Some row) e z = rows_fit t (suc n) (r ∷ rs) (start_table (suc n) row.value) table (start_fits (suc n) row.value (row_value_small t (suc n) r row.start row.value e)) (unfold with_row in z)
