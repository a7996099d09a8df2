-- Wherever the document speaks of a cover, the table that the reader gives it is the document's function.
-- Assumes nothing.
use Rattle.std.specs.Prelude.{Some}
use Prim.Native.Nat.{ℕ, zero, suc, ◌+◌, ◌-◌, ◌*◌, ◌/◌, ◌%◌, ◌^◌, ◌≤◌, ◌<◌}
use mathlib.Core.Path.{◌≡◌, refl, sym, ap, ap₂, ◌∙◌, subst}
use mathlib.Core.Logic.{⊎_elim}
use mathlib.Core.Bool.{Bool, true, false, cond, ◌&&◌, ◌||◌}
use mathlib.Core.List.{List, [], ◌∷◌, map}
use native.Mathlib.Nat.{mod-lt, zero-mul}
use native.Mathlib.Numerals.{add-one}
use native.Mathlib.Decide.{dec_lt}
use native.Mathlib.Omega.{arith}
use lib.Pow.{pow_pos, shr-shr, split}
use lib.ListN.{length}
use lib.Dec.{eqb}
use borrow.Author.Tests.{eqb-true, eq-eqb}
use Rattle.laws.specs.Bits.{set_bit}
use Rattle.laws.specs.Lists.{some}
use Rattle.laws.specs.Stretches.{stretch, All}
use Rattle.laws.proofs.Bits.{bit-set_same, bit-set_other}
use Rattle.std.proofs.lemmas.Bool.{or_cases}
use Rattle.laws.proofs.Rows.{one_bit, zero_bit, ones_bit}
use Rattle.laws.proofs.Stretches.{length-stretch}
use Rattle.cells.specs.Cells.{entry, index_from}
use Rattle.text.specs.Words.{bytes_of}
use Rattle.text.specs.declared.words.Word.{Word}
use Rattle.cover.specs.Cover.{sets, bit_of, row_with, row_of, fits, matches, set_from, set_row, with_row, set_rows, start_table, last_of, constant, rows_table, cover}
use Rattle.documents.specs.BlifDocument.{is_plane, literal, cube, cover_value, IsRow, IsCover}

-- ---- the index of values

abbrev pub Bits : List ℕ → Type 0
Bits vs = All (λ v. v < 2) vs

index_top : (k : ℕ) (vs : List ℕ) → Bits vs → index_from k vs / 2 ^ length vs ≡ k
unfolding index_from
index_top k [] h = omega arith
index_top k (v ∷ vs) h =
    let x : ℕ = index_from (2 * k + v) vs in
    let m : ℕ = length vs in
    ap (λ (e : ℕ). x / 2 ^ e) (sym (add-one m)) ∙ sym (shr-shr x m 1)
    ∙ ap (λ (y : ℕ). y / 2) (index_top (2 * k + v) vs h.1) ∙ omega (arith, h.0)

index_small : (vs : List ℕ) → Bits vs → index_from 0 vs < 2 ^ length vs
index_small vs h =
    let x : ℕ = index_from 0 vs in
    let m : ℕ = length vs in
    let e : x / 2 ^ m * 2 ^ m ≡ 0 = ap (λ (y : ℕ). y * 2 ^ m) (index_top 0 vs h) ∙ zero-mul (2 ^ m) in
    omega (arith, split x m, e, mod-lt x (pow_pos m))

index_bit : (k v : ℕ) (vs : List ℕ) → v < 2 → Bits vs → entry (index_from (2 * k + v) vs) (length vs) ≡ v
index_bit k v vs h b = ap (λ (y : ℕ). y % 2) (index_top (2 * k + v) vs b) ∙ omega arith

-- ---- a pattern matches the index where the document's row holds

literal-fits : (b v : ℕ) → is_plane b ≡ true → v < 2 → fits b v ≡ literal b v
literal-fits b v p h =
    ⊎_elim (λ e. at 48 (eqb-true b 48 e) zeros)
    (λ r. ⊎_elim (λ e. at 49 (eqb-true b 49 e) ones) (λ e. at 45 (eqb-true b 45 e) both) (or_cases (eqb b 49) (eqb b 45) r))
    (or_cases (eqb b 48) (eqb b 49 || eqb b 45) p)
  where
    at : (c : ℕ) → b ≡ c → fits c v ≡ literal c v → fits b v ≡ literal b v
    at c e q = rw e q

    zeros : fits 48 v ≡ literal 48 v
    zeros = unfold fits in one_bit (λ (x : ℕ). fits 48 x ≡ literal 48 x) refl refl v h

    ones : fits 49 v ≡ literal 49 v
    ones = unfold fits in one_bit (λ (x : ℕ). fits 49 x ≡ literal 49 x) refl refl v h

    both : fits 45 v ≡ literal 45 v
    both = unfold fits in refl

pub matches-cube : (p vs : List ℕ) (k : ℕ) → length p ≡ length vs → All (λ b. is_plane b ≡ true) p → Bits vs → matches p (index_from k vs) ≡ cube p vs
unfolding matches cube index_from
matches-cube [] vs k e p h = refl
matches-cube (b ∷ bs) [] k e p h = absurd (omega arith)
matches-cube (b ∷ bs) (v ∷ vs) k e p h =
    let l : length bs ≡ length vs = omega arith in
    ap₂ (λ (x y : Bool). x && y)
    (ap (λ (m : ℕ). fits b (entry (index_from (2 * k + v) vs) m)) l ∙ ap (fits b) (index_bit k v vs h.0 h.1) ∙ literal-fits b v p.0 h.0)
    (matches-cube bs vs (2 * k + v) l p.1 h.1)

-- ---- the entries that a row sets

set_before : (p : List ℕ) (v : ℕ) → v < 2 → (m j table k : ℕ) → k < j → entry (set_from p v j m table) k ≡ entry table k
unfolding set_from
set_before p v hv zero j table k h = refl
set_before p v hv (suc m) j table k h =
    set_before p v hv m (suc j) (cond (matches p j) (set_bit table j v) table) k (omega arith) ∙ go (matches p j)
  where
    go : (b : Bool) → entry (cond b (set_bit table j v) table) k ≡ entry table k
    go true = bit-set_other table j v k hv (λ e. omega (arith, e))
    go false = refl

set_among : (p : List ℕ) (v : ℕ) → v < 2 → (m j table k : ℕ) → j ≤ k → k < j + m → entry (set_from p v j m table) k ≡ cond (matches p k) v (entry table k)
unfolding set_from
set_among p v hv zero j table k h g = absurd (omega arith)
set_among p v hv (suc m) j table k h g = go (dec_lt j k) (λ l. set_among p v hv m (suc j) (cond (matches p j) (set_bit table j v) table) k (omega arith) (omega arith))
  where
    later : j < k → (b : Bool) → entry (cond b (set_bit table j v) table) k ≡ entry table k
    later l true = bit-set_other table j v k hv (λ e. omega (arith, e))
    later l false = refl

    here : (b : Bool) → entry (cond b (set_bit table j v) table) j ≡ cond b v (entry table j)
    here true = bit-set_same table j v hv
    here false = refl

    go : Dec (j < k) → (j < k → entry (set_from p v (suc j) m (cond (matches p j) (set_bit table j v) table)) k ≡ cond (matches p k) v (entry (cond (matches p j) (set_bit table j v) table) k))
        → entry (set_from p v (suc j) m (cond (matches p j) (set_bit table j v) table)) k ≡ cond (matches p k) v (entry table k)
    go (yes l) rest = rest l ∙ ap (λ (x : ℕ). cond (matches p k) v x) (later l (matches p j))
    go (no n) rest =
        let e : k ≡ j = omega arith in
        rw e (set_before p v hv m (suc j) (cond (matches p j) (set_bit table j v) table) j (omega arith) ∙ here (matches p j))

pub row-entry : (n : ℕ) (p : List ℕ) (v table k : ℕ) → v < 2 → k < 2 ^ n → entry (set_row n p v table) k ≡ cond (matches p k) v (entry table k)
unfolding set_row
row-entry n p v table k hv h = set_among p v hv (2 ^ n) 0 table k (omega arith) (omega arith)

-- ---- the entries that a table starts with

start-entry : (n v k : ℕ) → v < 2 → k < 2 ^ n → entry (start_table n v) k ≡ 1 - v
unfolding start_table
start-entry n v k hv h = one_bit (λ (x : ℕ). entry ((1 - x) * (2 ^ 2 ^ n - 1)) k ≡ 1 - x) zeros ones v hv
  where
    zeros : entry ((1 - 0) * (2 ^ 2 ^ n - 1)) k ≡ 1 - 0
    zeros = ap (λ (x : ℕ). entry x k) (omega arith) ∙ ones_bit (2 ^ n) k h

    ones : entry ((1 - 1) * (2 ^ 2 ^ n - 1)) k ≡ 1 - 1
    ones = ap (λ (x : ℕ). entry x k) (zero-mul (2 ^ 2 ^ n - 1)) ∙ zero_bit k

-- ---- the rows of a cover

abbrev pub Inside : List ℕ → List (List Word) → Type 0
Inside t rows = All (λ (r : List Word). All (λ (w : Word). w.start + w.len ≤ length t) r) rows

abbrev pub row_bytes : List ℕ → List (List Word) → List (List (List ℕ))
row_bytes t rows = map (map (bytes_of t)) rows

value_bit : (v : ℕ) → v < 2 → bit_of ((48 + v) ∷ []) ≡ Some v
unfolding bit_of
value_bit = one_bit (λ (v : ℕ). bit_of ((48 + v) ∷ []) ≡ Some v) refl refl

row_read : (t : List ℕ) (n v : ℕ) (r : List Word) (p : List ℕ) → v < 2 → All (λ (w : Word). w.start + w.len ≤ length t) r → IsRow (suc n) v (map (bytes_of t) r) p
    → (s : ℕ) × (row_of t (suc n) r ≡ sets s v) × (stretch t s (suc n) ≡ p)
row_read t n v [] p hv ins is = cc
row_read t n v (w ∷ []) p hv ins is = let e : length (map (bytes_of t) (w ∷ [])) ≡ 2 = ap length is.0 in absurd (omega arith)
row_read t n v (w ∷ x ∷ y ∷ ys) p hv ins is = let e = ap length is.0 in absurd (omega (arith, e))
row_read t n v (w ∷ x ∷ []) p hv ins is = (w.start, made, same)
  where
    first : bytes_of t w ≡ p
    first = let q = is.0 in cc

    second : bytes_of t x ≡ (48 + v) ∷ []
    second = let q = is.0 in cc

    wide : w.len ≡ suc n
    wide = sym (length-stretch t w.start w.len ins.0) ∙ ap length first ∙ is.1

    made : row_of t (suc n) (w ∷ x ∷ []) ≡ sets w.start v
    made = unfold row_of row_with in rw (second, value_bit v hv, eq-eqb w.len (suc n) wide)

    same : stretch t w.start (suc n) ≡ p
    same = ap (stretch t w.start) (sym wide) ∙ first

pub record Read (t : List ℕ) (n v : ℕ) (rows : List (List Word)) (ps : List (List ℕ)) (old : ℕ) : Type 0 where
  pub table : ℕ
  pub is : set_rows t (suc n) rows old ≡ Some table
  pub entries : (k : ℕ) → k < 2 ^ suc n → entry table k ≡ cond (some (λ p. matches p k) ps) v (entry old k)

rows_read : (t : List ℕ) (n v : ℕ) → v < 2 → (rows : List (List Word)) (ps : List (List ℕ)) → Inside t rows → IsCover (suc n) v (row_bytes t rows) ps → (old : ℕ) → Read t n v rows ps old
rows_read t n v hv [] [] ins is old = record { table = old; is = unfold set_rows in refl; entries = λ k h. refl }
rows_read t n v hv [] (p ∷ ps) ins is old = absurd is
rows_read t n v hv (r ∷ rs) [] ins is old = absurd is
rows_read t n v hv (r ∷ rs) (p ∷ ps) ins is old =
    let one = row_read t n v r p hv ins.0 is.0 in
    next one.0 one.1 one.2 (rows_read t n v hv rs ps ins.1 is.1 (set_row (suc n) p v old))
  where
    next : (s : ℕ) → row_of t (suc n) r ≡ sets s v → stretch t s (suc n) ≡ p → Read t n v rs ps (set_row (suc n) p v old) → Read t n v (r ∷ rs) (p ∷ ps) old
    next s e q rest = record {
      table = rest.table;
      is = unfold set_rows with_row in rw (e, q) rest.is;
      entries = λ k h.
          rest.entries k h ∙ ap (λ (x : ℕ). cond (some (λ y. matches y k) ps) v x) (row-entry (suc n) p v old k hv h) ∙ both (matches p k) (some (λ y. matches y k) ps) (entry old k);
    }
      where
        both : (a b : Bool) (x : ℕ) → cond b v (cond a v x) ≡ cond (a || b) v x
        both true true x = refl
        both true false x = refl
        both false b x = refl

same_some : (ps : List (List ℕ)) (vs : List ℕ) (n v : ℕ) (rows : List (List (List ℕ))) → IsCover (suc n) v rows ps → length vs ≡ suc n → Bits vs
    → some (λ p. matches p (index_from 0 vs)) ps ≡ some (λ p. cube p vs) ps
same_some [] vs n v rows is l h = refl
same_some (p ∷ ps) vs n v [] is l h = absurd is
same_some (p ∷ ps) vs n v (r ∷ rs) is l h =
    ap₂ (λ (a b : Bool). a || b) (matches-cube p vs 0 (is.0.1 ∙ sym l) is.0.2 h) (same_some ps vs n v rs is.1 l h)

-- ---- the table that is read is the document's function

pub record Covers (t : List ℕ) (n v : ℕ) (rows : List (List Word)) (ps : List (List ℕ)) : Type 0 where
  pub table : ℕ
  pub is : cover t n rows ≡ Some table
  pub means : (vs : List ℕ) → length vs ≡ n → Bits vs → entry table (index_from 0 vs) ≡ cover_value v ps vs

no_rows : (t : List ℕ) (n v : ℕ) → Covers t n v [] []
no_rows t zero v = record { table = 0; is = unfold cover constant in refl; means = λ vs l h. zero_bit (index_from 0 vs) ∙ unfold cover_value in refl }
no_rows t (suc n) v = record { table = 0; is = unfold cover rows_table in refl; means = λ vs l h. zero_bit (index_from 0 vs) ∙ unfold cover_value in refl }

constant_read : (t : List ℕ) (v : ℕ) (r : List Word) (rs : List (List Word)) (p : List ℕ) (ps : List (List ℕ)) → v < 2 → IsRow 0 v (map (bytes_of t) r) p → Covers t 0 v (r ∷ rs) (p ∷ ps)
constant_read t v [] rs p ps hv is = cc
constant_read t v (w ∷ x ∷ xs) rs p ps hv is = let e = ap length is.0 in absurd (omega (arith, e))
constant_read t v (w ∷ []) rs p ps hv is = record {
  table = v;
  is = unfold cover constant last_of in rw word (value_bit v hv);
  means = λ vs l h. at vs l;
}
  where
    word : bytes_of t w ≡ (48 + v) ∷ []
    word = let q = is.0 in cc

    at : (vs : List ℕ) → length vs ≡ 0 → entry v (index_from 0 vs) ≡ cover_value v (p ∷ ps) vs
    at [] l = unfold index_from cover_value cube in rw is.1 (one_bit (λ (x : ℕ). entry x 0 ≡ cond true x (1 - x)) refl refl v hv)
    at (y ∷ ys) l = absurd (omega arith)

pub cover_means : (t : List ℕ) (n v : ℕ) (rows : List (List Word)) (ps : List (List ℕ)) → v < 2 → Inside t rows → IsCover n v (row_bytes t rows) ps → Covers t n v rows ps
cover_means t n v [] [] hv ins is = no_rows t n v
cover_means t n v [] (p ∷ ps) hv ins is = absurd is
cover_means t n v (r ∷ rs) [] hv ins is = absurd is
cover_means t zero v (r ∷ rs) (p ∷ ps) hv ins is = constant_read t v r rs p ps hv is.0
cover_means t (suc n) v (r ∷ rs) (p ∷ ps) hv ins is =
    let one = row_read t n v r p hv ins.0 is.0 in
    all one.0 one.1 (rows_read t n v hv (r ∷ rs) (p ∷ ps) ins is (start_table (suc n) v))
  where
    all : (s : ℕ) → row_of t (suc n) r ≡ sets s v → Read t n v (r ∷ rs) (p ∷ ps) (start_table (suc n) v) → Covers t (suc n) v (r ∷ rs) (p ∷ ps)
    all s e rest = record {
      table = rest.table;
      is = table_is;
      means = λ vs l h.
          let k : index_from 0 vs < 2 ^ suc n = subst (λ (m : ℕ). index_from 0 vs < 2 ^ m) l (index_small vs h) in
          rest.entries (index_from 0 vs) k
          ∙ ap₂ (λ (b : Bool) (x : ℕ). cond b v x) (same_some (p ∷ ps) vs n v (row_bytes t (r ∷ rs)) is l h) (start-entry (suc n) v (index_from 0 vs) hv k)
          ∙ unfold cover_value in refl;
    }
      where
        table_is : cover t (suc n) (r ∷ rs) ≡ Some rest.table
        table_is = opened ∙ rest.is
          where
            opened : cover t (suc n) (r ∷ rs) ≡ set_rows t (suc n) (r ∷ rs) (start_table (suc n) v)
            opened = unfold cover rows_table with_row in rw e
