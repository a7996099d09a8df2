-- The index of known values, a value at a time.
-- Assumes nothing.
use Rattle.std.proofs.Common.{add-one, ℕ, ◌+◌, ◌*◌, ◌^◌, ◌<◌, ◌≤◌, ◌≡◌, List, [], ◌∷◌, length, drop, get_or, refl, sym, ap, ◌∙◌, subst, arith}
use lib.Pow.{pow-add, pow_mono}
use lib.ListN.{drop_of_length-le}
use Rattle.std.proofs.Math.Seq.{drop-cons}
use Rattle.laws.specs.Stretches.{All}
use Rattle.cells.specs.Cells.{index_from}

pub small_power : (n : ℕ) → n ≤ 6 → 2 ^ n ≤ 64
small_power n h = pow_mono {i = n} {j = 6} h

-- so far: the index of the values before i, and what is left
pub record Indexed (vs : List ℕ) (i index : ℕ) : Type 0 where
  pub whole : index_from index (drop i vs) ≡ index_from 0 vs
  pub known : All (λ v. v < 2) (drop i vs)
  pub small : index < 2 ^ i

pub indexed_start : (vs : List ℕ) → All (λ v. v < 2) vs → Indexed vs 0 0
indexed_start vs h = record { whole = refl; known = h; small = omega arith }

pub indexed_next : (vs : List ℕ) (i index : ℕ) → i < length vs → Indexed vs i index → (v : ℕ) → v ≡ get_or vs i 0 → Indexed vs (i + 1) (2 * index + v)
unfolding index_from
indexed_next vs i index h s v q =
    let e : drop i vs ≡ v ∷ drop (i + 1) vs = rw add-one (drop-cons vs i 0 h) ∙ ap (λ (x : ℕ). x ∷ drop (i + 1) vs) (sym q) in
    let a : All (λ v. v < 2) (v ∷ drop (i + 1) vs) = subst (λ l. All (λ v. v < 2) l) e s.known in
    record {
      whole = sym (ap (index_from index) e) ∙ s.whole;
      known = a.1;
      small = let p = s.small in let b : v < 2 = a.0 in omega (arith, pow-add 2 i 1);
    }

pub indexed_all : (vs : List ℕ) (i index : ℕ) → length vs ≤ i → i ≤ length vs → Indexed vs i index → (index ≡ index_from 0 vs) × (index < 2 ^ length vs)
unfolding index_from
indexed_all vs i index h k s =
    let e : drop i vs ≡ [] = drop_of_length-le vs h in
    let n : i ≡ length vs = omega arith in
    (sym (ap (index_from index) e) ∙ s.whole, subst (λ m. index < 2 ^ m) n s.small)
