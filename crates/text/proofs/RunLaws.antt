-- How many elements in front pass a test: told element by element, of a part in front, and of what is left.
-- Assumes nothing.
use Prim.Native.Nat.{ℕ, zero, suc, ◌+◌, ◌-◌, ◌≤◌, ◌<◌, min}
use mathlib.Core.Path.{◌≡◌, refl, sym, ap, ◌∙◌, subst}
use mathlib.Core.Bool.{Bool, true, false, cond, not, ◌&&◌, ◌||◌, false≢true}
use mathlib.Core.List.{List, [], ◌∷◌}
use native.Mathlib.Omega.{arith}
use native.Mathlib.Nat.{not-suc-le-zero}
use lib.Dec.{eqb, leb}
use lib.ListN.{length, get_or, take, drop}
use lib.Seq.{drop-drop}
use borrow.Author.Tests.{ne_eqb, leb-false, lt-leb}
use Rattle.laws.specs.Stretches.{stretch, run}
use Rattle.laws.proofs.Stretches.{drop-part}
use Rattle.text.specs.Blanks.{is_blank, not_blank}
use Rattle.text.specs.Eights.{outside}

module _ (p : ℕ → Bool) where
  -- all pass up to the one at i
  pub run_at : (l : List ℕ) (i : ℕ) → i < length l → ((j : ℕ) → j < i → p (get_or l j 0) ≡ true) → p (get_or l i 0) ≡ false → i ≡ run p l
  unfolding run
  run_at [] i h f n = absurd (not-suc-le-zero h)
  run_at (b ∷ bs) zero h f n = rw n
  run_at (b ∷ bs) (suc i) h f n = rw (f 0 (omega arith)) (ap suc (run_at bs i (omega arith) (λ j k. f (suc j) (omega arith)) n))

  -- all pass
  pub run_full : (l : List ℕ) → ((j : ℕ) → j < length l → p (get_or l j 0) ≡ true) → length l ≡ run p l
  unfolding run
  run_full [] f = refl
  run_full (b ∷ bs) f = rw (f 0 (omega arith)) (ap suc (run_full bs (λ j k. f (suc j) (omega arith))))

  -- of a part in front
  pub run_take : (k : ℕ) (l : List ℕ) → run p (take k l) ≡ min k (run p l)
  unfolding run
  run_take zero l = omega arith
  run_take (suc k) [] = omega arith
  run_take (suc k) (b ∷ bs) = go (p b) (run_take k bs)
    where
      go : (t : Bool) → run p (take k bs) ≡ min k (run p bs) → cond t (suc (run p (take k bs))) 0 ≡ min (suc k) (cond t (suc (run p bs)) 0)
      go true h = omega (arith, h)
      go false h = omega arith

  -- of what is left
  pub run_past : (k : ℕ) (l : List ℕ) → k ≤ run p l → run p (drop k l) ≡ run p l - k
  unfolding run
  run_past zero l h = omega arith
  run_past (suc k) [] h = omega arith
  run_past (suc k) (b ∷ bs) h = go (p b) (run_past k bs) h
    where
      go : (t : Bool) → (k ≤ run p bs → run p (drop k bs) ≡ run p bs - k) → suc k ≤ cond t (suc (run p bs)) 0 → run p (drop k bs) ≡ cond t (suc (run p bs)) 0 - suc k
      go true f h = let e = f (omega arith) in omega (arith, e)
      go false f h = absurd (omega arith)

-- a test that passes where another does
run_least : (p q : ℕ → Bool) → ((b : ℕ) → p b ≡ true → q b ≡ true) → (l : List ℕ) → run p l ≤ run q l
unfolding run
run_least p q f [] = omega arith
run_least p q f (b ∷ bs) = go (p b) refl (run_least p q f bs)
  where
    go : (t : Bool) → p b ≡ t → run p bs ≤ run q bs → cond t (suc (run p bs)) 0 ≤ cond (q b) (suc (run q bs)) 0
    go true e h = rw (f b e) (omega (arith, h))
    go false e h = omega arith

-- where the one stops, as much is left to the other as there was, less what is passed
pub run-from : (p q : ℕ → Bool) → ((b : ℕ) → p b ≡ true → q b ≡ true) → (t : List ℕ) (from end i : ℕ) → i ≡ from + run p (stretch t from (end - from))
    → i + run q (stretch t i (end - i)) ≡ from + run q (stretch t from (end - from))
run-from p q f t from end i e =
    let l = stretch t from (end - from) in
    let m = run_least p q f l in
    let d : run q (stretch t (from + run p l) (end - (from + run p l))) ≡ run q l - run p l = ap (run q) (sym (drop-part (run p l) t from end)) ∙ run_past q (run p l) l m in
    let d' = subst (λ (x : ℕ). run q (stretch t x (end - x)) ≡ run q l - run p l) (sym e) d in
    omega (arith, e, m, d')

-- what lies outside of 9 to 32 is no blank
pub not-blank : (b : ℕ) → outside 9 32 b ≡ true → not_blank b ≡ true
unfolding is_blank
not-blank b h = go (leb 9 b) refl (leb b 32) refl h
  where
    go : (s : Bool) → leb 9 b ≡ s → (t : Bool) → leb b 32 ≡ t → not (s && t) ≡ true → not (eqb b 32 || (leb 9 b && leb b 13)) ≡ true
    go false e t f h = rw (ne_eqb b 32 (λ q. omega (arith, q, leb-false 9 b e)), e)
    go true e false f h = rw (ne_eqb b 32 (λ q. omega (arith, q, leb-false b 32 f)), e, lt-leb b 13 (omega (arith, leb-false b 32 f)))
    go true e true f h = absurd (false≢true h)

-- a stretch looked at in two parts
module _ (p : ℕ → Bool) (t : List ℕ) (from near end : ℕ) (h : from ≤ near) (k : near ≤ end) where
  part-run : (n : ℕ) → run p (stretch t from n) ≡ min n (run p (drop from t))
  unfolding stretch
  part-run n = run_take p n (drop from t)

  pub pass_near : (i : ℕ) → i ≡ from + run p (stretch t from (near - from)) → near ≤ i → near + run p (stretch t near (end - near)) ≡ from + run p (stretch t from (end - from))
  unfolding stretch
  pass_near i e l =
      let o : near - from ≤ run p (drop from t) = omega (arith, h, e, l, part-run (near - from)) in
      let f : from + (near - from) ≡ near = omega (arith, h) in
      let d : run p (drop near t) ≡ run p (drop from t) - (near - from) = ap (λ (x : ℕ). run p (drop x t)) (sym f) ∙ ap (run p) (sym (drop-drop (near - from) from t)) ∙ run_past p (near - from) (drop from t) o in
      let q : run p (drop near t) + near ≡ run p (drop from t) + from = omega (arith, h, o, d) in
      omega (arith, h, k, q, part-run (end - from), run_take p (end - near) (drop near t))
