-- The last place of a byte, and the parts between commas as a walk meets them.
-- Assumes nothing.
use Rattle.std.specs.Prelude.{Err, Ok, Option, Some, None}
use Rattle.std.specs.Option.{ok_or}
use Prim.Native.Nat.{ℕ, zero, suc, ◌+◌, ◌-◌, ◌≤◌, ◌<◌}
use mathlib.Core.Path.{◌≡◌, refl, sym, ap, ap₂, ◌∙◌}
use mathlib.Core.Bool.{Bool, true, false, cond}
use mathlib.Core.List.{List, [], ◌∷◌}
use native.Mathlib.Nat.{le_of_suc-le-suc, not-suc-le-zero}
use native.Mathlib.Omega.{arith}
use lib.ListN.{length, get_or, take, drop}
use lib.Dec.{eqb, ltb}
use borrow.Author.Tests.{lt-ltb, le-leb, lt-leb, ltb-true, ltb-false}
use Rattle.laws.specs.Stretches.{stretch, run, is_not}
use Rattle.laws.proofs.Stretches.{length-stretch, take-stretch, drop-part}
use Rattle.text.specs.Words.{bytes_of, between}
use Rattle.circuit.specs.declared.refusals.Refusal.{Refusal}
use Rattle.circuit.specs.Refusals.{Try}
use Rattle.text.specs.Blanks.{trimmed}
use Rattle.text.specs.Lines.{add_first, places}
use Rattle.text.specs.declared.words.Word.{Word}
use Rattle.bench_invocations.specs.Invocations.{up_to_last, parts, trimmed_parts}
use Rattle.bench_invocations.specs.Walks.{last_place, arguments_from}

-- ---- the last place of a byte

last_none : (x : ℕ) (l : List ℕ) → ((k : ℕ) → k < length l → eqb (get_or l k 0) x ≡ false) → up_to_last x l ≡ 0
unfolding up_to_last
last_none x [] f = refl
last_none x (b ∷ bs) f = rw (last_none x bs (λ k h. f (suc k) (omega arith)), f 0 (omega arith))

last_at : (x : ℕ) (l : List ℕ) (i : ℕ) → i < length l → eqb (get_or l i 0) x ≡ true → ((k : ℕ) → i + 1 ≤ k → k < length l → eqb (get_or l k 0) x ≡ false) → up_to_last x l ≡ suc i
unfolding up_to_last
last_at x [] i h e f = absurd (not-suc-le-zero h)
last_at x (b ∷ bs) zero h e f = rw (last_none x bs (λ k j. f (suc k) (omega arith) (omega arith)), e)
last_at x (b ∷ bs) (suc i) h e f =
    let p : 0 < suc i = omega arith in
    rw (last_at x bs i (omega arith) e (λ k j m. f (suc k) (omega arith) (omega arith)), lt-ltb 0 (suc i) p)

pub last-short : (x : ℕ) (l : List ℕ) → up_to_last x l ≤ length l
unfolding up_to_last
last-short x [] = omega arith
last-short x (b ∷ bs) = go (ltb 0 (up_to_last x bs)) (eqb b x) (last-short x bs)
  where
    go : (s t : Bool) → up_to_last x bs ≤ length bs → cond s (suc (up_to_last x bs)) (cond t 1 0) ≤ suc (length bs)
    go true t h = omega arith
    go false true h = omega arith
    go false false h = omega arith

module _ (x : ℕ) (t : List ℕ) (w : Word) (l : List ℕ) (e : l ≡ bytes_of t w) where
  pub no_last : ((k : ℕ) → k < length l → eqb (get_or l k 0) x ≡ false) → None ≡ last_place x t w
  unfolding last_place
  no_last f = rw (← e, last_none x l f)

  pub last_found : (i : ℕ) → i < length l → eqb (get_or l i 0) x ≡ true → ((k : ℕ) → i + 1 ≤ k → k < length l → eqb (get_or l k 0) x ≡ false) → Some (w.start + i) ≡ last_place x t w
  unfolding last_place
  last_found i h q f =
      let p : 0 < suc i = omega arith in
      let r : suc i - 1 ≡ i = omega arith in
      rw (← e, last_at x l i h q f, lt-ltb 0 (suc i) p, r)

-- ---- what a look-up says

pub some_ok : (r : Option ℕ) (e : Refusal) (x : ℕ) → Ok x ≡ ok_or r e → Some x ≡ r
some_ok (Some y) e x q =
    let z : x ≡ y = cc in
    ap Some z
some_ok None e x q = absurd (cc)

pub none_err : (r : Option ℕ) (e f : Refusal) → ◌≡◌ {A = Try ℕ} (Err f) (ok_or r e) → (None ≡ r) × (f ≡ e)
none_err (Some y) e f q = absurd (cc)
none_err None e f q =
    let z : f ≡ e = cc in
    (refl, z)

pub place_found : (a b p at : ℕ) → Some at ≡ cond (ltb a b) (Some p) None → (at ≡ p) × (a < b)
place_found a b p at e = go (ltb a b) refl e
  where
    go : (t : Bool) → ltb a b ≡ t → Some at ≡ cond t (Some p) None → (at ≡ p) × (a < b)
    go true h q =
        let z : at ≡ p = cc in
        (z, ltb-true a b h)
    go false h q = absurd (cc)

pub no_place : (a b p : ℕ) → ◌≡◌ {A = Option ℕ} None (cond (ltb a b) (Some p) None) → b ≤ a
no_place a b p e = go (ltb a b) refl e
  where
    go : (t : Bool) → ltb a b ≡ t → ◌≡◌ {A = Option ℕ} None (cond t (Some p) None) → b ≤ a
    go true h q = absurd (cc)
    go false h q = ltb-false a b h

-- ---- parts

parts_hit : (x : ℕ) (l : List ℕ) → run (is_not x) l < length l → parts x l ≡ take (run (is_not x) l) l ∷ parts x (drop (suc (run (is_not x) l)) l)
unfolding parts run
parts_hit x [] h = absurd (not-suc-le-zero h)
parts_hit x (b ∷ bs) h = go (eqb b x) refl h (parts_hit x bs)
  where
    go : (t : Bool) → eqb b x ≡ t → run (is_not x) (b ∷ bs) < length (b ∷ bs)
        → (run (is_not x) bs < length bs → parts x bs ≡ take (run (is_not x) bs) bs ∷ parts x (drop (suc (run (is_not x) bs)) bs))
        → parts x (b ∷ bs) ≡ take (run (is_not x) (b ∷ bs)) (b ∷ bs) ∷ parts x (drop (suc (run (is_not x) (b ∷ bs))) (b ∷ bs))
    go true e k f = rw e
    go false e k f = rw e (ap (add_first b) (f (le_of_suc-le-suc (rw e at k))))

parts_none : (x : ℕ) (l : List ℕ) → run (is_not x) l ≡ length l → parts x l ≡ l ∷ []
unfolding parts run
parts_none x [] h = refl
parts_none x (b ∷ bs) h = go (eqb b x) refl h (parts_none x bs)
  where
    go : (t : Bool) → eqb b x ≡ t → run (is_not x) (b ∷ bs) ≡ length (b ∷ bs) → (run (is_not x) bs ≡ length bs → parts x bs ≡ bs ∷ []) → parts x (b ∷ bs) ≡ (b ∷ bs) ∷ []
    go true e k f = absurd (omega (arith, rw e at k))
    go false e k f =
        let q : suc (run (is_not x) bs) ≡ suc (length bs) = rw e at k in
        rw e (ap (add_first b) (f (omega arith)))

-- ---- the arguments from a place on

pub arguments_over : (t : List ℕ) (at end : ℕ) → end < at → arguments_from t at end ≡ []
unfolding arguments_from
arguments_over t at end h = rw (lt-leb at end h)

pub arguments_here : (t : List ℕ) (at end : ℕ) → at ≤ end → arguments_from t at end ≡ trimmed_parts t (between at end)
unfolding arguments_from
arguments_here t at end h = rw (le-leb at end h)

module _ (t : List ℕ) (at end cut : ℕ) (ae : at ≤ end) (el : end ≤ length t) (e : cut ≡ at + run (is_not 44) (stretch t at (end - at))) (ce : cut ≤ end) where
  bytes : List ℕ
  bytes = stretch t at (end - at)

  found : run (is_not 44) (stretch t at (end - at)) ≡ cut - at
  found = omega (arith, e)

  size : length (stretch t at (end - at)) ≡ end - at
  size = length-stretch t at (end - at) (omega arith)

  more : cut < end → parts 44 (stretch t at (end - at)) ≡ stretch t at (cut - at) ∷ parts 44 (stretch t (cut + 1) (end - (cut + 1)))
  more h =
      let q : at + suc (run (is_not 44) (stretch t at (end - at))) ≡ cut + 1 = omega (arith, e) in
      parts_hit 44 (stretch t at (end - at)) (omega (arith, found, size))
      ∙ ap₂ (λ (x y : List ℕ). x ∷ parts 44 y)
      (ap (λ (k : ℕ). take k (stretch t at (end - at))) found ∙ take-stretch (cut - at) t at (end - at) (omega arith))
      (drop-part (suc (run (is_not 44) (stretch t at (end - at)))) t at end ∙ ap (λ (k : ℕ). stretch t k (end - k)) q)

  trimmed_more : cut < end → trimmed_parts t (between at end) ≡ trimmed t (between at cut) ∷ trimmed_parts t (between (cut + 1) end)
  unfolding places
  trimmed_more h =
      let n : length (stretch t at (cut - at)) ≡ cut - at = length-stretch t at (cut - at) (omega arith) in
      let q : at + (cut - at) + 1 ≡ cut + 1 = omega (arith, e) in
      rw (more h, n, q)

  trimmed_last : cut ≡ end → trimmed_parts t (between at end) ≡ trimmed t (between at cut) ∷ []
  unfolding places
  trimmed_last h = rw (parts_none 44 (stretch t at (end - at)) (omega (arith, found, size)), size, h)

  -- the first argument, and those after it
  pub argument_first : (w : Word) → w ≡ trimmed t (between at cut) → arguments_from t at end ≡ w ∷ arguments_from t (cut + 1) end
  argument_first w q = arguments_here t at end ae ∙ go (ltb cut end) refl ∙ ap (λ (x : Word). x ∷ arguments_from t (cut + 1) end) (sym q)
    where
      go : (b : Bool) → ltb cut end ≡ b → trimmed_parts t (between at end) ≡ trimmed t (between at cut) ∷ arguments_from t (cut + 1) end
      go true h =
          let l : cut < end = ltb-true cut end h in
          trimmed_more l ∙ ap (λ (x : List Word). trimmed t (between at cut) ∷ x) (sym (arguments_here t (cut + 1) end (omega arith)))
      go false h =
          let l : end ≤ cut = ltb-false cut end h in
          trimmed_last (omega arith) ∙ ap (λ (x : List Word). trimmed t (between at cut) ∷ x) (sym (arguments_over t (cut + 1) end (omega arith)))
