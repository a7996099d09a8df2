-- The next word is the first of the words, and the rest are those after it; each word is one; the words by their bytes.
-- Assumes nothing.
use Prim.Native.Nat.{ℕ, zero, suc, ◌+◌, ◌-◌, ◌≤◌}
use mathlib.Core.Path.{◌≡◌, refl, sym, ap, ap₂, ◌∙◌}
use mathlib.Core.Bool.{Bool, true, false, cond}
use mathlib.Core.List.{List, [], ◌∷◌, map}
use native.Mathlib.Nat.{add-zero}
use native.Mathlib.Omega.{arith}
use lib.ListN.{length, take, drop}
use lib.Seq.{get_or-take, length-take-le}
use borrow.Author.Tests.{not-true}
use Rattle.laws.specs.Stretches.{stretch, run, All}
use Rattle.laws.proofs.Stretches.{rest_end, drop-part, run_drop, run_length, run_all, all_at, all_map, length-stretch_le, stretch_all, stretch-stretch, get_or-stretch}
use Rattle.text.specs.Blanks.{is_blank, not_blank}
use Rattle.text.specs.Words.{bytes_of, words, within, words_between, split_whitespace, next_word, IsWord}
use Rattle.text.specs.declared.words.Word.{Word}

pub next_made : (t : List ℕ) (from end s e : ℕ) → s ≡ from + run is_blank (stretch t from (end - from)) → e ≡ s + run not_blank (stretch t s (end - s))
    → ◌≡◌ {A = Word} (record { start = s; len = e - s }) (next_word t from end)
unfolding next_word
next_made t from end s e p q =
    let r : e - s ≡ run not_blank (stretch t s (end - s)) = omega arith in
    rw (r, p)

-- ---- on lists

-- blanks in front say nothing
words_skip : (at : ℕ) (l : List ℕ) → words at l ≡ words (at + run is_blank l) (drop (run is_blank l) l)
unfolding words run
words_skip at [] = refl
words_skip at (b ∷ bs) = go (is_blank b) refl (words_skip (suc at) bs)
  where
    go : (t : Bool) → is_blank b ≡ t → words (suc at) bs ≡ words (suc at + run is_blank bs) (drop (run is_blank bs) bs)
        → words at (b ∷ bs) ≡ words (at + run is_blank (b ∷ bs)) (drop (run is_blank (b ∷ bs)) (b ∷ bs))
    go true e h =
        let q : suc at + run is_blank bs ≡ at + suc (run is_blank bs) = omega arith in
        rw e (h ∙ ap (λ (k : ℕ). words k (drop (run is_blank bs) bs)) q)
    go false e h = rw (e, add-zero at, e)

-- a word goes on up to the next blank
within_all : (s n : ℕ) (l : List ℕ)
    → within s n l ≡ record { start = s; len = n + run not_blank l } ∷ words (s + (n + run not_blank l)) (drop (run not_blank l) l)
unfolding words run
within_all s n [] = rw (add-zero n)
within_all s n (b ∷ bs) = go (is_blank b) refl (within_all s (suc n) bs)
  where
    go : (t : Bool) → is_blank b ≡ t
        → within s (suc n) bs ≡ record { start = s; len = suc n + run not_blank bs } ∷ words (s + (suc n + run not_blank bs)) (drop (run not_blank bs) bs)
        → within s n (b ∷ bs) ≡ record { start = s; len = n + run not_blank (b ∷ bs) } ∷ words (s + (n + run not_blank (b ∷ bs))) (drop (run not_blank (b ∷ bs)) (b ∷ bs))
    go true e h =
        let q : suc (s + n) ≡ s + suc n = omega arith in
        rw (e, add-zero n, e, q)
    go false e h =
        let q : suc n + run not_blank bs ≡ n + suc (run not_blank bs) = omega arith in
        rw e (rw q at h)

-- at a place that is no blank
words_here : (at : ℕ) (l : List ℕ) → run is_blank l ≡ 0 → (run not_blank l ≡ 0 → ⊥)
    → words at l ≡ record { start = at; len = run not_blank l } ∷ words (at + run not_blank l) (drop (run not_blank l) l)
unfolding words run
words_here at [] h n = absurd (n refl)
words_here at (b ∷ bs) h n = go (is_blank b) refl
  where
    go : (t : Bool) → is_blank b ≡ t
        → words at (b ∷ bs) ≡ record { start = at; len = run not_blank (b ∷ bs) } ∷ words (at + run not_blank (b ∷ bs)) (drop (run not_blank (b ∷ bs)) (b ∷ bs))
    go true e = absurd (omega (arith, rw e at h))
    go false e =
        let q : 1 + run not_blank bs ≡ suc (run not_blank bs) = omega arith in
        rw e (rw q at (within_all at 1 bs))

words-nothing : (at : ℕ) (l : List ℕ) → run is_blank l ≡ 0 → run not_blank l ≡ 0 → words at l ≡ []
unfolding words run
words-nothing at [] h n = refl
words-nothing at (b ∷ bs) h n = go (is_blank b) refl
  where
    go : (t : Bool) → is_blank b ≡ t → words at (b ∷ bs) ≡ []
    go true e = absurd (omega (arith, rw e at h))
    go false e = absurd (omega (arith, rw e at n))

-- the same words, k places further on
later : ℕ → Word → Word
later k w = record { start = k + w.start; len = w.len }

mutual
  unfolding words later

  words-later : (k at : ℕ) (l : List ℕ) → words (k + at) l ≡ map (later k) (words at l)
  words-later k at [] = refl
  words-later k at (b ∷ bs) = go (is_blank b) (words-later k (suc at) bs) (within-later k at 1 bs)
    where
      go : (t : Bool) → words (k + suc at) bs ≡ map (later k) (words (suc at) bs) → within (k + at) 1 bs ≡ map (later k) (within at 1 bs)
          → cond t (words (suc (k + at)) bs) (within (k + at) 1 bs) ≡ map (later k) (cond t (words (suc at) bs) (within at 1 bs))
      go true h g =
          let q : suc (k + at) ≡ k + suc at = omega arith in
          rw q h
      go false h g = g

  within-later : (k s n : ℕ) (l : List ℕ) → within (k + s) n l ≡ map (later k) (within s n l)
  within-later k s n [] = refl
  within-later k s n (b ∷ bs) = go (is_blank b) (words-later k (s + suc n) bs) (within-later k s (suc n) bs)
    where
      go : (t : Bool) → words (k + (s + suc n)) bs ≡ map (later k) (words (s + suc n) bs) → within (k + s) (suc n) bs ≡ map (later k) (within s (suc n) bs)
          → cond t (record { start = k + s; len = n } ∷ words (k + s + suc n) bs) (within (k + s) (suc n) bs)
          ≡ map (later k) (cond t (record { start = s; len = n } ∷ words (s + suc n) bs) (within s (suc n) bs))
      go true h g =
          let q : k + s + suc n ≡ k + (s + suc n) = omega arith in
          rw q (ap (λ (ws : List Word). record { start = k + s; len = n } ∷ ws) h)
      go false h g = g

-- ---- what a loop over the words goes by

module _ (t : List ℕ) (from end : ℕ) where
  end' : (next_word t from end).len ≡ 0 → words from (stretch t from (end - from)) ≡ []
  unfolding next_word
  end' z =
      let l = stretch t from (end - from) in
      let k = run is_blank l in
      words_skip from l ∙ words-nothing (from + k) (drop k l) (run_drop is_blank l) (ap (run not_blank) (drop-part k t from end) ∙ z)

  next' : ((next_word t from end).len ≡ 0 → ⊥)
      → let w = next_word t from end in
      words from (stretch t from (end - from)) ≡ w ∷ words (w.start + w.len) (stretch t (w.start + w.len) (end - (w.start + w.len)))
  unfolding next_word
  next' nz =
      let l : List ℕ = stretch t from (end - from) in
      let k : ℕ = run is_blank l in
      let m : ℕ = run not_blank (stretch t (from + k) (end - (from + k))) in
      let d : drop k l ≡ stretch t (from + k) (end - (from + k)) = drop-part k t from end in
      let n : run not_blank (drop k l) ≡ 0 → ⊥ = rw d nz in
      words_skip from l
      ∙ words_here (from + k) (drop k l) (run_drop is_blank l) n
      ∙ (rw (d, drop-part m t (from + k) end))

  module _ (w : Word) (e : w ≡ next_word t from end) where
    pub no_word : w.len ≡ 0 → words from (stretch t from (end - from)) ≡ []
    no_word z = end' (ap (λ (y : Word). y.len) (sym e) ∙ z)

    pub first_word : (w.len ≡ 0 → ⊥)
        → words from (stretch t from (end - from)) ≡ w ∷ words (w.start + w.len) (stretch t (w.start + w.len) (end - (w.start + w.len)))
    first_word nz = rw e (next' (rw e at nz))

pub words_over : (t : List ℕ) (at end : ℕ) → end ≤ at → words at (stretch t at (end - at)) ≡ []
unfolding words
words_over t at end h = rw (rest_end t at end at h)

-- ---- there are no more words than bytes

mutual
  unfolding words

  words_count : (at : ℕ) (l : List ℕ) → length (words at l) ≤ length l
  words_count at [] = omega arith
  words_count at (b ∷ bs) = go (is_blank b) (words_count (suc at) bs) (within_count at 1 bs)
    where
      go : (t : Bool) → length (words (suc at) bs) ≤ length bs → length (within at 1 bs) ≤ suc (length bs)
          → length (cond t (words (suc at) bs) (within at 1 bs)) ≤ suc (length bs)
      go true h g = omega arith
      go false h g = g

  within_count : (s n : ℕ) (l : List ℕ) → length (within s n l) ≤ suc (length l)
  within_count s n [] = omega arith
  within_count s n (b ∷ bs) = go (is_blank b) (words_count (s + suc n) bs) (within_count s (suc n) bs)
    where
      go : (t : Bool) → length (words (s + suc n) bs) ≤ length bs → length (within s (suc n) bs) ≤ suc (length bs)
          → length (cond t (record { start = s; len = n } ∷ words (s + suc n) bs) (within s (suc n) bs)) ≤ suc (suc (length bs))
      go true h g = omega arith
      go false h g = omega arith

pub count_between : (t : List ℕ) (from end : ℕ) → length (words_between t from end) ≤ end - from
count_between t from end = omega (arith, words_count from (stretch t from (end - from)), length-stretch_le t from (end - from))

-- ---- each word is one

module _ (t : List ℕ) (from end : ℕ) where
  -- the next word, if there is one
  pub next-is : ((next_word t from end).len ≡ 0 → ⊥) → IsWord t from end (next_word t from end)
  unfolding next_word
  next-is nz =
      let s : ℕ = from + run is_blank (stretch t from (end - from)) in
      let l : List ℕ = stretch t s (end - s) in
      let n : ℕ = run not_blank l in
      let short : n ≤ end - s = omega (arith, run_length not_blank l, length-stretch_le t s (end - s)) in
      record {
        some = omega arith;
        after = omega arith;
        inside = omega arith;
        no_blank = λ i h.
            sym (ap is_blank (get_or-take n l i 0 h ∙ get_or-stretch t s (end - s) i (omega arith)))
            ∙ not-true _ (all_at (λ b. not_blank b ≡ true) (take n l) i (run_all not_blank l) (rw (length-take-le n l (run_length not_blank l)) h));
      }

wider : (t : List ℕ) (from from' end : ℕ) (ws : List Word) → from ≤ from' → All (IsWord t from' end) ws → All (IsWord t from end) ws
wider t from from' end ws h p =
    all_map ws (λ w q. record { some = q.some; after = omega (arith, q.after); inside = q.inside; no_blank = q.no_blank }) p

words_up_to : (n : ℕ) (t : List ℕ) (from end : ℕ) → end - from ≤ n → All (IsWord t from end) (words from (stretch t from (end - from)))
words_up_to zero t from end h = rw (words_over t from end (omega arith)) tt
words_up_to (suc n) t from end h = go (next_word t from end) refl (next_word t from end).len refl (λ at q. words_up_to n t at end q)
  where
    go : (w : Word) → w ≡ next_word t from end → (k : ℕ) → (next_word t from end).len ≡ k → ((at : ℕ) → end - at ≤ n → All (IsWord t at end) (words at (stretch t at (end - at))))
        → All (IsWord t from end) (words from (stretch t from (end - from)))
    go w e zero z after = rw (no_word t from end w e (ap (λ (y : Word). y.len) e ∙ z)) tt
    go w e (suc k) z after =
        let nz : w.len ≡ 0 → ⊥ = λ q. omega (arith, ap (λ (y : Word). y.len) e) in
        let is : IsWord t from end w = rw e (next-is t from end (rw e at nz)) in
        let at : ℕ = w.start + w.len in
        rw (first_word t from end w e nz)
        (is, wider t from at end (words at (stretch t at (end - at))) (omega (arith, is.after)) (after at (omega (arith, is.some, is.after, is.inside))))

-- the words of a stretch are not empty, lie inside it and hold no blank
pub each_word : (t : List ℕ) (from end : ℕ) → All (IsWord t from end) (words from (stretch t from (end - from)))
each_word t from end = words_up_to (end - from) t from end (omega arith)

-- ---- the words by their bytes

-- the bytes of a line's words, read from the text
pub words_bytes : (t : List ℕ) (s n : ℕ) → map (bytes_of t) (words s (stretch t s n)) ≡ split_whitespace (stretch t s n)
unfolding split_whitespace
words_bytes t s n =
    ap (map (bytes_of t)) (ap (λ (k : ℕ). words k (stretch t s n)) (sym (add-zero s)) ∙ words-later s 0 (stretch t s n))
    ∙ each (words 0 l) (rw (stretch_all l 0 (length l) refl) at (each_word l 0 (length l)))
  where
    l : List ℕ
    l = stretch t s n

    each : (ws : List Word) → All (IsWord (stretch t s n) 0 (length (stretch t s n))) ws → map (bytes_of t) (map (later s) ws) ≡ map (bytes_of (stretch t s n)) ws
    each [] p = refl
    each (w ∷ ws) p =
        ap₂ (λ (x : List ℕ) (xs : List (List ℕ)). x ∷ xs)
        (unfold later in sym (stretch-stretch t s n w.start w.len (omega (arith, p.0.inside, length-stretch_le t s n))))
        (each ws p.1)

-- what is left of a line from a place on, by its words' bytes
abbrev pub rest : List ℕ → ℕ → ℕ → List (List ℕ)
rest t at end = split_whitespace (stretch t at (end - at))

pub rest_count : (t : List ℕ) (at end : ℕ) → length (rest t at end) ≡ length (words at (stretch t at (end - at)))
rest_count t at end = ap length (sym (words_bytes t at (end - at))) ∙ size (words at (stretch t at (end - at)))
  where
    size : (ws : List Word) → length (map (bytes_of t) ws) ≡ length ws
    size [] = refl
    size (w ∷ ws) = ap suc (size ws)

module _ (t : List ℕ) (from end : ℕ) (w : Word) (e : w ≡ next_word t from end) where
  pub rest_none : w.len ≡ 0 → rest t from end ≡ []
  rest_none z = sym (words_bytes t from (end - from)) ∙ ap (map (bytes_of t)) (no_word t from end w e z)

  pub rest_next : (w.len ≡ 0 → ⊥) → rest t from end ≡ stretch t w.start w.len ∷ rest t (w.start + w.len) end
  rest_next nz =
      sym (words_bytes t from (end - from))
      ∙ ap (map (bytes_of t)) (first_word t from end w e nz)
      ∙ ap (λ (ws : List (List ℕ)). stretch t w.start w.len ∷ ws) (words_bytes t (w.start + w.len) (end - (w.start + w.len)))
