-- Laws of a search: the records that it comes to, and what it finds.
-- Assumes nothing.
use Rattle.std.specs.Prelude.{None, Some}
use Rattle.std.proofs.Common.{◌≡◌, ℕ, zero, suc, ◌+◌, ◌-◌, ◌*◌, ◌%◌, ◌<◌, ◌≤◌, Bool, true, false, cond, ltb, leb, eqb, eqb-true, List, get_or, sym, refl, ap, ◌∙◌, ap₂, arith, leb-true, leb-false, ltb-true, ltb-false}
use Rattle.std.proofs.lemmas.Bool.{false_from_ne_true, false≢true}
use Rattle.std.proofs.lemmas.Option.{none-some}
use Rattle.std.proofs.lemmas.Grind.{not_there}
use borrow.Author.Tests.{eqb-false}
use Rattle.laws.specs.Stretches.{same_bytes}
use Rattle.laws.proofs.Stretches.{same_eq, same_refl}
use Rattle.names.specs.Names.{name_of, lookup}
use Rattle.names.specs.Chains.{bucket_of, digit_of, entry, entries, name_at, link_at, next, reached, Alike, Table, Behind}
use Rattle.names.specs.declared.records.TheConstants.{NAME_WORDS, WIRE_AT, LINKS, KEY_DIGITS}

pub bucket_small : (w : List ℕ) → bucket_of w < 256
unfolding bucket_of
bucket_small w = omega arith

pub digit_small : (w : List ℕ) (d : ℕ) → digit_of w d < LINKS
unfolding digit_of
digit_small w d = go (ltb d KEY_DIGITS) _ _
  where
    go : (t : Bool) (a b : ℕ) → cond t (a % LINKS) (b % LINKS) < LINKS
    go true a b = omega arith
    go false a b = omega arith

-- where nothing is looked up, no record has the name
pub none_named : (text names w : List ℕ) (n : ℕ) → lookup text w (entries names n) ≡ None → (j : ℕ) → j < n → name_at text names j ≡ w → ⊥
unfolding lookup entries name_at
none_named text names w zero e j l q = absurd (omega arith)
none_named text names w (suc k) e j l q = go (same_bytes (name_at text names k) w) refl e (λ z o. none_named text names w k z j o q) (eqb j k) refl
  where
    go : (t : Bool) → same_bytes (name_at text names k) w ≡ t → cond t (Some (entry names k).wire) (lookup text w (entries names k)) ≡ None
        → (lookup text w (entries names k) ≡ None → j < k → ⊥) → (u : Bool) → eqb j k ≡ u → ⊥
    go true s z older u p = none-some _ (sym z)
    go false s z older true p =
        false≢true (sym s ∙ ap (λ (i : ℕ). same_bytes (name_at text names i) w) (sym (eqb-true j k p)) ∙ ap (λ (v : List ℕ). same_bytes v w) q ∙ same_refl w)
    go false s z older false p = older z (omega (arith, eqb-false j k p))

module _ (heads names : List ℕ) where
  -- a search comes to a record by a link of the record before
  pub before : (w : List ℕ) (d k : ℕ) → reached heads names w (suc d) ≡ suc k → (j : ℕ) × (reached heads names w d ≡ suc j) × (link_at names (j * NAME_WORDS) (digit_of w d) ≡ suc k)
  unfolding reached next
  before w d k e = go (reached heads names w d) refl e
    where
      go : (x : ℕ) → reached heads names w d ≡ x → next names x (digit_of w d) ≡ suc k → (j : ℕ) × (reached heads names w d ≡ suc j) × (link_at names (j * NAME_WORDS) (digit_of w d) ≡ suc k)
      go zero q h = absurd (omega (arith, h))
      go (suc j) q h = (j, q, h)

  pub after : (w : List ℕ) (d k : ℕ) → reached heads names w d ≡ suc k → reached heads names w (suc d) ≡ link_at names (k * NAME_WORDS) (digit_of w d)
  unfolding reached next
  after w d k e = ap (λ (x : ℕ). next names x (digit_of w d)) e

  -- names that are alike so far come to the same record
  pub reached_same : (v w : List ℕ) (d : ℕ) → Alike v w d → reached heads names v d ≡ reached heads names w d
  unfolding reached
  reached_same v w zero a = ap (λ (b : ℕ). get_or heads b 0) a.0
  reached_same v w (suc d) a = ap₂ (next names) (reached_same v w d (a.0, λ i l. a.1 i (omega arith))) (a.1 d (omega arith))

module _ {text heads names : List ℕ} {count : ℕ} (ok : Table text heads names count) where
  pub reached_at : (w : List ℕ) (d k : ℕ) → reached heads names w d ≡ suc k → k < count
  unfolding reached
  reached_at w zero k e = ok.head (bucket_of w) k (bucket_small w) e
  reached_at w (suc d) k e =
      let b = before heads names w d k e in
      (ok.link b.0 (digit_of w d) k (reached_at w d b.0 b.1) (digit_small w d) b.2).1

  -- each link leads to a later record
  back : (w : List ℕ) (d n k : ℕ) → reached heads names w (n + d) ≡ suc k → (j : ℕ) × (reached heads names w d ≡ suc j) × (j + n ≤ k)
  back w d zero k e =
      let q : 0 + d ≡ d = omega arith in
      (k, rw q at e, omega arith)
  back w d (suc n) k e =
      let q : suc n + d ≡ suc (n + d) = omega arith in
      let b = before heads names w (n + d) k (rw q at e) in
      let h = back w d n b.0 b.1 in
      (h.0, h.1, omega (arith, h.2, (ok.link b.0 (digit_of w (n + d)) k (reached_at w (n + d) b.0 b.1) (digit_small w (n + d)) b.2).0))

  pub back_to : (w : List ℕ) (d e k : ℕ) → d ≤ e → reached heads names w e ≡ suc k → (j : ℕ) × (reached heads names w d ≡ suc j) × (j + (e - d) ≤ k)
  back_to w d e k l p =
      let r : e - d + d ≡ e = omega arith in
      back w d (e - d) k (ap (reached heads names w) r ∙ p)

  pub depth_small : (w : List ℕ) (d k : ℕ) → reached heads names w d ≡ suc k → d ≤ k
  depth_small w d k e =
      let b = back_to w 0 d k (omega arith) e in
      omega (arith, b.2)

  -- it comes to a record at one depth alone
  pub one_depth : (w : List ℕ) (d e k : ℕ) → reached heads names w d ≡ suc k → reached heads names w e ≡ suc k → d ≡ e
  one_depth w d e k p q = go (leb d e) refl
    where
      go : (t : Bool) → leb d e ≡ t → d ≡ e
      go true l =
          let b = back_to w d e k (leb-true d e l) q in
          omega (arith, b.1, b.2, p, leb-true d e l)
      go false l =
          let m : e ≤ d = omega (arith, leb-false d e l) in
          let b = back_to w e d k m p in
          omega (arith, b.1, b.2, q, m)

-- ---- how far a search has come

-- the records from the one at hand on
abbrev pub ahead : ℕ → ℕ → ℕ
ahead count zero = 0
ahead count (suc k) = count - k

-- after some links: the record at hand, the one before it and the digit that chose its link; none before the one at hand has the name
pub record Searched (text heads names : List ℕ) (count : ℕ) (w : List ℕ) (at depth last digit : ℕ) : Type 0 where
  pub here : at ≡ reached heads names w depth
  pub within : at ≤ count
  pub deep : depth ≤ count
  pub behind : Behind (reached heads names w) w last digit depth
  pub others : (e j : ℕ) → e < depth → reached heads names w e ≡ suc j → name_at text names j ≡ w → ⊥

module _ {text heads names : List ℕ} {count : ℕ} (ok : Table text heads names count) (w : List ℕ) where
  within_count : (d : ℕ) → reached heads names w d ≤ count
  within_count d = go (reached heads names w d) refl
    where
      go : (x : ℕ) → reached heads names w d ≡ x → x ≤ count
      go zero q = omega arith
      go (suc k) q = omega (arith, reached_at ok w d k q)

  -- a lookup may skip records of other names
  skip : (a n : ℕ) → ((j : ℕ) → a ≤ j → j < a + n → name_at text names j ≡ w → ⊥) → lookup text w (entries names (a + n)) ≡ lookup text w (entries names a)
  unfolding lookup entries name_at
  skip a zero h =
      let q : a + 0 ≡ a = omega arith in
      rw q
  skip a (suc n) h =
      let q : a + suc n ≡ suc (a + n) = omega arith in
      let e : same_bytes (name_of text (entry names (a + n))) w ≡ false = false_from_ne_true _ (λ s. h (a + n) (omega arith) (omega arith) (same_eq _ _ s)) in
      rw (q, e) (skip a n (λ j l m. h j l (omega arith)))

  upto : (a b : ℕ) → a ≤ b → ((j : ℕ) → a ≤ j → j < b → name_at text names j ≡ w → ⊥) → lookup text w (entries names b) ≡ lookup text w (entries names a)
  upto a b l h =
      let q : a + (b - a) ≡ b = omega arith in
      ap (λ (n : ℕ). lookup text w (entries names n)) (sym q) ∙ skip a (b - a) (λ j m n. h j m (omega arith))

  -- the search for a record's name comes to it
  comes : (j : ℕ) → j < count → name_at text names j ≡ w → ((e : ℕ) → reached heads names w e ≡ suc j → ⊥) → ⊥
  comes j l q f = not_there (ok.there j l) (λ t. f t.0 (ap (λ (v : List ℕ). reached heads names v t.0) (sym q) ∙ t.1))

  -- at the end of a search that found no record of the name there is none
  none_at : (depth : ℕ) → reached heads names w depth ≡ 0 → ((e j : ℕ) → e < depth → reached heads names w e ≡ suc j → name_at text names j ≡ w → ⊥)
      → (j : ℕ) → j < count → name_at text names j ≡ w → ⊥
  none_at depth z others j l q = comes j l q (λ e c. go e c (ltb e depth) refl)
    where
      go : (e : ℕ) → reached heads names w e ≡ suc j → (t : Bool) → ltb e depth ≡ t → ⊥
      go e c true m = others e j (ltb-true e depth m) c q
      go e c false m =
          let b = back_to ok w depth e j (omega (arith, ltb-false e depth m)) c in
          omega (arith, b.1, z)

  pub unknown : (depth : ℕ) → reached heads names w depth ≡ 0 → ((e j : ℕ) → e < depth → reached heads names w e ≡ suc j → name_at text names j ≡ w → ⊥)
      → lookup text w (entries names count) ≡ None
  unfolding lookup entries
  unknown depth z others = upto 0 count (omega arith) (λ j l m. none_at depth z others j m)

  -- a record of the name has its wire, since no other record has the name
  pub known : {at : ℕ} → (at ≡ 0 → ⊥) → at ≤ count → same_bytes (name_at text names (at - 1)) w ≡ true
      → lookup text w (entries names count) ≡ Some (get_or names ((at - 1) * NAME_WORDS + WIRE_AT) 0)
  unfolding lookup entries entry name_at
  known {at = zero} nz l s = absurd (nz refl)
  known {at = suc k} nz l s =
      let e : suc k - 1 ≡ k = omega arith in
      let here : same_bytes (name_at text names k) w ≡ true = rw e at s in
      upto (suc k) count l (λ j m n q. omega (arith, m, ok.once j k n (omega arith) (q ∙ sym (same_eq (name_at text names k) w here)))) ∙ rw (e, here)

  -- ---- a turn of the search

  pub first_at : {b at : ℕ} → b ≡ bucket_of w → at ≡ get_or heads b 0 → at ≡ reached heads names w 0
  unfolding reached
  first_at p q = q ∙ ap (λ (x : ℕ). get_or heads x 0) p

  pub next_at : (depth : ℕ) {at x at' : ℕ} → (at ≡ 0 → ⊥) → at ≡ reached heads names w depth → x ≡ digit_of w depth → at' ≡ link_at names ((at - 1) * NAME_WORDS) x → at' ≡ reached heads names w (depth + 1)
  next_at depth {at = zero} nz h p q = absurd (nz refl)
  next_at depth {at = suc k} nz h p q =
      let e : suc k - 1 ≡ k = omega arith in
      let f : depth + 1 ≡ suc depth = omega arith in
      rw (q, e, p, f) (sym (after heads names w depth k (sym h)))

  -- it is nearer to the end
  pub less : (depth : ℕ) {at at' : ℕ} → (at ≡ 0 → ⊥) → at ≡ reached heads names w depth → at' ≡ reached heads names w (depth + 1) → ahead count at' < ahead count at
  less depth {at = zero} nz h q = absurd (nz refl)
  less depth {at = suc k} {at' = at'} nz h q = go at' refl
    where
      f : depth + 1 ≡ suc depth
      f = omega arith

      go : (x : ℕ) → at' ≡ x → ahead count x < count - k
      go zero p = omega (arith, reached_at ok w depth k (sym h))
      go (suc j) p =
          let r : reached heads names w (suc depth) ≡ suc j = ap (reached heads names w) (sym f) ∙ sym q ∙ p in
          let b = back_to ok w depth (suc depth) j (omega arith) r in
          omega (arith, b.1, b.2, h, reached_at ok w (suc depth) j r)

  deeper : (depth : ℕ) {at : ℕ} → (at ≡ 0 → ⊥) → at ≡ reached heads names w depth → depth + 1 ≤ count
  deeper depth {at = zero} nz h = absurd (nz refl)
  deeper depth {at = suc k} nz h = omega (arith, depth_small ok w depth k (sym h), reached_at ok w depth k (sym h))

  pub search_start : {b at : ℕ} → b ≡ bucket_of w → at ≡ get_or heads b 0 → Searched text heads names count w at 0 0 b
  search_start p q =
      let h = first_at p q in
      record { here = h; within = omega (arith, h, within_count 0); deep = omega arith; behind = (refl, p); others = λ e j l. absurd (omega arith) }

  pub search_next : (depth : ℕ) {at x at' last digit : ℕ} → (at ≡ 0 → ⊥) → Searched text heads names count w at depth last digit → same_bytes (name_at text names (at - 1)) w ≡ false
      → x ≡ digit_of w depth → at' ≡ link_at names ((at - 1) * NAME_WORDS) x → Searched text heads names count w at' (depth + 1) at x
  search_next depth {at = at} nz s other p q =
      let f : depth + 1 ≡ suc depth = omega arith in
      let h = next_at depth nz s.here p q in
      rw f (record { here = rw f at h; within = omega (arith, h, within_count (depth + 1)); deep = omega (arith, deeper depth nz s.here); behind = (sym s.here, nz, p); others = each })
    where
      each : (e j : ℕ) → e < suc depth → reached heads names w e ≡ suc j → name_at text names j ≡ w → ⊥
      each e j l r n = go (ltb e depth) refl
        where
          here : e ≡ depth → ⊥
          here q =
              let a : at - 1 ≡ j = omega (arith, s.here, r, ap (reached heads names w) q) in
              false≢true (sym other ∙ ap (λ (v : ℕ). same_bytes (name_at text names v) w) a ∙ ap (λ (v : List ℕ). same_bytes v w) n ∙ same_refl w)

          go : (t : Bool) → ltb e depth ≡ t → ⊥
          go true m = s.others e j (ltb-true e depth m) r n
          go false m = here (omega (arith, ltb-false e depth m))
