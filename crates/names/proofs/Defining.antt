-- One record more, where the search for its name ended, keeps the table in order.
-- Assumes nothing.
use Rattle.std.proofs.Common.{◌≡◌, ℕ, zero, suc, ◌*◌, ◌<◌, ◌⊎◌, inl, inr, Bool, true, false, eqb, List, get_or, sym, refl, ap, ◌∙◌, arith, eqb-true}
use Rattle.std.proofs.Math.Logic.{∥∥₁_map}
use Rattle.std.proofs.lemmas.Grind.{merely}
use borrow.Author.Tests.{eqb-false}
use Rattle.names.specs.Chains.{bucket_of, digit_of, name_at, link_at, reached, Alike, Table, Behind, EndsAt}
use Rattle.names.specs.declared.records.TheConstants.{NAME_WORDS, LINKS}
use Rattle.names.proofs.Searches.{bucket_small, digit_small, before, after, reached_same, reached_at, one_depth}

-- a head after: the new record's, or as it was
abbrev pub HeadIs : List ℕ → List ℕ → ℕ → ℕ → ℕ → ℕ → Type 0
HeadIs heads heads' c last count b = ((last ≡ 0) × (b ≡ c) × (get_or heads' b 0 ≡ suc count)) ⊎ ((last ≡ 0 → b ≡ c → ⊥) × (get_or heads' b 0 ≡ get_or heads b 0))

-- a link after, likewise
abbrev pub LinkIs : List ℕ → List ℕ → ℕ → ℕ → ℕ → ℕ → ℕ → Type 0
LinkIs names names' last digit count k x =
    ((last ≡ suc k) × (x ≡ digit) × (link_at names' (k * NAME_WORDS) x ≡ suc count)) ⊎ ((last ≡ suc k → x ≡ digit → ⊥) × (link_at names' (k * NAME_WORDS) x ≡ link_at names (k * NAME_WORDS) x))

-- the heads and links of a table in order, and those after: a search for `w` ended behind record `last` and its link `digit`, or a head, and there the new record comes
module _
    (text heads names heads' names' : List ℕ)
    (count : ℕ)
    (w : List ℕ)
    (last digit : ℕ)
    (ok : Table text heads names count)
    (ends : EndsAt heads names w last digit)
    (head_is : (b : ℕ) → b < 256 → HeadIs heads heads' (bucket_of w) last count b)
    (link_is : (k x : ℕ) → k < count → x < LINKS
    → LinkIs names names' last digit count k x)
    (link_none : (x : ℕ) → x < LINKS → link_at names' (count * NAME_WORDS) x ≡ 0)
    (name_old : (k : ℕ) → k < count → name_at text names' k ≡ name_at text names k)
    (name_new : name_at text names' count ≡ w)
  where
    -- where the search ended
    at_head : last ≡ 0 → reached heads names w 0 ≡ 0
    at_head q = go ends.depth ends.ended ends.behind
      where
        go : (d : ℕ) → reached heads names w d ≡ 0 → Behind (reached heads names w) w last digit d → reached heads names w 0 ≡ 0
        go zero z f = z
        go (suc d) z f = absurd (f.1 q)

    at_record : (k : ℕ) → last ≡ suc k → (d : ℕ) × (reached heads names w d ≡ suc k) × (digit ≡ digit_of w d) × (link_at names (k * NAME_WORDS) digit ≡ 0)
    at_record k q = go ends.depth ends.ended ends.behind
      where
        go : (d : ℕ) → reached heads names w d ≡ 0 → Behind (reached heads names w) w last digit d → (d : ℕ) × (reached heads names w d ≡ suc k) × (digit ≡ digit_of w d) × (link_at names (k * NAME_WORDS) digit ≡ 0)
        go zero z f = absurd (omega (arith, f.0, q))
        go (suc d) z f =
            let r : reached heads names w d ≡ suc k = f.0 ∙ q in
            (d, r, f.2, ap (link_at names (k * NAME_WORDS)) f.2 ∙ sym (after heads names w d k r) ∙ z)

    -- what a search came to stays
    kept : (v : List ℕ) (d k : ℕ) → reached heads names v d ≡ suc k → reached heads' names' v d ≡ suc k
    unfolding reached
    kept v zero k e = go (head_is (bucket_of v) (bucket_small v))
      where
        go : HeadIs heads heads' (bucket_of w) last count (bucket_of v) → get_or heads' (bucket_of v) 0 ≡ suc k
        go (inl h) = absurd (omega (arith, at_head h.0, ap (λ (b : ℕ). get_or heads b 0) h.1, e))
        go (inr h) = h.1 ∙ e
    kept v (suc d) k e = go (kept v d b.0 b.1) (link_is b.0 (digit_of v d) (reached_at ok v d b.0 b.1) (digit_small v d))
      where
        b : (j : ℕ) × (reached heads names v d ≡ suc j) × (link_at names (j * NAME_WORDS) (digit_of v d) ≡ suc k)
        b = before heads names v d k e

        go : reached heads' names' v d ≡ suc b.0 → LinkIs names names' last digit count b.0 (digit_of v d) → reached heads' names' v (suc d) ≡ suc k
        go r (inl h) = absurd (omega (arith, (at_record b.0 h.0).3, ap (link_at names (b.0 * NAME_WORDS)) h.1, b.2))
        go r (inr h) = after heads' names' v d b.0 r ∙ h.1 ∙ b.2

    -- the search for the new record's name comes to it
    come : (d : ℕ) × (reached heads' names' w d ≡ suc count)
    unfolding reached
    come = go ends.depth ends.behind
      where
        first : last ≡ 0 → get_or heads' (bucket_of w) 0 ≡ suc count
        first q = pick (head_is (bucket_of w) (bucket_small w))
          where
            pick : HeadIs heads heads' (bucket_of w) last count (bucket_of w) → get_or heads' (bucket_of w) 0 ≡ suc count
            pick (inl h) = h.2
            pick (inr h) = absurd (h.0 q refl)

        then : (d k : ℕ) → last ≡ suc k → reached heads names w d ≡ last → digit ≡ digit_of w d → reached heads' names' w (suc d) ≡ suc count
        then d k q r e = after heads' names' w d k (kept w d k (r ∙ q)) ∙ pick (link_is k (digit_of w d) (reached_at ok w d k (r ∙ q)) (digit_small w d))
          where
            pick : LinkIs names names' last digit count k (digit_of w d) → link_at names' (k * NAME_WORDS) (digit_of w d) ≡ suc count
            pick (inl h) = h.2
            pick (inr h) = absurd (h.0 q (sym e))

        known : (x : ℕ) → last ≡ x → (d : ℕ) → reached heads names w d ≡ last → (last ≡ 0 → ⊥) → digit ≡ digit_of w d → reached heads' names' w (suc d) ≡ suc count
        known zero q d r nz e = absurd (nz q)
        known (suc k) q d r nz e = then d k q r e

        go : (d : ℕ) → Behind (reached heads names w) w last digit d → (d : ℕ) × (reached heads' names' w d ≡ suc count)
        go zero f = (0, first f.0)
        go (suc d) f = (suc d, known last refl d f.0 f.1 f.2)

    -- what a search comes to was there, or is the new record at the place where the search for its name ended
    abbrev New : List ℕ → ℕ → Type 0
    New v zero = (last ≡ 0) × (bucket_of v ≡ bucket_of w)
    New v (suc d) = (k : ℕ) × (last ≡ suc k) × (reached heads names v d ≡ suc k) × (digit_of v d ≡ digit)

    was : (v : List ℕ) (d k : ℕ) → reached heads' names' v d ≡ suc k → ((k < count) × (reached heads names v d ≡ suc k)) ⊎ ((k ≡ count) × New v d)
    unfolding reached
    was v zero k e = go (head_is (bucket_of v) (bucket_small v))
      where
        go : HeadIs heads heads' (bucket_of w) last count (bucket_of v)
            → ((k < count) × (get_or heads (bucket_of v) 0 ≡ suc k)) ⊎ ((k ≡ count) × New v 0)
        go (inl h) = inr (omega (arith, h.2, e), (h.0, h.1))
        go (inr h) = inl (ok.head (bucket_of v) k (bucket_small v) (sym h.1 ∙ e), sym h.1 ∙ e)
    was v (suc d) k e = go (was v d b.0 b.1)
      where
        b : (j : ℕ) × (reached heads' names' v d ≡ suc j) × (link_at names' (j * NAME_WORDS) (digit_of v d) ≡ suc k)
        b = before heads' names' v d k e

        old : (b.0 < count) × (reached heads names v d ≡ suc b.0)
            → LinkIs names names' last digit count b.0 (digit_of v d)
            → ((k < count) × (reached heads names v (suc d) ≡ suc k)) ⊎ ((k ≡ count) × New v (suc d))
        old o (inl h) = inr (omega (arith, h.2, b.2), (b.0, h.0, o.1, h.1))
        old o (inr h) =
            let r : link_at names (b.0 * NAME_WORDS) (digit_of v d) ≡ suc k = sym h.1 ∙ b.2 in
            inl ((ok.link b.0 (digit_of v d) k o.0 (digit_small v d) r).1, after heads names v d b.0 o.1 ∙ r)

        go : ((b.0 < count) × (reached heads names v d ≡ suc b.0)) ⊎ ((b.0 ≡ count) × New v d) → ((k < count) × (reached heads names v (suc d) ≡ suc k)) ⊎ ((k ≡ count) × New v (suc d))
        go (inl o) = old o (link_is b.0 (digit_of v d) o.0 (digit_small v d))
        go (inr n) = absurd (omega (arith, link_none (digit_of v d) (digit_small v d), ap (λ (j : ℕ). link_at names' (j * NAME_WORDS) (digit_of v d)) n.0, b.2))

    -- the new name is alike so far
    alike_new : (v : List ℕ) (d : ℕ) → New v d → Alike w v d
    alike_new v zero n = (sym n.1, λ i l. absurd (omega arith))
    alike_new v (suc d) n =
        let p = at_record n.0 n.1 in
        let one = ok.alike v d n.0 n.2 in
        let two = ok.alike w p.0 n.0 p.1 in
        let u = name_at text names n.0 in
        let s : d ≡ p.0 = one_depth ok u d p.0 n.0 (reached_same heads names u v d one ∙ n.2) (reached_same heads names u w p.0 two ∙ p.1) in
        (sym two.0 ∙ one.0, λ i l. each i l (eqb i d) refl s p.2 one two)
      where
        each : (i : ℕ) → i < suc d → (t : Bool) → eqb i d ≡ t → {e : ℕ} → d ≡ e → digit ≡ digit_of w e → Alike (name_at text names n.0) v d → Alike (name_at text names n.0) w e → digit_of w i ≡ digit_of v i
        each i l true q {e} s f one two =
            let r : i ≡ d = eqb-true i d q in
            let x : i ≡ e = r ∙ s in
            ap (digit_of w) x ∙ sym f ∙ sym n.3 ∙ ap (digit_of v) (sym r)
        each i l false q {e} s f one two =
            let m : i < d = omega (arith, eqb-false i d q) in
            sym (two.1 i (omega arith)) ∙ one.1 i m

    -- ---- the parts of the order

    pub head_more : (b j : ℕ) → b < 256 → get_or heads' b 0 ≡ suc j → j < suc count
    head_more b j l e = go (head_is b l)
      where
        go : HeadIs heads heads' (bucket_of w) last count b → j < suc count
        go (inl h) = omega (arith, h.2, e)
        go (inr h) = omega (arith, ok.head b j l (sym h.1 ∙ e))

    pub link_more : (k x j : ℕ) → k < suc count → x < LINKS → link_at names' (k * NAME_WORDS) x ≡ suc j → (k < j) × (j < suc count)
    link_more k x j l m e = go (eqb k count) refl
      where
        pick : k < count → LinkIs names names' last digit count k x → (k < j) × (j < suc count)
        pick n (inl h) = (omega (arith, h.2, e, n), omega (arith, h.2, e))
        pick n (inr h) = let o = ok.link k x j n m (sym h.1 ∙ e) in (o.0, omega (arith, o.1))

        go : (t : Bool) → eqb k count ≡ t → (k < j) × (j < suc count)
        go true q = absurd (omega (arith, link_none x m, ap (λ (i : ℕ). link_at names' (i * NAME_WORDS) x) (eqb-true k count q), e))
        go false q =
            let n : k < count = omega (arith, eqb-false k count q) in
            pick n (link_is k x n m)

    pub once_more : ((j : ℕ) → j < count → name_at text names j ≡ w → ⊥) → (j k : ℕ) → j < suc count → k < suc count → name_at text names' j ≡ name_at text names' k → j ≡ k
    once_more new j k l m e = go (eqb j count) refl (eqb k count) refl
      where
        -- an older record has another name than the new one
        apart : (i : ℕ) → i < count → name_at text names' i ≡ name_at text names' count → ⊥
        apart i n q = new i n (sym (name_old i n) ∙ q ∙ name_new)

        go : (t : Bool) → eqb j count ≡ t → (u : Bool) → eqb k count ≡ u → j ≡ k
        go true p true q = eqb-true j count p ∙ sym (eqb-true k count q)
        go true p false q = absurd (apart k (omega (arith, eqb-false k count q)) (sym e ∙ ap (name_at text names') (eqb-true j count p)))
        go false p true q = absurd (apart j (omega (arith, eqb-false j count p)) (e ∙ ap (name_at text names') (eqb-true k count q)))
        go false p false q =
            let n : j < count = omega (arith, eqb-false j count p) in
            let o : k < count = omega (arith, eqb-false k count q) in
            ok.once j k n o (sym (name_old j n) ∙ e ∙ name_old k o)

    pub there_more : (k : ℕ) → k < suc count → ∥ ((d : ℕ) × (reached heads' names' (name_at text names' k) d ≡ suc k)) ∥₁
    there_more k l = go (eqb k count) refl
      where
        go : (t : Bool) → eqb k count ≡ t → ∥ ((d : ℕ) × (reached heads' names' (name_at text names' k) d ≡ suc k)) ∥₁
        go true q =
            let r : k ≡ count = eqb-true k count q in
            rw (r, name_new) (merely come)
        go false q =
            let n : k < count = omega (arith, eqb-false k count q) in
            rw (name_old k n) (∥∥₁_map (ok.there k n) (λ t. (t.0, kept (name_at text names k) t.0 k t.1)))

    pub alike_more : (v : List ℕ) (d k : ℕ) → reached heads' names' v d ≡ suc k → Alike (name_at text names' k) v d
    alike_more v d k e = go (was v d k e)
      where
        go : ((k < count) × (reached heads names v d ≡ suc k)) ⊎ ((k ≡ count) × New v d) → Alike (name_at text names' k) v d
        go (inl o) = rw (name_old k o.0) (ok.alike v d k o.1)
        go (inr n) = rw (n.0, name_new) (alike_new v d n.1)
