-- What `define` leaves: the link at the end of the search set, and the record stored.
-- Assumes nothing.
use Rattle.std.specs.Prelude.{None}
use Rattle.std.proofs.Common.{◌≡◌, ℕ, zero, suc, ◌+◌, ◌-◌, ◌*◌, ◌/◌, ◌%◌, ◌^◌, ◌<◌, ◌≤◌, Bool, true, false, eqb, inl, inr, List, [], ◌∷◌, length, get_or, take, sym, refl, ap, ◌∙◌, ap₂, le_refl, add-one, arith, length-set, length-take, length-drop, get_or-take, get_or-set_other, get_or-set_same, below_more, eqb-true}
use Rattle.std.proofs.lemmas.List.{get_or_append_left, get_or-append_right}
use borrow.Rule.Slice.PartMut.{put_mid, same_len_mid}
use borrow.Author.Tests.{eqb-false}
use Rattle.laws.specs.Stretches.{stretch}
use Rattle.laws.proofs.Stretches.{length-stretch}
use Rattle.names.specs.Names.{name_of, lookup}
use Rattle.names.specs.Chains.{bucket_of, key_of, entry, entries, name_at, link_of, link_place, link_at, reached, headed, linked, LinkFits, Table, Behind, EndsAt, Defined}
use Rattle.names.specs.declared.records.TheConstants.{NAME_WORDS, LINKS_AT, START_AT, WIRE_AT, HALF_BITS, HALF, LINKS, WORD_LINKS}
use Rattle.names.proofs.Links.{key_length}
use Rattle.names.proofs.Searches.{none_named, bucket_small, digit_small, reached_at, after}
use Rattle.names.proofs.Defining.{HeadIs, LinkIs, head_more, link_more, once_more, there_more, alike_more}

-- ---- the five words of a record, stored

module _ (l : List ℕ) (p key start wire : ℕ) (room : p + NAME_WORDS ≤ length l) where
  abbrev put : List ℕ
  put = put_mid p (p + NAME_WORDS - p) l (key ∷ 0 ∷ 0 ∷ start ∷ wire ∷ [])

  front : length (take p l) ≡ p
  front = simp length-take (omega arith)

  length_put : length put ≡ length l
  length_put = same_len_mid p (p + NAME_WORDS - p) l (key ∷ 0 ∷ 0 ∷ start ∷ wire ∷ []) (simp (length-take, length-drop) (omega arith))

  put_old : (i : ℕ) → i < p → get_or put i 0 ≡ get_or l i 0
  put_old i h = get_or_append_left (take p l) _ 0 i (omega (arith, front)) ∙ get_or-take p l i 0 h

  put-word : (j i : ℕ) → j < NAME_WORDS → i ≡ p + j → get_or put i 0 ≡ get_or (key ∷ 0 ∷ 0 ∷ start ∷ wire ∷ []) j 0
  put-word j i h e =
      let q : i - p ≡ j = omega arith in
      get_or-append_right (take p l) _ p i 0 front (omega arith) ∙ rw q (get_or_append_left (key ∷ 0 ∷ 0 ∷ start ∷ wire ∷ []) _ 0 j h)

  put_links : (x : ℕ) → x < WORD_LINKS → get_or put (p + LINKS_AT + x) 0 ≡ 0
  put_links zero h = put-word 1 _ (omega arith) (omega arith)
  put_links (suc zero) h = put-word 2 _ (omega arith) (omega arith)
  put_links (suc (suc x)) h = absurd (omega arith)

-- ---- a link set in its word

link_new : (w n p : ℕ) → n < HALF → p < WORD_LINKS → link_of w p ≡ 0 → link_of (w + n * 2 ^ (p * HALF_BITS)) p ≡ n
unfolding link_of
link_new w n zero l m e = omega arith
link_new w n (suc zero) l m e = omega arith
link_new w n (suc (suc p)) l m e = absurd (omega arith)

link_other : (w n p q : ℕ) → p < WORD_LINKS → q < WORD_LINKS → (q ≡ p → ⊥) → link_of w p ≡ 0 → n < HALF → link_of (w + n * 2 ^ (p * HALF_BITS)) q ≡ link_of w q
unfolding link_of
link_other w n zero zero l m ne e f = absurd (ne refl)
link_other w n zero (suc zero) l m ne e f = omega arith
link_other w n (suc zero) zero l m ne e f = omega arith
link_other w n (suc zero) (suc zero) l m ne e f = absurd (ne refl)
link_other w n (suc (suc p)) q l m ne e f = absurd (omega arith)
link_other w n zero (suc (suc q)) l m ne e f = absurd (omega arith)
link_other w n (suc zero) (suc (suc q)) l m ne e f = absurd (omega arith)

link_fits : (w n p : ℕ) → n < HALF → w < 2 ^ 64 → p < WORD_LINKS → link_of w p ≡ 0 → w + n * 2 ^ (p * HALF_BITS) < 2 ^ 64
unfolding link_of
link_fits w n zero l f m e = omega arith
link_fits w n (suc zero) l f m e = omega arith
link_fits w n (suc (suc p)) l f m e = absurd (omega arith)

-- a word with no links yet
no_link : (p : ℕ) → p < WORD_LINKS → link_of 0 p ≡ 0
unfolding link_of
no_link zero l = refl
no_link (suc zero) l = refl
no_link (suc (suc p)) l = absurd (omega arith)

-- ---- the areas after `set`

length-linked : (names : List ℕ) (last digit n : ℕ) → length (linked names last digit n) ≡ length names
unfolding linked
length-linked names zero digit n = refl
length-linked names (suc k) digit n = length-set names (link_place (k * NAME_WORDS) digit) _

length-headed : (heads : List ℕ) (b last n : ℕ) → length (headed heads b last n) ≡ length heads
unfolding headed
length-headed heads b zero n = length-set heads b n
length-headed heads b (suc k) n = refl

-- a word that is no link stays, and so does another word of links
linked_other : (names : List ℕ) (last digit n i : ℕ) → ((k : ℕ) → last ≡ suc k → i ≡ link_place (k * NAME_WORDS) digit → ⊥) → get_or (linked names last digit n) i 0 ≡ get_or names i 0
unfolding linked
linked_other names zero digit n i h = refl
linked_other names (suc k) digit n i h = get_or-set_other names (link_place (k * NAME_WORDS) digit) i _ 0 (h k refl)

linked_here : (names : List ℕ) (last digit n k : ℕ) → last ≡ suc k → link_place (k * NAME_WORDS) digit < length names
    → get_or (linked names last digit n) (link_place (k * NAME_WORDS) digit) 0 ≡ get_or names (link_place (k * NAME_WORDS) digit) 0 + n * 2 ^ (digit % WORD_LINKS * HALF_BITS)
unfolding linked
linked_here names zero digit n k e l = absurd (omega arith)
linked_here names (suc j) digit n k e l =
    let q : j ≡ k = omega arith in
    rw q (get_or-set_same names (link_place (k * NAME_WORDS) digit) _ 0 l)

headed_other : (heads : List ℕ) (b last n d : ℕ) → (last ≡ 0 → d ≡ b → ⊥) → get_or (headed heads b last n) d 0 ≡ get_or heads d 0
unfolding headed
headed_other heads b zero n d h = get_or-set_other heads b d n 0 (h refl)
headed_other heads b (suc k) n d h = refl

headed_here : (heads : List ℕ) (b last n : ℕ) → last ≡ 0 → b < length heads → get_or (headed heads b last n) b 0 ≡ n
unfolding headed
headed_here heads b zero n e l = get_or-set_same heads b n 0 l
headed_here heads b (suc k) n e l = absurd (omega arith)

-- ---- what `define` leaves

module _
    {text heads names : List ℕ}
    {count last digit key : ℕ}
    (start len wire : ℕ)
    (ok : Table text heads names count)
    (fits : start + len ≤ length text)
    (room : count * NAME_WORDS + NAME_WORDS ≤ length names)
    (few : count + 1 < HALF)
    (key_is : key ≡ key_of (stretch text start len))
    (ends : EndsAt heads names (stretch text start len) last digit)
    (unknown : lookup text (stretch text start len) (entries names count) ≡ None)
  where
    abbrev w : List ℕ
    w = stretch text start len

    -- the record behind which the search ended, and its link there
    end_is : (k : ℕ) → last ≡ suc k → (k < count) × (link_at names (k * NAME_WORDS) digit ≡ 0) × (digit < LINKS)
    end_is k q = go ends.depth ends.ended ends.behind
      where
        go : (d : ℕ) → reached heads names w d ≡ 0 → Behind (reached heads names w) w last digit d → (k < count) × (link_at names (k * NAME_WORDS) digit ≡ 0) × (digit < LINKS)
        go zero z f = absurd (omega (arith, f.0, q))
        go (suc d) z f =
            let r : reached heads names w d ≡ suc k = f.0 ∙ q in
            (reached_at ok w d k r, ap (link_at names (k * NAME_WORDS)) f.2 ∙ sym (after heads names w d k r) ∙ z, omega (arith, f.2, digit_small w d))

    -- the head behind which it ended
    end_head : last ≡ 0 → digit ≡ bucket_of w
    end_head q = go ends.depth ends.behind
      where
        go : (d : ℕ) → Behind (reached heads names w) w last digit d → digit ≡ bucket_of w
        go zero f = f.1
        go (suc d) f = absurd (f.1 q)

    end_word : (k : ℕ) → last ≡ suc k → link_of (get_or names (link_place (k * NAME_WORDS) digit) 0) (digit % WORD_LINKS) ≡ 0
    end_word k q = unfold link_at in (end_is k q).1

    pub link_room : ((i : ℕ) → get_or names i 0 < 2 ^ 64) → LinkFits names last digit (count + 1)
    link_room words = go last refl
      where
        go : (x : ℕ) → last ≡ x → LinkFits names x digit (count + 1)
        go zero q = omega (arith, end_head q, bucket_small w)
        go (suc k) q =
            (omega (arith, (end_is k q).0, (end_is k q).2), link_fits (get_or names (link_place (k * NAME_WORDS) digit) 0) (count + 1) (digit % WORD_LINKS) (omega arith) (words (link_place (k * NAME_WORDS) digit)) (omega arith) (end_word k q))

    abbrev set_names : List ℕ
    set_names = linked names last digit (count + 1)

    set_room : count * NAME_WORDS + NAME_WORDS ≤ length set_names
    set_room = omega (arith, length-linked names last digit (count + 1))

    abbrev names' : List ℕ
    names' = put set_names (count * NAME_WORDS) key start wire set_room

    abbrev heads' : List ℕ
    heads' = headed heads digit last (count + 1)

    old_word : (i : ℕ) → i < count * NAME_WORDS → get_or names' i 0 ≡ get_or set_names i 0
    old_word = put_old set_names (count * NAME_WORDS) key start wire set_room

    new_word : (j : ℕ) → j < NAME_WORDS → get_or names' (count * NAME_WORDS + j) 0 ≡ get_or (key ∷ 0 ∷ 0 ∷ start ∷ wire ∷ []) j 0
    new_word j l = put-word set_names (count * NAME_WORDS) key start wire set_room j _ l refl

    new_key : get_or names' (count * NAME_WORDS) 0 ≡ key
    new_key = put-word set_names (count * NAME_WORDS) key start wire set_room 0 _ (omega arith) (omega arith)

    -- words other than links
    kept_word : (k j : ℕ) → k < count → j < NAME_WORDS → (j ≡ 1 → ⊥) → (j ≡ 2 → ⊥) → get_or names' (k * NAME_WORDS + j) 0 ≡ get_or names (k * NAME_WORDS + j) 0
    kept_word k j l m f g = old_word (k * NAME_WORDS + j) (omega arith) ∙ linked_other names last digit (count + 1) (k * NAME_WORDS + j) (λ i q e. omega (arith, (end_is i q).2, f, g))

    kept_key : (k : ℕ) → k < count → get_or names' (k * NAME_WORDS) 0 ≡ get_or names (k * NAME_WORDS) 0
    kept_key k l =
        let e : k * NAME_WORDS + 0 ≡ k * NAME_WORDS = omega arith in
        rw e at (kept_word k 0 l (omega arith) (λ e. omega arith) (λ e. omega arith))

    entry_old : (k : ℕ) → k < count → entry names' k ≡ entry names k
    unfolding entry
    entry_old k l = rw (kept_key k l, kept_word k START_AT l (omega arith) (λ e. omega arith) (λ e. omega arith), kept_word k WIRE_AT l (omega arith) (λ e. omega arith) (λ e. omega arith))

    long : length w ≡ len
    long = length-stretch text start len fits

    new_length : key % HALF ≡ len
    new_length = key_length w key key_is (omega (arith, long, ok.sized)) ∙ long

    entry_new : entry names' count ≡ record { start = start; len = len; wire = wire }
    unfolding entry
    entry_new = rw (new_key, new_word START_AT (omega arith), new_word WIRE_AT (omega arith), new_length)

    name_old : (k : ℕ) → k < count → name_at text names' k ≡ name_at text names k
    unfolding name_at
    name_old k l = ap (name_of text) (entry_old k l)

    name_new : name_at text names' count ≡ w
    unfolding name_at
    name_new = ap (name_of text) entry_new

    entries_old : (k : ℕ) → k ≤ count → entries names' k ≡ entries names k
    unfolding entries
    entries_old zero h = refl
    entries_old (suc k) h = rw (entry_old k h, entries_old k (omega arith))

    more_list : entries names' (suc count) ≡ record { start = start; len = len; wire = wire } ∷ entries names count
    unfolding entries
    more_list = ap₂ ◌∷◌ entry_new (entries_old count (le_refl count))

    head_is : (d : ℕ) → d < 256 → HeadIs heads heads' (bucket_of w) last count d
    head_is d l = go (eqb last 0) refl (eqb d digit) refl
      where
        go : (t : Bool) → eqb last 0 ≡ t → (u : Bool) → eqb d digit ≡ u → HeadIs heads heads' (bucket_of w) last count d
        go true q true m =
            let e : d ≡ digit = eqb-true d digit m in
            inl (eqb-true last 0 q, e ∙ end_head (eqb-true last 0 q), ap (λ (x : ℕ). get_or heads' x 0) e ∙ headed_here heads digit last (count + 1) (eqb-true last 0 q) (omega (arith, ok.heads_sized, e)) ∙ add-one count)
        go true q false m = inr (λ z e. eqb-false d digit m (e ∙ sym (end_head z)), headed_other heads digit last (count + 1) d (λ z. eqb-false d digit m))
        go false q u m = inr (λ z e. eqb-false last 0 q z, headed_other heads digit last (count + 1) d (λ z e. eqb-false last 0 q z))

    link_is : (k x : ℕ) → k < count → x < LINKS → LinkIs names names' last digit count k x
    unfolding link_at
    link_is k x l s = go (eqb last (suc k)) refl (eqb x digit) refl
      where
        here : link_of (get_or names' (link_place (k * NAME_WORDS) x) 0) (x % WORD_LINKS) ≡ link_of (get_or set_names (link_place (k * NAME_WORDS) x) 0) (x % WORD_LINKS)
        here = ap (λ (y : ℕ). link_of y (x % WORD_LINKS)) (old_word (link_place (k * NAME_WORDS) x) (omega arith))

        -- in a word where no link is set
        apart : ((j : ℕ) → last ≡ suc j → link_place (k * NAME_WORDS) x ≡ link_place (j * NAME_WORDS) digit → ⊥) → link_of (get_or names' (link_place (k * NAME_WORDS) x) 0) (x % WORD_LINKS) ≡ link_of (get_or names (link_place (k * NAME_WORDS) x) 0) (x % WORD_LINKS)
        apart f = here ∙ ap (λ (y : ℕ). link_of y (x % WORD_LINKS)) (linked_other names last digit (count + 1) (link_place (k * NAME_WORDS) x) f)

        -- in the word where it is
        beside : last ≡ suc k → (x ≡ digit → ⊥) → (t : Bool) → eqb (x / WORD_LINKS) (digit / WORD_LINKS) ≡ t → link_of (get_or names' (link_place (k * NAME_WORDS) x) 0) (x % WORD_LINKS) ≡ link_of (get_or names (link_place (k * NAME_WORDS) x) 0) (x % WORD_LINKS)
        beside r ne true m =
            let y : x / WORD_LINKS ≡ digit / WORD_LINKS = eqb-true (x / WORD_LINKS) (digit / WORD_LINKS) m in
            let f : x % WORD_LINKS ≡ digit % WORD_LINKS → ⊥ = λ z. ne (omega (arith, y, z)) in
            here
            ∙ rw y (ap (λ (y : ℕ). link_of y (x % WORD_LINKS)) (linked_here names last digit (count + 1) k r (omega (arith, (end_is k r).2)))
            ∙ link_other (get_or names (link_place (k * NAME_WORDS) digit) 0) (count + 1) (digit % WORD_LINKS) (x % WORD_LINKS) (omega arith) (omega arith) f (end_word k r) (omega arith))
        beside r ne false m = apart (λ j q n. eqb-false (x / WORD_LINKS) (digit / WORD_LINKS) m (omega (arith, q, r, n)))

        go : (t : Bool) → eqb last (suc k) ≡ t → (u : Bool) → eqb x digit ≡ u → LinkIs names names' last digit count k x
        go true q true m =
            let r : last ≡ suc k = eqb-true last (suc k) q in
            let y : x ≡ digit = eqb-true x digit m in
            let set = ap (λ (y : ℕ). link_of y (digit % WORD_LINKS)) (linked_here names last digit (count + 1) k r (omega (arith, (end_is k r).2))) ∙ link_new (get_or names (link_place (k * NAME_WORDS) digit) 0) (count + 1) (digit % WORD_LINKS) (omega arith) (omega arith) (end_word k r) ∙ add-one count in
            inl (r, y, here ∙ rw y set)
        go true q false m = inr (λ z. eqb-false x digit m, beside (eqb-true last (suc k) q) (eqb-false x digit m) (eqb (x / WORD_LINKS) (digit / WORD_LINKS)) refl)
        go false q u m =
            inr (λ z e. eqb-false last (suc k) q z, apart (λ j r n. eqb-false last (suc k) q (r ∙ same j r n)))
          where
            same : (j : ℕ) → last ≡ suc j → link_place (k * NAME_WORDS) x ≡ link_place (j * NAME_WORDS) digit → suc j ≡ suc k
            same j r n = omega (arith, n, (end_is j r).2)

    link_none : (x : ℕ) → x < LINKS → link_at names' (count * NAME_WORDS) x ≡ 0
    unfolding link_at
    link_none x l = ap (λ (y : ℕ). link_of y (x % WORD_LINKS)) (put_links set_names (count * NAME_WORDS) key start wire set_room (x / WORD_LINKS) (omega arith)) ∙ no_link (x % WORD_LINKS) (omega arith)

    in_text : (k : ℕ) → k < count + 1 → get_or names' (k * NAME_WORDS + START_AT) 0 + get_or names' (k * NAME_WORDS) 0 % HALF ≤ length text
    in_text =
        below_more (λ (k : ℕ). get_or names' (k * NAME_WORDS + START_AT) 0 + get_or names' (k * NAME_WORDS) 0 % HALF ≤ length text) count
        (λ k h. rw (kept_key k h, kept_word k START_AT h (omega arith) (λ e. omega arith) (λ e. omega arith)) (ok.inside k h))
        (rw (new_key, new_word START_AT (omega arith), new_length) fits)

    keys : (k : ℕ) → k < count + 1 → get_or names' (k * NAME_WORDS) 0 ≡ key_of (name_at text names' k)
    keys =
        below_more (λ (k : ℕ). get_or names' (k * NAME_WORDS) 0 ≡ key_of (name_at text names' k)) count
        (λ k h. kept_key k h ∙ ok.keyed k h ∙ ap key_of (sym (name_old k h)))
        (new_key ∙ key_is ∙ ap key_of (sym name_new))

    defined : Defined text heads' names' (count + 1) (record { start = start; len = len; wire = wire }) (entries names count)
    defined =
        let more : count + 1 ≡ suc count = add-one count in
        record {
          table = record {
            sized = ok.sized;
            heads_sized = length-headed heads digit last (count + 1) ∙ ok.heads_sized;
            room = omega (arith, set_room, length_put set_names (count * NAME_WORDS) key start wire set_room);
            inside = in_text;
            keyed = keys;
            once = λ j k l m. once_more text heads names heads' names' count w last digit ok ends head_is link_is link_none name_old name_new (none_named text names w count unknown) j k (rw more at l) (rw more at m);
            head = λ d j l e. rw more (head_more text heads names heads' names' count w last digit ok ends head_is link_is link_none name_old name_new d j l e);
            link = λ k x j l m e. rw more (link_more text heads names heads' names' count w last digit ok ends head_is link_is link_none name_old name_new k x j (rw more at l) m e);
            there = λ k l. there_more text heads names heads' names' count w last digit ok ends head_is link_is link_none name_old name_new k (rw more at l);
            alike = alike_more text heads names heads' names' count w last digit ok ends head_is link_is link_none name_old name_new;
          };
          list = ap (entries names') more ∙ more_list;
        }

    pub define_leaves : {hs ns : List ℕ} → hs ≡ headed heads digit last (count + 1) → ns ≡ linked names last digit (count + 1)
        → Defined text hs (put_mid (count * NAME_WORDS) (count * NAME_WORDS + NAME_WORDS - count * NAME_WORDS) ns (key ∷ 0 ∷ 0 ∷ start ∷ wire ∷ [])) (count + 1)
        (record { start = start; len = len; wire = wire }) (entries names count)
    define_leaves p q = rw (p, q) defined
