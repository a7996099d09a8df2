-- What releasing a taken cell keeps: down the chain of its reads, each reader waits for one read less; then it leaves the set.
-- Assumes nothing.
use Prim.Native.Nat.{ℕ, zero, suc, ◌+◌, ◌-◌, ◌*◌, ◌/◌, ◌≤◌, ◌<◌}
use mathlib.Core.Path.{◌≡◌, refl, sym, ap, ◌∙◌, subst}
use mathlib.Core.Logic.{◌≢◌}
use mathlib.Core.Bool.{Bool, true, false, not, ◌&&◌, ◌||◌}
use mathlib.Core.List.{List, [], ◌∷◌, ◌++◌}
use native.Mathlib.Omega.{arith}
use lib.Dec.{leb, eqb, eqb-suc-zero}
use lib.ListN.{length, get_or, drop}
use borrow.Author.Tests.{ne_eqb, eq-eqb, le-leb, lt-leb, eqb-true, eqb-false, leb-true, leb-false}
use Rattle.graphs.specs.Graph.{Vertex, is_cell, waits, ready}
use Rattle.graphs.specs.declared.TheConstants.{READS}
use Rattle.ordering.specs.Areas.{last_of, passing, word_passes, reading, partly, Running, Moved, Lowered, Releasable, Released}
use Rattle.readyset.specs.Sets.{member, Levels}
use Rattle.std.proofs.Math.Bool.{and-false, and-true, or-false, or-true}
use Rattle.std.proofs.lemmas.Bool.{and_parts, true_from_ne_false}
use Rattle.graphs.proofs.Graph.{cell_below, waits-cell, waits_taken, ready-waits}
use Rattle.laws.proofs.Lists.{elem_snoc_same, elem_snoc_other}
use Rattle.ordering.proofs.Sources.{counts}
use Rattle.ordering.proofs.Edges.{last_le, last_reads, last_top, passing-same, passing-none, passing-zero, passing-drop, passing-kept, passing-some}

-- tests on the reads

reading_at : (src : ℕ → ℕ) (v : ℕ → Bool) (e x : ℕ) → src e ≡ suc x → reading src v e ≡ v x
unfolding reading
reading_at src v e x h = rw h

word_same : (v w : ℕ → Bool) (p k : ℕ) → ((x : ℕ) → x ≢ p → v x ≡ w x) → k ≢ suc p → word_passes w k ≡ word_passes v k
word_same v w p zero same h = refl
word_same v w p (suc x) same h = sym (same x (λ z. h (ap suc z)))

reading_same : (src : ℕ → ℕ) (v w : ℕ → Bool) (p e : ℕ) → ((x : ℕ) → x ≢ p → v x ≡ w x) → src e ≢ suc p → reading src w e ≡ reading src v e
unfolding reading
reading_same src v w p e same h = word_same v w p (src e) same h

module _ (src : ℕ → ℕ) (v w : ℕ → Bool) (p : ℕ) (off : w p ≡ false) where
  partly_none : (m e : ℕ) → src e ≢ suc p → partly src w p m e ≡ reading src w e
  unfolding partly
  partly_none m e h = rw (ne_eqb (src e) (suc p) h, and-false (leb e m)) (or-false (reading src w e))

  partly_hit : (m e : ℕ) → src e ≡ suc p → partly src w p m e ≡ leb e m
  unfolding partly reading
  partly_hit m e h = rw (h, off, eq-eqb (suc p) (suc p) refl) (and-true (leb e m))

  -- at the chain's start nothing is released
  partly-start : v p ≡ true → ((x : ℕ) → x ≢ p → v x ≡ w x) → (n e : ℕ) → 1 ≤ e → e ≤ n → partly src w p (last_of src p n) e ≡ reading src v e
  partly-start on same n e a b = go (eqb (src e) (suc p)) refl
    where
      go : (t : Bool) → eqb (src e) (suc p) ≡ t → partly src w p (last_of src p n) e ≡ reading src v e
      go true q =
          let s = eqb-true (src e) (suc p) q in
          partly_hit (last_of src p n) e s ∙ le-leb e (last_of src p n) (last_top src p n e s a b) ∙ sym (reading_at src v e p s ∙ on)
      go false q = let s = eqb-false (src e) (suc p) q in partly_none (last_of src p n) e s ∙ reading_same src v w p e same s

  -- at its end all is
  partly_end : (e : ℕ) → 1 ≤ e → partly src w p 0 e ≡ reading src w e
  partly_end e a = go (eqb (src e) (suc p)) refl
    where
      go : (t : Bool) → eqb (src e) (suc p) ≡ t → partly src w p 0 e ≡ reading src w e
      go true q = let s = eqb-true (src e) (suc p) q in partly_hit 0 e s ∙ lt-leb e 0 (omega arith) ∙ sym (reading_at src w e p s ∙ off)
      go false q = partly_none 0 e (eqb-false (src e) (suc p) q)

  -- a turn takes the read m off the list, and nothing else
  partly_on : (m : ℕ) → src m ≡ suc p → partly src w p m m ≡ true
  partly_on m h = partly_hit m m h ∙ le-leb m m (omega arith)

  partly_off : (m : ℕ) → 1 ≤ m → src m ≡ suc p → partly src w p (last_of src p (m - 1)) m ≡ false
  partly_off m a h = partly_hit (last_of src p (m - 1)) m h ∙ lt-leb m (last_of src p (m - 1)) (omega (arith, last_le src p (m - 1)))

  partly_turn : (m k : ℕ) → 1 ≤ m → 1 ≤ k → k ≢ m → partly src w p (last_of src p (m - 1)) k ≡ partly src w p m k
  partly_turn m k a b n = go (eqb (src k) (suc p)) refl
    where
      side : src k ≡ suc p → (t : Bool) → leb k m ≡ t → leb k (last_of src p (m - 1)) ≡ leb k m
      side s true q =
          let l = leb-true k m q in
          le-leb k (last_of src p (m - 1)) (last_top src p (m - 1) k s b (omega arith)) ∙ sym q
      side s false q =
          let l = leb-false k m q in
          lt-leb k (last_of src p (m - 1)) (omega (arith, last_le src p (m - 1))) ∙ sym q

      go : (t : Bool) → eqb (src k) (suc p) ≡ t → partly src w p (last_of src p (m - 1)) k ≡ partly src w p m k
      go true q =
          let s = eqb-true (src k) (suc p) q in
          partly_hit (last_of src p (m - 1)) k s ∙ side s (leb k m) refl ∙ sym (partly_hit m k s)
      go false q = let s = eqb-false (src k) (suc p) q in partly_none (last_of src p (m - 1)) k s ∙ sym (partly_none m k s)

-- the release of p, down to the read m

-- what is ready once p is taken, down to the read m
unfoldable pub still_ready : (ℕ → ℕ) → List Vertex → List ℕ → ℕ → ℕ → ℕ → Bool
still_ready src c taken p m q = waits c (taken ++ p ∷ []) q && eqb (passing (partly src (waits c (taken ++ p ∷ [])) p m) q) 0

pub record Releasing (src : ℕ → ℕ) (c : List Vertex) (taken : List ℕ) (p : ℕ) (area : List ℕ) (m : ℕ) : Type 0 where
  pub here : m ≤ READS * length c
  pub reads : m ≢ 0 → src m ≡ suc p
  pub room : 3 * length c ≤ length area
  pub heads : (x : ℕ) → x < length c → get_or area (2 * x + 1) 0 ≡ last_of src x (READS * length c)
  pub pends : (q : ℕ) → q < length c → get_or area (2 * q) 0 ≡ passing (partly src (waits c (taken ++ p ∷ [])) p m) q
  pub levels : Levels (drop (2 * length c) area) (length c)
  pub flags : (q : ℕ) → q < length c → member (drop (2 * length c) area) q ≡ still_ready src c taken p m q || eqb q p

module _ (src : ℕ → ℕ) (c : List Vertex) (taken area next : List ℕ) (p : ℕ) (run : Running src c taken area next) (is_ready : ready c taken p ≡ true) where
  now_waits : waits c taken p ≡ true
  now_waits = ready-waits c taken p is_ready

  in_range : p < length c
  in_range = cell_below c p (waits-cell c taken p now_waits)

  off : waits c (taken ++ p ∷ []) p ≡ false
  off = waits_taken c (taken ++ p ∷ []) p (elem_snoc_same p taken)

  same : (x : ℕ) → x ≢ p → waits c taken x ≡ waits c (taken ++ p ∷ []) x
  unfolding waits
  same x h = rw (elem_snoc_other x p taken h)

  start-passing : (q : ℕ) → q < length c → passing (partly src (waits c (taken ++ p ∷ [])) p (last_of src p (READS * length c))) q ≡ passing (reading src (waits c taken)) q
  start-passing q h = passing-same _ _ q (λ e a b. at e (omega arith) (omega arith))
    where
      at : (e : ℕ) → 1 ≤ e → e ≤ READS * length c → partly src (waits c (taken ++ p ∷ [])) p (last_of src p (READS * length c)) e ≡ reading src (waits c taken) e
      at e a b = partly-start src (waits c taken) (waits c (taken ++ p ∷ [])) p off now_waits same (READS * length c) e a b

  ready_now : (q : ℕ) → q < length c → ready c taken q ≡ waits c taken q && eqb (passing (reading src (waits c taken)) q) 0
  ready_now q h = counts src c run.sourced taken q h

  start_flag : (q : ℕ) → q < length c → member (drop (2 * length c) area) q ≡ still_ready src c taken p (last_of src p (READS * length c)) q || eqb q p
  unfolding still_ready
  start_flag q h = go (eqb q p) refl
    where
      go : (t : Bool) → eqb q p ≡ t → member (drop (2 * length c) area) q ≡ still_ready src c taken p (last_of src p (READS * length c)) q || eqb q p
      go true e =
          run.flags q h ∙ ap (ready c taken) (eqb-true q p e) ∙ is_ready
          ∙ sym (ap (λ (t : Bool). still_ready src c taken p (last_of src p (READS * length c)) q || t) e ∙ or-true (still_ready src c taken p (last_of src p (READS * length c)) q))
      go false e = run.flags q h ∙ ready_now q h ∙ rw (e, start-passing q h, ← (same q (eqb-false q p e))) (sym (or-false _))

  pub releasing_start : Releasing src c taken p area (last_of src p (READS * length c))
  releasing_start =
      record {
        here = last_le src p (READS * length c);
        reads = last_reads src p (READS * length c);
        room = run.room;
        heads = run.heads;
        pends = λ q h. run.pends q h ∙ sym (start-passing q h);
        levels = run.levels;
        flags = start_flag;
      }

  pub started : Releasing src c taken p area (get_or area (2 * p + 1) 0)
  started = rw (run.heads p in_range) releasing_start

  ready-none : passing (reading src (waits c taken)) p ≡ 0
  ready-none = eqb-true _ 0 (and_parts (waits c taken p) (eqb (passing (reading src (waits c taken)) p) 0) (sym (ready_now p in_range) ∙ is_ready)).1

  module _ (now : List ℕ) (m : ℕ) (rel : Releasing src c taken p now m) (some : m ≢ 0) where
    abbrev reader : ℕ
    reader = (m - 1) / READS

    reader_in : reader < length c
    reader_in = omega (arith, rel.here)

    hit : src m ≡ suc p
    hit = rel.reads some

    -- the reader waited before, and is another cell than p
    had : 1 ≤ passing (reading src (waits c taken)) reader
    had = passing-some (reading src (waits c taken)) m reader (omega arith) refl (reading_at src (waits c taken) m p hit ∙ now_waits)

    reader_waits : waits c taken reader ≡ true
    reader_waits = true_from_ne_false (waits c taken reader) (λ z. omega (arith, had, run.closed reader (run.sourced.reader m p (omega arith) rel.here hit) z))

    reader_other : reader ≢ p
    reader_other z = omega (arith, had, ready-none, ap (passing (reading src (waits c taken))) z)

    still-waits : waits c (taken ++ p ∷ []) reader ≡ true
    still-waits = sym (same reader reader_other) ∙ reader_waits

    next-is : get_or next m 0 ≡ last_of src p (m - 1)
    next-is = run.nexts m p (omega arith) rel.here hit

    drop-one : passing (partly src (waits c (taken ++ p ∷ [])) p m) reader ≡ suc (passing (partly src (waits c (taken ++ p ∷ [])) p (last_of src p (m - 1))) reader)
    drop-one =
        passing-drop _ _ m reader (omega arith) refl (partly_on src (waits c taken) (waits c (taken ++ p ∷ [])) p off m hit) (partly_off src (waits c taken) (waits c (taken ++ p ∷ [])) p off m (omega arith) hit) (λ k a n. partly_turn src (waits c taken) (waits c (taken ++ p ∷ [])) p off m k (omega arith) a n)

    kept : (q : ℕ) → q ≢ reader → passing (partly src (waits c (taken ++ p ∷ [])) p (last_of src p (m - 1))) q ≡ passing (partly src (waits c (taken ++ p ∷ [])) p m) q
    kept q n = passing-kept (partly src (waits c (taken ++ p ∷ [])) p m) _ m q (omega arith) n (λ k a z. partly_turn src (waits c taken) (waits c (taken ++ p ∷ [])) p off m k (omega arith) a z)

    pub releasing_some : 1 ≤ get_or now (2 * reader) 0
    releasing_some = omega (arith, rel.pends reader reader_in, drop-one)

    -- the reader is not ready yet
    pub was : member (drop (2 * length c) now) reader ≡ false
    unfolding still_ready
    was = rel.flags reader reader_in ∙ rw (drop-one, still-waits, eqb-suc-zero (passing (partly src (waits c (taken ++ p ∷ [])) p (last_of src p (m - 1))) reader), ne_eqb reader p reader_other)

    module _ (after : List ℕ) (noted : Lowered (length c) now reader after) where
      fewer_left : get_or now (2 * reader) 0 - 1 ≡ passing (partly src (waits c (taken ++ p ∷ [])) p (last_of src p (m - 1))) reader
      fewer_left = omega (arith, rel.pends reader reader_in, drop-one)

      turn_pend : (q : ℕ) → q < length c → get_or after (2 * q) 0 ≡ passing (partly src (waits c (taken ++ p ∷ [])) p (last_of src p (m - 1))) q
      turn_pend q h = go (eqb q reader) refl
        where
          go : (t : Bool) → eqb q reader ≡ t → get_or after (2 * q) 0 ≡ passing (partly src (waits c (taken ++ p ∷ [])) p (last_of src p (m - 1))) q
          go true e = let f = eqb-true q reader e in rw f (noted.waiting ∙ fewer_left)
          go false e =
              let f = eqb-false q reader e in
              noted.words (2 * q) (omega arith) (λ z. f (omega arith)) ∙ rel.pends q h ∙ sym (kept q f)

      turn_flag : (q : ℕ) → q < length c → member (drop (2 * length c) after) q ≡ still_ready src c taken p (last_of src p (m - 1)) q || eqb q p
      unfolding still_ready
      turn_flag q h = noted.members q h ∙ go (eqb q reader) refl
        where
          go : (t : Bool) → eqb q reader ≡ t → member (drop (2 * length c) now) q || (eqb q reader && eqb (get_or now (2 * reader) 0 - 1) 0) ≡ still_ready src c taken p (last_of src p (m - 1)) q || eqb q p
          go true e =
              let f = eqb-true q reader e in
              rw (e, ap (member (drop (2 * length c) now)) f ∙ was, fewer_left, ap (waits c (taken ++ p ∷ [])) f ∙ still-waits, ap (λ (z : ℕ). eqb z p) f ∙ ne_eqb reader p reader_other, f) (sym (or-false _))
          go false e =
              let f = eqb-false q reader e in
              rw (e, kept q f) (or-false (member (drop (2 * length c) now) q) ∙ rel.flags q h)

      pub releasing_turn : Releasing src c taken p after (get_or next m 0)
      releasing_turn =
          rw next-is
          (record {
            here = omega (arith, last_le src p (m - 1), rel.here);
            reads = last_reads src p (m - 1);
            room = omega (arith, noted.size, rel.room);
            heads = λ x h. noted.words (2 * x + 1) (omega arith) (omega arith) ∙ rel.heads x h;
            pends = turn_pend;
            levels = noted.levels;
            flags = turn_flag;
          })

  -- fewer reads wait than before
  fewer : (q : ℕ) → passing (reading src (waits c taken)) q ≡ 0 → passing (reading src (waits c (taken ++ p ∷ []))) q ≡ 0
  fewer q e = passing-none _ q (λ k a b. less k (passing-zero _ q e k a b))
    where
      less : (k : ℕ) → reading src (waits c taken) k ≡ false → reading src (waits c (taken ++ p ∷ [])) k ≡ false
      less k h = go (eqb (src k) (suc p)) refl
        where
          go : (t : Bool) → eqb (src k) (suc p) ≡ t → reading src (waits c (taken ++ p ∷ [])) k ≡ false
          go true f = reading_at src (waits c (taken ++ p ∷ [])) k p (eqb-true (src k) (suc p) f) ∙ off
          go false f = reading_same src (waits c taken) (waits c (taken ++ p ∷ [])) p k same (eqb-false (src k) (suc p) f) ∙ h

  still-closed : (q : ℕ) → is_cell c q ≡ true → waits c (taken ++ p ∷ []) q ≡ false → passing (reading src (waits c (taken ++ p ∷ []))) q ≡ 0
  still-closed q i w = go (eqb q p) refl
    where
      go : (t : Bool) → eqb q p ≡ t → passing (reading src (waits c (taken ++ p ∷ []))) q ≡ 0
      go true e = fewer q (ap (passing (reading src (waits c taken))) (eqb-true q p e) ∙ ready-none)
      go false e = fewer q (run.closed q i (same q (eqb-false q p e) ∙ w))

  -- p is still in the set, until it is taken out
  pub flagged : (now : List ℕ) (m : ℕ) → Releasing src c taken p now m → member (drop (2 * length c) now) p ≡ true
  flagged now m rel = rel.flags p in_range ∙ ap (λ (t : Bool). still_ready src c taken p m p || t) (eq-eqb p p refl) ∙ or-true (still_ready src c taken p m p)

  pub releasing_end : (now : List ℕ) → Releasing src c taken p now 0 → (after : List ℕ) → Moved false (length c) now p after → Running src c (taken ++ p ∷ []) after next
  unfolding still_ready
  releasing_end now rel after moved =
      record {
        room = omega (arith, rel.room, moved.size);
        links = run.links;
        heads = λ x h. moved.words (2 * x + 1) (omega arith) ∙ rel.heads x h;
        nexts = run.nexts;
        pends = λ q h. moved.words (2 * q) (omega arith) ∙ rel.pends q h ∙ over q;
        levels = moved.levels;
        flags = λ q h. moved.members q h ∙ ap (λ (t : Bool). t && not (eqb q p)) (rel.flags q h) ∙ strip (still_ready src c taken p 0 q) (eqb q p) (out q) ∙ ap (λ k. waits c (taken ++ p ∷ []) q && eqb k 0) (over q) ∙ sym (counts src c run.sourced (taken ++ p ∷ []) q h);
        closed = still-closed;
        sourced = run.sourced;
      }
    where
      over : (q : ℕ) → passing (partly src (waits c (taken ++ p ∷ [])) p 0) q ≡ passing (reading src (waits c (taken ++ p ∷ []))) q
      over q = passing-same _ _ q (λ e a b. partly_end src (waits c taken) (waits c (taken ++ p ∷ [])) p off e (omega arith))

      strip : (x t : Bool) → (t ≡ true → x ≡ false) → (x || t) && not t ≡ x
      strip true true h = sym (h refl)
      strip false true h = refl
      strip true false h = refl
      strip false false h = refl

      out : (q : ℕ) → eqb q p ≡ true → still_ready src c taken p 0 q ≡ false
      out q e = rw (ap (waits c (taken ++ p ∷ [])) (eqb-true q p e) ∙ off)

-- the same of any circuit that the areas fit, for the code

abbrev pub Descended : ℕ → List ℕ → ℕ → List ℕ → ℕ → List ℕ → ℕ → Type 0
Descended count next p area₀ edge₀ area edge =
    (src : ℕ → ℕ) (c : List Vertex) (taken start : List ℕ) → length c ≡ count → Running src c taken start next → ready c taken p ≡ true → Releasing src c taken p area₀ edge₀ → Releasing src c taken p area edge

pub record Safe (count : ℕ) (area next : List ℕ) (edge : ℕ) : Type 0 where
  pub room : 3 * count ≤ length area
  pub reader : (edge - 1) / READS < count
  pub levels : Levels (drop (2 * count) area) count
  pub fresh : member (drop (2 * count) area) ((edge - 1) / READS) ≡ false
  pub some : 1 ≤ get_or area (2 * ((edge - 1) / READS)) 0
  pub there : edge < length next
  pub down : get_or next edge 0 < edge

-- what taking p out of the set of ready nodes asks
pub record Takable (count : ℕ) (area : List ℕ) (p : ℕ) : Type 0 where
  pub room : 3 * count ≤ length area
  pub below : p < count
  pub levels : Levels (drop (2 * count) area) count
  pub flag : member (drop (2 * count) area) p ≡ true

module _ (count : ℕ) (area next : List ℕ) (p : ℕ) (after : List ℕ) (edge : ℕ) (d : Descended count next p area (get_or area (2 * p + 1) 0) after edge) where
  descent : (src : ℕ → ℕ) (c : List Vertex) (taken : List ℕ) → length c ≡ count → Running src c taken area next → ready c taken p ≡ true → Releasing src c taken p after edge
  descent src c taken e run h = d src c taken area e run h (started src c taken area next p run h)

  pub takable : Releasable count area next p → Takable count after p
  takable r =
      subst (λ (n : ℕ). Takable n after p) r.size
      (record {
        room = rel.room;
        below = in_range r.src r.circuit r.taken area next p r.running r.is_ready;
        levels = rel.levels;
        flag = flagged r.src r.circuit r.taken area next p r.running r.is_ready after edge rel;
      })
    where
      rel : Releasing r.src r.circuit r.taken p after edge
      rel = descent r.src r.circuit r.taken r.size r.running r.is_ready

  pub safe : Releasable count area next p → edge ≢ 0 → Safe count after next edge
  safe r n =
      subst (λ (k : ℕ). Safe k after next edge) r.size
      (record {
        room = rel.room;
        reader = reader_in r.src r.circuit r.taken area next p r.running r.is_ready after edge rel n;
        levels = rel.levels;
        fresh = was r.src r.circuit r.taken area next p r.running r.is_ready after edge rel n;
        some = releasing_some r.src r.circuit r.taken area next p r.running r.is_ready after edge rel n;
        there = omega (arith, rel.here, r.running.links);
        down = omega (arith, next-is r.src r.circuit r.taken area next p r.running r.is_ready after edge rel n, last_le r.src p (edge - 1));
      })
    where
      rel : Releasing r.src r.circuit r.taken p after edge
      rel = descent r.src r.circuit r.taken r.size r.running r.is_ready

  pub descended : edge ≡ 0 → (final : List ℕ) → Moved false count after p final → Released count area next p final
  descended z final moved src c taken e run h = releasing_end src c taken area next p run h after (subst (Releasing src c taken p after) z (descent src c taken e run h)) final (subst (λ (n : ℕ). Moved false n after p final) (sym e) moved)

-- where the release begins
pub releasable_room : (count : ℕ) (area next : List ℕ) (p : ℕ) → Releasable count area next p → 2 * p + 1 < length area
releasable_room count area next p r = omega (arith, in_range r.src r.circuit r.taken area next p r.running r.is_ready, r.running.room)

pub descend_none : (count : ℕ) (next : List ℕ) (p : ℕ) (area : List ℕ) (edge : ℕ) → Descended count next p area edge area edge
descend_none count next p area edge src c taken start e run h rel = rel

pub descend_more : (count : ℕ) (next : List ℕ) (p : ℕ) (area₀ : List ℕ) (edge₀ : ℕ) (area : List ℕ) (edge : ℕ) (after : List ℕ) → Descended count next p area₀ edge₀ area edge → edge ≢ 0 → Lowered count area ((edge - 1) / READS) after → Descended count next p area₀ edge₀ after (get_or next edge 0)
descend_more count next p area₀ edge₀ area edge after d n l src c taken start e run h rel =
    releasing_turn src c taken start next p run h area edge (d src c taken start e run h rel) n after (subst (λ (k : ℕ). Lowered k area ((edge - 1) / READS) after) (sym e) l)
