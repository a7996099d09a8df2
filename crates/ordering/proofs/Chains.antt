-- How the chains of reads are built, and the words of the nodes opened.
-- Assumes nothing.
use Prim.Native.Nat.{ℕ, zero, suc, ◌+◌, ◌-◌, ◌*◌, ◌≤◌, ◌<◌}
use mathlib.Core.Path.{◌≡◌, refl, sym, ap, ap₂, ◌∙◌}
use mathlib.Core.Logic.{◌≢◌}
use mathlib.Core.Bool.{Bool, true, false, not, ◌&&◌}
use mathlib.Core.List.{List, []}
use native.Mathlib.Omega.{arith}
use native.Mathlib.Numerals.{add-one}
use lib.Dec.{eqb}
use lib.ListN.{length, get_or, drop, length-set}
use lib.Seq.{get_or-set_same, get_or-set_other, drop-set-lt}
use borrow.Author.Tests.{ne_eqb, eqb-true, eqb-false}
use Rattle.graphs.specs.Graph.{Vertex, is_cell, waits}
use Rattle.std.specs.Prelude.{Option, None, Some}
use Rattle.std.specs.Option.{is_some}
use Rattle.graphs.specs.declared.TheConstants.{READS}
use Rattle.ordering.specs.Areas.{entry_of, last_of, passing, word_passes, reading, Running, head_set, next_set, Linked, linked, Opened, Empty, Sourced}
use Rattle.readyset.specs.Sets.{member, Levels}
use Rattle.std.proofs.Math.Bool.{and-true, or-false}
use Rattle.laws.proofs.Tests.{clash}
use Rattle.graphs.proofs.Graph.{cell_below, waits_makes}
use Rattle.ordering.proofs.Sources.{counts, source}
use Rattle.ordering.proofs.Edges.{last_more, last_other, passing-same}

pub head_length : (area : List ℕ) (edge from : ℕ) → length (head_set area edge from) ≡ length area
unfolding head_set
head_length area edge zero = refl
head_length area edge (suc x) = length-set area (2 * x + 1) edge

pub next-length : (area next : List ℕ) (edge from : ℕ) → length (next_set area next edge from) ≡ length next
unfolding next_set
next-length area next edge zero = refl
next-length area next edge (suc x) = length-set next edge (get_or area (2 * x + 1) 0)

head_same : (area : List ℕ) (edge from x : ℕ) → 2 * x + 1 < length area → from ≡ suc x → get_or (head_set area edge from) (2 * x + 1) 0 ≡ edge
unfolding head_set
head_same area edge zero x r e = absurd (omega arith)
head_same area edge (suc y) x r e = let z : y ≡ x = omega arith in rw z (get_or-set_same area (2 * x + 1) edge 0 r)

head_other : (area : List ℕ) (edge from x : ℕ) → from ≢ suc x → get_or (head_set area edge from) (2 * x + 1) 0 ≡ get_or area (2 * x + 1) 0
unfolding head_set
head_other area edge zero x h = refl
head_other area edge (suc y) x h = get_or-set_other area (2 * y + 1) (2 * x + 1) edge 0 (λ z. h (omega arith))

next_same : (area next : List ℕ) (edge from x : ℕ) → edge < length next → from ≡ suc x → get_or (next_set area next edge from) edge 0 ≡ get_or area (2 * x + 1) 0
unfolding next_set
next_same area next edge zero x r e = absurd (omega arith)
next_same area next edge (suc y) x r e = let z : y ≡ x = omega arith in rw z (get_or-set_same next edge (get_or area (2 * x + 1) 0) 0 r)

next_other : (area next : List ℕ) (edge from k : ℕ) → k ≢ edge → get_or (next_set area next edge from) k 0 ≡ get_or next k 0
unfolding next_set
next_other area next edge zero k h = refl
next_other area next edge (suc y) k h = get_or-set_other next edge k (get_or area (2 * y + 1) 0) 0 h

module _ (src : ℕ → ℕ) (n : ℕ) where
  pub linked-start : (area next : List ℕ) → ((x : ℕ) → x < n → get_or area (2 * x + 1) 0 ≡ 0) → Linked src n 0 area next
  unfolding last_of
  linked-start area next h = record { heads = h; nexts = λ e x a b s. absurd (omega arith) }

  pub linked_more : (m : ℕ) (area next : List ℕ) (from : ℕ) (area' next' : List ℕ) → Linked src n m area next → from ≡ src (m + 1) → from ≤ n → 3 * n ≤ length area → m + 1 < length next → area' ≡ head_set area (m + 1) from → next' ≡ next_set area next (m + 1) from → Linked src n (m + 1) area' next'
  linked_more m area next from area' next' l f few room there p q = rw (p, q) (record { heads = heads; nexts = nexts })
    where
      heads : (x : ℕ) → x < n → get_or (head_set area (m + 1) from) (2 * x + 1) 0 ≡ last_of src x (m + 1)
      heads x h = go (eqb from (suc x)) refl
        where
          go : (t : Bool) → eqb from (suc x) ≡ t → get_or (head_set area (m + 1) from) (2 * x + 1) 0 ≡ last_of src x (m + 1)
          go true e =
              let g = eqb-true from (suc x) e in
              head_same area (m + 1) from x (omega arith) g ∙ add-one m ∙ sym (ap (last_of src x) (add-one m) ∙ last_more src x m (ap src (sym (add-one m)) ∙ sym f ∙ g))
          go false e =
              let g = eqb-false from (suc x) e in
              head_other area (m + 1) from x g ∙ l.heads x h ∙ sym (ap (last_of src x) (add-one m) ∙ last_other src x m (λ z. g (f ∙ ap src (add-one m) ∙ z)))

      nexts : (e x : ℕ) → 1 ≤ e → e ≤ m + 1 → src e ≡ suc x → get_or (next_set area next (m + 1) from) e 0 ≡ last_of src x (e - 1)
      nexts e x a b s = go (eqb e (m + 1)) refl
        where
          go : (t : Bool) → eqb e (m + 1) ≡ t → get_or (next_set area next (m + 1) from) e 0 ≡ last_of src x (e - 1)
          go true z =
              let g = eqb-true e (m + 1) z in
              let h : from ≡ suc x = f ∙ ap src (sym g) ∙ s in
              ap (λ (k : ℕ). get_or (next_set area next (m + 1) from) k 0) g ∙ next_same area next (m + 1) from x there h ∙ l.heads x (omega arith) ∙ ap (last_of src x) (omega arith)
          go false z =
              let g = eqb-false e (m + 1) z in
              next_other area next (m + 1) from e g ∙ l.nexts e x a (omega arith) s

pub head_rest : (area : List ℕ) (n edge from : ℕ) → from ≤ n → drop (2 * n) (head_set area edge from) ≡ drop (2 * n) area
unfolding head_set
head_rest area n edge zero h = refl
head_rest area n edge (suc x) h = drop-set-lt (2 * n) area (2 * x + 1) edge (omega arith)

-- the words of the nodes, and the set of ready nodes

pub record Opening (src : ℕ → ℕ) (c : List Vertex) (n : ℕ) (start : List ℕ) (done : ℕ) (area : List ℕ) : Type 0 where
  pub size : length area ≡ length start
  pub heads : (x : ℕ) → x < n → get_or area (2 * x + 1) 0 ≡ get_or start (2 * x + 1) 0
  pub pends : (q : ℕ) → q < done → get_or area (2 * q) 0 ≡ passing (linked src) q
  pub levels : Levels (drop (2 * n) area) n
  pub flags : (q : ℕ) → q < done → q < n → member (drop (2 * n) area) q ≡ is_cell c q && eqb (passing (linked src) q) 0
  pub later : (q : ℕ) → done ≤ q → q < n → member (drop (2 * n) area) q ≡ false

module _ (src : ℕ → ℕ) (c : List Vertex) (n : ℕ) (start : List ℕ) where
  pub opening_start : Empty n start → Opening src c n start 0 start
  opening_start e = record { size = refl; heads = λ x h. refl; pends = λ q h. absurd (omega arith); levels = e.levels; flags = λ q h l. absurd (omega arith); later = λ q h l. e.none q l }

  pub opening_more : (done : ℕ) (area area' : List ℕ) → Opening src c n start done area → done < n → Opened src c n area done area' → Opening src c n start (done + 1) area'
  opening_more done area area' o r e =
      record {
        size = e.size ∙ o.size;
        heads = λ x h. e.words (2 * x + 1) (omega arith) (omega arith) ∙ o.heads x h;
        pends = pends;
        levels = e.levels;
        flags = flags;
        later = later;
      }
    where
      pends : (q : ℕ) → q < done + 1 → get_or area' (2 * q) 0 ≡ passing (linked src) q
      pends q h = go (eqb q done) refl
        where
          go : (t : Bool) → eqb q done ≡ t → get_or area' (2 * q) 0 ≡ passing (linked src) q
          go true z = let g = eqb-true q done z in rw g e.waiting
          go false z = let g = eqb-false q done z in e.words (2 * q) (omega arith) (λ y. g (omega arith)) ∙ o.pends q (omega arith)

      other : (q : ℕ) → q < n → q ≢ done → member (drop (2 * n) area') q ≡ member (drop (2 * n) area) q
      other q l h = e.members q l ∙ rw (ne_eqb q done h) (or-false (member (drop (2 * n) area) q))

      flags : (q : ℕ) → q < done + 1 → q < n → member (drop (2 * n) area') q ≡ is_cell c q && eqb (passing (linked src) q) 0
      flags q h l = go (eqb q done) refl
        where
          go : (t : Bool) → eqb q done ≡ t → member (drop (2 * n) area') q ≡ is_cell c q && eqb (passing (linked src) q) 0
          go true z =
              let g = eqb-true q done z in
              e.members q l ∙ rw (z, o.later q (omega arith) l, g)
          go false z = let g = eqb-false q done z in other q l g ∙ o.flags q (omega arith) l

      later : (q : ℕ) → done + 1 ≤ q → q < n → member (drop (2 * n) area') q ≡ false
      later q h l = other q l (omega arith) ∙ o.later q (omega arith) l

-- with nothing taken, a read of a cell waits

linked-word : (src : ℕ → ℕ) (e k : ℕ) → src e ≡ k → (w : ℕ → Bool) → ((x : ℕ) → k ≡ suc x → w x ≡ true) → word_passes w k ≡ not (eqb k 0)
linked-word src e zero s w h = refl
linked-word src e (suc x) s w h = rw (h x refl, ne_eqb (suc x) 0 (omega arith))

module _ (src : ℕ → ℕ) (c : List Vertex) (s : Sourced src c) where
  linked_reads : (e : ℕ) → 1 ≤ e → e ≤ READS * length c → reading src (waits c []) e ≡ linked src e
  unfolding reading linked
  linked_reads e a b = linked-word src e (src e) refl (waits c []) (λ x h. waits_makes c [] x (source src c s e x a b h) refl)

  open_passing : (q : ℕ) → q < length c → passing (reading src (waits c [])) q ≡ passing (linked src) q
  open_passing q h = passing-same _ _ q (λ e a b. linked_reads e (omega arith) (omega arith))

  open_waits : (q : ℕ) → waits c [] q ≡ is_cell c q
  unfolding waits
  open_waits q = and-true (is_cell c q)

  -- no read reads past the nodes
  pub source_le : (e : ℕ) → 1 ≤ e → e ≤ READS * length c → src e ≤ length c
  source_le e a b = go (src e) refl
    where
      go : (k : ℕ) → src e ≡ k → src e ≤ length c
      go zero q = omega arith
      go (suc x) q = omega (arith, cell_below c x (source src c s e x a b q))

  pub opening_end : (n : ℕ) → n ≡ length c → (start area next : List ℕ) (done : ℕ) → Opening src c n start done area → done ≡ n → 3 * n ≤ length start → READS * n < length next → Linked src n (READS * n) start next → Running src c [] area next
  opening_end n len start area next done o e room links l =
      record {
        room = omega (arith, o.size);
        links = omega arith;
        heads = λ x h. o.heads x (omega arith) ∙ l.heads x (omega arith) ∙ ap (λ (k : ℕ). last_of src x (READS * k)) len;
        nexts = λ k x a b s. l.nexts k x a (omega arith) s;
        pends = λ q h. o.pends q (omega arith) ∙ sym (open_passing q (omega arith));
        levels = rw (← len) o.levels;
        flags = λ q h. rw (← len) (o.flags q (omega arith) (omega arith)) ∙ ap₂ ◌&&◌ (sym (open_waits q)) (ap (λ (k : ℕ). eqb k 0) (sym (open_passing q (omega arith)))) ∙ sym (counts src c s [] q h);
        closed = λ q i w. absurd (clash (waits_makes c [] q i refl) w);
        sourced = s;
      }

-- a read of a cell
pub word_is : (src : ℕ → ℕ) (e : ℕ) (r : Option ℕ) → entry_of r ≡ src e → is_some r ≡ linked src e
unfolding linked
word_is src e None h = rw (← h)
word_is src e (Some x) h = rw (← h, ne_eqb (suc x) 0 (omega arith))
