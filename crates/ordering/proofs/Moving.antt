-- The set of ready nodes as the last part of the ready area, and how many they are.
-- Assumes nothing.
use Prim.Native.Nat.{ℕ, suc, ◌+◌, ◌-◌, ◌*◌, ◌≤◌, ◌<◌, min}
use mathlib.Core.Path.{◌≡◌, refl, sym, ap, ◌∙◌}
use mathlib.Core.Bool.{Bool, true, false, not, ◌&&◌, ◌||◌}
use mathlib.Core.List.{List, []}
use native.Mathlib.Omega.{arith}
use lib.Dec.{eqb}
use lib.ListN.{length, get_or, set, take, drop, replicate, length-set, length-drop}
use lib.Seq.{get_or-set_same, get_or-set_other, get_or-drop, drop-set-lt}
use borrow.Rule.Slice.PartMut.{put_mid, mid_of, same_len_mid}
use Rattle.readyset.specs.Sets.{member, Levels, Marked}
use Rattle.std.proofs.Math.Bool.{and-false, and-true, or-false, or-true}
use Rattle.std.proofs.lemmas.List.{drop-replicate, nil_from_length, take_rest}
use Rattle.laws.proofs.Parts.{put_rest, put_words}
use Rattle.readyset.proofs.Empty.{empty-none, empty_levels}
use Rattle.laws.specs.Lists.{numbers}
use Rattle.laws.proofs.Tests.{clash}
use Rattle.laws.proofs.Lists.{one_less, numbers_same, numbers-empty, numbers-none}
use borrow.Author.Tests.{eq-eqb, ne_eqb, eqb-true, eqb-false}
use Rattle.ordering.specs.declared.waiting.ReadyCells.{ReadyCells}
use Rattle.ordering.specs.Tree.{Kept}
use Rattle.graphs.specs.Graph.{Vertex, is_cell}
use Rattle.ordering.specs.Areas.{ready_in, Counted, Moved, Noted, Empty, Opened, passing, linked}
use Rattle.ordering.proofs.Order.{length-numbers}

module _ (n : ℕ) (area : List ℕ) (room : 3 * n ≤ length area) where
  pub set_room : n ≤ length (take (length area - 2 * n) (drop (2 * n) area))
  set_room = rw (take_rest area (2 * n)) (omega (arith, length-drop (2 * n) area))

  pub set_levels : Levels (drop (2 * n) area) n → Levels (take (length area - 2 * n) (drop (2 * n) area)) n
  set_levels t = rw (take_rest area (2 * n)) t

  pub set_moved : (up : Bool) (k : ℕ) (part : List ℕ) → length part ≡ length (mid_of (2 * n) (length area - 2 * n) area) → Marked up (take (length area - 2 * n) (drop (2 * n) area)) n k part → Moved up n area k (put_mid (2 * n) (length area - 2 * n) area part)
  set_moved up k part e by =
      record {
        size = same_len_mid (2 * n) (length area - 2 * n) area part e;
        words = put_words (2 * n) area part (omega arith);
        levels = rw (put_rest (2 * n) area part (omega arith)) by.levels;
        members = rw (put_rest (2 * n) area part (omega arith)) (rw (take_rest area (2 * n)) at by.members);
      }

  -- the words after the set stay
  pub set-kept : (up : Bool) (k : ℕ) (part : List ℕ) → Marked up (take (length area - 2 * n) (drop (2 * n) area)) n k part → Kept n area (put_mid (2 * n) (length area - 2 * n) area part)
  set-kept up k part by i h =
      let e : 2 * n + (i - 2 * n) ≡ i = omega arith in
      at (put_mid (2 * n) (length area - 2 * n) area part) e ∙ ap (λ (l : List ℕ). get_or l (i - 2 * n) 0) (put_rest (2 * n) area part (omega arith)) ∙ by.beyond (i - 2 * n) (omega arith) ∙ ap (λ (l : List ℕ). get_or l (i - 2 * n) 0) (take_rest area (2 * n)) ∙ sym (at area e)
    where
      at : (l : List ℕ) → 2 * n + (i - 2 * n) ≡ i → get_or l i 0 ≡ get_or (drop (2 * n) l) (i - 2 * n) 0
      at l e = sym (get_or-drop (2 * n) l (i - 2 * n) 0 ∙ ap (λ (j : ℕ). get_or l j 0) e)

-- the two ways out of `note`
module _ (n : ℕ) (area : List ℕ) (room : 3 * n ≤ length area) (q v : ℕ) (below : q < n) where
  rest_same : drop (2 * n) (set area (2 * q) v) ≡ drop (2 * n) area
  rest_same = drop-set-lt (2 * n) area (2 * q) v (omega arith)

  pub note_levels : Levels (drop (2 * n) area) n → Levels (drop (2 * n) (set area (2 * q) v)) n
  note_levels t = rw rest_same t

  pub noted_down : Levels (drop (2 * n) area) n → (t : Bool) → t ≡ false → Noted n area q v t (set area (2 * q) v)
  noted_down levels t e =
      record {
        size = length-set area (2 * q) v;
        words = λ i h u. get_or-set_other area (2 * q) i v 0 u;
        waiting = get_or-set_same area (2 * q) v 0 (omega arith);
        levels = note_levels levels;
        members = λ j h. rw (rest_same, e) (rw (and-false (eqb j q)) (sym (or-false (member (drop (2 * n) area) j))));
      }

  pub noted_up : (t : Bool) → t ≡ true → (after : List ℕ) → Moved true n (set area (2 * q) v) q after → Noted n area q v t after
  noted_up t e after m =
      record {
        size = m.size ∙ length-set area (2 * q) v;
        words = λ i h u. m.words i h ∙ get_or-set_other area (2 * q) i v 0 u;
        waiting = m.words (2 * q) (omega arith) ∙ get_or-set_same area (2 * q) v 0 (omega arith);
        levels = m.levels;
        members = λ j h. (rw rest_same at m.members) j h ∙ ap (λ (s : Bool). member (drop (2 * n) area) j || s) (sym (ap (λ (s : Bool). eqb j q && s) e ∙ and-true (eqb j q)));
      }

  pub noted-kept : (after : List ℕ) → Kept n (set area (2 * q) v) after → Kept n area after
  noted-kept after kept i h = kept i h ∙ get_or-set_other area (2 * q) i v 0 (omega arith)

  pub noted-still : Kept n area (set area (2 * q) v)
  noted-still i h = get_or-set_other area (2 * q) i v 0 (omega arith)

-- how many are ready after one was put in, and after one was taken out

module _ (n q : ℕ) (below : q < n) (was now : ℕ → Bool) where
  pub tally_up : ((j : ℕ) → j < n → now j ≡ was j || eqb j q) → was q ≡ false → suc (length (numbers was 0 n)) ≡ length (numbers now 0 n)
  tally_up h e =
      one_less (λ j. was j || eqb j q) was 0 n q (omega arith) (omega arith) (rw (eq-eqb q q refl) (or-true (was q))) e (λ k z. sym (rw (ne_eqb k q z) (or-false (was k))))
      ∙ sym (ap length (numbers_same (λ j. was j || eqb j q) now 0 n (λ k a b. h k (omega arith))))

  pub tally_down : ((j : ℕ) → j < n → now j ≡ was j && not (eqb j q)) → was q ≡ true → suc (length (numbers now 0 n)) ≡ length (numbers was 0 n)
  tally_down h e =
      ap (λ (l : List ℕ). suc (length l)) (numbers_same (λ j. was j && not (eqb j q)) now 0 n (λ k a b. h k (omega arith)))
      ∙ one_less was (λ j. was j && not (eqb j q)) 0 n q (omega arith) (omega arith) e (rw (eq-eqb q q refl) (and-false (was q))) (λ k z. rw (ne_eqb k q z) (and-true (was k)))

pub counted_few : (n : ℕ) (area : List ℕ) (cells : ReadyCells) → Counted n area cells → cells.number ≤ n
counted_few n area cells c = omega (arith, c.number, length-numbers (member (drop (2 * n) area)) 0 n)

module _ (n : ℕ) (area : List ℕ) (q v : ℕ) (below : q < n) (cells : ReadyCells) (counted : Counted n area cells) where
  rest_kept : drop (2 * n) (set area (2 * q) v) ≡ drop (2 * n) area
  rest_kept = drop-set-lt (2 * n) area (2 * q) v (omega arith)

  pub counted_down : Counted n (set area (2 * q) v) cells
  counted_down = record { low = counted.low; none = λ j h. rw rest_kept (counted.none j h); number = rw rest_kept counted.number }

  pub counted_up : member (drop (2 * n) area) q ≡ false → (after : List ℕ) → Moved true n (set area (2 * q) v) q after → (r : ReadyCells) → r.from ≡ min q cells.from → r.number ≡ cells.number + 1 → Counted n after r
  counted_up fresh after m r low number =
      record {
        low = omega (arith, counted.low);
        none = λ j h. members j (omega (arith, counted.low)) ∙ rw (counted.none j (omega arith), ne_eqb j q (omega arith));
        number = omega (arith, tally_up n q below (member (drop (2 * n) area)) (member (drop (2 * n) after)) members fresh, counted.number);
      }
    where
      members : (j : ℕ) → j < n → member (drop (2 * n) after) j ≡ member (drop (2 * n) area) j || eqb j q
      members = rw rest_kept at m.members

pub counted_taken : (n : ℕ) (area : List ℕ) (p : ℕ) → p < n → (cells : ReadyCells) → Counted n area cells → member (drop (2 * n) area) p ≡ true → (after : List ℕ) → Moved false n area p after → (r : ReadyCells) → r.from ≡ cells.from → r.number ≡ cells.number - 1 → Counted n after r
counted_taken n area p below cells counted flag after m r low number =
    record {
      low = omega (arith, counted.low);
      none = λ j h. m.members j (omega (arith, counted.low)) ∙ rw (counted.none j (omega arith));
      number = omega (arith, tally_down n p below (member (drop (2 * n) area)) (member (drop (2 * n) after)) m.members flag, counted.number);
    }

pub counted_none : (n : ℕ) (area : List ℕ) → Empty n area → (r : ReadyCells) → r.from ≡ n → r.number ≡ 0 → Counted n area r
counted_none n area e r low number =
    record {
      low = omega arith;
      none = λ j h. e.none j (omega arith);
      number = number ∙ sym (ap length (numbers-empty (member (drop (2 * n) area)) 0 n (λ k a b. e.none k (omega arith))));
    }

pub counted_over : (n : ℕ) (area : List ℕ) (cells : ReadyCells) → Counted n area cells → cells.number ≡ 0 → ready_in n area ≡ []
counted_over n area cells c z = nil_from_length _ (sym c.number ∙ z)

-- a cleared area has no ready node
pub cleared_empty : (n : ℕ) (area : List ℕ) (k : ℕ) (after : List ℕ) → area ≡ replicate k 0 → drop (2 * n) after ≡ drop (2 * n) area → Empty n after
cleared_empty n area k after e d =
    let f : drop (2 * n) after ≡ replicate (k - 2 * n) 0 = d ∙ ap (drop (2 * n)) e ∙ drop-replicate {X = ℕ} (2 * n) k 0 in
    record { levels = rw f (empty_levels (k - 2 * n) n); none = λ j h. rw f (empty-none (k - 2 * n) j) }

-- what `open` notes of a node
pub opened_is : (src : ℕ → ℕ) (c : List Vertex) (n : ℕ) (area : List ℕ) (q left : ℕ) (cell up : Bool) (after : List ℕ) → left ≡ passing (linked src) q → cell ≡ is_cell c q → up ≡ cell && eqb left 0 → Noted n area q left up after → Opened src c n area q after
opened_is src c n area q left cell up after e i f noted = rw (← e, ← i, ← f) noted

pub counted-some : (n : ℕ) (area : List ℕ) (cells : ReadyCells) → Counted n area cells → (p : ℕ) → p < n → member (drop (2 * n) area) p ≡ true → 1 ≤ cells.number
counted-some n area cells counted p below flag = go (eqb cells.number 0) refl
  where
    go : (t : Bool) → eqb cells.number 0 ≡ t → 1 ≤ cells.number
    go true e = absurd (clash flag (numbers-none (member (drop (2 * n) area)) n p (counted_over n area cells counted (eqb-true cells.number 0 e)) below))
    go false e = omega (arith, eqb-false cells.number 0 e)
