-- What the areas say stays where only the tree changes, and the tree stays but for one leaf where only one node's readiness changes.
-- Assumes nothing.
use Prim.Native.Nat.{ℕ, ◌+◌, ◌-◌, ◌*◌, ◌/◌, ◌≤◌, ◌<◌}
use mathlib.Core.Path.{◌≡◌, refl, sym, ap, ◌∙◌}
use mathlib.Core.Logic.{◌≢◌}
use mathlib.Core.Bool.{Bool, true, false, not, ◌&&◌, ◌||◌}
use mathlib.Core.List.{List}
use native.Mathlib.Omega.{arith}
use lib.Dec.{eqb}
use lib.ListN.{length, get_or, drop, length-append}
use lib.Seq.{get_or-drop}
use borrow.Author.Tests.{ne_eqb, eq-eqb, eqb-false}
use Rattle.std.proofs.Math.Bool.{and-false, and-true, or-false}
use Rattle.laws.specs.Lists.{numbers}
use Rattle.laws.proofs.Lists.{one_less, numbers_same, numbers-empty}
use Rattle.readyset.specs.Sets.{member, Levels}
use Rattle.readyset.proofs.Front.{levels_front}
use Rattle.ordering.specs.declared.waiting.ReadyCells.{ReadyCells}
use Rattle.ordering.specs.Areas.{Counted, Moved, Noted, Lowered}
use Rattle.ordering.specs.declared.window.Window.{Window}
use Rattle.ordering.specs.Tree.{Ranked, Fronted, Kept, Tracked}
use Rattle.ordering.proofs.WindowOne.{numbers-append}
use Rattle.ordering.proofs.Moving.{tally_up, tally_down}
use Rattle.ordering.proofs.Ranking.{member_front, ranked_changed}

module _ (n : ℕ) (mid after : List ℕ) (f : Fronted n mid after) where
  pub fronted_member : (j : ℕ) → j < n → member (drop (2 * n) after) j ≡ member (drop (2 * n) mid) j
  fronted_member j h = member_front n mid after f.front j (omega arith)

  pub fronted_levels : Levels (drop (2 * n) mid) n → Levels (drop (2 * n) after) n
  fronted_levels t = levels_front (drop (2 * n) mid) (drop (2 * n) after) n (λ i h. get_or-drop (2 * n) after i 0 ∙ f.front (2 * n + i) (omega arith) ∙ sym (get_or-drop (2 * n) mid i 0)) t

  pub counted_fronted : (cells : ReadyCells) → Counted n mid cells → Counted n after cells
  counted_fronted cells c =
      record {
        low = c.low;
        none = λ j h. fronted_member j (omega (arith, c.low)) ∙ c.none j h;
        number = c.number ∙ sym (ap length (numbers_same (member (drop (2 * n) mid)) (member (drop (2 * n) after)) 0 n (λ k a b. fronted_member k (omega arith))));
      }

  pub noted_fronted : (area : List ℕ) (q v : ℕ) (t : Bool) → q < n → Noted n area q v t mid → Noted n area q v t after
  noted_fronted area q v t below m =
      record {
        size = f.size ∙ m.size;
        words = λ i h u. f.front i (omega arith) ∙ m.words i h u;
        waiting = f.front (2 * q) (omega arith) ∙ m.waiting;
        levels = fronted_levels m.levels;
        members = λ j h. fronted_member j h ∙ m.members j h;
      }

  pub moved_fronted : (up : Bool) (area : List ℕ) (k : ℕ) → Moved up n area k mid → Moved up n area k after
  moved_fronted up area k m =
      record {
        size = f.size ∙ m.size;
        words = λ i h. f.front i (omega arith) ∙ m.words i h;
        levels = fronted_levels m.levels;
        members = λ j h. fronted_member j h ∙ m.members j h;
      }

-- how many pass up to a number

module _ (p : ℕ → Bool) (lo hi : ℕ) (order : lo ≤ hi) where
  pub split : length (numbers p 0 hi) ≡ length (numbers p 0 lo) + length (numbers p lo (hi - lo))
  split =
      let e : lo + (hi - lo) ≡ hi = omega arith in
      let z : 0 + lo ≡ lo = omega arith in
      ap (λ (k : ℕ). length (numbers p 0 k)) (sym e) ∙ ap length (numbers-append p 0 lo (hi - lo)) ∙ length-append (numbers p 0 lo) (numbers p (0 + lo) (hi - lo)) ∙ ap (λ (k : ℕ). length (numbers p 0 lo) + length (numbers p k (hi - lo))) z

  pub count_none : ((j : ℕ) → lo ≤ j → j < hi → p j ≡ false) → length (numbers p 0 hi) ≡ length (numbers p 0 lo)
  count_none none =
      let e : length (numbers p lo (hi - lo)) ≡ 0 = ap length (numbers-empty p lo (hi - lo) (λ k a b. none k a (omega arith))) in
      omega (arith, split, e)

  pub count_one : (x : ℕ) → lo ≤ x → x < hi → p x ≡ true → ((j : ℕ) → lo ≤ j → j < hi → j ≢ x → p j ≡ false) → length (numbers p 0 hi) ≡ length (numbers p 0 lo) + 1
  count_one x a b on off =
      let e = one_less p (λ k. p k && not (eqb k x)) lo (hi - lo) x a (omega arith) on (rw (eq-eqb x x refl) (and-false (p x))) (λ k z. rw (ne_eqb k x z) (and-true (p k))) in
      let f : length (numbers (λ k. p k && not (eqb k x)) lo (hi - lo)) ≡ 0 = ap length (numbers-empty (λ k. p k && not (eqb k x)) lo (hi - lo) (λ k c d. out k c (omega arith) (eqb k x) refl)) in
      omega (arith, split, e, f)
    where
      out : (k : ℕ) → lo ≤ k → k < hi → (t : Bool) → eqb k x ≡ t → p k && not (eqb k x) ≡ false
      out k c d true e = rw e (and-false (p k))
      out k c d false e = rw (e, off k c d (eqb-false k x e))

-- one node's readiness changes

module _ (n : ℕ) (keys area : List ℕ) (at : Window) (t : Tracked n keys area at) where
  pub tracked_counted : Counted n area (record { from = 0; number = at.number })
  tracked_counted = record { low = omega arith; none = λ j h. absurd (omega arith); number = t.number }

  pub inside_few : at.inside ≤ at.number
  inside_few =
      let e = split (member (drop (2 * n) area)) at.limit n t.ranked.bound in
      omega (arith, t.number, t.inside, e)

  module _ (q : ℕ) (after : List ℕ) (kept : Kept n area after) where
    module _ (m : Lowered n area q after) where
      -- the node waits still
      module _ (waits : get_or after (2 * q) 0 ≢ 0) where
        same : (k : ℕ) → k < n → member (drop (2 * n) after) k ≡ member (drop (2 * n) area) k
        same k h = m.members k h ∙ ap (λ (s : Bool). member (drop (2 * n) area) k || (eqb k q && s)) (ne_eqb (get_or area (2 * q) 0 - 1) 0 (λ z. waits (m.waiting ∙ z))) ∙ ap (λ (s : Bool). member (drop (2 * n) area) k || s) (and-false (eqb k q)) ∙ or-false (member (drop (2 * n) area) k)

        pub lowered_waits : Tracked n keys after at
        lowered_waits =
            record {
              ranked = ranked_changed n at.limit keys area after m.size kept (n / 64 + 1) (n / 64 + 1) t.ranked (λ w k d e h. same k (omega (arith, t.ranked.bound))) (λ w h d. d);
              levels = m.levels;
              number = t.number ∙ sym (ap length (numbers_same (member (drop (2 * n) area)) (member (drop (2 * n) after)) 0 n (λ k a b. same k (omega arith))));
              inside = t.inside ∙ sym (ap length (numbers_same (member (drop (2 * n) area)) (member (drop (2 * n) after)) 0 at.limit (λ k a b. same k (omega (arith, t.ranked.bound)))));
            }

      other : (k : ℕ) → k < n → k ≢ q → member (drop (2 * n) after) k ≡ member (drop (2 * n) area) k
      other k h d = m.members k h ∙ ap (λ (s : Bool). member (drop (2 * n) area) k || (s && eqb (get_or area (2 * q) 0 - 1) 0)) (ne_eqb k q d) ∙ or-false (member (drop (2 * n) area) k)

      module _ (cells : ReadyCells) (counted : Counted n after cells) (r : Window) (number : r.number ≡ cells.number) (limit : r.limit ≡ at.limit) where
        -- it became ready beyond the limit
        pub lowered_outside : at.limit ≤ q → r.inside ≡ at.inside → Tracked n keys after r
        lowered_outside far inside =
            record {
              ranked = rw limit (ranked_changed n at.limit keys area after m.size kept (n / 64 + 1) (n / 64 + 1) t.ranked (λ w k d e h. other k (omega (arith, t.ranked.bound)) (omega arith)) (λ w h d. d));
              levels = m.levels;
              number = number ∙ counted.number;
              inside = rw limit (inside ∙ t.inside ∙ sym (ap length (numbers_same (member (drop (2 * n) area)) (member (drop (2 * n) after)) 0 at.limit (λ k a b. other k (omega (arith, t.ranked.bound)) (omega arith)))));
            }

      -- it may have become ready below the limit
      pub lowered_stale : Ranked n at.limit keys after (q / 64)
      lowered_stale =
          ranked_changed n at.limit keys area after m.size kept (n / 64 + 1) (q / 64) t.ranked
          (λ w k d e h. other k (omega (arith, t.ranked.bound)) (λ z. d (sym e ∙ ap (λ (i : ℕ). i / 64) z))) (λ w h d. omega arith)

      -- it became ready below the limit, and the tree is right again
      pub lowered_inside : q < at.limit → get_or after (2 * q) 0 ≡ 0 → member (drop (2 * n) area) q ≡ false → (cells : ReadyCells) → Counted n after cells → (mid : List ℕ) → Fronted n after mid → Ranked n at.limit keys mid (n / 64 + 1) → (r : Window) → r.number ≡ cells.number → r.limit ≡ at.limit → r.inside ≡ at.inside + 1 → Tracked n keys mid r
      lowered_inside near zero fresh cells counted mid f ranked r number limit inside =
          record {
            ranked = rw limit ranked;
            levels = fronted_levels n after mid f m.levels;
            number = number ∙ (counted_fronted n after mid f cells counted).number;
            inside = rw limit (inside ∙ tally ∙ sym (ap length (numbers_same (member (drop (2 * n) after)) (member (drop (2 * n) mid)) 0 at.limit (λ k a b. fronted_member n after mid f k (omega (arith, t.ranked.bound))))));
          }
        where
          now : (j : ℕ) → j < at.limit → member (drop (2 * n) after) j ≡ member (drop (2 * n) area) j || eqb j q
          now j h = m.members j (omega (arith, t.ranked.bound)) ∙ ap (λ (s : Bool). member (drop (2 * n) area) j || (eqb j q && s)) (eq-eqb (get_or area (2 * q) 0 - 1) 0 (sym m.waiting ∙ zero)) ∙ ap (λ (s : Bool). member (drop (2 * n) area) j || s) (and-true (eqb j q))

          tally : at.inside + 1 ≡ length (numbers (member (drop (2 * n) after)) 0 at.limit)
          tally = omega (arith, t.inside, tally_up at.limit q near (member (drop (2 * n) area)) (member (drop (2 * n) after)) now fresh)

    module _ (m : Moved false n area q after) where
      -- the node is taken out
      pub moved_stale : Ranked n at.limit keys after (q / 64)
      moved_stale =
          ranked_changed n at.limit keys area after m.size kept (n / 64 + 1) (q / 64) t.ranked
          (λ w k d e h. m.members k (omega (arith, t.ranked.bound)) ∙ ap (λ (s : Bool). member (drop (2 * n) area) k && not s) (ne_eqb k q (λ z. d (sym e ∙ ap (λ (i : ℕ). i / 64) z))) ∙ and-true (member (drop (2 * n) area) k))
          (λ w h d. omega arith)

      pub moved_tracked : q < at.limit → member (drop (2 * n) area) q ≡ true → (mid : List ℕ) → Fronted n after mid → Ranked n at.limit keys mid (n / 64 + 1) → (r : Window) → r.number ≡ at.number - 1 → r.limit ≡ at.limit → r.inside ≡ at.inside - 1 → Tracked n keys mid r
      moved_tracked near flag mid f ranked r number limit inside =
          record {
            ranked = rw limit ranked;
            levels = fronted_levels n after mid f m.levels;
            number = omega (arith, t.number, tally_down n q (omega (arith, t.ranked.bound)) (member (drop (2 * n) area)) (member (drop (2 * n) after)) m.members flag, ap length (numbers_same (member (drop (2 * n) after)) (member (drop (2 * n) mid)) 0 n (λ k a b. fronted_member n after mid f k (omega arith))));
            inside = rw limit (omega (arith, t.inside, tally_down at.limit q near (member (drop (2 * n) area)) (member (drop (2 * n) after)) (λ j h. m.members j (omega (arith, t.ranked.bound))) flag, ap length (numbers_same (member (drop (2 * n) after)) (member (drop (2 * n) mid)) 0 at.limit (λ k a b. fronted_member n after mid f k (omega (arith, t.ranked.bound))))));
          }

  -- some node below the limit is ready
  pub inside_some : (q : ℕ) → q < at.limit → member (drop (2 * n) area) q ≡ true → (1 ≤ at.inside) × (1 ≤ at.number)
  inside_some q near flag =
      let e = one_less (member (drop (2 * n) area)) (λ k. member (drop (2 * n) area) k && not (eqb k q)) 0 at.limit q (omega arith) (omega arith) flag (rw (eq-eqb q q refl) (and-false (member (drop (2 * n) area) q))) (λ k z. rw (ne_eqb k q z) (and-true (member (drop (2 * n) area) k))) in
      (omega (arith, t.inside, e), omega (arith, t.inside, e, inside_few))
