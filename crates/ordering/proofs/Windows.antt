-- The limit moves: the greatest ready node leaves the tree, or the next enters; and the step's pick among those below it.
-- Assumes nothing.
use Prim.Native.Nat.{ℕ, suc, ◌+◌, ◌-◌, ◌*◌, ◌/◌, ◌≤◌, ◌<◌, min}
use mathlib.Core.Path.{◌≡◌, refl, sym, ap, ◌∙◌}
use mathlib.Core.Logic.{◌⊎◌, inl, inr, ◌≢◌}
use mathlib.Core.Bool.{Bool, true, false}
use mathlib.Core.List.{List, [], ◌++◌, append-nil}
use mathlib.Core.Option.{some}
use native.Mathlib.Omega.{arith}
use lib.Dec.{ltb}
use lib.ListN.{length, get_or, take, drop}
use lib.Seq.{take_at, take_all}
use borrow.Author.Tests.{ltb-true, ltb-false}
use Rattle.std.proofs.lemmas.List.{nil_from_length, take_rest}
use Rattle.laws.specs.Lists.{numbers}
use Rattle.laws.proofs.Tests.{clash}
use Rattle.laws.proofs.Lists.{numbers_same, numbers-empty}
use Rattle.std.specs.Prelude.{Option, None, Some}
use Rattle.std.specs.Option.{IsSome}
use Rattle.readyset.specs.Sets.{member, Levels, First, FirstIs, Last, LastIs}
use Rattle.ordering.specs.declared.waiting.ReadyCells.{ReadyCells}
use Rattle.ordering.specs.declared.window.Window.{Window}
use Rattle.ordering.specs.Schedule.{key_at, pick}
use Rattle.ordering.specs.Areas.{ready_in, Counted}
use Rattle.ordering.specs.Taking.{FirstWindow}
use Rattle.ordering.specs.Tree.{tree_at, Ranked, Fronted, Tracked}
use Rattle.ordering.proofs.WindowOne.{numbers-append}
use Rattle.ordering.proofs.Ranking.{ranked_limit}
use Rattle.ordering.proofs.Keeping.{split, count_none, count_one, fronted_member, fronted_levels}
use Rattle.ordering.proofs.Root.{root_picks, root_below}

-- the same of another window with the same limit, where only the tree changed
moved_limit : (n : ℕ) (keys area mid : List ℕ) (r : Window) → Fronted n area mid → Levels (drop (2 * n) area) n → Ranked n r.limit keys mid (n / 64 + 1) → r.number ≡ length (ready_in n area) → r.inside ≡ length (numbers (member (drop (2 * n) area)) 0 r.limit) → Tracked n keys mid r
moved_limit n keys area mid r f levels ranked number inside =
    record {
      ranked = ranked;
      levels = fronted_levels n area mid f levels;
      number = number ∙ sym (same_count n (omega arith));
      inside = inside ∙ sym (same_count r.limit ranked.bound);
    }
  where
    same_count : (m : ℕ) → m ≤ n → length (numbers (member (drop (2 * n) mid)) 0 m) ≡ length (numbers (member (drop (2 * n) area)) 0 m)
    same_count m h = ap length (numbers_same (member (drop (2 * n) area)) (member (drop (2 * n) mid)) 0 m (λ k a b. fronted_member n area mid f k (omega arith)))

module _ (n : ℕ) (keys area : List ℕ) (at : Window) (t : Tracked n keys area at) where
  -- the greatest below the limit
  module _ (some : 1 ≤ at.inside) where
    pub last_some : (r : Option ℕ) → LastIs (member (take (length area - 2 * n) (drop (2 * n) area))) at.limit r → IsSome r
    last_some (Some x) last = refl
    last_some None last =
        let end : Last (member (drop (2 * n) area)) at.limit 0 = rw (take_rest area (2 * n)) at last in
        let z : length (numbers (member (drop (2 * n) area)) 0 at.limit) ≡ 0 = ap length (numbers-empty (member (drop (2 * n) area)) 0 at.limit (λ j a b. end.none j a (omega arith))) in
        absurd (omega (arith, t.inside, z))

    module _ (e : ℕ) (last : Last (member (take (length area - 2 * n) (drop (2 * n) area))) at.limit (suc e)) where
      end : Last (member (drop (2 * n) area)) at.limit (suc e)
      end = rw (take_rest area (2 * n)) at last

      pub end_below : e < n
      end_below = omega (arith, end.upto, t.ranked.bound)

      pub shrunk_stale : Ranked n e keys area (e / 64)
      shrunk_stale = ranked_limit n at.limit keys area e (e / 64) t.ranked (omega (arith, end_below)) (λ k d h l. below k d h l (ltb k (suc e)) refl) (λ k d h l. omega (arith, end.upto))
        where
          below : (k : ℕ) → k / 64 ≢ e / 64 → member (drop (2 * n) area) k ≡ true → k < at.limit → (b : Bool) → ltb k (suc e) ≡ b → k < e
          below k d h l true q = let u : k ≢ e = λ z. d (ap (λ (i : ℕ). i / 64) z) in omega (arith, ltb-true k (suc e) q, u)
          below k d h l false q = absurd (clash h (end.none k (ltb-false k (suc e) q) l))

      pub shrunk : (mid : List ℕ) → Fronted n area mid → Ranked n e keys mid (n / 64 + 1) → (r : Window) → r.limit ≡ e → r.inside ≡ at.inside - 1 → r.number ≡ at.number → Tracked n keys mid r
      shrunk mid f ranked r limit inside number =
          moved_limit n keys area mid r f t.levels (rw limit ranked) (number ∙ t.number)
          (rw limit (omega (arith, inside, t.inside, count_one (member (drop (2 * n) area)) e at.limit (omega (arith, end.upto)) e (omega arith) (omega (arith, end.upto)) (end.here e refl) (λ j a b d. end.none j (omega (arith, d)) b))))

  -- the first from the limit on
  module _ (more : at.inside < at.number) where
    pub next_some : (r : Option ℕ) → FirstIs (member (take (length area - 2 * n) (drop (2 * n) area))) at.limit n r → IsSome r
    next_some (Some x) first = refl
    next_some None first =
        let begin : First (member (drop (2 * n) area)) at.limit n n = rw (take_rest area (2 * n)) at first in
        let z = count_none (member (drop (2 * n) area)) at.limit n t.ranked.bound (λ j a b. begin.none j a b b) in
        absurd (omega (arith, t.number, t.inside, z))

  module _ (more : at.inside < at.number) (node : ℕ) (next_below : node < n) (first : First (member (take (length area - 2 * n) (drop (2 * n) area))) at.limit n node) where
    begin : First (member (drop (2 * n) area)) at.limit n node
    begin = rw (take_rest area (2 * n)) at first

    pub grown_stale : Ranked n (node + 1) keys area (node / 64)
    grown_stale = ranked_limit n at.limit keys area (node + 1) (node / 64) t.ranked (omega (arith, next_below)) (λ k d h l. omega (arith, begin.from)) (λ k d h l. below k d h l (ltb k at.limit) refl)
      where
        below : (k : ℕ) → k / 64 ≢ node / 64 → member (drop (2 * n) area) k ≡ true → k < node + 1 → (b : Bool) → ltb k at.limit ≡ b → k < at.limit
        below k d h l true q = ltb-true k at.limit q
        below k d h l false q = let u : k ≢ node = λ z. d (ap (λ (i : ℕ). i / 64) z) in absurd (clash h (begin.none k (ltb-false k at.limit q) (omega (arith, u)) (omega (arith, next_below))))

    pub grown : (mid : List ℕ) → Fronted n area mid → Ranked n (node + 1) keys mid (n / 64 + 1) → (r : Window) → r.limit ≡ node + 1 → r.inside ≡ at.inside + 1 → r.number ≡ at.number → Tracked n keys mid r
    grown mid f ranked r limit inside number =
        moved_limit n keys area mid r f t.levels (rw limit ranked) (number ∙ t.number)
        (rw limit (omega (arith, inside, t.inside, count_one (member (drop (2 * n) area)) at.limit (node + 1) (omega (arith, begin.from)) node begin.from (omega arith) (begin.here next_below) (λ j a b d. begin.none j a (omega (arith, d)) (omega (arith, next_below))))))

  -- the first `window` ready nodes are those below the limit
  module _ (window : ℕ) (full : at.inside ≡ min window at.number) where
    window_is : take window (ready_in n area) ≡ numbers (member (drop (2 * n) area)) 0 at.limit
    window_is = ap (take window) whole ∙ go (ltb window at.number) refl
      where
        whole : ready_in n area ≡ numbers (member (drop (2 * n) area)) 0 at.limit ++ numbers (member (drop (2 * n) area)) at.limit (n - at.limit)
        whole =
            let e : at.limit + (n - at.limit) ≡ n = omega (arith, t.ranked.bound) in
            let z : 0 + at.limit ≡ at.limit = omega arith in
            ap (numbers (member (drop (2 * n) area)) 0) (sym e) ∙ numbers-append (member (drop (2 * n) area)) 0 at.limit (n - at.limit) ∙ ap (λ (k : ℕ). numbers (member (drop (2 * n) area)) 0 at.limit ++ numbers (member (drop (2 * n) area)) k (n - at.limit)) z

        go : (b : Bool) → ltb window at.number ≡ b → take window (numbers (member (drop (2 * n) area)) 0 at.limit ++ numbers (member (drop (2 * n) area)) at.limit (n - at.limit)) ≡ numbers (member (drop (2 * n) area)) 0 at.limit
        go true q = take_at (numbers (member (drop (2 * n) area)) 0 at.limit) _ window (omega (arith, t.inside, full, ltb-true window at.number q))
        go false q =
            let z : numbers (member (drop (2 * n) area)) at.limit (n - at.limit) ≡ [] = nil_from_length _ (omega (arith, split (member (drop (2 * n) area)) at.limit n t.ranked.bound, t.number, t.inside, full, ltb-false window at.number q)) in
            ap (λ (l : List ℕ). take window (numbers (member (drop (2 * n) area)) 0 at.limit ++ l)) z ∙ ap (take window) (append-nil (numbers (member (drop (2 * n) area)) 0 at.limit)) ∙ take_all window (numbers (member (drop (2 * n) area)) 0 at.limit) (omega (arith, t.inside, full))

    pub window_picked : 1 ≤ window → at.number ≢ 0 → (1 ≤ get_or area (tree_at n + 1) 0) × (some (get_or area (tree_at n + 1) 0 - 1) ≡ pick (key_at keys) (take window (ready_in n area)))
    window_picked wide more =
        let p = root_picks n at.limit keys area t.ranked (λ z. more (omega (arith, t.inside, full, z))) in
        (p.0, p.1 ∙ ap (pick (key_at keys)) (sym window_is))

    pub window_below : 1 ≤ window → at.number ≢ 0 → get_or area (tree_at n + 1) 0 - 1 < at.limit
    window_below wide more = root_below n at.limit keys area t.ranked (λ z. more (omega (arith, t.inside, full, z)))

-- a first window
pub first_tracked : (n : ℕ) (keys area mid : List ℕ) (cells : ReadyCells) (at : Window) → FirstWindow n cells.number at → Counted n area cells → Levels (drop (2 * n) area) n → Fronted n area mid → Ranked n at.limit keys mid (n / 64 + 1) → Tracked n keys mid at
unfolding numbers
first_tracked n keys area mid cells at w counted levels f ranked = moved_limit n keys area mid at f levels ranked (w.same ∙ counted.number) (go w.sides)
  where
    go : ((at.limit ≡ 0) × (at.inside ≡ 0)) ⊎ ((at.limit ≡ n) × (at.inside ≡ cells.number)) → at.inside ≡ length (numbers (member (drop (2 * n) area)) 0 at.limit)
    go (inl s) = rw s.0 s.1
    go (inr s) = rw s.0 (s.1 ∙ counted.number)

pub first-bound : (n number : ℕ) (at : Window) → FirstWindow n number at → at.limit ≤ n
first-bound n number at w = go w.sides
  where
    go : ((at.limit ≡ 0) × (at.inside ≡ 0)) ⊎ ((at.limit ≡ n) × (at.inside ≡ number)) → at.limit ≤ n
    go (inl s) = omega (arith, s.0)
    go (inr s) = omega (arith, s.0)
