-- What the scan of `pick_ready` keeps: the pick of all is the best of what was seen and what is to come.
-- Assumes nothing.
use Prim.Native.Nat.{ℕ, suc, ◌+◌, ◌-◌, ◌*◌, ◌≤◌, ◌<◌, min}
use mathlib.Core.Path.{◌≡◌, refl, sym, ap, ◌∙◌}
use mathlib.Core.Bool.{Bool, true, false, cond}
use mathlib.Core.List.{List, [], ◌∷◌, ◌++◌}
use mathlib.Core.Option.{some}
use native.Mathlib.Omega.{arith}
use native.Mathlib.Numerals.{add-one}
use lib.Dec.{ltb}
use lib.ListN.{length, take, drop}
use lib.Seq.{take-nil, take_all}
use borrow.Author.Tests.{ltb-true, ltb-false}
use Rattle.std.proofs.lemmas.List.{take_rest}
use Rattle.laws.specs.Lists.{keep, numbers}
use Rattle.laws.proofs.Lists.{numbers-empty}
use Rattle.std.specs.Prelude.{Option, None, Some}
use Rattle.std.specs.Option.{IsSome}
use Rattle.readyset.specs.Sets.{member, First, FirstIs}
use Rattle.ordering.specs.declared.waiting.ReadyCells.{ReadyCells}
use Rattle.ordering.specs.declared.picking.Picked.{Picked}
use Rattle.ordering.specs.Schedule.{Key, key_at, above, best, pick}
use Rattle.ordering.specs.Areas.{ready_in, Counted, PickedIs, FirstReady}
use Rattle.ordering.proofs.WindowOne.{numbers-append}

-- the numbers from i on

module _ (p : ℕ → Bool) (n : ℕ) where
  pub numbers_at : (i : ℕ) → i < n → numbers p i (n - i) ≡ keep (p i) i (numbers p (i + 1) (n - (i + 1)))
  unfolding numbers
  numbers_at i h = let e : n - i ≡ suc (n - (i + 1)) = omega arith in rw (e, add-one i)

  module _ (k r : ℕ) (first : First p k n r) where
    pub first-none : n ≤ r → numbers p k (n - k) ≡ []
    first-none h = numbers-empty p k (n - k) (λ j a b. first.none j a (omega arith) (omega arith))

    pub first_some : r < n → numbers p k (n - k) ≡ r ∷ numbers p (r + 1) (n - (r + 1))
    first_some h =
        let a : (r - k) + (n - r) ≡ n - k = omega (arith, first.from) in
        let b : k + (r - k) ≡ r = omega (arith, first.from) in
        ap (numbers p k) (sym a) ∙ numbers-append p k (r - k) (n - r) ∙ ap (λ (l : List ℕ). l ++ numbers p (k + (r - k)) (n - r)) (numbers-empty p k (r - k) (λ j c d. first.none j c (omega arith) (omega arith))) ∙ ap (λ (z : ℕ). numbers p z (n - r)) b
        ∙ numbers_at r h ∙ ap (λ (t : Bool). keep t r (numbers p (r + 1) (n - (r + 1)))) (first.here h)

-- the scan: the pick of all is the best of a node and of those to come

module _ (set keys : List ℕ) (nodes others : ℕ) where
  abbrev pub PickIs : ℕ → List ℕ → Type 0
  PickIs b left = some (best (key_at keys) b left) ≡ pick (key_at keys) (take (others + 1) (numbers (member set) 0 nodes))

  pub scan_start : (first : ℕ) → First (member set) 0 nodes first → first < nodes → PickIs first (take others (numbers (member set) (first + 1) (nodes - (first + 1))))
  unfolding pick
  scan_start first f h =
      let w : others + 1 ≡ suc others = omega arith in
      let m : nodes - 0 ≡ nodes = omega arith in
      sym (ap (pick (key_at keys)) (ap (λ (z : ℕ). take (others + 1) (numbers (member set) 0 z)) (sym m) ∙ ap (take (others + 1)) (first_some (member set) nodes 0 first f h) ∙ ap (λ (v : ℕ). take v (first ∷ numbers (member set) (first + 1) (nodes - (first + 1)))) w))

  module _ (b count : ℕ) (left : List ℕ) (same : PickIs b (take count left)) where
    pub scan_take : (node less : ℕ) (rest : List ℕ) → left ≡ node ∷ rest → less + 1 ≡ count → PickIs (cond (above (key_at keys node) (key_at keys b)) node b) (take less rest)
    unfolding best
    scan_take node less rest e m = let z : count ≡ suc less = omega arith in rw (e, z) at same

    pub scan_over : (0 < count → left ≡ []) → some b ≡ pick (key_at keys) (take (others + 1) (numbers (member set) 0 nodes))
    unfolding best
    scan_over none = go (ltb 0 count) refl
      where
        go : (t : Bool) → ltb 0 count ≡ t → some b ≡ pick (key_at keys) (take (others + 1) (numbers (member set) 0 nodes))
        go true q = rw (none (ltb-true 0 count q), take-nil count) at same
        go false q = let l = ltb-false 0 count q in let z : count ≡ 0 = omega arith in rw z at same

-- no more than are ready need be looked at

take_least : (w m : ℕ) (l : List ℕ) → m ≡ length l → take (min w m) l ≡ take w l
take_least w m l e = go (ltb w m) refl
  where
    go : (t : Bool) → ltb w m ≡ t → take (min w m) l ≡ take w l
    go true q = let h = ltb-true w m q in let z : min w m ≡ w = omega arith in rw z
    go false q =
        let h = ltb-false w m q in
        let z : min w m ≡ m = omega arith in
        rw z (take_all m l (omega arith) ∙ sym (take_all w l (omega arith)))

module _ (n : ℕ) (area keys : List ℕ) (cells : ReadyCells) (counted : Counted n area cells) (first : ℕ) (f : First (member (take (length area - 2 * n) (drop (2 * n) area))) cells.from n first) where
  whole : First (member (drop (2 * n) area)) 0 n first
  whole =
      let g : First (member (drop (2 * n) area)) cells.from n first = rw (take_rest area (2 * n)) at f in
      record { from = omega arith; none = λ j a b c. side g j b c (ltb j cells.from) refl; here = g.here }
    where
      side : First (member (drop (2 * n) area)) cells.from n first → (j : ℕ) → j < first → j < n → (t : Bool) → ltb j cells.from ≡ t → member (drop (2 * n) area) j ≡ false
      side g j b c true e = counted.none j (ltb-true j cells.from e)
      side g j b c false e = g.none j (ltb-false j cells.from e) b c

  pub picked_first : First (member (take (length area - 2 * n) (drop (2 * n) area))) 0 n first
  picked_first = rw (take_rest area (2 * n)) whole

  pub picked_below : 1 ≤ cells.number → first < n
  picked_below h = go (ltb first n) refl
    where
      go : (t : Bool) → ltb first n ≡ t → first < n
      go true e = ltb-true first n e
      go false e =
          let m : n - 0 ≡ n = omega arith in
          let z : ready_in n area ≡ [] = ap (numbers (member (drop (2 * n) area)) 0) (sym m) ∙ first-none (member (drop (2 * n) area)) n 0 first whole (ltb-false first n e) in
          absurd (omega (arith, counted.number, ap length z))

  pub picked_is : 1 ≤ cells.number → (window most : ℕ) → most ≡ min window cells.number → 1 ≤ most → (node : ℕ) → some node ≡ pick (key_at keys) (take (most - 1 + 1) (numbers (member (take (length area - 2 * n) (drop (2 * n) area))) 0 n)) → (p : Picked) → p.node ≡ node → p.first ≡ first → PickedIs n area keys window p
  picked_is h window most m some_most node e p q r =
      let z : most - 1 + 1 ≡ most = omega arith in
      record {
        node_is = ap some q ∙ (rw (take_rest area (2 * n), z) at e) ∙ ap (λ (k : ℕ). pick (key_at keys) (take k (ready_in n area))) m ∙ ap (pick (key_at keys)) (take_least window cells.number (ready_in n area) counted.number);
        low = omega (arith, picked_below h);
        none = λ j l. whole.none j (omega arith) (omega arith) (omega (arith, picked_below h));
      }

  -- at window 1
  pub first_picked : 1 ≤ cells.number → FirstReady n area first
  unfolding pick best
  first_picked h =
      let below : first < n = picked_below h in
      record {
        picked = λ keys. let m : n - 0 ≡ n = omega arith in sym (ap (λ (z : ℕ). pick (key_at keys) (take 1 (numbers (member (drop (2 * n) area)) 0 z))) (sym m) ∙ ap (λ (l : List ℕ). pick (key_at keys) (take 1 l)) (first_some (member (drop (2 * n) area)) n 0 first whole below));
        low = omega arith;
        none = λ j l. whole.none j (omega arith) (omega arith) (omega arith);
      }

pub picked_some : (n : ℕ) (area keys : List ℕ) (cells : ReadyCells) → Counted n area cells → 1 ≤ cells.number → (r : Option ℕ) → FirstIs (member (take (length area - 2 * n) (drop (2 * n) area))) cells.from n r → IsSome r
picked_some n area keys cells counted h (Some x) f = refl
picked_some n area keys cells counted h None f = absurd (omega (arith, picked_below n area keys cells counted n f h))

-- one more node against the best so far
module _ (keys : List ℕ) (best₀ node : ℕ) (a b : Key) (p : a ≡ key_at keys node) (q : b ≡ key_at keys best₀) (t : Bool) (e : t ≡ above a b) where
  pub better_new : t ≡ true → node ≡ cond (above (key_at keys node) (key_at keys best₀)) node best₀
  better_new h = rw (← p, ← q, ← e, h)

  pub better_old : t ≡ false → best₀ ≡ cond (above (key_at keys node) (key_at keys best₀)) node best₀
  better_old h = rw (← p, ← q, ← e, h)
