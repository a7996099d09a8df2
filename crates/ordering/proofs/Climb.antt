-- The entries above the leaves: what one that is made right does to those above it, and that the first is the best of all.
-- Assumes nothing.
use Prim.Native.Nat.{ℕ, zero, suc, ◌+◌, ◌-◌, ◌*◌, ◌/◌, ◌≤◌, ◌<◌}
use mathlib.Core.Path.{◌≡◌, refl, sym, ap, ap₂, subst, ◌∙◌}
use mathlib.Core.Logic.{◌⊎◌, inl, inr, ◌≢◌}
use mathlib.Core.Bool.{Bool, true, false}
use mathlib.Core.List.{List}
use native.Mathlib.Omega.{arith}
use lib.Dec.{eqb, ltb}
use lib.ListN.{length, get_or, set, length-set}
use lib.Seq.{get_or-set_same, get_or-set_other}
use borrow.Author.Tests.{eqb-true, eqb-false, ltb-true, ltb-false}
use Rattle.ordering.specs.Schedule.{Key}
use Rattle.ordering.specs.Tree.{ahead, Leads, better_of, Joined, LeavesKept}
use Rattle.ordering.proofs.Winners.{ahead-one, ahead_left, ahead_right, ahead_bound}

pub joined-one : (key : ℕ → Key) (leaves n : ℕ) (tree : List ℕ) (start : ℕ) → start ≡ 1 → Joined key leaves n tree start 0 → Joined key leaves n tree 1 0
joined-one key leaves n tree start e j = rw e at j

-- the same entries, joined the same
pub joined_same : (key : ℕ → Key) (leaves n : ℕ) (tree after : List ℕ) (start but : ℕ) → length tree ≤ length after → ((v : ℕ) → get_or after v 0 ≡ get_or tree v 0) → Joined key leaves n tree start but → Joined key leaves n after start but
joined_same key leaves n tree after start but size same j =
    record {
      room = omega (arith, j.room);
      nodes = λ v a b. omega (arith, same v, j.nodes v a b);
      inner = λ v a b c. same v ∙ j.inner v a b c ∙ sym (ap₂ (ahead key) (same (2 * v)) (same (2 * v + 1)));
    }

module _ (key : ℕ → Key) (leaves n : ℕ) (tree : List ℕ) (v : ℕ) (above-all : 1 ≤ v) (below : v < leaves) where
  abbrev after : List ℕ
  after = set tree v (better_of key tree v)

  -- what is below other entries stays
  same_below : (u : ℕ) → 2 * u ≢ v → 2 * u + 1 ≢ v → better_of key after u ≡ better_of key tree u
  same_below u a b = ap₂ (ahead key) (get_or-set_other tree v (2 * u) _ 0 a) (get_or-set_other tree v (2 * u + 1) _ 0 b)

  leaves_kept : LeavesKept leaves tree after
  leaves_kept u h = get_or-set_other tree v u _ 0 (omega arith)

  pub leaves_then : (first : List ℕ) → LeavesKept leaves first tree → LeavesKept leaves first after
  leaves_then first kept u h = leaves_kept u h ∙ kept u h

  module _ (start but : ℕ) (reach : start ≤ v + 1) (j : Joined key leaves n tree start but) where
    bound : get_or tree (2 * v) 0 ≤ n → get_or tree (2 * v + 1) 0 ≤ n → (u : ℕ) → (start ≤ u) ⊎ (u ≡ v) → u < 2 * leaves → get_or after u 0 ≤ n
    bound f g u h l = go (eqb u v) refl h
      where
        go : (t : Bool) → eqb u v ≡ t → (start ≤ u) ⊎ (u ≡ v) → get_or after u 0 ≤ n
        go true e s =
            let q : get_or after u 0 ≡ better_of key tree v = ap (λ (k : ℕ). get_or after k 0) (eqb-true u v e) ∙ get_or-set_same tree v (better_of key tree v) 0 (omega (arith, j.room)) in
            omega (arith, q, ahead_bound key (get_or tree (2 * v) 0) (get_or tree (2 * v + 1) 0) n f g)
        go false e (inl s) = omega (arith, get_or-set_other tree v u (better_of key tree v) 0 (eqb-false u v e), j.nodes u s l)
        go false e (inr s) = absurd (eqb-false u v e s)

    right : (u : ℕ) → 2 * u ≢ v → 2 * u + 1 ≢ v → (u ≢ v → get_or tree u 0 ≡ better_of key tree u) → get_or after u 0 ≡ better_of key after u
    right u a b old = go (eqb u v) refl ∙ sym (same_below u a b)
      where
        go : (t : Bool) → eqb u v ≡ t → get_or after u 0 ≡ better_of key tree u
        go true e =
            let q = eqb-true u v e in
            ap (λ (k : ℕ). get_or after k 0) q ∙ get_or-set_same tree v (better_of key tree v) 0 (omega (arith, j.room)) ∙ ap (better_of key tree) (sym q)
        go false e = get_or-set_other tree v u (better_of key tree v) 0 (eqb-false u v e) ∙ old (eqb-false u v e)

  -- what making the entry right asks of the two below it
  pub join_needs : Joined key leaves n tree 1 v → (k : ℕ) → 3 * n ≤ k → (2 * v + 1 < length tree) × (3 * get_or tree (2 * v) 0 ≤ k) × (3 * get_or tree (2 * v + 1) 0 ≤ k)
  join_needs j k h = (omega (arith, j.room), omega (arith, j.nodes (2 * v) (omega arith) (omega arith)), omega (arith, j.nodes (2 * v + 1) (omega arith) (omega arith)))

  pub join_down_needs : (start : ℕ) → start ≡ v + 1 → Joined key leaves n tree start 0 → (k : ℕ) → 3 * n ≤ k → (2 * v + 1 < length tree) × (3 * get_or tree (2 * v) 0 ≤ k) × (3 * get_or tree (2 * v + 1) 0 ≤ k)
  join_down_needs start s j k h = (omega (arith, j.room), omega (arith, j.nodes (2 * v) (omega arith) (omega arith)), omega (arith, j.nodes (2 * v + 1) (omega arith) (omega arith)))

  -- the entry that was wrong is right, and the one above it may be wrong
  pub join_turn : Joined key leaves n tree 1 v → Joined key leaves n after 1 (v / 2)
  join_turn j =
      record {
        room = omega (arith, j.room, length-set tree v (better_of key tree v));
        nodes = λ u a b. bound 1 v (omega arith) j (j.nodes (2 * v) (omega arith) (omega arith)) (j.nodes (2 * v + 1) (omega arith) (omega arith)) u (inl a) b;
        inner = λ u a b c. right 1 v (omega arith) j u (λ z. c (omega arith)) (λ z. c (omega arith)) (λ d. j.inner u a b d);
      }

  -- from the last one down
  pub join_down : (start : ℕ) → start ≡ v + 1 → Joined key leaves n tree start 0 → Joined key leaves n after v 0
  join_down start s j =
      record {
        room = omega (arith, j.room, length-set tree v (better_of key tree v));
        nodes = λ u a b. bound start 0 (omega arith) j (j.nodes (2 * v) (omega arith) (omega arith)) (j.nodes (2 * v + 1) (omega arith) (omega arith)) u (side u a (ltb v u) refl) b;
        inner = λ u a b c. right start 0 (omega arith) j u (omega arith) (omega arith) (λ d. j.inner u (omega arith) b c);
      }
    where
      side : (u : ℕ) → v ≤ u → (t : Bool) → ltb v u ≡ t → (start ≤ u) ⊎ (u ≡ v)
      side u a true e = let l = ltb-true v u e in inl (omega arith)
      side u a false e = let l = ltb-false v u e in inr (omega arith)

-- the first entry

module _ (key : ℕ → Key) (leaves n : ℕ) (tree : List ℕ) (j : Joined key leaves n tree 1 0) where
  -- leads what any entry leads
  pub root_leads : (v k : ℕ) → 1 ≤ v → v < 2 * leaves → Leads key (get_or tree v 0) k → Leads key (get_or tree 1 0) k
  root_leads v k a b l = up v v (omega arith) a b l
    where
      side : (u v : ℕ) → (v ≡ 2 * u) ⊎ (v ≡ 2 * u + 1) → Leads key (get_or tree v 0) k → Leads key (better_of key tree u) k
      side u v (inl e) h = ahead_left key (get_or tree (2 * u) 0) (get_or tree (2 * u + 1) 0) k (subst (λ (z : ℕ). Leads key (get_or tree z 0) k) e h)
      side u v (inr e) h = ahead_right key (get_or tree (2 * u) 0) (get_or tree (2 * u + 1) 0) k (subst (λ (z : ℕ). Leads key (get_or tree z 0) k) e h)

      half : (v : ℕ) → (t : Bool) → eqb v (2 * (v / 2)) ≡ t → (v ≡ 2 * (v / 2)) ⊎ (v ≡ 2 * (v / 2) + 1)
      half v true e = inl (eqb-true v (2 * (v / 2)) e)
      half v false e = let h : v ≢ 2 * (v / 2) = eqb-false v (2 * (v / 2)) e in inr (omega arith)

      parent : (v : ℕ) → 2 ≤ v → v < 2 * leaves → Leads key (get_or tree v 0) k → Leads key (get_or tree (v / 2) 0) k
      parent v a b h = subst (λ (e : ℕ). Leads key e k) (sym (j.inner (v / 2) (omega arith) (omega arith) (omega arith))) (side (v / 2) v (half v (eqb v (2 * (v / 2))) refl) h)

      up : (fuel v : ℕ) → v ≤ fuel → 1 ≤ v → v < 2 * leaves → Leads key (get_or tree v 0) k → Leads key (get_or tree 1 0) k
      up zero v f a b h = absurd (omega arith)
      up (suc fuel) v f a b h = go (ltb 1 v) refl (up fuel (v / 2))
        where
          go : (t : Bool) → ltb 1 v ≡ t → (v / 2 ≤ fuel → 1 ≤ v / 2 → v / 2 < 2 * leaves → Leads key (get_or tree (v / 2) 0) k → Leads key (get_or tree 1 0) k) → Leads key (get_or tree 1 0) k
          go true e rest = let l = ltb-true 1 v e in rest (omega arith) (omega arith) (omega arith) (parent v (omega arith) b h)
          go false e rest = let l = ltb-false 1 v e in let q : v ≡ 1 = omega arith in subst (λ (z : ℕ). Leads key (get_or tree z 0) k) q h

  -- is the node of some leaf
  pub record AtLeaf (x : ℕ) : Type 0 where
    pub word : ℕ
    pub below : word < leaves
    pub leaf : get_or tree (leaves + word) 0 ≡ suc x

  pub root_leaf : 1 ≤ leaves → (x : ℕ) → get_or tree 1 0 ≡ suc x → AtLeaf x
  root_leaf big x h = down (2 * leaves) 1 (omega arith) (omega arith) (omega arith) h
    where
      down : (fuel v : ℕ) → 2 * leaves - v ≤ fuel → 1 ≤ v → v < 2 * leaves → get_or tree v 0 ≡ suc x → AtLeaf x
      down zero v f a b e = absurd (omega arith)
      down (suc fuel) v f a b e = go (ltb v leaves) refl (down fuel (2 * v)) (down fuel (2 * v + 1))
        where
          fork : v < leaves → (2 * leaves - 2 * v ≤ fuel → 1 ≤ 2 * v → 2 * v < 2 * leaves → get_or tree (2 * v) 0 ≡ suc x → AtLeaf x) → (2 * leaves - (2 * v + 1) ≤ fuel → 1 ≤ 2 * v + 1 → 2 * v + 1 < 2 * leaves → get_or tree (2 * v + 1) 0 ≡ suc x → AtLeaf x) → (better_of key tree v ≡ get_or tree (2 * v) 0) ⊎ (better_of key tree v ≡ get_or tree (2 * v + 1) 0) → AtLeaf x
          fork l p q (inl z) = p (omega arith) (omega arith) (omega arith) (sym z ∙ sym (j.inner v a l (omega arith)) ∙ e)
          fork l p q (inr z) = q (omega arith) (omega arith) (omega arith) (sym z ∙ sym (j.inner v a l (omega arith)) ∙ e)

          go : (t : Bool) → ltb v leaves ≡ t → (2 * leaves - 2 * v ≤ fuel → 1 ≤ 2 * v → 2 * v < 2 * leaves → get_or tree (2 * v) 0 ≡ suc x → AtLeaf x) → (2 * leaves - (2 * v + 1) ≤ fuel → 1 ≤ 2 * v + 1 → 2 * v + 1 < 2 * leaves → get_or tree (2 * v + 1) 0 ≡ suc x → AtLeaf x) → AtLeaf x
          go true w p q = fork (ltb-true v leaves w) p q (ahead-one key (get_or tree (2 * v) 0) (get_or tree (2 * v + 1) 0))
          go false w p q =
              let l = ltb-false v leaves w in
              let z : v ≡ leaves + (v - leaves) = omega arith in
              record { word = v - leaves; below = omega arith; leaf = ap (λ (k : ℕ). get_or tree k 0) (sym z) ∙ e }
