-- The tree in the ready area: a leaf that is written, the entries above it made right, and a change of the set of ready nodes.
-- Assumes nothing.
use Prim.Native.Nat.{ℕ, suc, ◌+◌, ◌-◌, ◌*◌, ◌/◌, ◌%◌, ◌≤◌, ◌<◌}
use mathlib.Core.Path.{◌≡◌, refl, sym, ap, ap₂, subst, ◌∙◌}
use mathlib.Core.Logic.{◌≢◌}
use mathlib.Core.Bool.{Bool, true, false}
use mathlib.Core.List.{List}
use native.Mathlib.Omega.{arith}
use lib.Dec.{eqb, ltb}
use lib.ListN.{length, get_or, set, take, drop, length-set, length-drop}
use lib.Seq.{get_or-set_same, get_or-set_other, get_or-drop}
use borrow.Rule.Slice.PartMut.{put_mid, mid_of, same_len_mid}
use borrow.Author.Tests.{eqb-true, eqb-false, ltb-true, ltb-false}
use Rattle.std.proofs.lemmas.List.{take_rest}
use Rattle.laws.specs.Digits.{is_set}
use Rattle.laws.proofs.Parts.{put_rest, put_words}
use Rattle.readyset.specs.Sets.{member}
use Rattle.ordering.specs.Schedule.{Key, key_at}
use Rattle.ordering.specs.Tree.{ahead, Winner, InWord, Joined, LeavesKept, tree_at, LeafIs, Ranked, Fronted, Kept, LeafPut, LeavesPut}
use Rattle.ordering.proofs.Winners.{winner_same}
use Rattle.ordering.proofs.Climb.{joined_same}

pub fronted_then : (n : ℕ) (a b d : List ℕ) → Fronted n a b → Fronted n b d → Fronted n a d
fronted_then n a b d f g = record { size = g.size ∙ f.size; front = λ i h. g.front i h ∙ f.front i h }

-- an entry below the limit
winner_bound : (key : ℕ → Key) (ready : List ℕ) (limit w e : ℕ) → Winner key (InWord ready limit w) e → e ≤ limit
winner_bound key ready limit w e win = go (ltb limit e) refl
  where
    go : (t : Bool) → ltb limit e ≡ t → e ≤ limit
    go true q =
        let l = ltb-true limit e q in
        let z : e ≡ suc (e - 1) = omega arith in
        omega (arith, (win.among (e - 1) z).below)
    go false q = ltb-false limit e q

-- the word of the tree, and a word of the set
tree_word : (n v : ℕ) (area : List ℕ) → get_or (drop (tree_at n) area) v 0 ≡ get_or area (tree_at n + v) 0
tree_word n v area = get_or-drop (tree_at n) area v 0

pub member_front : (n : ℕ) (area after : List ℕ) → ((i : ℕ) → i < tree_at n → get_or after i 0 ≡ get_or area i 0) → (k : ℕ) → k / 64 < n / 64 + 1 → member (drop (2 * n) after) k ≡ member (drop (2 * n) area) k
unfolding member
member_front n area after same k h =
    ap (λ (x : ℕ). is_set x (k % 64)) (get_or-drop (2 * n) after (k / 64) 0 ∙ same (2 * n + k / 64) (omega arith) ∙ sym (get_or-drop (2 * n) area (k / 64) 0))

-- a leaf is right after a change where its word's members and its entry are the same
leaf_same : (n limit : ℕ) (keys area after : List ℕ) (w : ℕ) → ((k : ℕ) → k / 64 ≡ w → k < limit → member (drop (2 * n) after) k ≡ member (drop (2 * n) area) k) → get_or after (tree_at n + (n / 64 + 1 + w)) 0 ≡ get_or area (tree_at n + (n / 64 + 1 + w)) 0 → LeafIs n limit keys area w → LeafIs n limit keys after w
leaf_same n limit keys area after w same entry leaf =
    subst (Winner (key_at keys) (InWord (drop (2 * n) after) limit w)) (sym (tree_word n (n / 64 + 1 + w) after ∙ entry ∙ sym (tree_word n (n / 64 + 1 + w) area)))
    (winner_same (key_at keys) (InWord (drop (2 * n) area) limit w) (InWord (drop (2 * n) after) limit w) _
    (λ k h. record { here = same k h.word h.below ∙ h.here; word = h.word; below = h.below })
    (λ k h. record { here = sym (same k h.word h.below) ∙ h.here; word = h.word; below = h.below }) leaf)

leaf_front : (n limit : ℕ) (keys area after : List ℕ) (w : ℕ) → w < n / 64 + 1 → ((i : ℕ) → i < tree_at n → get_or after i 0 ≡ get_or area i 0) → get_or after (tree_at n + (n / 64 + 1 + w)) 0 ≡ get_or area (tree_at n + (n / 64 + 1 + w)) 0 → LeafIs n limit keys area w → LeafIs n limit keys after w
leaf_front n limit keys area after w h same entry leaf = leaf_same n limit keys area after w (λ k a b. member_front n area after same k (omega arith)) entry leaf

-- what a call of `leaf` asks, and what writing its answer does
module _ (n limit : ℕ) (keys area : List ℕ) (w : ℕ) (big : 64 ≤ n) (size : 3 * n ≤ length area) (below : w < n / 64 + 1) where
  pub leaf_room : w < length (take (length area - 2 * n) (drop (2 * n) area))
  leaf_room = rw (take_rest area (2 * n)) (omega (arith, length-drop (2 * n) area))

  pub leaf_put : (best : ℕ) → Winner (key_at keys) (InWord (take (length area - 2 * n) (drop (2 * n) area)) limit w) best → LeafPut n limit keys area w (set area (tree_at n + (n / 64 + 1 + w)) best)
  leaf_put best win =
      record {
        size = length-set area _ best;
        leaf = subst (Winner (key_at keys) (InWord (drop (2 * n) after) limit w)) (sym (tree_word n (n / 64 + 1 + w) after ∙ get_or-set_same area (tree_at n + (n / 64 + 1 + w)) best 0 (omega arith))) (winner_same (key_at keys) (InWord (drop (2 * n) area) limit w) (InWord (drop (2 * n) after) limit w) best (λ k h. record { here = same k h.word ∙ h.here; word = h.word; below = h.below }) (λ k h. record { here = sym (same k h.word) ∙ h.here; word = h.word; below = h.below }) (rw (take_rest area (2 * n)) at win));
        others = λ i h. get_or-set_other area (tree_at n + (n / 64 + 1 + w)) i best 0 h;
      }
    where
      after : List ℕ
      after = set area (tree_at n + (n / 64 + 1 + w)) best

      same : (k : ℕ) → k / 64 ≡ w → member (drop (2 * n) (set area (tree_at n + (n / 64 + 1 + w)) best)) k ≡ member (drop (2 * n) area) k
      same k e = member_front n area (set area (tree_at n + (n / 64 + 1 + w)) best) (λ i h. get_or-set_other area (tree_at n + (n / 64 + 1 + w)) i best 0 (omega arith)) k (omega arith)

put_fronted : (n limit : ℕ) (keys area : List ℕ) (w : ℕ) (after : List ℕ) → LeafPut n limit keys area w after → Fronted n area after
put_fronted n limit keys area w after put = record { size = put.size; front = λ i h. put.others i (omega arith) }

-- one leaf more
pub leaves_none : (n limit : ℕ) (keys area : List ℕ) → LeavesPut n limit keys area 0 area
leaves_none n limit keys area = record { leaves = λ w h. absurd (omega arith); fronted = record { size = refl; front = λ i h. refl } }

pub leaves_more : (n limit : ℕ) (keys start area : List ℕ) (w : ℕ) (after : List ℕ) → w < n / 64 + 1 → LeavesPut n limit keys start w area → LeafPut n limit keys area w after → LeavesPut n limit keys start (w + 1) after
leaves_more n limit keys start area w after below done put =
    record { leaves = λ u h. go u h (eqb u w) refl; fronted = fronted_then n start area after done.fronted (put_fronted n limit keys area w after put) }
  where
    go : (u : ℕ) → u < w + 1 → (t : Bool) → eqb u w ≡ t → LeafIs n limit keys after u
    go u h true e = subst (LeafIs n limit keys after) (sym (eqb-true u w e)) put.leaf
    go u h false e =
        let d = eqb-false u w e in
        leaf_front n limit keys area after u (omega arith) (put_fronted n limit keys area w after put).front (put.others _ (λ z. d (omega arith))) (done.leaves u (omega (arith, d)))

pub leaves_all : (n limit : ℕ) (keys start area : List ℕ) (words : ℕ) → words ≡ n / 64 + 1 → LeavesPut n limit keys start words area → LeavesPut n limit keys start (n / 64 + 1) area
leaves_all n limit keys start area words e put = rw e at put

-- the entries of the leaves are nodes
leaves-joined : (n limit : ℕ) (keys area : List ℕ) → 64 ≤ n → limit ≤ n → 3 * n ≤ length area → ((w : ℕ) → w < n / 64 + 1 → LeafIs n limit keys area w) → Joined (key_at keys) (n / 64 + 1) n (drop (tree_at n) area) (n / 64 + 1) 0
leaves-joined n limit keys area big bound size leaves =
    record {
      room = omega (arith, length-drop (tree_at n) area);
      nodes = λ v a b. node v a b;
      inner = λ v a b c. absurd (omega arith);
    }
  where
    node : (v : ℕ) → n / 64 + 1 ≤ v → v < 2 * (n / 64 + 1) → get_or (drop (tree_at n) area) v 0 ≤ n
    node v a b =
        let e : n / 64 + 1 + (v - (n / 64 + 1)) ≡ v = omega arith in
        let f = winner_bound (key_at keys) (drop (2 * n) area) limit (v - (n / 64 + 1)) _ (leaves (v - (n / 64 + 1)) (omega arith)) in
        omega (arith, f, ap (λ (k : ℕ). get_or (drop (tree_at n) area) k 0) e)

-- the tree is written over, its leaves kept
module _ (n limit : ℕ) (keys area part : List ℕ) (big : 64 ≤ n) (bound : limit ≤ n) (size : 3 * n ≤ length area) (leaves : (w : ℕ) → w < n / 64 + 1 → LeafIs n limit keys area w) (same : length part ≡ length (mid_of (tree_at n) (length area - tree_at n) area)) (joined : Joined (key_at keys) (n / 64 + 1) n part 1 0) (kept : LeavesKept (n / 64 + 1) (take (length area - tree_at n) (drop (tree_at n) area)) part) where
  abbrev after : List ℕ
  after = put_mid (tree_at n) (length area - tree_at n) area part

  fits : tree_at n ≤ length area
  fits = omega arith

  part_fronted : Fronted n area after
  part_fronted = record { size = same_len_mid (tree_at n) (length area - tree_at n) area part same; front = put_words (tree_at n) area part fits }

  entry : (w : ℕ) → get_or after (tree_at n + (n / 64 + 1 + w)) 0 ≡ get_or area (tree_at n + (n / 64 + 1 + w)) 0
  entry w =
      sym (tree_word n (n / 64 + 1 + w) after) ∙ ap (λ (l : List ℕ). get_or l (n / 64 + 1 + w) 0) (put_rest (tree_at n) area part fits) ∙ kept (n / 64 + 1 + w) (omega arith)
      ∙ ap (λ (l : List ℕ). get_or l (n / 64 + 1 + w) 0) (take_rest area (tree_at n)) ∙ tree_word n (n / 64 + 1 + w) area

  part_ranked : Ranked n limit keys after (n / 64 + 1)
  part_ranked =
      record {
        big = big;
        bound = bound;
        size = omega (arith, part_fronted.size);
        leaves = λ w h d. leaf_front n limit keys area after w h part_fronted.front (entry w) (leaves w h);
        joined = rw (put_rest (tree_at n) area part fits) joined;
      }

-- a leaf made right again
module _ (n limit : ℕ) (keys area : List ℕ) (w : ℕ) (after : List ℕ) (ranked : Ranked n limit keys area w) (below : w < n / 64 + 1) (put : LeafPut n limit keys area w after) where
  refreshed_leaves : (u : ℕ) → u < n / 64 + 1 → LeafIs n limit keys after u
  refreshed_leaves u h = go (eqb u w) refl
    where
      go : (t : Bool) → eqb u w ≡ t → LeafIs n limit keys after u
      go true e = subst (LeafIs n limit keys after) (sym (eqb-true u w e)) put.leaf
      go false e =
          let d = eqb-false u w e in
          leaf_front n limit keys area after u h (put_fronted n limit keys area w after put).front (put.others _ (λ z. d (omega arith))) (ranked.leaves u h d)

  other : (v : ℕ) → v ≢ n / 64 + 1 + w → get_or (drop (tree_at n) after) v 0 ≡ get_or (drop (tree_at n) area) v 0
  other v d = tree_word n v after ∙ put.others (tree_at n + v) (λ z. d (omega arith)) ∙ sym (tree_word n v area)

  -- the entry above it alone may be wrong
  pub refreshed_joined : Joined (key_at keys) (n / 64 + 1) n (take (length after - tree_at n) (drop (tree_at n) after)) 1 ((n / 64 + 1 + w) / 2)
  refreshed_joined =
      rw (take_rest after (tree_at n))
      (record {
        room = omega (arith, length-drop (tree_at n) after, put.size, ranked.size, ranked.big);
        nodes = λ v a b. node v a b (eqb v (n / 64 + 1 + w)) refl;
        inner = λ v a b c. other v (omega arith) ∙ ranked.joined.inner v a b (omega arith) ∙ sym (ap₂ (ahead (key_at keys)) (other (2 * v) (λ z. c (omega arith))) (other (2 * v + 1) (λ z. c (omega arith))));
      })
    where
      node : (v : ℕ) → 1 ≤ v → v < 2 * (n / 64 + 1) → (t : Bool) → eqb v (n / 64 + 1 + w) ≡ t → get_or (drop (tree_at n) after) v 0 ≤ n
      node v a b true e = omega (arith, ranked.bound, winner_bound (key_at keys) (drop (2 * n) after) limit w _ put.leaf, ap (λ (k : ℕ). get_or (drop (tree_at n) after) k 0) (eqb-true v (n / 64 + 1 + w) e))
      node v a b false e = omega (arith, other v (eqb-false v (n / 64 + 1 + w) e), ranked.joined.nodes v a b)

  pub refreshed : (part : List ℕ) → length part ≡ length (mid_of (tree_at n) (length after - tree_at n) after) → Joined (key_at keys) (n / 64 + 1) n part 1 0 → LeavesKept (n / 64 + 1) (take (length after - tree_at n) (drop (tree_at n) after)) part → Ranked n limit keys (put_mid (tree_at n) (length after - tree_at n) after part) (n / 64 + 1) × Fronted n area (put_mid (tree_at n) (length after - tree_at n) after part)
  refreshed part same joined kept =
      let size : 3 * n ≤ length after = omega (arith, put.size, ranked.size) in
      (part_ranked n limit keys after part ranked.big ranked.bound size refreshed_leaves same joined kept, fronted_then n area after _ (put_fronted n limit keys area w after put) (part_fronted n limit keys after part ranked.big ranked.bound size refreshed_leaves same joined kept))

-- a tree from nothing
module _ (n limit : ℕ) (keys area after : List ℕ) (big : 64 ≤ n) (bound : limit ≤ n) (size : 3 * n ≤ length area) (put : LeavesPut n limit keys area (n / 64 + 1) after) where
  room : 3 * n ≤ length after
  room = omega (arith, put.fronted.size)

  pub ranked_part : Joined (key_at keys) (n / 64 + 1) n (take (length after - tree_at n) (drop (tree_at n) after)) (n / 64 + 1) 0
  ranked_part = rw (take_rest after (tree_at n)) (leaves-joined n limit keys after big bound room put.leaves)

  pub ranked_whole : (part : List ℕ) → length part ≡ length (mid_of (tree_at n) (length after - tree_at n) after) → Joined (key_at keys) (n / 64 + 1) n part 1 0 → LeavesKept (n / 64 + 1) (take (length after - tree_at n) (drop (tree_at n) after)) part → Ranked n limit keys (put_mid (tree_at n) (length after - tree_at n) after part) (n / 64 + 1) × Fronted n area (put_mid (tree_at n) (length after - tree_at n) after part)
  ranked_whole part same joined kept =
      (part_ranked n limit keys after part big bound room put.leaves same joined kept, fronted_then n area after _ put.fronted (part_fronted n limit keys after part big bound room put.leaves same joined kept))

-- the set of ready nodes changes outside the tree

module _ (n limit : ℕ) (keys area after : List ℕ) (size : length after ≡ length area) (kept : Kept n area after) where
  entries : (v : ℕ) → get_or (drop (tree_at n) after) v 0 ≡ get_or (drop (tree_at n) area) v 0
  entries v = tree_word n v after ∙ kept (tree_at n + v) (omega arith) ∙ sym (tree_word n v area)

  module _ (but stale : ℕ) (ranked : Ranked n limit keys area but) (same : (w k : ℕ) → w ≢ stale → k / 64 ≡ w → k < limit → member (drop (2 * n) after) k ≡ member (drop (2 * n) area) k) where
    pub ranked_changed : ((w : ℕ) → w < n / 64 + 1 → w ≢ stale → w ≢ but) → Ranked n limit keys after stale
    ranked_changed narrow =
        record {
          big = ranked.big;
          bound = ranked.bound;
          size = omega (arith, ranked.size);
          leaves = λ w h d. leaf_same n limit keys area after w (λ k a b. same w k d a b) (kept (tree_at n + (n / 64 + 1 + w)) (omega arith)) (ranked.leaves w h (narrow w h d));
          joined = joined_same (key_at keys) (n / 64 + 1) n (drop (tree_at n) area) (drop (tree_at n) after) 1 0 (omega (arith, length-drop (tree_at n) area, length-drop (tree_at n) after)) entries ranked.joined;
        }

-- another limit, with the same members below it but for one word
pub ranked_limit : (n limit : ℕ) (keys area : List ℕ) (more stale : ℕ) → Ranked n limit keys area (n / 64 + 1) → more ≤ n → ((k : ℕ) → k / 64 ≢ stale → member (drop (2 * n) area) k ≡ true → k < limit → k < more) → ((k : ℕ) → k / 64 ≢ stale → member (drop (2 * n) area) k ≡ true → k < more → k < limit) → Ranked n more keys area stale
ranked_limit n limit keys area more stale ranked bound up down =
    record {
      big = ranked.big;
      bound = bound;
      size = ranked.size;
      leaves = λ w h d. winner_same (key_at keys) (InWord (drop (2 * n) area) limit w) (InWord (drop (2 * n) area) more w) _ (λ k i. record { here = i.here; word = i.word; below = up k (λ z. d (sym i.word ∙ z)) i.here i.below }) (λ k i. record { here = i.here; word = i.word; below = down k (λ z. d (sym i.word ∙ z)) i.here i.below }) (ranked.leaves w h (omega arith));
      joined = ranked.joined;
    }
