-- The first entry of the tree is the pick of the ready nodes below the limit.
-- Assumes nothing.
use Prim.Native.Nat.{ℕ, suc, ◌+◌, ◌-◌, ◌*◌, ◌/◌, ◌≤◌, ◌<◌}
use mathlib.Core.Path.{◌≡◌, refl, sym, ap, subst, ◌∙◌}
use mathlib.Core.Logic.{◌≢◌}
use mathlib.Core.Bool.{true}
use mathlib.Core.List.{List, [], ◌∷◌}
use mathlib.Core.Option.{some}
use native.Mathlib.Omega.{arith}
use lib.ListN.{length, get_or, drop}
use lib.Seq.{get_or-drop}
use Rattle.laws.specs.Lists.{elem, numbers}
use Rattle.laws.proofs.Lists.{numbers_in, in_numbers, elem_here}
use Rattle.readyset.specs.Sets.{member}
use Rattle.ordering.specs.Schedule.{Key, key_at, best, pick}
use Rattle.ordering.specs.Promises.{Greatest}
use Rattle.ordering.specs.Tree.{Before, Leads, Winner, tree_at, Ranked}
use Rattle.ordering.proofs.Greatest.{Ascending, ascending_numbers, pick-best}
use Rattle.ordering.proofs.Winners.{before_same}
use Rattle.ordering.proofs.Climb.{root_leads, root_leaf}

-- the entry of a list is its pick

module _ (key : ℕ → Key) (l : List ℕ) (up : Ascending l) (e : ℕ) (win : Winner key (λ k. elem k l ≡ true) e) where
  winner_best : (y x : ℕ) → Greatest key l y → e ≡ suc x → y ≡ x
  winner_best y x b q = before_same key y x (record { greatest = b.greatest x here; smallest = b.smallest x here }) led
    where
      here : elem x l ≡ true
      here = win.among x q

      led : Before key x y
      led =
          let m = win.first y b.among in
          let z : m.node ≡ x = omega (arith, m.entry) in
          subst (λ (k : ℕ). Before key k y) z m.before

winner_picks : (key : ℕ → Key) (l : List ℕ) → Ascending l → (e : ℕ) → Winner key (λ k. elem k l ≡ true) e → length l ≢ 0 → (1 ≤ e) × (some (e - 1) ≡ pick key l)
unfolding pick
winner_picks key [] up e win nonempty = absurd (nonempty refl)
winner_picks key (k ∷ ks) up e win nonempty =
    let m = win.first k (elem_here k k ks refl) in
    let z : e ≡ suc (e - 1) = omega (arith, m.entry) in
    (omega (arith, m.entry), ap some (sym (winner_best key (k ∷ ks) up e win (best key k ks) (e - 1) (pick-best key (k ∷ ks) (best key k ks) up (picked key k ks)) z)) ∙ sym (picked key k ks))
  where
    picked : (key : ℕ → Key) (k : ℕ) (ks : List ℕ) → pick key (k ∷ ks) ≡ some (best key k ks)
    picked key k ks = refl

module _ (n limit : ℕ) (keys area : List ℕ) (ranked : Ranked n limit keys area (n / 64 + 1)) where
  abbrev ready : ℕ → Type 0
  ready k = elem k (numbers (member (drop (2 * n) area)) 0 limit) ≡ true

  root_winner : Winner (key_at keys) ready (get_or (drop (tree_at n) area) 1 0)
  root_winner = record { among = among; first = first }
    where
      among : (x : ℕ) → get_or (drop (tree_at n) area) 1 0 ≡ suc x → ready x
      among x e =
          let at = root_leaf (key_at keys) (n / 64 + 1) n (drop (tree_at n) area) ranked.joined (omega arith) x e in
          let i = (ranked.leaves at.word at.below (omega (arith, at.below))).among x at.leaf in
          in_numbers (member (drop (2 * n) area)) 0 limit x i.here (omega arith) (omega (arith, i.below))

      first : (k : ℕ) → ready k → Leads (key_at keys) (get_or (drop (tree_at n) area) 1 0) k
      first k h =
          let i = numbers_in (member (drop (2 * n) area)) 0 limit k h in
          let b : k / 64 < n / 64 + 1 = omega (arith, ranked.bound, i.2) in
          root_leads (key_at keys) (n / 64 + 1) n (drop (tree_at n) area) ranked.joined (n / 64 + 1 + k / 64) k (omega arith) (omega arith) ((ranked.leaves (k / 64) b (omega arith)).first k (record { here = i.0; word = refl; below = omega (arith, i.2) }))

  pub root_picks : length (numbers (member (drop (2 * n) area)) 0 limit) ≢ 0 → (1 ≤ get_or area (tree_at n + 1) 0) × (some (get_or area (tree_at n + 1) 0 - 1) ≡ pick (key_at keys) (numbers (member (drop (2 * n) area)) 0 limit))
  root_picks nonempty = rw (← (get_or-drop (tree_at n) area 1 0)) (winner_picks (key_at keys) (numbers (member (drop (2 * n) area)) 0 limit) (ascending_numbers (member (drop (2 * n) area)) 0 limit) _ root_winner nonempty)

  pub root_below : length (numbers (member (drop (2 * n) area)) 0 limit) ≢ 0 → get_or area (tree_at n + 1) 0 - 1 < limit
  root_below nonempty =
      let p = root_picks nonempty in
      let z : get_or (drop (tree_at n) area) 1 0 ≡ suc (get_or area (tree_at n + 1) 0 - 1) = omega (arith, p.0, get_or-drop (tree_at n) area 1 0) in
      omega (arith, (numbers_in (member (drop (2 * n) area)) 0 limit _ (root_winner.among _ z)).2)
