-- Which of two nodes is taken first, and of two entries the better: the entry of two sets together.
-- Assumes nothing.
use Prim.Native.Nat.{ℕ, zero, suc, ◌+◌, ◌-◌, ◌≤◌, ◌<◌, min, max}
use mathlib.Core.Path.{◌≡◌, refl, sym, ap, subst, ◌∙◌}
use mathlib.Core.Logic.{◌⊎◌, inl, inr}
use mathlib.Core.Bool.{Bool, true, false, cond}
use native.Mathlib.Omega.{arith}
use native.Mathlib.Numerals.{add-one}
use lib.Dec.{ltb}
use borrow.Author.Tests.{ltb-true, ltb-false, lt-ltb, le-ltb}
use Rattle.std.proofs.lemmas.Bool.{false_from_ne_true}
use Rattle.laws.proofs.Tests.{clash}
use Rattle.ordering.specs.Schedule.{Key, above}
use Rattle.ordering.specs.Tree.{sooner, ahead, Before, Leads, Winner}
use Rattle.ordering.proofs.Greatest.{above_asym, not-above, not_self}

module _ (key : ℕ → Key) where
  before_self : (x : ℕ) → Before key x x
  before_self x = record { greatest = not_self (key x); smallest = λ _. omega arith }

  before_trans : (x y k : ℕ) → Before key x y → Before key y k → Before key x k
  before_trans x y k a b =
      record {
        greatest = not-above (key k) (key y) (key x) b.greatest a.greatest;
        smallest = λ e. omega (arith, a.smallest (not-above (key x) (key k) (key y) e b.greatest), b.smallest (not-above (key y) (key x) (key k) a.greatest e));
      }

  pub before_same : (x y : ℕ) → Before key x y → Before key y x → x ≡ y
  before_same x y a b = omega (arith, a.smallest b.greatest, b.smallest a.greatest)

  -- a greater key, or the smaller number where the other's is not greater
  before_key : (x y : ℕ) → above (key x) (key y) ≡ true → Before key x y
  before_key x y h = record { greatest = false_from_ne_true _ (λ q. above_asym (key x) (key y) h q); smallest = λ e. absurd (clash h e) }

  before-number : (x y : ℕ) → above (key y) (key x) ≡ false → x ≤ y → Before key x y
  before-number x y h l = record { greatest = h; smallest = λ _. l }

  -- what `sooner` chooses
  record Chosen (x y z : ℕ) : Type 0 where
    pub one : (z ≡ x) ⊎ (z ≡ y)
    pub left : Before key z x
    pub right : Before key z y

  chosen_left : (x y : ℕ) → Before key x y → Chosen x y x
  chosen_left x y b = record { one = inl refl; left = before_self x; right = b }

  chosen_right : (x y : ℕ) → Before key y x → Chosen x y y
  chosen_right x y b = record { one = inr refl; left = b; right = before_self y }

  chosen : (x y : ℕ) → Chosen x y (sooner key x y)
  unfolding sooner
  chosen x y = go (ltb x y) refl
    where
      up : x < y → (u : Bool) → above (key y) (key x) ≡ u → Chosen x y (cond (above (key y) (key x)) y x)
      up l true e = rw e (chosen_right x y (before_key y x e))
      up l false e = rw e (chosen_left x y (before-number x y e (omega arith)))

      down : y ≤ x → (u : Bool) → above (key x) (key y) ≡ u → Chosen x y (cond (above (key x) (key y)) x y)
      down l true e = rw e (chosen_left x y (before_key x y e))
      down l false e = rw e (chosen_right x y (before-number y x e l))

      go : (t : Bool) → ltb x y ≡ t → Chosen x y (cond (ltb x y) (cond (above (key y) (key x)) y x) (cond (above (key x) (key y)) x y))
      go true e = rw e (up (ltb-true x y e) (above (key y) (key x)) refl)
      go false e = rw e (down (ltb-false x y e) (above (key x) (key y)) refl)

  -- the better of two entries is one of them, and leads what either leads

  pub ahead-one : (a b : ℕ) → (ahead key a b ≡ a) ⊎ (ahead key a b ≡ b)
  unfolding ahead
  ahead-one zero b = inr refl
  ahead-one (suc x) zero = inl refl
  ahead-one (suc x) (suc y) = go (chosen x y).one
    where
      go : (sooner key x y ≡ x) ⊎ (sooner key x y ≡ y) → (suc (sooner key x y) ≡ suc x) ⊎ (suc (sooner key x y) ≡ suc y)
      go (inl e) = inl (ap suc e)
      go (inr e) = inr (ap suc e)

  none_leads : (k : ℕ) → Leads key 0 k → ⊥
  none_leads k l = omega (arith, l.entry)

  leads_before : (z x k : ℕ) → Before key z x → Leads key (suc x) k → Leads key (suc z) k
  leads_before z x k b l =
      let e : l.node ≡ x = omega (arith, l.entry) in
      record { node = z; entry = refl; before = before_trans z x k b (subst (λ (y : ℕ). Before key y k) e l.before) }

  pub ahead_left : (a b k : ℕ) → Leads key a k → Leads key (ahead key a b) k
  unfolding ahead
  ahead_left zero b k l = absurd (none_leads k l)
  ahead_left (suc x) zero k l = l
  ahead_left (suc x) (suc y) k l = leads_before (sooner key x y) x k (chosen x y).left l

  pub ahead_right : (a b k : ℕ) → Leads key b k → Leads key (ahead key a b) k
  unfolding ahead
  ahead_right zero b k l = l
  ahead_right (suc x) zero k l = absurd (none_leads k l)
  ahead_right (suc x) (suc y) k l = leads_before (sooner key x y) y k (chosen x y).right l

  leads_self : (x : ℕ) → Leads key (suc x) x
  leads_self x = record { node = x; entry = refl; before = before_self x }

  -- the entries of no node, of one, and of two sets together

  pub winner_none : (P : ℕ → Type 0) → ((k : ℕ) → P k → ⊥) → Winner key P 0
  winner_none P h = record { among = λ x e. absurd (omega arith); first = λ k p. absurd (h k p) }

  pub winner_one : (x : ℕ) → Winner key (λ k. k ≡ x) (suc x)
  winner_one x = record { among = λ y e. omega arith; first = λ k p. subst (Leads key (suc x)) (sym p) (leads_self x) }

  pub winner_same : (P Q : ℕ → Type 0) (e : ℕ) → ((k : ℕ) → P k → Q k) → ((k : ℕ) → Q k → P k) → Winner key P e → Winner key Q e
  winner_same P Q e f g w = record { among = λ x h. f x (w.among x h); first = λ k q. w.first k (g k q) }

  pub winner_join : (P Q R : ℕ → Type 0) (a b : ℕ) → ((k : ℕ) → R k → P k ⊎ Q k) → ((k : ℕ) → P k → R k) → ((k : ℕ) → Q k → R k) → Winner key P a → Winner key Q b → Winner key R (ahead key a b)
  winner_join P Q R a b split left right u v = record { among = λ x h. which x h (ahead-one a b); first = λ k r. led k (split k r) }
    where
      which : (x : ℕ) → ahead key a b ≡ suc x → (ahead key a b ≡ a) ⊎ (ahead key a b ≡ b) → R x
      which x h (inl e) = left x (u.among x (sym e ∙ h))
      which x h (inr e) = right x (v.among x (sym e ∙ h))

      led : (k : ℕ) → P k ⊎ Q k → Leads key (ahead key a b) k
      led k (inl p) = ahead_left a b k (u.first k p)
      led k (inr q) = ahead_right a b k (v.first k q)

-- how the code chooses: by what is there, then the smaller node first

module _ (key : ℕ → Key) where
  pub ahead_none : (a b : ℕ) → a ≡ 0 → b ≡ ahead key a b
  unfolding ahead
  ahead_none a b e = rw e

  pub ahead_alone : (a b : ℕ) → b ≡ 0 → a ≡ ahead key a b
  unfolding ahead
  ahead_alone zero b e = sym e
  ahead_alone (suc x) b e = rw e

  pub ahead_up : (a b r : ℕ) → (a ≡ 0 → ⊥) → a < b → r ≡ cond (above (key (b - 1)) (key (a - 1))) (b - 1) (a - 1) → r + 1 ≡ ahead key a b
  unfolding ahead sooner
  ahead_up zero b r h l e = absurd (h refl)
  ahead_up (suc x) zero r h l e = absurd (omega arith)
  ahead_up (suc x) (suc y) r h l e =
      let p : suc x - 1 ≡ x = omega arith in
      let q : suc y - 1 ≡ y = omega arith in
      rw (lt-ltb x y (omega arith)) (add-one r ∙ ap suc (rw (p, q) at e))

  pub ahead_down : (a b r : ℕ) → (a ≡ 0 → ⊥) → (b ≡ 0 → ⊥) → b ≤ a → r ≡ cond (above (key (a - 1)) (key (b - 1))) (a - 1) (b - 1) → r + 1 ≡ ahead key a b
  unfolding ahead sooner
  ahead_down zero b r h n l e = absurd (h refl)
  ahead_down (suc x) zero r h n l e = absurd (n refl)
  ahead_down (suc x) (suc y) r h n l e =
      let p : suc x - 1 ≡ x = omega arith in
      let q : suc y - 1 ≡ y = omega arith in
      rw (le-ltb x y (omega arith)) (add-one r ∙ ap suc (rw (p, q) at e))

  pub ahead_of : (a b r : ℕ) → (a ≡ 0 → ⊥) → (b ≡ 0 → ⊥) → r ≡ cond (above (key (max a b - 1)) (key (min a b - 1))) (max a b - 1) (min a b - 1) → r + 1 ≡ ahead key a b
  ahead_of a b r h n e = go (ltb a b) refl
    where
      go : (t : Bool) → ltb a b ≡ t → r + 1 ≡ ahead key a b
      go true q = let l = ltb-true a b q in let p : min a b ≡ a = omega arith in let w : max a b ≡ b = omega arith in ahead_up a b r h l (rw (p, w) at e)
      go false q = let l = ltb-false a b q in let p : min a b ≡ b = omega arith in let w : max a b ≡ a = omega arith in ahead_down a b r h n l (rw (p, w) at e)

  -- no entry is above both
  pub ahead_bound : (a b m : ℕ) → a ≤ m → b ≤ m → ahead key a b ≤ m
  ahead_bound a b m f g = go (ahead-one key a b)
    where
      go : (ahead key a b ≡ a) ⊎ (ahead key a b ≡ b) → ahead key a b ≤ m
      go (inl e) = omega arith
      go (inr e) = omega arith
