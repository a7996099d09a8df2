-- What is picked has the greatest key, and of equal keys the smallest number.
-- Assumes nothing.
use Prim.Native.Nat.{ℕ, zero, suc, ◌≤◌, ◌<◌}
use mathlib.Core.Path.{◌≡◌, refl, sym, ap, ◌∙◌}
use mathlib.Core.Logic.{◌⊎◌, inl, inr}
use mathlib.Core.Bool.{Bool, true, false, cond, ◌&&◌, ◌||◌, false≢true}
use mathlib.Core.List.{List, [], ◌∷◌}
use native.Mathlib.Omega.{arith}
use lib.Dec.{ltb, eqb}
use lib.ListN.{length, take}
use mathlib.Core.Option.{some}
use borrow.Author.Tests.{ltb-true, ltb-false, lt-ltb, le-ltb, eqb-true, eq-eqb}
use Rattle.std.proofs.lemmas.Bool.{false_from_ne_true, true_from_ne_false}
use Rattle.laws.specs.Lists.{elem, keep, numbers}
use Rattle.laws.proofs.Tests.{clash}
use Rattle.laws.proofs.Lists.{elem-cons-split, elem_here, elem-later}
use Rattle.graphs.specs.Graph.{Vertex, ready, ready_cells}
use Rattle.ordering.specs.Schedule.{Key, above, best, pick, next}
use Rattle.ordering.specs.Promises.{Greatest}
use Rattle.ordering.proofs.Order.{best_in}

-- one number of a key against another's, and what decides where they are equal

abbrev lex : ℕ → ℕ → Bool → Bool
lex x y t = ltb y x || (eqb y x && t)

lex_view : (x y : ℕ) (t : Bool) → lex x y t ≡ true → (y < x) ⊎ ((y ≡ x) × (t ≡ true))
lex_view x y t h = go (ltb y x) refl (eqb y x) refl
  where
    go : (a : Bool) → ltb y x ≡ a → (b : Bool) → eqb y x ≡ b → (y < x) ⊎ ((y ≡ x) × (t ≡ true))
    go true e b f = inl (ltb-true y x e)
    go false e true f = inr (eqb-true y x f, rw (e, f) at h)
    go false e false f = absurd (false≢true (rw (e, f) at h))

lex_lt : (x y : ℕ) (t : Bool) → y < x → lex x y t ≡ true
lex_lt x y t h = rw (lt-ltb y x h)

lex_eq : (x y : ℕ) (t : Bool) → y ≡ x → t ≡ true → lex x y t ≡ true
lex_eq x y t e h = rw (le-ltb y x (omega arith), eq-eqb y x e, h)

lex_asym : (x y : ℕ) (t s : Bool) → (t ≡ true → s ≡ true → ⊥) → lex x y t ≡ true → lex y x s ≡ true → ⊥
lex_asym x y t s h p q = go (lex_view x y t p) (lex_view y x s q)
  where
    go : (y < x) ⊎ ((y ≡ x) × (t ≡ true)) → (x < y) ⊎ ((x ≡ y) × (s ≡ true)) → ⊥
    go (inl a) (inl b) = omega arith
    go (inl a) (inr b) = omega (arith, b.0)
    go (inr a) (inl b) = omega (arith, a.0)
    go (inr a) (inr b) = h a.1 b.1

lex_split : (x y z : ℕ) (t r s : Bool) → (t ≡ true → (r ≡ true) ⊎ (s ≡ true)) → lex x z t ≡ true → (lex x y r ≡ true) ⊎ (lex y z s ≡ true)
lex_split x y z t r s h p = go (lex_view x z t p) (ltb y x) refl (ltb x y) refl
  where
    rest : (r ≡ true) ⊎ (s ≡ true) → y ≡ x → z ≡ x → (lex x y r ≡ true) ⊎ (lex y z s ≡ true)
    rest (inl a) e f = inl (lex_eq x y r e a)
    rest (inr a) e f = inr (lex_eq y z s (omega arith) a)

    go : (z < x) ⊎ ((z ≡ x) × (t ≡ true)) → (a : Bool) → ltb y x ≡ a → (b : Bool) → ltb x y ≡ b → (lex x y r ≡ true) ⊎ (lex y z s ≡ true)
    go v true e b f = inl (lex_lt x y r (ltb-true y x e))
    go (inl v) false e b f = inr (lex_lt y z s (omega (arith, ltb-false y x e)))
    go (inr v) false e true f = inr (lex_lt y z s (omega (arith, v.0, ltb-true x y f)))
    go (inr v) false e false f = rest (h v.1) (omega (arith, ltb-false y x e, ltb-false x y f)) v.0

last_split : (x y z : ℕ) → ltb z x ≡ true → (ltb y x ≡ true) ⊎ (ltb z y ≡ true)
last_split x y z h = go (ltb y x) refl
  where
    go : (a : Bool) → ltb y x ≡ a → (ltb y x ≡ true) ⊎ (ltb z y ≡ true)
    go true e = inl e
    go false e = inr (lt-ltb z y (omega (arith, ltb-true z x h, ltb-false y x e)))

pub above_asym : (a b : Key) → above a b ≡ true → above b a ≡ true → ⊥
unfolding above
above_asym a b p q =
    lex_asym a.first b.first _ _ (λ p₂ q₂. lex_asym a.second b.second _ _ (λ p₃ q₃. omega (arith, ltb-true b.third a.third p₃, ltb-true a.third b.third q₃)) p₂ q₂) p q

above-split : (a b d : Key) → above a d ≡ true → (above a b ≡ true) ⊎ (above b d ≡ true)
unfolding above
above-split a b d p =
    lex_split a.first b.first d.first _ _ _ (λ p₂. lex_split a.second b.second d.second _ _ _ (λ p₃. last_split a.third b.third d.third p₃) p₂) p

-- the relation by which keys are ordered: no key above, one way
pub not-above : (a b d : Key) → above a b ≡ false → above b d ≡ false → above a d ≡ false
not-above a b d p q = false_from_ne_true (above a d) (λ h. go (above-split a b d h))
  where
    go : (above a b ≡ true) ⊎ (above b d ≡ true) → ⊥
    go (inl e) = clash e p
    go (inr e) = clash e q

pub not_self : (a : Key) → above a a ≡ false
not_self a = false_from_ne_true (above a a) (λ h. above_asym a a h h)

pub best_greatest : (key : ℕ → Key) (b : ℕ) (ks : List ℕ) (k : ℕ) → elem k (b ∷ ks) ≡ true → above (key k) (key (best key b ks)) ≡ false
unfolding best
best_greatest key b [] k m = go (elem-cons-split k b [] m)
  where
    go : (k ≡ b) ⊎ (elem k [] ≡ true) → above (key k) (key b) ≡ false
    go (inl e) = ap (λ (z : ℕ). above (key z) (key b)) e ∙ not_self (key b)
    go (inr e) = absurd (false≢true e)
best_greatest key b (x ∷ ks) k m = go (above (key x) (key b)) refl (best_greatest key (cond (above (key x) (key b)) x b) ks)
  where
    go : (t : Bool) → above (key x) (key b) ≡ t → ((j : ℕ) → elem j (cond (above (key x) (key b)) x b ∷ ks) ≡ true → above (key j) (key (best key (cond (above (key x) (key b)) x b) ks)) ≡ false) → above (key k) (key (best key (cond (above (key x) (key b)) x b) ks)) ≡ false
    go true e below = rw e (fork (elem-cons-split k b (x ∷ ks) m))
      where
        on : (j : ℕ) → elem j (x ∷ ks) ≡ true → above (key j) (key (best key x ks)) ≡ false
        on = rw e at below

        fork : (k ≡ b) ⊎ (elem k (x ∷ ks) ≡ true) → above (key k) (key (best key x ks)) ≡ false
        fork (inl q) = rw q (not-above (key b) (key x) (key (best key x ks)) (false_from_ne_true _ (λ h. above_asym (key b) (key x) h e)) (on x (elem_here x x ks refl)))
        fork (inr g) = on k g
    go false e below = rw e (fork (elem-cons-split k b (x ∷ ks) m))
      where
        on : (j : ℕ) → elem j (b ∷ ks) ≡ true → above (key j) (key (best key b ks)) ≡ false
        on = rw e at below

        later : (k ≡ x) ⊎ (elem k ks ≡ true) → above (key k) (key (best key b ks)) ≡ false
        later (inl q) = rw q (not-above (key x) (key b) (key (best key b ks)) e (on b (elem_here b b ks refl)))
        later (inr g) = on k (elem-later k b ks g)

        fork : (k ≡ b) ⊎ (elem k (x ∷ ks) ≡ true) → above (key k) (key (best key b ks)) ≡ false
        fork (inl q) = on k (elem_here k b ks q)
        fork (inr g) = later (elem-cons-split k x ks g)

-- what is picked is the first number, or its key is above the first one's
best_moves : (key : ℕ → Key) (b : ℕ) (ks : List ℕ) → (best key b ks ≡ b) ⊎ (above (key (best key b ks)) (key b) ≡ true)
unfolding best
best_moves key b [] = inl refl
best_moves key b (x ∷ ks) = go (above (key x) (key b)) refl (best_moves key (cond (above (key x) (key b)) x b) ks)
  where
    via : above (key x) (key b) ≡ true → (best key x ks ≡ x) ⊎ (above (key (best key x ks)) (key x) ≡ true) → above (key (best key x ks)) (key b) ≡ true
    via e (inl q) = ap (λ (z : ℕ). above (key z) (key b)) q ∙ e
    via e (inr q) = true_from_ne_false _ (λ h. clash (above_cases q h) refl)
      where
        above_cases : above (key (best key x ks)) (key x) ≡ true → above (key (best key x ks)) (key b) ≡ false → false ≡ true
        above_cases p h = split (above-split (key (best key x ks)) (key b) (key x) p)
          where
            split : (above (key (best key x ks)) (key b) ≡ true) ⊎ (above (key b) (key x) ≡ true) → false ≡ true
            split (inl z) = sym h ∙ z
            split (inr z) = absurd (above_asym (key b) (key x) z e)

    go : (t : Bool) → above (key x) (key b) ≡ t → (best key (cond (above (key x) (key b)) x b) ks ≡ cond (above (key x) (key b)) x b) ⊎ (above (key (best key (cond (above (key x) (key b)) x b) ks)) (key (cond (above (key x) (key b)) x b)) ≡ true) → (best key (cond (above (key x) (key b)) x b) ks ≡ b) ⊎ (above (key (best key (cond (above (key x) (key b)) x b) ks)) (key b) ≡ true)
    go true e below = rw e (inr (via e (rw e at below)))
    go false e below = rw e (rw e at below)

-- a list in ascending order, all above b
abbrev pub Rising : ℕ → List ℕ → Type 0
Rising b [] = Unit
Rising b (x ∷ ks) = (b < x) × Rising x ks

rising_skip : (b x : ℕ) (ks : List ℕ) → b < x → Rising x ks → Rising b ks
rising_skip b x [] h r = tt
rising_skip b x (y ∷ ks) h r = (omega (arith, r.0), r.1)

-- of equal keys the smallest number
pub best-first : (key : ℕ → Key) (b : ℕ) (ks : List ℕ) → Rising b ks → (k : ℕ) → elem k (b ∷ ks) ≡ true → above (key (best key b ks)) (key k) ≡ false → best key b ks ≤ k
unfolding best
best-first key b [] r k m h = go (elem-cons-split k b [] m)
  where
    go : (k ≡ b) ⊎ (elem k [] ≡ true) → b ≤ k
    go (inl e) = omega arith
    go (inr e) = absurd (false≢true e)
best-first key b (x ∷ ks) r k m h = go (above (key x) (key b)) refl (best-first key (cond (above (key x) (key b)) x b) ks)
  where
    Below : ℕ → Type 0
    Below j = Rising j ks → (i : ℕ) → elem i (j ∷ ks) ≡ true → above (key (best key j ks)) (key i) ≡ false → best key j ks ≤ i

    moved : above (key x) (key b) ≡ true → above (key (best key x ks)) (key k) ≡ false → Below x → (k ≡ b) ⊎ (elem k (x ∷ ks) ≡ true) → best key x ks ≤ k
    moved e n below (inl q) = absurd (split (above-split (key x) (key (best key x ks)) (key b) e))
      where
        split : (above (key x) (key (best key x ks)) ≡ true) ⊎ (above (key (best key x ks)) (key b) ≡ true) → ⊥
        split (inl z) = clash z (best_greatest key x ks x (elem_here x x ks refl))
        split (inr z) = clash z (ap (λ (j : ℕ). above (key (best key x ks)) (key j)) (sym q) ∙ n)
    moved e n below (inr g) = below r.1 k g n

    stays : above (key x) (key b) ≡ false → above (key (best key b ks)) (key k) ≡ false → Below b → (k ≡ b) ⊎ (elem k (x ∷ ks) ≡ true) → best key b ks ≤ k
    stays e n below (inl q) = below (rising_skip b x ks r.0 r.1) k (elem_here k b ks q) n
    stays e n below (inr g) = later (elem-cons-split k x ks g)
      where
        at_x : k ≡ x → (best key b ks ≡ b) ⊎ (above (key (best key b ks)) (key b) ≡ true) → best key b ks ≤ k
        at_x q (inl z) = omega (arith, r.0)
        at_x q (inr z) = absurd (split (above-split (key (best key b ks)) (key x) (key b) z))
          where
            split : (above (key (best key b ks)) (key x) ≡ true) ⊎ (above (key x) (key b) ≡ true) → ⊥
            split (inl y) = clash y (ap (λ (j : ℕ). above (key (best key b ks)) (key j)) (sym q) ∙ n)
            split (inr y) = clash y e

        later : (k ≡ x) ⊎ (elem k ks ≡ true) → best key b ks ≤ k
        later (inl q) = at_x q (best_moves key b ks)
        later (inr g) = below (rising_skip b x ks r.0 r.1) k (elem-later k b ks g) n

    go : (t : Bool) → above (key x) (key b) ≡ t → Below (cond (above (key x) (key b)) x b) → best key (cond (above (key x) (key b)) x b) ks ≤ k
    go true e below = rw e (moved e (rw e at h) (rw e at below) (elem-cons-split k b (x ∷ ks) m))
    go false e below = rw e (stays e (rw e at h) (rw e at below) (elem-cons-split k b (x ∷ ks) m))

-- the step's pick, whole: among the first `window` ready cells, no key is above it, and of equal keys it is the smallest number

rising_numbers : (p : ℕ → Bool) (b from n : ℕ) → b < from → Rising b (numbers p from n)
unfolding numbers
rising_numbers p b from zero h = tt
rising_numbers p b from (suc n) h = go (p from) (rising_numbers p b (suc from) n (omega arith)) (rising_numbers p from (suc from) n (omega arith))
  where
    go : (t : Bool) → Rising b (numbers p (suc from) n) → Rising from (numbers p (suc from) n) → Rising b (keep t from (numbers p (suc from) n))
    go true r s = (h, s)
    go false r s = r

rising_take : (b w : ℕ) (l : List ℕ) → Rising b l → Rising b (take w l)
rising_take b zero l r = tt
rising_take b (suc w) [] r = tt
rising_take b (suc w) (x ∷ l) r = (r.0, rising_take x w l r.1)

abbrev pub Ascending : List ℕ → Type 0
Ascending [] = Unit
Ascending (x ∷ l) = Rising x l

pub ascending_numbers : (p : ℕ → Bool) (from n : ℕ) → Ascending (numbers p from n)
unfolding numbers
ascending_numbers p from zero = tt
ascending_numbers p from (suc n) = go (p from) (ascending_numbers p (suc from) n)
  where
    go : (t : Bool) → Ascending (numbers p (suc from) n) → Ascending (keep t from (numbers p (suc from) n))
    go true r = rising_numbers p from (suc from) n (omega arith)
    go false r = r

ascending_take : (w : ℕ) (l : List ℕ) → Ascending l → Ascending (take w l)
ascending_take zero l r = tt
ascending_take (suc w) [] r = tt
ascending_take (suc w) (x ∷ l) r = rising_take x w l r

pub pick-best : (key : ℕ → Key) (l : List ℕ) (p : ℕ) → Ascending l → pick key l ≡ some p → Greatest key l p
unfolding pick
pick-best key [] p r e = let z : ◌≡◌ {A = ℕ} 0 1 = cc in absurd (omega arith)
pick-best key (x ∷ l) p r e =
    let q : best key x l ≡ p = cc in
    rw (← q) (record { among = best_in key x l; greatest = best_greatest key x l; smallest = best-first key x l r })

pub next-best : (c : List Vertex) (window : ℕ) (key : ℕ → Key) (taken : List ℕ) (p : ℕ) → next c window key taken ≡ some p → Greatest key (take window (ready_cells c taken)) p
unfolding next ready_cells
next-best c window key taken p e = pick-best key (take window (ready_cells c taken)) p (ascending_take window (ready_cells c taken) (ascending_numbers (ready c taken) 0 (length c))) e
