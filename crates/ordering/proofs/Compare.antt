-- Keys as `>` compares them.
-- Assumes nothing.
use Prim.Native.Nat.{ℕ}
use mathlib.Core.Path.{◌≡◌, refl, sym}
use mathlib.Core.Bool.{Bool, true, false, ◌&&◌, ◌||◌}
use native.Mathlib.Omega.{arith}
use lib.Dec.{eqb, ltb}
use borrow.Author.Tests.{ltb-true, ltb-false, eqb-true, eqb-false, lt-ltb, le-ltb, eq-eqb, ne_eqb}
use Rattle.std.proofs.Common.{Ordering}
use Rattle.std.specs.Ordering.{partial_gt, partial_ordering_then, is_some_and, nat_cmp, is_gt}
use Rattle.std.specs.Prelude.{Option, Some}
use Rattle.ordering.specs.contracts.keys.KeyPartialOrd as partial
use Rattle.ordering.specs.declared.keys.Key.{Key as KeyWords}
use Rattle.ordering.specs.Schedule.{above}
use Rattle.ordering.specs.Areas.{key_of}

-- the last number, and one with others after it
last : (x y : ℕ) → is_gt (nat_cmp x y) ≡ ltb y x
last x y = go (ltb x y) refl (eqb x y) refl
  where
    go : (s : Bool) → ltb x y ≡ s → (e : Bool) → eqb x y ≡ e → is_gt (nat_cmp x y) ≡ ltb y x
    go true p e q = let l = ltb-true x y p in rw (p, le-ltb y x (omega arith))
    go false p true q = let l = eqb-true x y q in rw (p, q, le-ltb y x (omega arith))
    go false p false q = let l = ltb-false x y p in let n = eqb-false x y q in rw (p, q, lt-ltb y x (omega arith))

turn : (x y : ℕ) (r : Option Ordering) (t : Bool) → is_some_and is_gt r ≡ t → is_some_and is_gt (partial_ordering_then (Some (nat_cmp x y)) r) ≡ (ltb y x || (eqb y x && t))
turn x y r t h = go (ltb x y) refl (eqb x y) refl
  where
    go : (s : Bool) → ltb x y ≡ s → (e : Bool) → eqb x y ≡ e → is_some_and is_gt (partial_ordering_then (Some (nat_cmp x y)) r) ≡ (ltb y x || (eqb y x && t))
    go true p e q = let l = ltb-true x y p in let u : eqb y x ≡ false = ne_eqb y x (omega arith) in rw (p, le-ltb y x (omega arith), u)
    go false p true q = let l = eqb-true x y q in rw (p, q, le-ltb y x (omega arith), eq-eqb y x (sym l)) h
    go false p false q = let l = ltb-false x y p in let n = eqb-false x y q in rw (p, q, lt-ltb y x (omega arith))

pub greater_is : (a b : KeyWords) → partial_gt (partial.TheImpl.partial_cmp-value).it a b ≡ above (key_of a) (key_of b)
unfolding above
greater_is a b = turn a.first b.first _ _ (turn a.second b.second _ _ (last a.third b.third))
