-- Bytes of a whole list: the greatest of them, and words compared byte by byte.
-- Assumes nothing.
use Rattle.std.proofs.Math.Bool.{and-true, and_assoc}
use Prim.Native.Nat.{ℕ, ◌-◌, max}
use mathlib.Core.Path.{◌≡◌, refl, sym, ap, ap₂, ◌∙◌}
use mathlib.Core.Bool.{Bool, true, false, cond, ◌&&◌}
use mathlib.Core.List.{List, [], ◌∷◌, map}
use native.Mathlib.Omega.{arith}
use lib.Dec.{eqb, leb, ltb}
use lib.ListN.{length}
use borrow.Author.Tests.{leb-true, leb-false, ltb-true, ltb-false, lt-ltb, le-ltb}
use Rattle.std.specs.List.{fold, list_all, zip}
use Rattle.std.specs.Char.{to_ascii_uppercase}
use Rattle.std.specs.Cmp.Lexicographic.{pointwise}
use Rattle.laws.specs.Stretches.{same_bytes}
use Rattle.laws.proofs.Stretches.{other_length}
use Rattle.text.specs.declared.bytes.TheConstants.{ASCII_END}
use Rattle.text.specs.Bytes.{is_ascii, upper}

-- the greatest is ASCII where each is
below_max : (h b : ℕ) → ltb (max h b) ASCII_END ≡ ltb h ASCII_END && ltb b ASCII_END
below_max h b = go (ltb h ASCII_END) (ltb b ASCII_END) refl refl
  where
    go : (p q : Bool) → ltb h ASCII_END ≡ p → ltb b ASCII_END ≡ q → ltb (max h b) ASCII_END ≡ p && q
    go true true e f = lt-ltb (max h b) ASCII_END (omega (arith, ltb-true h ASCII_END e, ltb-true b ASCII_END f))
    go true false e f = le-ltb (max h b) ASCII_END (omega (arith, ltb-false b ASCII_END f))
    go false q e f = le-ltb (max h b) ASCII_END (omega (arith, ltb-false h ASCII_END e))

pub ascii_fold : (h : ℕ) (l : List ℕ) → ltb (fold max h l) ASCII_END ≡ ltb h ASCII_END && is_ascii l
unfolding is_ascii
ascii_fold h [] = sym (and-true (ltb h ASCII_END))
ascii_fold h (b ∷ bs) = ascii_fold (max h b) bs ∙ ap (λ (t : Bool). t && is_ascii bs) (below_max h b) ∙ and_assoc (ltb h ASCII_END) (ltb b ASCII_END) (is_ascii bs)

-- words compared, as `==` of slices does it, and as all pairs of a `zip`
pub same_pointwise : (x y : List ℕ) → pointwise eqb x y ≡ same_bytes x y
unfolding same_bytes
same_pointwise [] [] = refl
same_pointwise [] (y ∷ ys) = refl
same_pointwise (x ∷ xs) [] = refl
same_pointwise (x ∷ xs) (y ∷ ys) = ap (λ (t : Bool). eqb x y && t) (same_pointwise xs ys)

pub same_zipped : (f : ℕ → ℕ) (x y : List ℕ) → length x ≡ length y → list_all (λ (p : ℕ × ℕ). eqb (f p.0) p.1) (zip x y) ≡ same_bytes (map f x) y
unfolding same_bytes
same_zipped f [] [] e = refl
same_zipped f [] (y ∷ ys) e = absurd (omega (arith, e))
same_zipped f (x ∷ xs) [] e = absurd (omega (arith, e))
same_zipped f (x ∷ xs) (y ∷ ys) e = ap (λ (t : Bool). eqb (f x) y && t) (same_zipped f xs ys (omega (arith, e)))

pub other_lengths : (f : ℕ → ℕ) (x y : List ℕ) → (length x ≡ length y → ⊥) → false ≡ same_bytes (map f x) y
other_lengths f x y n = other_length (map f x) y (λ e. n (omega (arith, e, size x)))
  where
    size : (l : List ℕ) → length (map f l) ≡ length l
    size [] = refl
    size (b ∷ bs) = omega (arith, size bs)

-- capitals, as std makes them
uppercase : (b : ℕ) → to_ascii_uppercase b ≡ upper b
unfolding upper
uppercase b = go (leb 97 b) refl (leb b 122) refl
  where
    go : (s : Bool) → leb 97 b ≡ s → (t : Bool) → leb b 122 ≡ t → to_ascii_uppercase b ≡ cond (s && t) (b - 32) b
    go false e t f = rw (lt-ltb b 97 (leb-false 97 b e))
    go true e true f = rw (le-ltb b 97 (leb-true 97 b e), lt-ltb b 123 (omega (arith, leb-true b 122 f)))
    go true e false f = rw (le-ltb b 97 (leb-true 97 b e), le-ltb b 123 (omega (arith, leb-false b 122 f)))

pub same_uppercase : (x y : List ℕ) → same_bytes (map to_ascii_uppercase x) y ≡ same_bytes (map upper x) y
same_uppercase x y = ap (λ (l : List ℕ). same_bytes l y) (each x)
  where
    each : (l : List ℕ) → map to_ascii_uppercase l ≡ map upper l
    each [] = refl
    each (b ∷ bs) = ap₂ (λ (c : ℕ) (cs : List ℕ). c ∷ cs) (uppercase b) (each bs)
