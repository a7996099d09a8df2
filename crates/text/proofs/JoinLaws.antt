-- Laws of the joined lines: the joined text as it is written, and its length.
-- Assumes nothing.
use Prim.Native.Nat.{ℕ, suc, ◌+◌, ◌≤◌}
use mathlib.Core.Path.{◌≡◌, refl, ap, ◌∙◌}
use mathlib.Core.Bool.{Bool, true, false, cond, not, ◌&&◌, ◌||◌}
use mathlib.Core.List.{List, [], ◌∷◌, ◌++◌, append_assoc, append-nil}
use native.Mathlib.Omega.{arith}
use lib.ListN.{length, length-append}
use lib.Dec.{eqb}
use Rattle.laws.specs.Stretches.{is_empty}
use Rattle.text.specs.Blanks.{trim, trim_end}
use Rattle.text.specs.Lines.{add_first, raw_lines, uncommented, kept, kept_of, kept_lines}
use Rattle.text.specs.Joining.{continued, all_but_last, part, gather, joined_from, logical_lines, ended, joined_text}
use Rattle.text.specs.Writing.{added, still, added_by, still_by, written}
use Rattle.text.proofs.BlankLaws.{trim_end-length, trim-length}

-- ---- each step takes bytes away

uncommented-length : (l : List ℕ) → length (uncommented l) ≤ length l
unfolding uncommented
uncommented-length [] = omega arith
uncommented-length (b ∷ bs) = go (eqb b 35) (uncommented-length bs)
  where
    go : (t : Bool) → length (uncommented bs) ≤ length bs → length (cond t [] (b ∷ uncommented bs)) ≤ suc (length bs)
    go true h = omega arith
    go false h = omega arith

all_but_last-length : (l : List ℕ) → length (all_but_last l) ≤ length l
unfolding all_but_last
all_but_last-length [] = omega arith
all_but_last-length (b ∷ []) = omega arith
all_but_last-length (b ∷ c ∷ cs) = omega (arith, all_but_last-length (c ∷ cs))

part_length : (l : List ℕ) → length (part l) ≤ length l
unfolding part
part_length l = go (continued l)
  where
    go : (t : Bool) → length (cond t (trim_end (all_but_last l)) l) ≤ length l
    go true = omega (arith, trim_end-length (all_but_last l), all_but_last-length l)
    go false = omega arith

kept-length : (raw : List ℕ) → length (part (kept raw)) ≤ length raw
unfolding kept
kept-length raw = omega (arith, part_length (trim (uncommented raw)), trim-length (uncommented raw), uncommented-length raw)

-- what raw lines take in the text, each with its byte 10
weight : List (List ℕ) → ℕ
weight [] = 0
weight (l ∷ ls) = suc (length l) + weight ls

add_first_weight : (b n : ℕ) (ls : List (List ℕ)) → weight ls ≤ n + 1 → weight (add_first b ls) ≤ suc n + 1
unfolding weight
add_first_weight b n [] h = omega arith
add_first_weight b n (l ∷ ls) h = omega arith

-- the last line may lack its byte 10
raw_weight : (text : List ℕ) → weight (raw_lines text) ≤ length text + 1
unfolding weight raw_lines
raw_weight [] = omega arith
raw_weight (b ∷ bs) = go (eqb b 10) (raw_weight bs)
  where
    go : (t : Bool) → weight (raw_lines bs) ≤ length bs + 1 → weight (cond t ([] ∷ raw_lines bs) (add_first b (raw_lines bs))) ≤ suc (length bs) + 1
    go true h = omega arith
    go false h = add_first_weight b (length bs) (raw_lines bs) h

added-length : (g : Bool) (l : List ℕ) → length (added g l) ≤ cond g 1 0 + length (part l) + cond (continued l) 0 1
unfolding added
added-length g l = simp length-append (omega (arith, one g, two (continued l)))
  where
    one : (t : Bool) → length {A = ℕ} (cond t (32 ∷ []) []) ≡ cond t 1 0
    one true = refl
    one false = refl

    two : (t : Bool) → length {A = ℕ} (cond (not t) (10 ∷ []) []) ≡ cond t 0 1
    two true = refl
    two false = refl

still_more : (g : Bool) (l : List ℕ) → cond (still g l) 1 0 + cond (continued l) 0 1 ≤ 1
unfolding still
still_more g l = go (continued l) (g || not (is_empty (part l)))
  where
    go : (c r : Bool) → cond (c && r) 1 0 + cond c 0 1 ≤ 1
    go true true = omega arith
    go true false = omega arith
    go false true = omega arith
    go false false = omega arith

by_length : (g : Bool) (raw : List ℕ) → length (added_by g raw) + cond (still_by g raw) 1 0 ≤ cond g 1 0 + suc (length raw)
unfolding added_by still_by
by_length g raw = go (is_empty (kept raw))
  where
    go : (t : Bool) → length (cond t [] (added g (kept raw))) + cond (cond t g (still g (kept raw))) 1 0 ≤ cond g 1 0 + suc (length raw)
    go true = omega arith
    go false = omega (arith, added-length g (kept raw), kept-length raw, still_more g (kept raw))

written-length : (g : Bool) (ls : List (List ℕ)) → length (written g ls) ≤ cond g 1 0 + weight ls
unfolding written weight
written-length true [] = omega arith
written-length false [] = omega arith
written-length g (raw ∷ rest) = simp length-append (omega (arith, by_length g raw, written-length (still_by g raw) rest))

pub written-fits : (text : List ℕ) → length (written false (raw_lines text)) ≤ length text + 1
written-fits text = omega (arith, written-length false (raw_lines text), raw_weight text)

-- ---- the joined lines, as they are written

gather-true : (current l x : List ℕ) → continued l ≡ true → gather current (part l) ++ x ≡ current ++ (added (not (is_empty current)) l ++ x)
unfolding added gather
gather-true [] l x e = simp (e, append-nil)
gather-true (c ∷ cs) l x e = simp (e, append-nil, append_assoc)

gather-false : (current l x : List ℕ) → continued l ≡ false → gather current (part l) ++ (10 ∷ x) ≡ current ++ (added (not (is_empty current)) l ++ x)
unfolding added gather
gather-false [] l x e = simp (e, append_assoc)
gather-false (c ∷ cs) l x e = simp (e, append_assoc)

still-true : (current l : List ℕ) → continued l ≡ true → not (is_empty (gather current (part l))) ≡ still (not (is_empty current)) l
unfolding still gather
still-true [] l e = rw e
still-true (c ∷ cs) l e = rw e

still_false : (g : Bool) (l : List ℕ) → continued l ≡ false → still g l ≡ false
unfolding still
still_false g l e = rw e

written_is : (current : List ℕ) (ls : List (List ℕ)) → ended (joined_from current (kept_of ls)) ≡ current ++ written (not (is_empty current)) ls
unfolding ended joined_from kept_of written added_by still_by
written_is [] [] = refl
written_is (c ∷ cs) [] = refl
written_is current (raw ∷ rest) =
    go (is_empty (kept raw)) (continued (kept raw)) refl (written_is current rest) (written_is (gather current (part (kept raw))) rest) (written_is [] rest)
  where
    go : (t c : Bool) → continued (kept raw) ≡ c
        → ended (joined_from current (kept_of rest)) ≡ current ++ written (not (is_empty current)) rest
        → ended (joined_from (gather current (part (kept raw))) (kept_of rest)) ≡ gather current (part (kept raw)) ++ written (not (is_empty (gather current (part (kept raw))))) rest
        → ended (joined_from [] (kept_of rest)) ≡ written false rest
        → ended (joined_from current (cond t (kept_of rest) (kept raw ∷ kept_of rest)))
        ≡ current ++ (cond t [] (added (not (is_empty current)) (kept raw)) ++ written (cond t (not (is_empty current)) (still (not (is_empty current)) (kept raw))) rest)
    go true c e h k z = h
    go false true e h k z =
        rw e (k ∙ ap (λ (g : Bool). gather current (part (kept raw)) ++ written g rest) (still-true current (kept raw) e) ∙ gather-true current (kept raw) _ e)
    go false false e h k z = rw (e, z, still_false (not (is_empty current)) (kept raw) e) (gather-false current (kept raw) (written false rest) e)

pub joined-written : (text : List ℕ) → joined_text text ≡ written false (raw_lines text)
unfolding joined_text logical_lines kept_lines
joined-written text = written_is [] (raw_lines text)

-- the joined text is at most the text and one byte
pub joined_length : (text : List ℕ) → length (joined_text text) ≤ length text + 1
joined_length text = rw (joined-written text) (written-fits text)
