-- Laws of the writing of the joined text.
-- Assumes nothing.
use Prim.Native.Nat.{ℕ, zero, suc, ◌+◌, ◌-◌, ◌≤◌}
use mathlib.Core.Path.{◌≡◌, refl, sym, ap, ◌∙◌}
use Rattle.std.proofs.Math.Bool.{and-true}
use mathlib.Core.Bool.{Bool, true, false, cond, not, ◌&&◌, ◌||◌, false≢true}
use mathlib.Core.List.{List, [], ◌∷◌, ◌++◌, map, append_assoc, append-nil}
use native.Mathlib.Omega.{arith}
use lib.ListN.{length, length-append, take, drop}
use lib.Seq.{length-take-le}
use lib.Dec.{eqb}
use borrow.Author.Tests.{eq-eqb, ne_eqb, eqb-true, eqb-false}
use Rattle.std.specs.Prelude.{Option}
use Rattle.std.specs.Bool.{then_some}
use Rattle.std.specs.List.{ends_with}
use Rattle.std.specs.Cmp.Lexicographic.{pointwise}
use Rattle.laws.proofs.Stretches.{empty-length}
use Rattle.text.specs.Blanks.{trim_end}
use Rattle.text.specs.Words.{bytes_of}
use Rattle.text.specs.Lines.{raw_lines, lines, kept}
use Rattle.text.specs.Joining.{continued, all_but_last, part, joined_text}
use Rattle.text.specs.Writing.{one_or_none, added, still, added_by, still_by, written, Puts}
use Rattle.text.specs.declared.words.Word.{Word}
use Rattle.text.proofs.LineLaws.{lines_bytes}
use Rattle.text.proofs.JoinLaws.{written-fits, joined-written}

-- ---- the part of a kept line

ends_cut : (l : List ℕ) (n : ℕ) → suc n ≡ length l → pointwise eqb (92 ∷ []) (drop n l) ≡ continued l
unfolding continued
ends_cut [] n e = absurd (omega arith)
ends_cut (b ∷ []) zero e = go (eqb 92 b) refl
  where
    go : (t : Bool) → eqb 92 b ≡ t → (eqb 92 b && true) ≡ eqb b 92
    go true e = rw (e, eq-eqb b 92 (sym (eqb-true 92 b e)))
    go false e = rw (e, ne_eqb b 92 (λ q. eqb-false 92 b e (sym q)))
ends_cut (b ∷ []) (suc n) e = absurd (omega arith)
ends_cut (b ∷ c ∷ cs) zero e = absurd (omega arith)
ends_cut (b ∷ c ∷ cs) (suc n) e = ends_cut (c ∷ cs) n (omega arith)

pub ends_continued : (l : List ℕ) → ends_with eqb l (92 ∷ []) ≡ continued l
unfolding continued
ends_continued [] = refl
ends_continued (b ∷ bs) = ends_cut (b ∷ bs) (length (b ∷ bs) - 1) (omega arith)

front_cut : (l : List ℕ) (n : ℕ) → suc n ≡ length l → take n l ≡ all_but_last l
unfolding all_but_last
front_cut [] n e = absurd (omega arith)
front_cut (b ∷ []) zero e = refl
front_cut (b ∷ []) (suc n) e = absurd (omega arith)
front_cut (b ∷ c ∷ cs) zero e = absurd (omega arith)
front_cut (b ∷ c ∷ cs) (suc n) e = ap (λ (x : List ℕ). b ∷ x) (front_cut (c ∷ cs) n (omega arith))

continued_some : (l : List ℕ) → continued l ≡ true → 1 ≤ length l
unfolding continued
continued_some [] e = absurd (false≢true e)
continued_some (b ∷ bs) e = omega arith

-- whether the last byte is `\`, as `strip_suffix` asks it
suffix_cut : (l : List ℕ) (n : ℕ) → suc n ≡ length l → pointwise eqb (drop n l) (92 ∷ []) ≡ continued l
unfolding continued
suffix_cut [] n e = absurd (omega arith)
suffix_cut (b ∷ []) zero e = and-true (eqb b 92)
suffix_cut (b ∷ []) (suc n) e = absurd (omega arith)
suffix_cut (b ∷ c ∷ cs) zero e = absurd (omega arith)
suffix_cut (b ∷ c ∷ cs) (suc n) e = suffix_cut (c ∷ cs) n (omega arith)

suffix_continued : (l : List ℕ) → pointwise eqb (drop (length l - 1) l) (92 ∷ []) ≡ continued l
unfolding continued
suffix_continued [] = refl
suffix_continued (b ∷ bs) = suffix_cut (b ∷ bs) (length (b ∷ bs) - 1) (omega arith)

pub part_continued : (l : List ℕ) → pointwise eqb (drop (length l - 1) l) (92 ∷ []) ≡ true → trim_end (take (length l - 1) l) ≡ part l
unfolding part
part_continued l h =
    let e : continued l ≡ true = sym (suffix_continued l) ∙ h in
    rw (e, front_cut l (length l - 1) (omega (arith, continued_some l e)))

pub part_whole : (l : List ℕ) → pointwise eqb (drop (length l - 1) l) (92 ∷ []) ≡ false → l ≡ part l
unfolding part
part_whole l h = rw (sym (suffix_continued l) ∙ h)

-- ---- what the functions that write put

pub one_if : (g : Bool) (b : ℕ) (o : Option ℕ) → o ≡ then_some g b → one_or_none o ≡ cond g (b ∷ []) []
unfolding one_or_none
one_if true b o e = rw e refl
one_if false b o e = rw e refl

pub puts_then : (a b c x y : List ℕ) (o p q : ℕ) → Puts a b o p x → Puts b c p q y → Puts a c o q (x ++ y)
puts_then a b c x y o p q u v =
    record {
      front = v.front ∙ ap (λ (l : List ℕ). l ++ y) u.front ∙ append_assoc (take o a) x y;
      count = omega (arith, length-append x y);
    }

-- ---- a kept line

module _ (g : Bool) (l : List ℕ) (out size : ℕ) (room : out + length (added g l) ≤ size) where
  sizes : out + (length {A = ℕ} (cond g (32 ∷ []) []) + (length (part l) + length {A = ℕ} (cond (not (continued l)) (10 ∷ []) []))) ≤ size
  unfolding added
  sizes = simp length-append at room

  pub room_space : out + length {A = ℕ} (cond g (32 ∷ []) []) ≤ size
  room_space = omega (arith, sizes)

  pub room-part : (a : ℕ) (x : List ℕ) → a ≡ out + length {A = ℕ} (cond g (32 ∷ []) []) → x ≡ part l → a + length x ≤ size
  room-part a x ea ex = rw ex (omega (arith, sizes))

  pub room_end : (a b : ℕ) (x : List ℕ) (more : Bool) → a ≡ out + length {A = ℕ} (cond g (32 ∷ []) []) → b ≡ a + length x → x ≡ part l → more ≡ continued l
      → b + length {A = ℕ} (cond (not more) (10 ∷ []) []) ≤ size
  room_end a b x more ea eb ex em = rw em (omega (arith, sizes, ap length ex))

pub line_done : (old spaced parted new l x : List ℕ) (g more : Bool) (o a b c : ℕ)
    → Puts old spaced o a (cond g (32 ∷ []) []) → Puts spaced parted a b x → Puts parted new b c (cond (not more) (10 ∷ []) []) → x ≡ part l → more ≡ continued l
    → Puts old new o c (added g l)
unfolding added
line_done old spaced parted new l x g more o a b c u v w ex em =
    rw (← ex, ← em) (puts_then old spaced new _ _ o a c u (puts_then spaced parted new _ _ a b c v w))

pub line_still : (l p : List ℕ) (g more r : Bool) → r ≡ (more && (g || not (eqb (length p) 0))) → more ≡ continued l → p ≡ part l → r ≡ still g l
unfolding still
line_still l p g more r er em ep = er ∙ rw (em, ep, empty-length (part l))

-- ---- a raw line of which nothing is kept, or something

pub raw-none : (raw x j : List ℕ) (g : Bool) (out : ℕ) → x ≡ kept raw → length x ≡ 0 → Puts j j out out (added_by g raw) × (g ≡ still_by g raw)
unfolding added_by still_by
raw-none raw [] j g out e z = rw (← e) (record { front = sym (append-nil (take out j)); count = omega arith }, refl)
raw-none raw (x ∷ xs) j g out e z = absurd (omega arith)

pub raw-some : (raw x : List ℕ) (g : Bool) → x ≡ kept raw → (length x ≡ 0 → ⊥) → (added_by g raw ≡ added g x) × (still_by g raw ≡ still g x)
unfolding added_by still_by
raw-some raw [] g e n = absurd (n refl)
raw-some raw (x ∷ xs) g e n = rw (← e) (refl, refl)

-- ---- the loop over the raw lines

-- what is still to be written of the lines that are left
abbrev pub left : Bool → List ℕ → List Word → List ℕ
left g t ls = written g (map (bytes_of t) ls)

pub left_start : (t : List ℕ) → left false t (lines 0 t) ≡ written false (raw_lines t)
left_start t = ap (written false) (lines_bytes t)

room_left : (j x y w : List ℕ) (out size : ℕ) → out ≤ length j → take out j ++ (x ++ y) ≡ w → length w ≤ size → out + length x ≤ size
room_left j x y w out size h e k =
    let q : length (take out j ++ (x ++ y)) ≡ length w = ap length e in
    let p : length (take out j) + (length x + length y) ≡ length w = simp length-append at q in
    omega (arith, length-take-le out j h)

after_put : (j new x y w : List ℕ) (out next : ℕ) → Puts j new out next x → take out j ++ (x ++ y) ≡ w → take next new ++ y ≡ w
after_put j new x y w out next p e = ap (λ (l : List ℕ). l ++ y) p.front ∙ append_assoc (take out j) x y ∙ e

module _ (t j : List ℕ) (out : ℕ) (g : Bool) (in_area_lem : out ≤ length j) where
  module _ (line : Word) (ls : List Word) (size : ℕ) (room : length t + 1 ≤ size)
      (so_far : take out j ++ left g t (line ∷ ls) ≡ written false (raw_lines t)) where
    turn_eq : take out j ++ (added_by g (bytes_of t line) ++ left (still_by g (bytes_of t line)) t ls) ≡ written false (raw_lines t)
    unfolding written
    turn_eq = so_far

    pub turn_room : out + length (added_by g (bytes_of t line)) ≤ size
    turn_room =
        omega (arith, room_left j (added_by g (bytes_of t line)) (left (still_by g (bytes_of t line)) t ls) (written false (raw_lines t)) out (length t + 1) in_area_lem turn_eq (written-fits t))

    pub turn_after : (new : List ℕ) (next : ℕ) (g' : Bool) → Puts j new out next (added_by g (bytes_of t line)) → g' ≡ still_by g (bytes_of t line)
        → take next new ++ left g' t ls ≡ written false (raw_lines t)
    turn_after new next g' p e =
        ap (λ (h : Bool). take next new ++ left h t ls) e
        ∙ after_put j new (added_by g (bytes_of t line)) (left (still_by g (bytes_of t line)) t ls) (written false (raw_lines t)) out next p turn_eq

  module _ (so_far : take out j ++ left g t [] ≡ written false (raw_lines t)) where
    end_eq : take out j ++ (cond g (10 ∷ []) [] ++ []) ≡ written false (raw_lines t)
    unfolding written
    end_eq = rw append-nil so_far

    pub end_room : out + length {A = ℕ} (cond g (10 ∷ []) []) ≤ length t + 1
    end_room = room_left j (cond g (10 ∷ []) []) [] _ out (length t + 1) in_area_lem end_eq (written-fits t)

    pub end_after : (new : List ℕ) (next : ℕ) → Puts j new out next (cond g (10 ∷ []) []) → take next new ≡ joined_text t
    end_after new next p = sym (append-nil (take next new)) ∙ after_put j new (cond g (10 ∷ []) []) [] _ out next p end_eq ∙ sym (joined-written t)
