-- What the joined lines are: none is empty, starts with a blank or holds byte 10; the lines of the joined text are just these.
-- Assumes nothing.
use Prim.Native.Nat.{ℕ}
use mathlib.Core.Path.{◌≡◌, refl, ap, ◌∙◌}
use mathlib.Core.Bool.{Bool, true, false, cond, true≢false}
use mathlib.Core.List.{List, [], ◌∷◌, ◌++◌}
use lib.Dec.{eqb}
use Rattle.laws.specs.Stretches.{is_empty, All}
use Rattle.laws.proofs.Stretches.{all_append}
use Rattle.text.specs.Blanks.{is_blank, trim_start, before, trim_end, trim}
use Rattle.text.specs.Lines.{add_first, raw_lines, uncommented, kept, kept_of, kept_lines}
use Rattle.text.specs.Joining.{continued, all_but_last, part, gather, joined_from, logical_lines, ended, joined_text, Starts, Lacks, IsLine}
use Rattle.text.proofs.BlankLaws.{trim_end_all, trim_all}

-- ---- byte 10

add_first_lacks : (b : ℕ) (ls : List (List ℕ)) → eqb b 10 ≡ false → All (Lacks 10) ls → All (Lacks 10) (add_first b ls)
add_first_lacks b [] e p = ((e, tt), tt)
add_first_lacks b (l ∷ ls) e p = ((e, p.0), p.1)

raw_lacks : (text : List ℕ) → All (Lacks 10) (raw_lines text)
unfolding raw_lines
raw_lacks [] = tt
raw_lacks (b ∷ bs) = go (eqb b 10) refl (raw_lacks bs)
  where
    go : (t : Bool) → eqb b 10 ≡ t → All (Lacks 10) (raw_lines bs) → All (Lacks 10) (cond t ([] ∷ raw_lines bs) (add_first b (raw_lines bs)))
    go true e h = (tt, h)
    go false e h = add_first_lacks b (raw_lines bs) e h

module _ (P : ℕ → Type 0) where
  uncommented_all : (l : List ℕ) → All P l → All P (uncommented l)
  unfolding uncommented
  uncommented_all [] p = tt
  uncommented_all (b ∷ bs) p = go (eqb b 35) (uncommented_all bs p.1)
    where
      go : (t : Bool) → All P (uncommented bs) → All P (cond t [] (b ∷ uncommented bs))
      go true h = tt
      go false h = (p.0, h)

  kept_all : (l : List ℕ) → All P l → All P (kept l)
  unfolding kept
  kept_all l p = trim_all P (uncommented l) (uncommented_all l p)

  all_but_last_all : (l : List ℕ) → All P l → All P (all_but_last l)
  unfolding all_but_last
  all_but_last_all [] p = tt
  all_but_last_all (b ∷ []) p = tt
  all_but_last_all (b ∷ c ∷ cs) p = (p.0, all_but_last_all (c ∷ cs) p.1)

  part_all : (l : List ℕ) → All P l → All P (part l)
  unfolding part
  part_all l p = go (continued l)
    where
      go : (t : Bool) → All P (cond t (trim_end (all_but_last l)) l)
      go true = trim_end_all P (all_but_last l) (all_but_last_all l p)
      go false = p

gather_lacks : (current p : List ℕ) → Lacks 10 current → Lacks 10 p → Lacks 10 (gather current p)
unfolding gather
gather_lacks [] p c q = q
gather_lacks (x ∷ xs) p c q = all_append (λ b. eqb b 10 ≡ false) (x ∷ xs) (32 ∷ p) c (refl, q)

-- ---- the first byte

-- what is not empty starts with no blank
abbrev MayStart : List ℕ → Type 0
MayStart l = is_empty l ≡ false → Starts l

trim_start_starts : (l : List ℕ) → MayStart (trim_start l)
unfolding trim_start
trim_start_starts [] = λ h. absurd (true≢false h)
trim_start_starts (b ∷ bs) = go (is_blank b) refl (trim_start_starts bs)
  where
    go : (t : Bool) → is_blank b ≡ t → MayStart (trim_start bs) → MayStart (cond t (trim_start bs) (b ∷ bs))
    go true e h = h
    go false e h = λ _. e

trim_end_starts : (l : List ℕ) → Starts l → Starts (trim_end l)
unfolding trim_end
trim_end_starts [] s = absurd s
trim_end_starts (b ∷ bs) s = go (trim_end bs)
  where
    go : (m : List ℕ) → Starts (before b m)
    go [] = rw s s
    go (c ∷ cs) = s

trim_end_may : (l : List ℕ) → MayStart l → MayStart (trim_end l)
unfolding trim_end
trim_end_may [] m h = absurd (true≢false h)
trim_end_may (b ∷ bs) m h = trim_end_starts (b ∷ bs) (m refl)

kept_starts : (raw : List ℕ) → MayStart (kept raw)
unfolding kept trim
kept_starts raw = trim_end_may (trim_start (uncommented raw)) (trim_start_starts (uncommented raw))

all_but_last_may : (l : List ℕ) → Starts l → MayStart (all_but_last l)
unfolding all_but_last
all_but_last_may [] s h = absurd s
all_but_last_may (b ∷ []) s h = absurd (true≢false h)
all_but_last_may (b ∷ c ∷ cs) s h = s

part_may : (l : List ℕ) → Starts l → MayStart (part l)
unfolding part
part_may l s = go (continued l)
  where
    go : (t : Bool) → MayStart (cond t (trim_end (all_but_last l)) l)
    go true = trim_end_may (all_but_last l) (all_but_last_may l s)
    go false = λ _. s

part_starts : (l : List ℕ) → continued l ≡ false → Starts l → Starts (part l)
unfolding part
part_starts l e s = rw e s

gather_may : (current p : List ℕ) → MayStart current → MayStart p → MayStart (gather current p)
unfolding gather
gather_may [] p c q = q
gather_may (x ∷ xs) p c q = λ _. c refl

gather_starts : (current p : List ℕ) → MayStart current → Starts p → Starts (gather current p)
unfolding gather
gather_starts [] p c q = q
gather_starts (x ∷ xs) p c q = c refl

-- ---- the lines

-- a kept line, or what is gathered of such lines
record Gathered (l : List ℕ) : Type 0 where
  may : MayStart l
  lacks : Lacks 10 l

kept-lines : (raws : List (List ℕ)) → All (Lacks 10) raws → All IsLine (kept_of raws)
unfolding kept_of
kept-lines [] p = tt
kept-lines (raw ∷ rest) p = go (is_empty (kept raw)) refl (kept-lines rest p.1)
  where
    go : (t : Bool) → is_empty (kept raw) ≡ t → All IsLine (kept_of rest) → All IsLine (cond t (kept_of rest) (kept raw ∷ kept_of rest))
    go true e h = h
    go false e h = (record { starts = kept_starts raw e; lacks = kept_all (λ b. eqb b 10 ≡ false) raw p.0 }, h)

joined-lines : (current : List ℕ) (ls : List (List ℕ)) → Gathered current → All IsLine ls → All IsLine (joined_from current ls)
unfolding joined_from
joined-lines current [] g p = go (is_empty current) refl
  where
    go : (t : Bool) → is_empty current ≡ t → All IsLine (cond t [] (current ∷ []))
    go true e = tt
    go false e = (record { starts = g.may e; lacks = g.lacks }, tt)
joined-lines current (l ∷ ls) g p = go (continued l) refl (λ c h. joined-lines c ls h p.1)
  where
    more : Lacks 10 (gather current (part l))
    more = gather_lacks current (part l) g.lacks (part_all (λ b. eqb b 10 ≡ false) l p.0.lacks)

    go : (t : Bool) → continued l ≡ t → ((c : List ℕ) → Gathered c → All IsLine (joined_from c ls))
        → All IsLine (cond t (joined_from (gather current (part l)) ls) (gather current (part l) ∷ joined_from [] ls))
    go true e after = after (gather current (part l)) (record { may = gather_may current (part l) g.may (part_may l p.0.starts); lacks = more })
    go false e after = (
      record { starts = gather_starts current (part l) g.may (part_starts l e p.0.starts); lacks = more },
      after [] (record { may = λ h. absurd (true≢false h); lacks = tt }),
    )

-- a kept line, and a joined line, is not empty, starts with no blank and holds no byte 10
pub each-kept : (text : List ℕ) → All IsLine (kept_lines text)
unfolding kept_lines
each-kept text = kept-lines (raw_lines text) (raw_lacks text)

pub each_line : (text : List ℕ) → All IsLine (logical_lines text)
unfolding logical_lines
each_line text = joined-lines [] (kept_lines text) (record { may = λ h. absurd (true≢false h); lacks = tt }) (each-kept text)

-- ---- the lines of the joined text

raw_line : (l rest : List ℕ) → Lacks 10 l → raw_lines (l ++ (10 ∷ rest)) ≡ l ∷ raw_lines rest
unfolding raw_lines
raw_line [] rest p = refl
raw_line (b ∷ bs) rest p = rw p.0 (ap (add_first b) (raw_line bs rest p.1))

raw-ended : (ls : List (List ℕ)) → All IsLine ls → raw_lines (ended ls) ≡ ls
unfolding ended
raw-ended [] p = unfold raw_lines in refl
raw-ended (l ∷ ls) p = raw_line l (ended ls) p.0.lacks ∙ ap (λ (x : List (List ℕ)). l ∷ x) (raw-ended ls p.1)

pub lines_of_joined : (text : List ℕ) → raw_lines (joined_text text) ≡ logical_lines text
unfolding joined_text
lines_of_joined text = raw-ended (logical_lines text) (each_line text)
