-- Laws of lines: the next line of a text, what is kept of it, and the next kept line.
-- Assumes nothing.
use Prim.Native.Nat.{ℕ, zero, suc, ◌+◌, ◌-◌, ◌≤◌, ◌<◌, min}
use mathlib.Core.Path.{◌≡◌, refl, sym, ap, ap₂, ◌∙◌}
use mathlib.Core.Bool.{Bool, true, false, cond}
use mathlib.Core.List.{List, [], ◌∷◌, map}
use native.Mathlib.Omega.{arith}
use lib.ListN.{length, get_or, take, drop}
use lib.Dec.{eqb, ltb}
use borrow.Author.Tests.{ltb-true, ltb-false}
use Rattle.laws.specs.Stretches.{stretch, run, is_not, is_empty}
use Rattle.laws.proofs.Stretches.{rest_end, part_step, head_step, stretch-none, stretch_all, take-stretch, drop-part, run_length, length-stretch, length-stretch_le}
use Rattle.text.specs.Blanks.{trim}
use Rattle.text.specs.Words.{bytes_of}
use Rattle.text.specs.Lines.{add_first, raw_lines, places, lines, uncommented, kept, kept_of, FirstComment, EarlierComment}
use Rattle.text.proofs.RunLaws.{run_take, pass_near}
use Rattle.text.specs.declared.words.Word.{Word}

-- ---- lines at byte 10

-- the first line and those after its byte 10
pub raw-first : (b : ℕ) (bs : List ℕ) → let l = b ∷ bs in raw_lines l ≡ take (run (is_not 10) l) l ∷ raw_lines (drop (suc (run (is_not 10) l)) l)
unfolding raw_lines run
raw-first b [] = go (eqb b 10) refl
  where
    go : (t : Bool) → eqb b 10 ≡ t → raw_lines (b ∷ []) ≡ take (run (is_not 10) (b ∷ [])) (b ∷ []) ∷ raw_lines (drop (suc (run (is_not 10) (b ∷ []))) (b ∷ []))
    go true e = rw e
    go false e = rw e
raw-first b (c ∷ cs) = go (eqb b 10) refl (raw-first c cs)
  where
    go : (t : Bool) → eqb b 10 ≡ t → raw_lines (c ∷ cs) ≡ take (run (is_not 10) (c ∷ cs)) (c ∷ cs) ∷ raw_lines (drop (suc (run (is_not 10) (c ∷ cs))) (c ∷ cs))
        → raw_lines (b ∷ c ∷ cs) ≡ take (run (is_not 10) (b ∷ c ∷ cs)) (b ∷ c ∷ cs) ∷ raw_lines (drop (suc (run (is_not 10) (b ∷ c ∷ cs))) (b ∷ c ∷ cs))
    go true e h = rw e
    go false e h = rw e (ap (add_first b) h)

-- the same of a stretch, where a search for byte 10 gave `e`
module _ (t : List ℕ) (at size e : ℕ) (h : at < size) (k : size ≤ length t) (le : e ≡ at + run (is_not 10) (stretch t at (size - at))) where
  le_size : e ≤ size
  le_size = omega (arith, le, run_length (is_not 10) (stretch t at (size - at)), length-stretch_le t at (size - at))

  pub raw-next : raw_lines (stretch t at (size - at)) ≡ stretch t at (e - at) ∷ raw_lines (stretch t (e + 1) (size - (e + 1)))
  raw-next =
      let l : List ℕ = stretch t at (size - at) in
      let n : ℕ = run (is_not 10) l in
      let q : n ≡ e - at = omega (arith, le) in
      let r : at + suc n ≡ e + 1 = omega (arith, le) in
      let s : e - at ≤ size - at = omega (arith, le_size) in
      first (get_or t at 0) (stretch t (at + 1) (size - (at + 1))) l (part_step t at size h k)
      ∙ ap₂ (λ (x y : List ℕ). x ∷ raw_lines y)
      (ap (λ (m : ℕ). take m l) q ∙ take-stretch (e - at) t at (size - at) s)
      (drop-part (suc n) t at size ∙ ap (λ (m : ℕ). stretch t m (size - m)) r)
    where
      first : (b : ℕ) (bs l : List ℕ) → l ≡ b ∷ bs → raw_lines l ≡ take (run (is_not 10) l) l ∷ raw_lines (drop (suc (run (is_not 10) l)) l)
      first b bs l e = rw e (raw-first b bs)

  pub line_next : lines at (stretch t at (size - at)) ≡ record { start = at; len = e - at } ∷ lines (e + 1) (stretch t (e + 1) (size - (e + 1)))
  unfolding lines places
  line_next =
      let z : at ≤ e = omega (arith, le) in
      let q : length (stretch t at (e - at)) ≡ e - at = length-stretch t at (e - at) (omega (arith, le_size)) in
      let r : at + (e - at) + 1 ≡ e + 1 = omega arith in
      rw (raw-next, q, r)

pub lines_over : (t : List ℕ) (at size : ℕ) → size ≤ at → lines at (stretch t at (size - at)) ≡ []
unfolding lines places raw_lines
lines_over t at size h = rw (rest_end t at size at h)

-- the lines by their bytes
lines_bytes_within : (k : ℕ) (t : List ℕ) (at : ℕ) → length t ≤ at + k → map (bytes_of t) (lines at (stretch t at (length t - at))) ≡ raw_lines (stretch t at (length t - at))
unfolding raw_lines
lines_bytes_within zero t at h = rw (lines_over t at (length t) (omega arith), rest_end t at (length t) at (omega arith)) refl
lines_bytes_within (suc k) t at h =
    go (ltb at (length t)) refl (λ n later. lines_bytes_within k t n later)
  where
    go : (b : Bool) → ltb at (length t) ≡ b
        → ((n : ℕ) → length t ≤ n + k → map (bytes_of t) (lines n (stretch t n (length t - n))) ≡ raw_lines (stretch t n (length t - n)))
        → map (bytes_of t) (lines at (stretch t at (length t - at))) ≡ raw_lines (stretch t at (length t - at))
    go false e after =
        let over : length t ≤ at = omega (arith, ltb-false at (length t) e) in
        rw (lines_over t at (length t) over, rest_end t at (length t) at over) refl
    go true e after =
        let in_text : at < length t = ltb-true at (length t) e in
        let n : ℕ = at + run (is_not 10) (stretch t at (length t - at)) in
        rw (line_next t at (length t) n in_text (omega arith) refl, raw-next t at (length t) n in_text (omega arith) refl)
        (ap (λ (ls : List (List ℕ)). stretch t at (n - at) ∷ ls) (after (n + 1) (omega arith)))

pub lines_bytes_from : (t : List ℕ) (at : ℕ) → map (bytes_of t) (lines at (stretch t at (length t - at))) ≡ raw_lines (stretch t at (length t - at))
lines_bytes_from t at = lines_bytes_within (length t) t at (omega arith)

pub lines_bytes : (t : List ℕ) → map (bytes_of t) (lines 0 t) ≡ raw_lines t
lines_bytes t = rw (stretch_all t 0 (length t) refl) at (lines_bytes_from t 0)

pub lines_start : (t : List ℕ) → lines 0 (stretch t 0 (length t - 0)) ≡ lines 0 t
lines_start t = ap (lines 0) (stretch_all t 0 (length t) refl)

-- ---- what is kept of a line

uncommented-run : (l : List ℕ) → uncommented l ≡ take (run (is_not 35) l) l
unfolding uncommented run
uncommented-run [] = refl
uncommented-run (b ∷ bs) = go (eqb b 35) refl (uncommented-run bs)
  where
    go : (t : Bool) → eqb b 35 ≡ t → uncommented bs ≡ take (run (is_not 35) bs) bs → uncommented (b ∷ bs) ≡ take (run (is_not 35) (b ∷ bs)) (b ∷ bs)
    go true e h = rw e
    go false e h = rw e (ap (λ (l : List ℕ). b ∷ l) h)

pub kept_made : (t : List ℕ) (line : Word) (cut : ℕ) (w : Word) → cut ≡ line.start + run (is_not 35) (stretch t line.start (line.start + line.len - line.start))
    → cut ≤ line.start + line.len → bytes_of t w ≡ trim (stretch t line.start (cut - line.start)) → bytes_of t w ≡ kept (bytes_of t line)
unfolding kept
kept_made t line cut w pc ce pw =
    let same : line.start + line.len - line.start ≡ line.len = omega arith in
    let e : cut ≡ line.start + run (is_not 35) (bytes_of t line) = pc ∙ ap (λ (n : ℕ). line.start + run (is_not 35) (stretch t line.start n)) same in
    let c : cut - line.start ≡ run (is_not 35) (bytes_of t line) = omega (arith, e) in
    let u : uncommented (bytes_of t line) ≡ stretch t line.start (cut - line.start) =
    uncommented-run (bytes_of t line) ∙ ap (λ (j : ℕ). take j (bytes_of t line)) (sym c) ∙ take-stretch (cut - line.start) t line.start line.len (omega arith) in
    rw u pw

-- ---- the first `#` from a place on

-- the first of the text cuts the line, if it lies in it
pub comment_in : (t : List ℕ) (from end comment cut : ℕ) → from ≤ end → end ≤ length t → FirstComment t from comment → cut ≡ min comment end
    → cut ≡ from + run (is_not 35) (stretch t from (end - from))
unfolding stretch
comment_in t from end comment cut fe el first e =
    let n = run (is_not 35) (drop from t) in
    let a : run (is_not 35) (take (length t - from) (drop from t)) ≡ min (length t - from) n = run_take (is_not 35) (length t - from) (drop from t) in
    let b : run (is_not 35) (take (end - from) (drop from t)) ≡ min (end - from) n = run_take (is_not 35) (end - from) (drop from t) in
    omega (arith, fe, el, first, e, a, b)

-- the one from an earlier place on, if it isn't passed
pub comment_on : (t : List ℕ) (at comment : ℕ) → at ≤ length t → EarlierComment t at comment → at ≤ comment → FirstComment t at comment
comment_on t at comment al e h =
    let from = e.from in
    let i = from + run (is_not 35) (stretch t from (at - from)) in
    let n = run (is_not 35) (drop from t) in
    let a : run (is_not 35) (stretch t from (length t - from)) ≡ min (length t - from) n = unfold stretch in run_take (is_not 35) (length t - from) (drop from t) in
    let b : run (is_not 35) (stretch t from (at - from)) ≡ min (at - from) n = unfold stretch in run_take (is_not 35) (at - from) (drop from t) in
    e.first ∙ sym (pass_near (is_not 35) t from at (length t) e.before al i refl (omega (arith, e.before, al, e.first, h, a, b)))

-- ---- kept lines

-- the raw line that an iterator gave, and those after it
pub raw_after : (t : List ℕ) (at next : ℕ) (line : Word) → lines at (stretch t at (length t - at)) ≡ line ∷ lines next (stretch t next (length t - next))
    → raw_lines (drop at t) ≡ bytes_of t line ∷ raw_lines (drop next t)
raw_after t at next line e =
    let bytes : raw_lines (stretch t at (length t - at)) ≡ bytes_of t line ∷ raw_lines (stretch t next (length t - next)) =
    sym (lines_bytes_from t at) ∙ ap (map (bytes_of t)) e ∙ ap (λ (ls : List (List ℕ)). bytes_of t line ∷ ls) (lines_bytes_from t next) in
    rw (stretch_all t at (length t) refl, stretch_all t next (length t) refl) at bytes

module _ (t : List ℕ) (raws rest : List (List ℕ)) (line w : Word) (raw : raws ≡ bytes_of t line ∷ rest)
    (k : bytes_of t w ≡ kept (bytes_of t line)) (b : w.start + w.len ≤ length t) where
  line_is : kept_of raws ≡ cond (is_empty (bytes_of t w)) (kept_of rest) (bytes_of t w ∷ kept_of rest)
  unfolding kept_of
  line_is = rw (raw, ← k)

  pub line_none : w.len ≡ 0 → kept_of raws ≡ kept_of rest
  line_none z = line_is ∙ rw (stretch-none t w.start w.len z)

  pub line_some : (w.len ≡ 0 → ⊥) → kept_of raws ≡ bytes_of t w ∷ kept_of rest
  line_some z =
      let f : is_empty (bytes_of t w) ≡ false = rw (head_step t w.start w.len (omega arith) b) in
      line_is ∙ rw f

pub no_lines : (t : List ℕ) (at : ℕ) → lines at (stretch t at (length t - at)) ≡ [] → kept_of (raw_lines (drop at t)) ≡ []
unfolding kept_of
no_lines t at e =
    let none : raw_lines (stretch t at (length t - at)) ≡ [] = sym (lines_bytes_from t at) ∙ ap (map (bytes_of t)) e in
    ap kept_of (rw (stretch_all t at (length t) refl) at none)
