-- The lines that the reader goes by, against the text's logical lines: their bytes, their words, their directives and their rows.
-- Assumes nothing.
use Prim.Native.Nat.{ℕ, zero, suc, ◌+◌, ◌-◌, ◌≤◌, ◌<◌}
use mathlib.Core.Path.{◌≡◌, refl, sym, ap, ◌∙◌, subst}
use mathlib.Core.Bool.{Bool, true, false, cond}
use mathlib.Core.List.{List, [], ◌∷◌, map}
use native.Mathlib.Nat.{add-zero}
use native.Mathlib.Decide.{dec_lt}
use native.Mathlib.Omega.{arith}
use lib.ListN.{length, take}
use Rattle.laws.specs.Stretches.{stretch, run, is_not, same_bytes, All}
use Rattle.laws.proofs.Stretches.{rest_end, head_step, stretch-none, stretch_all, run_length, length-stretch_le, all_map, same_eq}
use Rattle.text.specs.Blanks.{is_blank}
use Rattle.text.specs.Words.{words, within, bytes_of, split_whitespace}
use Rattle.text.specs.Lines.{raw_lines, lines, line_words}
use Rattle.text.specs.Joining.{logical_lines, joined_text, Starts, IsLine}
use Rattle.text.specs.declared.words.Word.{Word}
use Rattle.text.proofs.WordLaws.{words_bytes, each_word}
use Rattle.text.proofs.LineLaws.{raw-next, line_next, lines_over}
use Rattle.text.proofs.JoinedLines.{each_line, lines_of_joined}
use Rattle.cover.specs.declared.directives.Directive.{Directive}
use Rattle.cover.specs.declared.directives.Directive.TheVariants.{Ignored, Inputs, Outputs, Names, Other}
use Rattle.cover.specs.Directives.{model, the_end, inputs, outputs, names, directive, dotted, first_of, directive_of, rows_of}
use Rattle.documents.specs.BlifDocument.{first_word, is_line_of, starts_with_dot, cover_after}
use Rattle.documents.proofs.BlifCover.{Inside, row_bytes}

-- ---- the bytes of the lines

abbrev InText : List ℕ → Word → Type 0
InText t l = l.start + l.len ≤ length t

record LinesFrom (t : List ℕ) (at : ℕ) : Type 0 where
  bytes : map (bytes_of t) (lines at (stretch t at (length t - at))) ≡ raw_lines (stretch t at (length t - at))
  inside : All (InText t) (lines at (stretch t at (length t - at)))

lines_none : (t : List ℕ) (at : ℕ) → length t ≤ at → LinesFrom t at
lines_none t at h = record {
  bytes = rw (lines_over t at (length t) h, rest_end t at (length t) at h) (unfold raw_lines in refl);
  inside = rw (lines_over t at (length t) h) tt;
}

lines_up_to : (fuel : ℕ) (t : List ℕ) (at : ℕ) → length t - at ≤ fuel → LinesFrom t at
lines_up_to zero t at h = lines_none t at (omega arith)
lines_up_to (suc fuel) t at h = go (dec_lt at (length t)) (λ next k. lines_up_to fuel t next k)
  where
    go : Dec (at < length t) → ((next : ℕ) → length t - next ≤ fuel → LinesFrom t next) → LinesFrom t at
    go (no n) rest = lines_none t at (omega arith)
    go (yes l) rest =
        let e : ℕ = at + run (is_not 10) (stretch t at (length t - at)) in
        let k : e ≤ length t = omega (arith, run_length (is_not 10) (stretch t at (length t - at)), length-stretch_le t at (length t - at)) in
        let r = rest (e + 1) (omega arith) in
        record {
          bytes = rw (line_next t at (length t) e l (omega arith) refl, raw-next t at (length t) e l (omega arith) refl) (ap (λ (x : List (List ℕ)). stretch t at (e - at) ∷ x) r.bytes);
          inside = rw (line_next t at (length t) e l (omega arith) refl) (omega (arith, k), r.inside);
        }

lines_all : (t : List ℕ) → (map (bytes_of t) (lines 0 t) ≡ raw_lines t) × All (InText t) (lines 0 t)
lines_all t =
    let r = lines_up_to (length t) t 0 (omega arith) in
    let e : stretch t 0 (length t - 0) ≡ t = stretch_all t 0 (length t) refl in
    (rw e at r.bytes, rw e at r.inside)

-- a line of a joined text: inside it, and a line by its bytes
pub record LineOk (t : List ℕ) (l : Word) : Type 0 where
  pub inside : l.start + l.len ≤ length t
  pub line : IsLine (bytes_of t l)

both_facts : (t : List ℕ) (ls : List Word) → All (InText t) ls → All IsLine (map (bytes_of t) ls) → All (LineOk t) ls
both_facts t [] p q = tt
both_facts t (l ∷ ls) p q = (record { inside = p.0; line = q.0 }, both_facts t ls p.1 q.1)

pub joined_bytes : (text : List ℕ) → map (bytes_of (joined_text text)) (lines 0 (joined_text text)) ≡ logical_lines text
joined_bytes text = (lines_all (joined_text text)).0 ∙ lines_of_joined text

pub joined_ok : (text : List ℕ) → All (LineOk (joined_text text)) (lines 0 (joined_text text))
joined_ok text = both_facts (joined_text text) (lines 0 (joined_text text)) (lines_all (joined_text text)).1 (rw (joined_bytes text) (each_line text))

-- ---- a line's first byte and its words

-- a word that has begun goes on from its place
within_first : (s n : ℕ) (l : List ℕ) → (m : ℕ) × (rest : List Word) × (within s n l ≡ record { start = s; len = n + m } ∷ rest)
unfolding words
within_first s n [] = (0, [], rw (add-zero n))
within_first s n (c ∷ cs) = go (is_blank c) (within_first s (suc n) cs)
  where
    go : (b : Bool) → (m : ℕ) × (rest : List Word) × (within s (suc n) cs ≡ record { start = s; len = suc n + m } ∷ rest)
        → (m : ℕ) × (rest : List Word) × (cond b (record { start = s; len = n } ∷ words (s + suc n) cs) (within s (suc n) cs) ≡ record { start = s; len = n + m } ∷ rest)
    go true f = (0, words (s + suc n) cs, rw (add-zero n))
    go false f =
        let e : suc n + f.0 ≡ n + suc f.0 = omega arith in
        (suc f.0, f.1, f.2 ∙ ap (λ (k : ℕ). record { start = s; len = k } ∷ f.1) e)

-- the first word of a line that starts with no blank starts with its first byte
line_first : (b : ℕ) (bs : List ℕ) → is_blank b ≡ false → (x : List ℕ) × (first_word (split_whitespace (b ∷ bs)) ≡ b ∷ x)
unfolding split_whitespace words stretch
line_first b bs h =
    let f = within_first 0 1 bs in
    let e : 1 + f.0 ≡ suc f.0 = omega arith in
    (take f.0 bs, rw (h, f.2, e))

pub no_directive : (l : List ℕ) → IsLine l → starts_with_dot l ≡ false → (d : List ℕ) → is_line_of (46 ∷ d) l ≡ false
unfolding same_bytes
no_directive [] is nd d = absurd is.starts
no_directive (b ∷ bs) is nd d = let f = line_first b bs is.starts in rw (f.1, nd)

module _ (t : List ℕ) (l : Word) (ok : LineOk t l) where
  some_bytes : 0 < l.len
  some_bytes = go l.len refl
    where
      go : (n : ℕ) → l.len ≡ n → 0 < l.len
      go zero z = absurd (subst (λ (x : List ℕ). Starts x) (stretch-none t l.start l.len z) ok.line.starts)
      go (suc n) z = omega arith

  pub dot_is : starts_with_dot (bytes_of t l) ≡ dotted t l
  dot_is = rw (head_step t l.start l.len some_bytes ok.inside)

  pub words_are : split_whitespace (bytes_of t l) ≡ map (bytes_of t) (line_words t l)
  words_are = sym (words_bytes t l.start l.len)

  pub words_inside : All (λ (w : Word). w.start + w.len ≤ length t) (line_words t l)
  words_inside =
      let e : l.start + l.len - l.start ≡ l.len = omega arith in
      let a = each_word t l.start (l.start + l.len) in
      all_map (line_words t l) (λ w q. omega (arith, q.inside, ok.inside)) (rw e at a)

  first_is : first_word (split_whitespace (bytes_of t l)) ≡ first_of t (line_words t l)
  first_is = ap first_word words_are ∙ go (line_words t l)
    where
      go : (ws : List Word) → first_word (map (bytes_of t) ws) ≡ first_of t ws
      go [] = refl
      go (w ∷ ws) = refl

-- ---- which directive a word is

abbrev pub is_inputs : Directive → Bool
is_inputs Ignored = false
is_inputs Inputs = true
is_inputs Outputs = false
is_inputs Names = false
is_inputs Other = false

abbrev pub is_outputs : Directive → Bool
is_outputs Ignored = false
is_outputs Inputs = false
is_outputs Outputs = true
is_outputs Names = false
is_outputs Other = false

abbrev pub is_names : Directive → Bool
is_names Ignored = false
is_names Inputs = false
is_names Outputs = false
is_names Names = true
is_names Other = false

-- the document's tests of a line's first word agree with its directive
record Kinds (w : List ℕ) (d : Directive) : Type 0 where
  of_inputs : same_bytes w inputs ≡ is_inputs d
  of_outputs : same_bytes w outputs ≡ is_outputs d
  of_names : same_bytes w names ≡ is_names d

kinds : (w : List ℕ) → Kinds w (directive w)
unfolding directive same_bytes
kinds w = go (same_bytes w model) refl (same_bytes w the_end) refl (same_bytes w inputs) refl (same_bytes w outputs) refl (same_bytes w names) refl
  where
    at : (d : List ℕ) → same_bytes w d ≡ true → same_bytes d inputs ≡ is_inputs (directive d) → same_bytes d outputs ≡ is_outputs (directive d) → same_bytes d names ≡ is_names (directive d)
        → Kinds w (directive w)
    at d e i o n = rw (same_eq w d e) (record { of_inputs = i; of_outputs = o; of_names = n })

    go : (a : Bool) → same_bytes w model ≡ a → (b : Bool) → same_bytes w the_end ≡ b → (c : Bool) → same_bytes w inputs ≡ c → (d : Bool) → same_bytes w outputs ≡ d → (e : Bool) → same_bytes w names ≡ e
        → Kinds w (directive w)
    go true p b q c r d s e u = at model p refl refl refl
    go false p true q c r d s e u = at the_end q refl refl refl
    go false p false q true r d s e u = at inputs r refl refl refl
    go false p false q false r true s e u = at outputs s refl refl refl
    go false p false q false r false s true u = at names u refl refl refl
    go false p false q false r false s false u =
        let z : directive w ≡ Other = rw (p, q, r, s, u) in
        record { of_inputs = rw z r; of_outputs = rw z s; of_names = rw z u }

module _ (t : List ℕ) (l : Word) (ok : LineOk t l) where
  kinds_of : Kinds (first_word (split_whitespace (bytes_of t l))) (directive_of t l)
  kinds_of = unfold directive_of in rw (first_is t l ok) (kinds (first_of t (line_words t l)))

  pub inputs_line : is_line_of inputs (bytes_of t l) ≡ is_inputs (directive_of t l)
  inputs_line = kinds_of.of_inputs

  pub outputs_line : is_line_of outputs (bytes_of t l) ≡ is_outputs (directive_of t l)
  outputs_line = kinds_of.of_outputs

  pub names-line : is_line_of names (bytes_of t l) ≡ is_names (directive_of t l)
  names-line = kinds_of.of_names

-- ---- the rows after a line

pub rows_are : (t : List ℕ) (ls : List Word) → All (LineOk t) ls → cover_after (map (bytes_of t) ls) ≡ row_bytes t (rows_of t ls)
unfolding cover_after rows_of
rows_are t [] oks = refl
rows_are t (l ∷ ls) oks = rw (dot_is t l oks.0, words_are t l oks.0, rows_are t ls oks.1) (go (dotted t l))
  where
    go : (b : Bool) → cond b [] (map (bytes_of t) (line_words t l) ∷ row_bytes t (rows_of t ls)) ≡ row_bytes t (cond b [] (line_words t l ∷ rows_of t ls))
    go true = refl
    go false = refl

pub rows_inside : (t : List ℕ) (ls : List Word) → All (LineOk t) ls → Inside t (rows_of t ls)
unfolding rows_of
rows_inside t [] oks = tt
rows_inside t (l ∷ ls) oks = go (dotted t l) (rows_inside t ls oks.1)
  where
    go : (b : Bool) → Inside t (rows_of t ls) → Inside t (cond b [] (line_words t l ∷ rows_of t ls))
    go true h = tt
    go false h = (words_inside t l oks.0, h)
