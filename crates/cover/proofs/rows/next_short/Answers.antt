use Prim.Native.Nat.{ℕ, ◌+◌, ◌-◌, ◌≤◌}
use mathlib.Core.Path.{◌≡◌, refl, ap, ap₂, ◌∙◌}
use mathlib.Core.List.{List}
use native.Mathlib.Omega.{arith}
use lib.ListN.{length}
use Rattle.laws.specs.Stretches.{stretch, run}
use Rattle.laws.proofs.Stretches.{stretch_all, drop-part, length-stretch}
use Rattle.text.specs.Blanks.{not_blank}
use Rattle.text.specs.Words.{next_word}
use Rattle.text.specs.declared.words.Word.{Word}
use Rattle.text.proofs.WordLaws.{next_made, first_word, no_word, next-is}
use Rattle.cover.proofs.rows.next_short.Goals as goal

pub returns-then-len-eq0 : goal.returns-then-len-eq0
unfolding stretch
returns-then-len-eq0 c =
    let w = c.args.words.now in
    let t : List ℕ = w.text.now in
    let k : ℕ = c.skip_blanks.result in
    let n : ℕ = c.scan_blank-len.result in
    let left : List ℕ = stretch t w.at (w.end - w.at) in
    let rest : stretch left k (length left - k) ≡ stretch t (w.at + k) (w.end - (w.at + k)) = stretch_all left k (length left) refl ∙ drop-part k t w.at w.end in
    let here : w.at + k + n ≡ w.at + k + run not_blank (stretch t (w.at + k) (w.end - (w.at + k))) = ap (λ m. w.at + k + m) (c.scan_blank-len.ensures.0 ∙ ap (run not_blank) rest) in
    let made = next_made t w.at w.end (w.at + k) (w.at + k + n) (ap (λ m. w.at + m) c.skip_blanks.ensures.0) here in
    let none = no_word t w.at w.end _ made (omega (arith, c.if-len-eq0.true)) in
    record { first = (none, none); same_text = refl; same_end = refl; is_word = tt }

pub returns : goal.returns
unfolding stretch
returns c =
    let w = c.args.words.now in
    let t : List ℕ = w.text.now in
    let k : ℕ = c.skip_blanks.result in
    let n : ℕ = c.scan_blank-len.result in
    let left : List ℕ = stretch t w.at (w.end - w.at) in
    let rest : stretch left k (length left - k) ≡ stretch t (w.at + k) (w.end - (w.at + k)) = stretch_all left k (length left) refl ∙ drop-part k t w.at w.end in
    let here : w.at + k + n ≡ w.at + k + run not_blank (stretch t (w.at + k) (w.end - (w.at + k))) = ap (λ m. w.at + k + m) (c.scan_blank-len.ensures.0 ∙ ap (run not_blank) rest) in
    let size : length left ≡ w.end - w.at = length-stretch t w.at (w.end - w.at) (omega (arith, w.inside)) in
    let room : w.at + k ≤ w.end = omega (arith, size, w.inside, c.skip_blanks.ensures.1) in
    let past : length (stretch left k (length left - k)) ≡ w.end - (w.at + k) = ap length rest ∙ length-stretch t (w.at + k) (w.end - (w.at + k)) (omega (arith, room, w.inside)) in
    let start : w.end - length (stretch left k (length left - k)) ≡ w.at + k = omega (arith, past, room) in
    let len : n ≡ w.at + k + n - (w.at + k) = omega arith in
    let word : Word = record { start = w.end - length (stretch left k (length left - k)); len = n } in
    let made : word ≡ next_word t w.at w.end = ap₂ (λ (s m : ℕ). record { start = s; len = m }) start len ∙ next_made t w.at w.end (w.at + k) (w.at + k + n) (ap (λ m. w.at + m) c.skip_blanks.ensures.0) here in
    let some : (next_word t w.at w.end).len ≡ 0 → ⊥ = λ z. c.if-len-eq0.false (ap (λ (x : Word). x.len) made ∙ z) in
    record {
      first = first_word t w.at w.end word made c.if-len-eq0.false;
      same_text = refl;
      same_end = refl;
      is_word = (rw made (next-is t w.at w.end some), refl);
    }
