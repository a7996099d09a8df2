-- The tests of an invocation, in the code's order.
-- Assumes nothing.
use Rattle.std.specs.Prelude.{Err, None, Some}
use Prim.Native.Nat.{ℕ, ◌+◌, ◌-◌, ◌≤◌, ◌<◌}
use mathlib.Core.Path.{◌≡◌, refl, sym, ap, ◌∙◌}
use mathlib.Core.Bool.{Bool, true, false}
use mathlib.Core.List.{List}
use native.Mathlib.Omega.{arith}
use lib.Dec.{ltb}
use borrow.Author.Tests.{lt-ltb, le-ltb, eq-eqb, ne_eqb}
use Rattle.laws.specs.Stretches.{run, is_not}
use Rattle.laws.proofs.Stretches.{length-stretch_le}
use Rattle.circuit.specs.declared.refusals.Refusal.{Refusal}
use Rattle.circuit.specs.declared.refusals.Refusal.TheVariants.{Malformed}
use Rattle.circuit.specs.Refusals.{Try, need}
use Rattle.text.specs.Blanks.{trimmed}
use Rattle.text.specs.Bytes.{first_place}
use Rattle.text.specs.Words.{bytes_of, between}
use Rattle.text.specs.declared.words.Word.{Word}
use Rattle.bench_invocations.specs.declared.invocation.Invocation.{Invocation}
use Rattle.bench_invocations.specs.Invocations.{Invoked, trimmed_parts, arguments_of, up_to_last, invocation, parse_invocation}
use Rattle.bench_invocations.specs.Walks.{last_place, arguments_from, InvokedIs, InvocationIs}
use Rattle.bench_invocations.proofs.Parts.{last-short, no_place, place_found, arguments_over, arguments_here}

pub malformed : (t : List ℕ) (e : Refusal) (i : Try Invoked) → Err e ≡ i → InvocationIs t (Err e) i
malformed t e i q = record { is = q; noted = tt }

-- ---- the arguments in a stretch

pub arguments_all : (t : List ℕ) (w : Word) → arguments_from t w.start (w.start + w.len) ≡ trimmed_parts t w
arguments_all t w =
    let q : w.start + w.len - w.start ≡ w.len = omega arith in
    arguments_here t w.start (w.start + w.len) (omega arith) ∙ ap (λ (n : ℕ). trimmed_parts t (record { start = w.start; len = n })) q

module _ (t : List ℕ) (w v : Word) (e : v ≡ trimmed t w) where
  pub none_of : v.len ≡ 0 → arguments_from t (w.start + w.len + 1) (w.start + w.len) ≡ arguments_of t w
  unfolding arguments_of
  none_of z = rw (eq-eqb _ 0 (ap (λ (x : Word). x.len) (sym e) ∙ z)) (arguments_over t _ _ (omega arith))

  pub some_of : (v.len ≡ 0 → ⊥) → arguments_from t w.start (w.start + w.len) ≡ arguments_of t w
  unfolding arguments_of
  some_of nz = rw (ne_eqb (trimmed t w).len 0 (λ z. nz (ap (λ (x : Word). x.len) e ∙ z))) (arguments_all t w)

-- ---- the parentheses

-- what the look-ups of the parentheses say
module _ (t : List ℕ) (line : Word) where
  abbrev before : ℕ
  before = run (is_not 40) (bytes_of t line)

  abbrev last : ℕ
  last = up_to_last 41 (bytes_of t line)

  pub lacks_opening : None ≡ first_place 40 t line → Err Malformed ≡ parse_invocation t line
  unfolding first_place parse_invocation invocation
  lacks_opening e =
      let k : line.len ≤ before = no_place before line.len _ e in
      let q : line.start + line.len ≤ line.start + before = omega arith in
      rw (le-ltb (line.start + before) (line.start + line.len) q)

  pub lacks_closing : None ≡ last_place 41 t line → Err Malformed ≡ parse_invocation t line
  unfolding last_place parse_invocation invocation
  lacks_closing e =
      let k : last ≤ 0 = no_place 0 last _ e in
      let q : line.start + last ≤ line.start + before + 1 = omega arith in
      rw (le-ltb (line.start + before + 1) (line.start + last) q) (go (ltb (line.start + before) (line.start + line.len)))
    where
      go : (b : Bool) → Err Malformed ≡ need {A = Invoked} b Malformed (Err Malformed)
      go true = refl
      go false = refl

  pub opening_inside : (opening : ℕ) → Some opening ≡ first_place 40 t line → (line.start ≤ opening) × (opening < line.start + line.len)
  unfolding first_place
  opening_inside opening e =
      let o = place_found before line.len _ opening e in
      (omega (arith, o), omega (arith, o))

  pub closing_inside : (closing : ℕ) → Some closing ≡ last_place 41 t line → closing < line.start + line.len
  unfolding last_place
  closing_inside closing e =
      let c = place_found 0 last _ closing e in
      omega (arith, c, last-short 41 (bytes_of t line), length-stretch_le t line.start line.len)

  -- the tests of a line with its first `(` and its last `)`
  module _ (opening closing : ℕ) (eo : Some opening ≡ first_place 40 t line) (ec : Some closing ≡ last_place 41 t line) where
    abbrev end : ℕ
    end = line.start + line.len

    parentheses : invocation t line.start end opening (closing + 1) ≡ parse_invocation t line
    unfolding first_place last_place parse_invocation
    parentheses =
        let o = place_found before line.len _ opening eo in
        let f = place_found 0 last _ closing ec in
        let c : closing + 1 ≡ line.start + last = omega (arith, f) in
        rw (o.0, c)

    opened : ltb opening end ≡ true
    opened = lt-ltb opening end (opening_inside opening eo).1

    pub reversed : closing ≤ opening → Err Malformed ≡ parse_invocation t line
    unfolding invocation
    reversed k =
        let q : closing + 1 ≤ opening + 1 = omega arith in
        rw (opened, le-ltb (opening + 1) (closing + 1) q) at parentheses

    module _ (k : opening < closing) (w : Word) (e : w ≡ trimmed t (between (closing + 1) end)) where
      order : ltb (opening + 1) (closing + 1) ≡ true
      order = lt-ltb (opening + 1) (closing + 1) (omega arith)

      pub more_after : (w.len ≡ 0 → ⊥) → Err Malformed ≡ parse_invocation t line
      unfolding invocation
      more_after nz = rw (opened, order, ne_eqb (trimmed t (between (closing + 1) end)).len 0 (λ q. nz (ap (λ (x : Word). x.len) e ∙ q))) at parentheses

      module _ (z : w.len ≡ 0) (o : Word) (f : o ≡ trimmed t (between line.start opening)) where
        pub lacks_operation : o.len ≡ 0 → Err Malformed ≡ parse_invocation t line
        unfolding invocation
        lacks_operation y = rw (opened, order, eq-eqb _ 0 (ap (λ (x : Word). x.len) (sym e) ∙ z), eq-eqb _ 0 (ap (λ (x : Word). x.len) (sym f) ∙ y)) at parentheses

        pub has_operation : (o.len ≡ 0 → ⊥) → (v : Word) → v ≡ between (opening + 1) closing → (r : Try Invocation) → InvokedIs t o v r → InvocationIs t r (parse_invocation t line)
        unfolding invocation
        has_operation ny v ev r i =
            let q : closing + 1 - 1 ≡ closing = omega arith in
            record {
              is = i.is ∙ rw (opened, order, eq-eqb _ 0 (ap (λ (x : Word). x.len) (sym e) ∙ z), ne_eqb (trimmed t (between line.start opening)).len 0 (λ s. ny (ap (λ (x : Word). x.len) f ∙ s)), q, ← ev, ← f) at parentheses;
              noted = i.noted;
            }
