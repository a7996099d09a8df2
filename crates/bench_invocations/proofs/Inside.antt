-- What an iterator of arguments gives, and that each argument lies in the text.
-- Assumes nothing.
use Prim.Native.Nat.{ℕ, zero, suc, ◌+◌, ◌-◌, ◌≤◌}
use mathlib.Core.Path.{◌≡◌, refl, ap}
use mathlib.Core.Bool.{Bool, true, false, cond}
use mathlib.Core.List.{List, []}
use native.Mathlib.Omega.{arith}
use lib.Dec.{leb}
use lib.ListN.{length, take, drop}
use borrow.Author.Tests.{leb-true, leb-false}
use Rattle.std.proofs.lemmas.Iterator.{YieldsList}
use Rattle.std.proofs.lemmas.Iterator.Consumers.{YieldsList-from_shown}
use Rattle.std.proofs.lemmas.List.{length-drop, length-take}
use Rattle.laws.specs.Stretches.{All, stretch, run, is_not}
use Rattle.laws.proofs.Stretches.{run_length, length-stretch_le}
use Rattle.text.specs.Blanks.{is_blank, trim, trimmed}
use Rattle.text.specs.Words.{bytes_of, between}
use Rattle.text.specs.declared.words.Word.{Word}
use Rattle.text.proofs.BlankLaws.{trimmed_bytes}
use Rattle.bench_invocations.specs.declared.arguments.ArgumentPlaces.{ArgumentPlaces}
use Rattle.bench_invocations.specs.declared.arguments.Arguments.{Arguments}
use Rattle.bench_invocations.specs.Invocations.{blank, trimmed_parts, arguments_of}
use Rattle.bench_invocations.specs.Walks.{arguments_from, arguments_at, arguments_left, GivesArgument}
use Rattle.bench_invocations.proofs.Parts.{arguments_over, argument_first}
use Rattle.bench_invocations.proofs.Parsing.{arguments_all}

pub arguments_given : (a : Arguments) → YieldsList GivesArgument (λ x. x) a (arguments_left a)
arguments_given a = YieldsList-from_shown GivesArgument (λ x. x) arguments_left (λ t u h. ap length h.first.0) (λ t x u h. h.first) a

abbrev pub Inside : List ℕ → Word → Type 0
Inside t w = w.start + w.len ≤ length t

-- what is left by trimming lies where it lay
trimmed_inside : (t : List ℕ) (w : Word) → Inside t w → Inside t (trimmed t w)
unfolding trimmed stretch
trimmed_inside t w h =
    let l = bytes_of t w in
    let s : ℕ = w.start + run is_blank l in
    let n : ℕ = length (trim l) in
    let short : run is_blank l ≤ w.len = omega (arith, run_length is_blank l, length-stretch_le t w.start w.len) in
    let size : length (take n (drop s t)) ≡ n = ap length (trimmed_bytes t w) in
    omega (arith, h, short, size, length-take n (drop s t), length-drop s t)

-- so many arguments at most, each in the text
record Bounded (t : List ℕ) (n : ℕ) (ws : List Word) : Type 0 where
  pub each : All (Inside t) ws
  pub number : length ws ≤ n

arguments_up_to : (n : ℕ) (t : List ℕ) (at end : ℕ) → end ≤ length t → end + 1 - at ≤ n → Bounded t n (arguments_from t at end)
arguments_up_to zero t at end el h = rw (arguments_over t at end (omega arith)) (record { each = tt; number = omega arith })
arguments_up_to (suc n) t at end el h = go (leb at end) refl (λ next k. arguments_up_to n t next end el k)
  where
    go : (b : Bool) → leb at end ≡ b → ((next : ℕ) → end + 1 - next ≤ n → Bounded t n (arguments_from t next end)) → Bounded t (suc n) (arguments_from t at end)
    go false e after = rw (arguments_over t at end (leb-false at end e)) (record { each = tt; number = omega arith })
    go true e after =
        let p : at ≤ end = leb-true at end e in
        let l = stretch t at (end - at) in
        let cut : ℕ = at + run (is_not 44) l in
        let c : cut ≤ end = omega (arith, run_length (is_not 44) l, length-stretch_le t at (end - at)) in
        let rest = after (cut + 1) (omega arith) in
        rw (argument_first t at end cut p el refl c (trimmed t (between at cut)) refl)
        (record { each = (trimmed_inside t (between at cut) (omega arith), rest.each); number = omega (arith, rest.number) })

-- ---- the arguments at places of the text

module _ (t : List ℕ) (p : ArgumentPlaces) (h : p.end ≤ length t) where
  bounded_at : Bounded t (p.end + 1 - p.at) (arguments_at t p)
  bounded_at = arguments_up_to (p.end + 1 - p.at) t p.at p.end h (omega arith)

  -- there are no more arguments than places
  pub argument_count_at : length (arguments_at t p) ≤ p.end + 1 - p.at
  argument_count_at = bounded_at.number

  pub arguments_inside_at : All (Inside t) (arguments_at t p)
  arguments_inside_at = bounded_at.each

-- ---- the arguments in a stretch of the text

module _ (t : List ℕ) (w : Word) (h : Inside t w) where
  bounded : Bounded t (w.len + 1) (arguments_of t w)
  unfolding arguments_of
  bounded = go (blank t w)
    where
      go : (b : Bool) → Bounded t (w.len + 1) (cond b [] (trimmed_parts t w))
      go true = record { each = tt; number = omega arith }
      go false = rw (arguments_all t w) at (arguments_up_to (w.len + 1) t w.start (w.start + w.len) h (omega arith))

  -- there are no more arguments than bytes, and one
  pub argument_count : length (arguments_of t w) ≤ w.len + 1
  argument_count = bounded.number

  pub arguments_inside : All (Inside t) (arguments_of t w)
  arguments_inside = bounded.each
