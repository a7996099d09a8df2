use Prim.Native.Nat.{◌<◌}
use mathlib.Core.Bool.{true, false, not, not-not}
use mathlib.Core.Path.{sym, ap, ◌∙◌}
use lib.ListN.{length, get_or}
use Rattle.std.proofs.Common.{rules, arith, ℕ}
use Rattle.text.proofs.RunLaws.{run_at, run_full}
use Rattle.text.proofs.bytes.find_where.Given.{F-post}
use Rattle.text.proofs.bytes.find_where.Goals as goal

pub returns-in-Some-clause-first : goal.returns-in-Some-clause-first
returns-in-Some-clause-first g c = λ p e.
    let l = c.args.bytes.now in
    let within : c.in-Some.n < length l = search rules in
    let fits : (j : ℕ) → get_or l j 0 < 256 = λ j. omega (arith, c.type_inv.bytes j) in
    let before : (j : ℕ) → j < c.in-Some.n → F-post g c.args.passes (get_or l j 0) false = λ j h. search rules in
    let here : F-post g c.args.passes (get_or l c.in-Some.n 0) true = search rules in
    run_at p l c.in-Some.n within (λ j h. sym (not-not _) ∙ ap not (sym (e _ _ (fits j) (before j h)))) (sym (not-not _) ∙ ap not (sym (e _ _ (fits c.in-Some.n) here)))

pub returns-clause-first : goal.returns-clause-first
returns-clause-first g c = λ p e.
    let l = c.args.bytes.now in
    let fits : (j : ℕ) → get_or l j 0 < 256 = λ j. omega (arith, c.type_inv.bytes j) in
    let each : (j : ℕ) → j < length l → F-post g c.args.passes (get_or l j 0) false = λ j h. search rules in
    run_full p l (λ j h. sym (not-not _) ∙ ap not (sym (e _ _ (fits j) (each j h))))
