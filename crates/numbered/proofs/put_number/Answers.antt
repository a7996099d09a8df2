use mathlib.Core.Path.{◌≡◌, sym, ap, ap₂, ◌∙◌}
use mathlib.Core.List.{List, ◌++◌, append-nil}
use Prim.Native.Nat.{ℕ, ◌<◌, ◌≤◌}
use native.Mathlib.Omega.{arith}
use lib.ListN.{length, set, take, drop, drop_of_length-le}
use lib.Seq.{take_all, length-take-le}
use Rattle.laws.proofs.Filling.{fill_next}
use Rattle.numbered.specs.Numbered.{numbered}
use Rattle.numbered.proofs.Numbering.{length-numbered, numbered_at}
use Rattle.numbered.proofs.put_number.Goals as goal

pub loop-p-preserved : goal.loop-p-preserved
loop-p-preserved c =
    let full = numbered c.args.n c.args.number in
    let part : List ℕ = take c.args.n c.args.assignment.now in
    let size : length part ≡ c.args.n = length-take-le c.args.n c.args.assignment.now c.requires.1 in
    let below : c.loop-p.p < c.args.n = omega (arith, c.loop-p-test.true, size) in
    ap₂ (λ (x : List ℕ) (y : ℕ). set x c.loop-p.p y) c.loop-p.invariant (c.table_entry.ensures ∙ sym (numbered_at c.args.n c.args.number c.loop-p.p below))
    ∙ fill_next 0 full part c.loop-p.p (omega (arith, below, length-numbered c.args.n c.args.number)) (omega (arith, below, size))

pub returns : goal.returns
returns c =
    let full = numbered c.args.n c.args.number in
    let part : List ℕ = take c.args.n c.args.assignment.now in
    let all : c.args.n ≤ c.loop-p.p = omega (arith, c.loop-p-test.false, length-take-le c.args.n c.args.assignment.now c.requires.1) in
    ap (λ (l : List ℕ). l ++ drop c.args.n c.args.assignment.now)
    (c.loop-p.invariant ∙ ap₂ ◌++◌ (take_all c.loop-p.p full (omega (arith, all, length-numbered c.args.n c.args.number))) (drop_of_length-le part c.loop-p-test.false) ∙ append-nil full)
