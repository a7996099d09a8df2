use Prim.Native.Nat.{ℕ, ◌-◌, ◌^◌}
use mathlib.Core.Path.{◌≡◌, ap, ◌∙◌}
use native.Mathlib.Omega.{arith}
use Rattle.cover.proofs.RowLaws.{start-zero}
use Rattle.laws.proofs.Rows.{shifted_ones}
use Rattle.cover.proofs.rows.start_table.Goals as goal

pub returns-else-value-eq1 : goal.returns-else-value-eq1
returns-else-value-eq1 c =
    let e : c.args.value ≡ 0 = omega arith in
    let q = c.entry_count.ensures.0 in
    start-zero c.args.inputs c.args.value _ e (shifted_ones 64 _ c.entry_count.ensures.2 ∙ ap (λ (m : ℕ). 2 ^ m - 1) q)
