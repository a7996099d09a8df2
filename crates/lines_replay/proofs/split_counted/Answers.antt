use Rattle.std.proofs.Common.{Option, Some, None, arith}
use Rattle.std.specs.Option.{IfSome, MatchOption}
use Rattle.lines_replay.proofs.split_counted.Goals as goal

by_cases : {X : Type 0} (P : Type 0) (Q R : X → Type 0) (r : Option X) → MatchOption r P Q → ((x : X) → Q x → R x) → IfSome r R
by_cases P Q R None m f = tt
by_cases P Q R (Some x) m f = f x m

pub returns : goal.returns
returns c =
    let parts = c.in_ok-len.ensures.cases.0 in
    let first = rw parts at (c.type_inv.recorded 0) in
    by_cases _ _ _ c.split_at_checked.result c.split_at_checked.ensures.cases (λ p q. (omega (arith, q.3, c.from.ensures, first), omega (arith, q.4, c.in_ok-len.ensures.cases.1)))
