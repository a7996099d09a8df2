use Prim.Native.Nat.{ℕ}
use mathlib.Core.Path.{◌≡◌, ◌∙◌}
use mathlib.Core.List.{List, reverse}
use Rattle.std.proofs.Common.{rules, tests}
use Rattle.std.specs.List.{list_all, enumerate_from}
use Rattle.std.proofs.lemmas.Iterator.Adapters.{YieldsList-from_rev_slice}
use Rattle.std.proofs.lemmas.Iterator.Consumers.{YieldsList-from_enumerate}
use Rattle.std.proofs.lemmas.Iterator.Search.{all_from_yields_List}
use Rattle.cells.specs.Cells.{entry}
use Rattle.cover.specs.Cover.{fits}
use Rattle.cover.proofs.RowLaws.{matches_reversed}
use Rattle.cover.proofs.rows.pattern_matches.Goals as goal

pub returns : goal.returns
returns c =
    let pattern : List ℕ = c.args.pattern.now in
    let j = c.args.j in
    let each : c.all.result ≡ list_all (λ (x : ℕ × ℕ). fits x.1 (entry j x.0)) (enumerate_from 0 (reverse pattern)) =
    all_from_yields_List (λ (x : ℕ × ℕ). fits x.1 (entry j x.0)) c.all.new.self _ c.all.result c.all.ensures.ran (YieldsList-from_enumerate {s = c.enumerate.result} (YieldsList-from_rev_slice pattern cc) cc) (λ x b q k. search (rules, tests)) in
    each ∙ matches_reversed pattern j
