use mathlib.Core.Path.{sym}
use native.Mathlib.Omega.{arith}
use Rattle.ordering.proofs.Given.{given-length, given-cell}
use Rattle.placing.specs.Resolved.{source_in}
use Rattle.placing.proofs.definitions.DefinitionsGraph.is_cell.Goals as goal

pub returns : goal.returns
returns c =
    let src = source_in c.args.self.now.sources.now in
    let n = c.args.self.now.count in
    sym (given-cell src n _ (omega (arith, c.requires, given-length src n)))
