use Rattle.cells.proofs.Folds.{Folded}
use Rattle.cells.proofs.folding.cell_value.Given as goal

abbrev pub invariant-loop-value : goal.invariant-loop-value
invariant-loop-value l = Folded l.table l.values l.value-index l.left.all l.left.some l.half
