use Rattle.bristol_rows.specs.Words.{words_left}
use Rattle.bristol_rows.proofs.InputLaws.{Got}
use Rattle.bristol_rows.proofs.row.read_inputs.Given as goal

abbrev pub invariant-loop-i : goal.invariant-loop-i
invariant-loop-i l = Got l.n l.wires (words_left l.initial.words) l.i (words_left l.words) l.slots
