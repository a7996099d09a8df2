use Rattle.std.proofs.Common.{◌≡◌, ◌≤◌, take}
use Rattle.std.specs.List.{concat}
use Rattle.std.specs.Io.KnownBytes.{Appends}
use Rattle.printing.proofs.Printing.{lines_of}
use Rattle.printing.proofs.print_lines.Given as goal

abbrev pub invariant-loop-k : goal.invariant-loop-k
invariant-loop-k g l = Appends (g.W.Write.contents l.initial.out) (g.W.Write.contents l.out) (concat (take l.k (lines_of l.text l.nodes l.outputs l.order))) × (g.L.Line.place l.line ≡ g.L.Line.place l.initial.line) × (l.k ≤ l.lines)
