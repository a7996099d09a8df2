use Rattle.std.proofs.Common.{◌≡◌}
use Rattle.text.specs.Lines.{lines}
use Rattle.text.specs.Iterators.{lines_left}
use Rattle.reading.specs.Reading.{start, each}
use Rattle.reading.specs.Holding.{places_of, state_of, AreasHold}
use Rattle.bench.specs.Bench.{read_line}
use Rattle.bench.proofs.lines.BenchFormat.read_lines.Given as goal

abbrev pub invariant-loop-line : goal.invariant-loop-line
invariant-loop-line l =
    let p = places_of l.initial.nodes l.initial.names l.initial.outputs in
    AreasHold l.text l.heads l.nodes l.names l.outputs l.read
    × (l.line-iterator.text.now ≡ l.text)
    × (each (read_line l.text p) (lines_left l.line-iterator) (state_of l.nodes l.names l.outputs l.read) ≡ each (read_line l.text p) (lines 0 l.text) start)
