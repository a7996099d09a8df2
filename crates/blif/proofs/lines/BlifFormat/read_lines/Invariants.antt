use mathlib.Core.Path.{◌≡◌}
use mathlib.Core.Bool.{false}
use lib.ListN.{length}
use Rattle.text.specs.Lines.{lines}
use Rattle.text.specs.Iterators.{lines_left}
use Rattle.reading.specs.Reading.{start}
use Rattle.reading.specs.Holding.{places_of, state_of, AreasHold}
use Rattle.blif.specs.Blif.{read_lines}
use Rattle.blif.proofs.lines.BlifFormat.read_lines.Given as goal

abbrev pub invariant-loop-line : goal.invariant-loop-line
invariant-loop-line l =
    let places = places_of l.initial.nodes l.initial.names l.initial.outputs in
    (l.lines.text.now ≡ l.text)
    × (length l.nodes ≡ length l.initial.nodes)
    × (length l.names ≡ length l.initial.names)
    × (length l.outputs ≡ length l.initial.outputs)
    × AreasHold l.text l.heads l.nodes l.names l.outputs l.read
    × (read_lines l.text places l.row (lines_left l.lines) (state_of l.nodes l.names l.outputs l.read) ≡ read_lines l.text places false (lines 0 l.text) start)

abbrev pub decreases-loop-line : goal.decreases-loop-line
decreases-loop-line l = length (lines_left l.lines)
