use Prim.Native.Nat.{◌-◌}
use Rattle.circuit.specs.Records.{nodes_of}
use Rattle.circuit.specs.Graph.{graph_of}
use Rattle.runs.proofs.Blocks.{Covered}
use Rattle.runs.proofs.fitness.fit_blocks.Given as goal

abbrev pub invariant-loop-lo : goal.invariant-loop-lo
invariant-loop-lo g l = Covered (graph_of (nodes_of l.circuit.nodes.words.now l.circuit.nodes.count)) l.order l.lo

abbrev pub decreases-loop-lo : goal.decreases-loop-lo
decreases-loop-lo g l = l.circuit.nodes.count - l.lo
