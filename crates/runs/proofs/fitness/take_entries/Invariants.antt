use mathlib.Core.Path.{◌≡◌}
use mathlib.Core.List.{[]}
use Prim.Native.Nat.{◌≤◌}
use lib.ListN.{length, take, drop}
use Rattle.circuit.specs.Records.{nodes_of}
use Rattle.circuit.specs.Graph.{graph_of}
use Rattle.runs.specs.Fit.{within, fit_in, Marks, block_size}
use Rattle.runs.proofs.fitness.take_entries.Given as goal

abbrev pub invariant-loop-x : goal.invariant-loop-x
invariant-loop-x l =
    Marks l.lo l.marks (take l.x-index l.order)
    × (fit_in (within l.lo (block_size l.initial.marks)) (graph_of (nodes_of l.circuit.nodes.words.now l.circuit.nodes.count)) [] l.order ≡ fit_in (within l.lo (block_size l.initial.marks)) (graph_of (nodes_of l.circuit.nodes.words.now l.circuit.nodes.count)) (take l.x-index l.order) (drop l.x-index l.order))
    × (length l.marks ≡ length l.initial.marks)
    × (l.x-index ≤ length l.order)
