use mathlib.Core.Path.{◌≡◌}
use Prim.Native.Nat.{◌≤◌}
use lib.ListN.{length, drop}
use Rattle.circuit.specs.Records.{node_at, wires_of}
use Rattle.runs.specs.Fit.{some_waits}
use Rattle.runs.proofs.fitness.some_waits.Given as goal

abbrev pub invariant-loop-k : goal.invariant-loop-k
invariant-loop-k l =
    (some_waits l.nodes.words.now l.lo l.marks (wires_of (node_at l.nodes.words.now l.x)) ≡ some_waits l.nodes.words.now l.lo l.marks (drop l.k (wires_of (node_at l.nodes.words.now l.x))))
    × (l.k ≤ l.k-end)
    × (l.k-end ≡ length (wires_of (node_at l.nodes.words.now l.x)))
