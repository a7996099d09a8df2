use mathlib.Core.Path.{sym, ◌∙◌}
use Prim.Native.Nat.{◌+◌, ◌*◌}
use native.Mathlib.Omega.{arith}
use Rattle.circuit.specs.Records.{nodes_of}
use Rattle.circuit.specs.Graph.{graph_of}
use Rattle.circuit.proofs.Codes.{length_nodes}
use Rattle.circuit.proofs.Circuits.{length_graph}
use Rattle.runs.specs.Fit.{within}
use Rattle.runs.proofs.Blocks.{covered_next, covered_end, block_unfit}
use Rattle.runs.proofs.fitness.fit_blocks.Goals as goal

pub returns-in_err-fit_block : goal.returns-in_err-fit_block
returns-in_err-fit_block g c =
    let graph = graph_of (nodes_of c.args.circuit.nodes.words.now c.args.circuit.nodes.count) in
    rw c.from_residual.ensures (block_unfit graph (within c.loop-lo.lo (g.row.N * 64)) c.args.order.now (sym c.in_err-fit_block.ensures))

pub loop-lo-preserved : goal.loop-lo-preserved
loop-lo-preserved g c =
    covered_next (graph_of (nodes_of c.args.circuit.nodes.words.now c.args.circuit.nodes.count)) c.args.order.now c.loop-lo.lo (g.row.N * 64) c.loop-lo.invariant (sym c.in_ok-fit_block.ensures)

pub returns : goal.returns
returns g c =
    let words = c.args.circuit.nodes.words.now in
    let count = c.args.circuit.nodes.count in
    covered_end (graph_of (nodes_of words count)) c.args.order.now c.loop-lo.lo count c.loop-lo.invariant c.loop-lo-test.false (length_graph (nodes_of words count) ∙ length_nodes words count) c.requires.0

-- the next block would begin past the nodes
pub returns-in_ok-fit_block : goal.returns-in_ok-fit_block
returns-in_ok-fit_block g c =
    let words = c.args.circuit.nodes.words.now in
    let count = c.args.circuit.nodes.count in
    let graph = graph_of (nodes_of words count) in
    covered_end graph c.args.order.now (c.loop-lo.lo + g.row.N * 64) count (covered_next graph c.args.order.now c.loop-lo.lo (g.row.N * 64) c.loop-lo.invariant (sym c.in_ok-fit_block.ensures)) (omega arith)
    (length_graph (nodes_of words count) ∙ length_nodes words count) c.requires.0
