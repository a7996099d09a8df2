use native.Mathlib.Omega.{arith}
use Rattle.ordering.proofs.Given.{given-length}
use Rattle.placing.specs.Resolved.{source_in}
use Rattle.placing.proofs.definitions.DefinitionsGraph.source.Goals as goal

pub offset_bounds-self-edge : goal.offset_bounds-self-edge
offset_bounds-self-edge c = omega (arith, c.args.self.now.room, given-length (source_in c.args.self.now.sources.now) c.args.self.now.count)

pub bounds-self-edge : goal.bounds-self-edge
bounds-self-edge c = omega (arith, c.args.self.now.room, given-length (source_in c.args.self.now.sources.now) c.args.self.now.count)
