use mathlib.Core.Path.{sym}
use Rattle.ordering.proofs.Given.{given-length}
use Rattle.placing.specs.Resolved.{source_in}
use Rattle.placing.proofs.definitions.DefinitionsGraph.count.Goals as goal

pub returns : goal.returns
returns c = sym (given-length (source_in c.args.self.now.sources.now) c.args.self.now.count)
