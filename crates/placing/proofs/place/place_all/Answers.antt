use Rattle.ordering.proofs.Given.{given-length}
use Rattle.placing.specs.Resolved.{source_in}
use Rattle.placing.proofs.Resolved.{placed-all, placed-circle}
use Rattle.placing.proofs.place.place_all.Goals as goal

pub first_order-placed-requires : goal.first_order-placed-requires
first_order-placed-requires c = rw (given-length (source_in c.args.definitions.now.sources.now) c.args.definitions.now.count) c.requires

pub returns-then-placed-definitions : goal.returns-then-placed-definitions
returns-then-placed-definitions c = placed-circle _ _ _ _ _ c.first_order-placed.ensures c.if-placed-definitions.true

pub returns : goal.returns
returns c = placed-all _ _ _ _ _ c.first_order-placed.ensures c.if-placed-definitions.false
