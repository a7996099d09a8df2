use Rattle.node_slices.proofs.Slices.{slice_encoded}
use Rattle.node_slices.proofs.promised.slice_promised.Goals as goal

pub returns : goal.returns
returns c = slice_encoded
