use mathlib.Core.Path.{refl}
use Rattle.text.specs.Lines.{kept_lines}
use Rattle.text.proofs.iterators.kept_lines.Goals as goal

pub returns : goal.returns
unfolding kept_lines
returns c = rw (c.lines_of.ensures.places.0, c.lines_of.ensures.places.1) refl
