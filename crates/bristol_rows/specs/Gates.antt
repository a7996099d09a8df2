-- The gates of a row that an iterator has yet to give.
-- Assumes nothing.
use Rattle.std.specs.Prelude.{List, option_to_list}
use Rattle.bristol_rows.specs.declared.gates.Gate.{Gate}
use Rattle.bristol_rows.specs.declared.gates.Gates.{Gates}

abbrev pub gates_left : Gates → List Gate
gates_left g = option_to_list g.rest
