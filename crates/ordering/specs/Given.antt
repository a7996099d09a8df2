-- A graph of cells that is given by its reads alone.
-- Assumes nothing.
use Rattle.std.specs.Prelude.{ℕ, ◌+◌, ◌*◌, true, List, map}
use Rattle.std.specs.List.{range_with_len}
use Rattle.graphs.specs.Graph.{Vertex}
use Rattle.graphs.specs.declared.TheConstants.{READS}
use Rattle.ordering.specs.Areas.{sources}

-- a cell that reads what its reads say
abbrev pub cell_by : (ℕ → ℕ) → ℕ → Vertex
cell_by src k = record { cell = true; reads = sources src (READS * k + 1) READS }

-- n cells
unfoldable pub given : (ℕ → ℕ) → ℕ → List Vertex
given src n = map (cell_by src) (range_with_len 0 n)
