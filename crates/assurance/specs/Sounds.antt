-- What is read as BLIF or BENCH passes the circuit check.
-- Assumes nothing.
use Rattle.blif.specs.Blif.{blif_lines}
use Rattle.bench.specs.Bench.{bench_lines}
use Rattle.blif.proofs.Sound.{blif-sound}
use Rattle.assurance.specs.Inner.{Sounds}
use Rattle.bench.proofs.Sound.{bench-sound}

pub blif_sounds : Sounds blif_lines
blif_sounds = blif-sound

pub bench_sounds : Sounds bench_lines
bench_sounds = bench-sound
