use Rattle.std.proofs.Common.{◌≡◌, ◌++◌, ◌+◌, ◌*◌, ◌≤◌, take, length}
use Rattle.circuit.specs.Records.{wires_of}
use Rattle.listing.specs.declared.sizes.TheConstants.{WIRE_BYTES}
use Rattle.listing.specs.Listing.{words, wire_bytes}
use Rattle.listing.proofs.pieces.put_wires.Given as goal

abbrev pub invariant-loop-k : goal.invariant-loop-k
invariant-loop-k g l = record {
  written : g.L.Line.written l.line ≡ g.L.Line.written l.initial.line ++ words wire_bytes (take l.k (wires_of l.n));
  room : g.L.Line.room l.initial.line ≤ g.L.Line.room l.line + (1 + WIRE_BYTES) * l.k;
  place : g.L.Line.place l.line ≡ g.L.Line.place l.initial.line;
  inside : l.k ≤ length (wires_of l.n);
  count : l.k-end ≡ length (wires_of l.n);
}
