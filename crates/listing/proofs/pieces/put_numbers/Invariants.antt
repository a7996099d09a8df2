use Rattle.std.proofs.Common.{◌≡◌, ◌++◌, ◌+◌, ◌*◌, ◌≤◌, take, length}
use Rattle.listing.specs.declared.sizes.TheConstants.{NUMBER_BYTES}
use Rattle.listing.specs.Decimal.{decimal}
use Rattle.listing.specs.Listing.{words}
use Rattle.listing.proofs.pieces.put_numbers.Given as goal

abbrev pub invariant-loop-n : goal.invariant-loop-n
invariant-loop-n g l = record {
  written : g.L.Line.written l.line ≡ g.L.Line.written l.initial.line ++ words decimal (take l.n-index l.numbers);
  room : g.L.Line.room l.initial.line ≤ g.L.Line.room l.line + NUMBER_BYTES * l.n-index;
  place : g.L.Line.place l.line ≡ g.L.Line.place l.initial.line;
  inside : l.n-index ≤ length l.numbers;
}
