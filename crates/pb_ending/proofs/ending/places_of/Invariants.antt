use Rattle.std.proofs.Common.{◌≡◌, length}
use Rattle.pb_ending.proofs.Cursors.{ArePlacesBelow}
use Rattle.pb_ending.proofs.ending.places_of.Given as goal

abbrev pub invariant-loop-k : goal.invariant-loop-k
invariant-loop-k l = record {
  sized : length l.places ≡ 64;
  placed : ArePlacesBelow l.seats l.places l.k;
}
