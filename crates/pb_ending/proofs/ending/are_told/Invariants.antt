use Rattle.std.proofs.Common.{◌≡◌, length}
use Rattle.pb_ending.proofs.Cursors.{AreAlong}
use Rattle.pb_ending.proofs.ending.are_told.Given as goal

abbrev pub invariant-loop-e : goal.invariant-loop-e
invariant-loop-e l = record {
  sized : length l.cursors ≡ 64;
  along : AreAlong l.journal l.e-index l.seats l.cursors;
}
