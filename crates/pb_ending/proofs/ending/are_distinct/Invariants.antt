use Rattle.std.proofs.Common.{◌≡◌, drop}
use Rattle.pb_ending.specs.Agrees.{no_twice}
use Rattle.pb_ending.proofs.ending.are_distinct.Given as goal

abbrev pub invariant-loop-k : goal.invariant-loop-k
invariant-loop-k l = no_twice l.seats ≡ no_twice (drop l.k l.seats)
