use Rattle.std.proofs.Common.{length}
use Rattle.pb_vm.proofs.writes.+place_in.Given as goal

abbrev pub decreases-place_in : goal.decreases-place_in
decreases-place_in l = length l.writes.now
