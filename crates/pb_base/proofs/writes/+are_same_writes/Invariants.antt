use Rattle.std.proofs.Common.{length}
use Rattle.pb_base.proofs.writes.+are_same_writes.Given as goal

abbrev pub decreases-are_same_writes : goal.decreases-are_same_writes
decreases-are_same_writes l = length l.a.now
