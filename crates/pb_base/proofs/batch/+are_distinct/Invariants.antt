use Rattle.std.proofs.Common.{length}
use Rattle.pb_base.proofs.batch.+are_distinct.Given as goal

abbrev pub decreases-are_distinct : goal.decreases-are_distinct
decreases-are_distinct l = length l.writes.now
