use Rattle.std.proofs.Common.{length}
use Rattle.pb_store.proofs.table.+count_in.Given as goal

-- each call has one tablet fewer
abbrev pub decreases-count_in : goal.decreases-count_in
decreases-count_in g l = length l.parts.now
