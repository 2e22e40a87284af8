use Rattle.std.proofs.Common.{length}
use Rattle.pb_state.proofs.observed.+are_replies.Given as goal

abbrev pub decreases-are_replies : goal.decreases-are_replies
decreases-are_replies l = length l.reads.now
