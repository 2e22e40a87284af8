use Rattle.std.proofs.Common.{length}
use Rattle.pb_finished.proofs.finished.+is_same_talk.Given as goal

abbrev pub decreases-is_same_talk : goal.decreases-is_same_talk
decreases-is_same_talk l = length l.a.now
