use Rattle.std.proofs.Common.{length}
use Rattle.pb_story.proofs.frames.+run_length.Given as goal

abbrev pub decreases-run_length : goal.decreases-run_length
decreases-run_length l = length l.written.now
