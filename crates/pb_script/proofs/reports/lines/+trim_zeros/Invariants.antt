use Rattle.std.proofs.Common.{length}
use Rattle.pb_script.proofs.reports.lines.+trim_zeros.Given as goal

abbrev pub decreases-trim_zeros : goal.decreases-trim_zeros
decreases-trim_zeros l = length l.bytes.now
