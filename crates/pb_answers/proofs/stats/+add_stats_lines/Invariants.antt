use Rattle.std.proofs.Common.{length}
use Rattle.pb_answers.proofs.stats.+add_stats_lines.Given as goal

abbrev pub decreases-add_stats_lines : goal.decreases-add_stats_lines
decreases-add_stats_lines l = length l.observers.now
