use Rattle.std.proofs.Common.{vec_len}
use Rattle.pb_threads.proofs.spares.end_spares.Given as goal

abbrev pub decreases-loop-spare : goal.decreases-loop-spare
decreases-loop-spare g l = vec_len l.spares
