use Rattle.pb_history.proofs.RunsTold.{tells_reads}
use Rattle.pb_history.proofs.laws.reads_are_told.Goals as goal

pub returns : goal.returns
returns c = tells_reads
