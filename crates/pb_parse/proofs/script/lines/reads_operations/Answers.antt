use Rattle.pb_parse.proofs.ReadsOperations.{reads_operations}
use Rattle.pb_parse.proofs.script.lines.reads_operations.Goals as goal

pub returns : goal.returns
returns c = reads_operations
