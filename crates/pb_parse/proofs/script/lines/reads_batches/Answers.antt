use Rattle.pb_parse.proofs.ReadsBatches.{reads_batches}
use Rattle.pb_parse.proofs.script.lines.reads_batches.Goals as goal

pub returns : goal.returns
returns c = reads_batches
