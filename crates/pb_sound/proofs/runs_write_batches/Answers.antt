use Rattle.pb_sound.proofs.RunWrites.{runs_write_batches}
use Rattle.pb_sound.proofs.runs_write_batches.Goals as goal

pub returns : goal.returns
returns c = runs_write_batches
