use Rattle.pb_history.proofs.ScriptsTold.{tells_scripts}
use Rattle.pb_history.proofs.laws.scripts_write_batches.Goals as goal

pub returns : goal.returns
returns c = tells_scripts
