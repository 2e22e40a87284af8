use Rattle.pb_sound.proofs.Positions.{every_run_ends}
use Rattle.pb_sound.proofs.every_run_ends.Goals as goal

pub returns : goal.returns
returns c = every_run_ends
