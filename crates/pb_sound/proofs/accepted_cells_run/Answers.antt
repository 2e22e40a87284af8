use Rattle.pb_sound.proofs.Positions.{cells_run}
use Rattle.pb_sound.proofs.accepted_cells_run.Goals as goal

pub returns : goal.returns
returns c = cells_run
