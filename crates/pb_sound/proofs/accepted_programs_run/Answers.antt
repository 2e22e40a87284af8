use Rattle.pb_sound.proofs.AcceptedRuns.{accepted_programs_run}
use Rattle.pb_sound.proofs.accepted_programs_run.Goals as goal

pub returns : goal.returns
returns c = accepted_programs_run
