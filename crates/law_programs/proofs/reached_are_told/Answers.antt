use Rattle.law_programs.proofs.Reached.{reached_are_told}
use Rattle.law_programs.proofs.reached_are_told.Goals as goal

pub returns : goal.returns
returns c = reached_are_told c.frames_are_meets.ensures c.jumps_lead_on.ensures.later
