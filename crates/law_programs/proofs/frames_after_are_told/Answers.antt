use Rattle.law_programs.proofs.Following.{frames_after_are_told}
use Rattle.law_programs.proofs.frames_after_are_told.Goals as goal

pub returns : goal.returns
returns c = frames_after_are_told c.rules_are_by_code.ensures
