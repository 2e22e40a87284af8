use Rattle.law_journals.proofs.LooksBack.{look_back}
use Rattle.law_journals.proofs.runs.runs_look_back_to_their_acknowledgment.Goals as goal

pub returns : goal.returns
returns c = look_back
