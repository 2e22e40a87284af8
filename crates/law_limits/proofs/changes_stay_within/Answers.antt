use Rattle.law_limits.proofs.Kept.{change_within}
use Rattle.law_limits.proofs.changes_stay_within.Goals as goal

pub returns : goal.returns
returns c = change_within
