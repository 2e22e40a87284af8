use Rattle.law_limits.proofs.Kept.{caught_up_within}
use Rattle.law_limits.proofs.catching_up_stays_within.Goals as goal

pub returns : goal.returns
returns c = caught_up_within
