use Rattle.law_limits.proofs.Served.{served_within}
use Rattle.law_limits.proofs.served_tables_stay_within.Goals as goal

pub returns : goal.returns
returns c = served_within
