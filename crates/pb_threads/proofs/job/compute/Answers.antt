use Rattle.std.proofs.Common.{rules}
use Rattle.pb_threads.specs.Words.{no_part}
use Rattle.pb_threads.proofs.job.compute.Goals as goal

pub returns-in_ok-follow-clause-ok : goal.returns-in_ok-follow-clause-ok
returns-in_ok-follow-clause-ok c = record { on = c.follow.ensures.on; calls = c.in_ok-follow.ensures.ok }

pub returns-else-eq-clause-ok : goal.returns-else-eq-clause-ok
returns-else-eq-clause-ok c = record { on = no_part; calls = search rules }

pub returns-else-eq-clause-on : goal.returns-else-eq-clause-on
returns-else-eq-clause-on c = no_part
