use Rattle.pb_notify.proofs.Allowed.{jobs_allowed}
use Rattle.pb_notify.proofs.RunsKept.{runs_kept}
use Rattle.pb_notify.proofs.laws.jobs_are_allowed.Goals as goal

pub returns-clause-allowed : goal.returns-clause-allowed
returns-clause-allowed c = jobs_allowed c.plans_converse.ensures.converses c.plans_converse.ensures.ends c.plans_are_allowed.ensures c.transactions_are_told.ensures c.journals_are_sound.ensures c.acknowledged_is_earlier.ensures

pub returns-clause-kept : goal.returns-clause-kept
returns-clause-kept c = runs_kept c.transactions_are_told.ensures
