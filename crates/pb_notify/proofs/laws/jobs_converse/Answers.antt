use Rattle.pb_notify.proofs.RunConversation.{jobs_converse, jobs_end}
use Rattle.pb_notify.proofs.laws.jobs_converse.Goals as goal

pub returns-clause-converses : goal.returns-clause-converses
returns-clause-converses c = jobs_converse c.plans_converse.ensures.converses c.plans_converse.ensures.ends

pub returns-clause-ends : goal.returns-clause-ends
returns-clause-ends c = jobs_end c.plans_converse.ensures.converses c.plans_converse.ensures.ends
