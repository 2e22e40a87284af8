use Rattle.pb_txn.proofs.Conversation.{plans_converse, plans_end, plans_stop}
use Rattle.pb_txn.proofs.laws.plans_converse.Goals as goal

pub returns-clause-converses : goal.returns-clause-converses
returns-clause-converses c = plans_converse

pub returns-clause-ends : goal.returns-clause-ends
returns-clause-ends c = plans_end

pub returns-clause-stops : goal.returns-clause-stops
returns-clause-stops c = plans_stop
