use Rattle.pb_txn.proofs.ChangeConversation.{changes_converse, changes_end}
use Rattle.pb_txn.proofs.laws.changes_converse.Goals as goal

pub returns-clause-converses : goal.returns-clause-converses
returns-clause-converses c = changes_converse

pub returns-clause-ends : goal.returns-clause-ends
returns-clause-ends c = changes_end
