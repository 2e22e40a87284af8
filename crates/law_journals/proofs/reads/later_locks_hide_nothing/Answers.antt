use Rattle.law_journals.proofs.EarlierReads.{hide_nothing}
use Rattle.law_journals.proofs.reads.later_locks_hide_nothing.Goals as goal

pub returns : goal.returns
returns c = hide_nothing
