use Rattle.law_journals.proofs.EarlierReads.{reads_are_taken}
use Rattle.law_journals.proofs.reads.reads_up_to_the_start_are_taken.Goals as goal

pub returns : goal.returns
returns c = reads_are_taken
