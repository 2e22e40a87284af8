use Rattle.pb_asm.proofs.FaultsTold.{line_told, own_told, word_told, too_long_told, nothing_told}
use Rattle.pb_asm.proofs.text.faults_are_told_where_they_are.Goals as goal

pub returns-clause-word : goal.returns-clause-word
returns-clause-word c = word_told

pub returns-clause-too_long : goal.returns-clause-too_long
returns-clause-too_long c = too_long_told

pub returns-clause-nothing : goal.returns-clause-nothing
returns-clause-nothing c = nothing_told

pub returns-clause-line : goal.returns-clause-line
returns-clause-line c = line_told

pub returns-clause-own : goal.returns-clause-own
returns-clause-own c = own_told
