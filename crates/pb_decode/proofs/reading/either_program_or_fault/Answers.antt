use Rattle.pb_decode.proofs.LowestCode.{insn_clean}
use Rattle.pb_decode.proofs.OneProgramOrFault.{program_or_fault, not_both, one_program, one_fault}
use Rattle.pb_decode.proofs.reading.either_program_or_fault.Goals as goal

pub returns-clause-either : goal.returns-clause-either
returns-clause-either c = program_or_fault

pub returns-clause-not_both : goal.returns-clause-not_both
returns-clause-not_both c = not_both

pub returns-clause-one_program : goal.returns-clause-one_program
returns-clause-one_program c = one_program

pub returns-clause-one_fault : goal.returns-clause-one_fault
returns-clause-one_fault c = one_fault

pub returns-clause-no_code : goal.returns-clause-no_code
returns-clause-no_code c = insn_clean
