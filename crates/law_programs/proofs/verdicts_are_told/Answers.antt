use Rattle.law_programs.proofs.Verdicts.{verdicts_are_told}
use Rattle.law_programs.proofs.verdicts_are_told.Goals as goal

pub returns : goal.returns
returns c = verdicts_are_told c.codes_rise.ensures c.faults_are_told.ensures.each
