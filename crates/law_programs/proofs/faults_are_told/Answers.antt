use Rattle.law_programs.proofs.Reached.{faults_are_told, unreachable_is_told}
use Rattle.law_programs.proofs.faults_are_told.Goals as goal

pub returns : goal.returns
returns c = record {
  each = faults_are_told c.frames_are_meets.ensures c.jumps_lead_on.ensures.later c.rules_are_by_code.ensures;
  unreachable = unreachable_is_told c.frames_are_meets.ensures c.jumps_lead_on.ensures.later c.rules_are_by_code.ensures;
}
