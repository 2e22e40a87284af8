use Rattle.law_programs.proofs.ByCode.{rules_by_code}
use Rattle.law_programs.proofs.rules_are_by_code.Goals as goal

pub returns : goal.returns
returns c = rules_by_code
