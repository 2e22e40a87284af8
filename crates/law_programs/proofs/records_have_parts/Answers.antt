use Rattle.law_programs.proofs.RecordParts.{have_parts}
use Rattle.law_programs.proofs.records_have_parts.Goals as goal

pub returns : goal.returns
returns c = have_parts
