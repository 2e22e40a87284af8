use Rattle.pb_files.proofs.ProgramFaults.{faulty_text_is_told, known_bytes_are_answered}
use Rattle.pb_files.proofs.laws.known_programs_are_judged.Goals as goal

pub returns-clause-text : goal.returns-clause-text
returns-clause-text c = faulty_text_is_told

pub returns-clause-bytes : goal.returns-clause-bytes
returns-clause-bytes c = known_bytes_are_answered
