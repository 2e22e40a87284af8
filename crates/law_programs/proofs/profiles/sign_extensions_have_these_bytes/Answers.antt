use Rattle.law_programs.proofs.EncodedSigns.{signs_encoded}
use Rattle.law_programs.proofs.profiles.sign_extensions_have_these_bytes.Goals as goal

pub returns : goal.returns
returns c = signs_encoded c.either_program_or_fault.ensures.one_program c.profiles_read_alike.ensures
