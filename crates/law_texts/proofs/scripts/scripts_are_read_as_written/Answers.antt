use Rattle.law_texts.proofs.ScriptsRead.{text_is}
use Rattle.law_texts.proofs.scripts.scripts_are_read_as_written.Goals as goal

pub returns : goal.returns
returns c = text_is c.lines_are_read_as_written.ensures
