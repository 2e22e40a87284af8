use Rattle.law_texts.proofs.LinesRead.{line_is}
use Rattle.law_texts.proofs.scripts.lines_are_read_as_written.Goals as goal

pub returns : goal.returns
returns c = line_is c.reads_operations.ensures
