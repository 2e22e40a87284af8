use Rattle.pb_asm.proofs.OneSpelling.{line_is}
use Rattle.pb_asm.proofs.text.one_spelling.Goals as goal

pub returns : goal.returns
returns c = line_is
