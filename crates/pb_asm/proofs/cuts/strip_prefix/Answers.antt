use Rattle.pb_asm.proofs.TextCuts.{behind_is}
use Rattle.pb_asm.proofs.cuts.strip_prefix.Goals as goal

pub returns : goal.returns
returns c = behind_is c.args.c c.args.text.now c.strip_prefix.result c.strip_prefix.ensures.cases c.requires.ascii
