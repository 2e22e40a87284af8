use Rattle.pb_asm.proofs.TextCuts.{before_is}
use Rattle.pb_asm.proofs.cuts.strip_suffix.Goals as goal

pub returns : goal.returns
returns c = before_is c.args.c c.args.text.now c.strip_suffix.result c.strip_suffix.ensures.cases c.requires.some c.requires.ascii
