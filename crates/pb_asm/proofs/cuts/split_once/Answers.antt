use Rattle.pb_asm.proofs.TextCuts.{around_is}
use Rattle.pb_asm.proofs.cuts.split_once.Goals as goal

pub returns : goal.returns
returns c = around_is c.args.c c.args.text.now c.split_once.result c.split_once.ensures.cases c.requires
