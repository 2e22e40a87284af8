use Rattle.std.proofs.Common.{arith}
use Rattle.pb_reading.proofs.FirstPart.{few_lines}
use Rattle.pb_asm.proofs.text.lines_in.Goals as goal

pub loop-left-init : goal.loop-left-init
loop-left-init c = grind (arith, few_lines, c.new.ensures.items, c.args.text.now)
