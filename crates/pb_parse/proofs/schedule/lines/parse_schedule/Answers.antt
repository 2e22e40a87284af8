use Rattle.std.proofs.Common.{arith}
use Rattle.pb_reading.proofs.FirstPart.{few_lines}
use Rattle.pb_parse.proofs.schedule.lines.parse_schedule.Goals as goal

pub loop-left-init : goal.loop-left-init
loop-left-init c = grind (arith, few_lines, c.new-events.ensures.items, c.args.text.now)
