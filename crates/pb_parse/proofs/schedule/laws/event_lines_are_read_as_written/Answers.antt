use Rattle.pb_parse.proofs.OrdersWritten.{line_written}
use Rattle.pb_parse.proofs.OrdersRead.{line_read}
use Rattle.pb_parse.proofs.schedule.laws.event_lines_are_read_as_written.Goals as goal

pub returns : goal.returns
returns c = λ observers line order. (line_written observers line order, line_read observers line order)
