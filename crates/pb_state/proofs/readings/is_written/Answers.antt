use Rattle.pb_state.proofs.Newest.{later_write}
use Rattle.pb_state.proofs.readings.is_written.Goals as goal

pub returns : goal.returns
returns g c = later_write c.args.table.now.contents.entries c.args.cell.now c.args.from.0 (c.in-Some.commit, c.in-Some.field-0-1) c.in-Some.ensures c.if-commit-from.false
