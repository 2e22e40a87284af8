use Rattle.pb_parse.proofs.WholeSchedules.{text_is}
use Rattle.pb_parse.proofs.schedule.laws.schedules_are_their_lines.Goals as goal

pub returns : goal.returns
returns c = text_is
