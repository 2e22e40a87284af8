use Rattle.std.proofs.Common.{[]}
use Rattle.pb_parse.specs.ScheduleCodes.{schedule_code}
use Rattle.pb_parse.specs.Schedules.{with_event_line}
use Rattle.pb_reading.proofs.FirstFault.{stops_at}
use Rattle.pb_parse.proofs.schedule.laws.schedule_fault_is_first.Goals as goal

pub returns : goal.returns
returns c = λ observers. stops_at schedule_code (with_event_line observers) []
