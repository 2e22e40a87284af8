-- The numbers by which a schedule's faults are reported. Readers use the codes' names.
use Rattle.std.specs.Prelude.{ℕ}
use Rattle.pb_parse.specs.declared.schedule.code.ScheduleCode.{ScheduleCode}

-- the number that docs/CODES.md explains
abbrev pub schedule_code : ScheduleCode → ℕ
schedule_code ScheduleCode.Form = 90
schedule_code ScheduleCode.Range = 91
schedule_code ScheduleCode.TooMany = 92
schedule_code ScheduleCode.NoObserver = 93
