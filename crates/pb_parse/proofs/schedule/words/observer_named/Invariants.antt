use Rattle.std.proofs.Common.{◌≡◌, ◌+◌, drop}
use Rattle.pb_parse.specs.ScheduleWords.{first_named}
use Rattle.pb_parse.proofs.schedule.words.observer_named.Given as goal

abbrev pub invariant-loop-place : goal.invariant-loop-place
invariant-loop-place l = l.place + first_named (drop l.place l.observers) l.name ≡ first_named l.observers l.name
