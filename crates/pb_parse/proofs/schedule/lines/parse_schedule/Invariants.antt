use Rattle.std.proofs.Common.{◌≡◌, ◌+◌, ◌≤◌, length}
use Rattle.pb_parse.specs.Words.{MAX_EVENTS, lines_left}
use Rattle.pb_parse.specs.Schedules.{events_of_lines, schedule_of}
use Rattle.pb_parse.proofs.schedule.lines.parse_schedule.Given as goal

abbrev pub invariant-loop-left : goal.invariant-loop-left
invariant-loop-left l = record {
  so_far : events_of_lines l.observers l.index l.events.items (lines_left l.left) ≡ schedule_of l.observers l.text;
  few : length l.events.items ≤ MAX_EVENTS;
  counted : l.index + length (lines_left l.left) ≤ length l.text + 1;
}

abbrev pub decreases-loop-left : goal.decreases-loop-left
decreases-loop-left l = length (lines_left l.left)
