use Rattle.std.proofs.Common.{◌≡◌, ◌≤◌, length, take, vec_capacity}
use Rattle.pb_world.specs.Events.{RunsTo}
use Rattle.pb_world.proofs.world.World.run.Given as goal

abbrev pub invariant-loop-event : goal.invariant-loop-event
invariant-loop-event g l = record {
  runs : RunsTo l.fn.self (take l.event-index l.events) l.notes.items l.self;
  counted : length l.notes.items ≡ l.event-index;
  room : length l.events ≤ vec_capacity l.notes;
}
