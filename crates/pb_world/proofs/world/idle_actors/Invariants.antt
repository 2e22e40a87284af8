use Rattle.std.proofs.Common.{◌≡◌}
use Rattle.pb_world.specs.Events.{idle_actors}
use Rattle.pb_world.proofs.world.idle_actors.Given as goal

abbrev pub invariant-loop : goal.invariant-loop
invariant-loop l = l.actors.items ≡ idle_actors l.counter
