use Rattle.std.proofs.Common.{◌≡◌, ◌++◌, drop}
use Rattle.pb_snapshots.specs.Words.{chosen_stats}
use Rattle.pb_snapshots.proofs.choosing.chosen_stats.Given as goal

abbrev pub invariant-loop-place : goal.invariant-loop-place
invariant-loop-place l = l.chosen.items ++ chosen_stats (drop l.place-index l.places) l.stats ≡ chosen_stats l.places l.stats
