use Rattle.std.proofs.Common.{◌≡◌, ◌++◌, take}
use Rattle.std.specs.List.{flat_map, AllByRecursion}
use Rattle.pb_snapshots.specs.Snapshot.{stats_bytes, FitsStats}
use Rattle.pb_snapshots.proofs.writing.push_all_stats.Given as goal

abbrev pub invariant-loop-stats : goal.invariant-loop-stats
invariant-loop-stats l = record {
  added : l.bytes.items ≡ l.fn.bytes.items ++ flat_map stats_bytes (take l.stats-index l.all);
  fits : AllByRecursion FitsStats (take l.stats-index l.all);
}
