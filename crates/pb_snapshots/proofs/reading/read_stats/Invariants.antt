use Rattle.std.proofs.Common.{◌≡◌, ◌++◌, length}
use Rattle.std.specs.List.{flat_map, AllByRecursion}
use Rattle.pb_snapshots.specs.Snapshot.{stats_bytes, FitsStats}
use Rattle.pb_snapshots.proofs.Fields.{IsBytes}
use Rattle.pb_snapshots.proofs.reading.read_stats.Given as goal

-- so many were taken from the front
abbrev pub invariant-loop : goal.invariant-loop
invariant-loop l = record {
  whole : l.bytes ≡ flat_map stats_bytes l.all.items ++ l.rest;
  count : length l.all.items ≡ l.counter;
  fits : AllByRecursion FitsStats l.all.items;
  rest : IsBytes l.rest;
}
