use Rattle.std.proofs.Common.{◌≡◌, ◌++◌, ◌+◌, ◌≤◌, length}
use Rattle.std.specs.List.{flat_map, AllByRecursion}
use Rattle.pb_snapshots.specs.Snapshot.{version_bytes, FitsVersion}
use Rattle.pb_snapshots.proofs.Fields.{IsBytes}
use Rattle.pb_snapshots.proofs.reading.read_versions.Given as goal

-- these were taken from the front, each of a byte at least
abbrev pub invariant-loop : goal.invariant-loop
invariant-loop l = record {
  whole : l.bytes ≡ flat_map version_bytes l.versions.items ++ l.rest;
  fits : AllByRecursion FitsVersion l.versions.items;
  rest : IsBytes l.rest;
  fewer : length l.rest + l.counter ≤ length l.bytes;
}
