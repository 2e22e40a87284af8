use Rattle.std.proofs.Common.{◌≡◌, ◌++◌, take}
use Rattle.std.specs.List.{flat_map, AllByRecursion}
use Rattle.pb_snapshots.specs.Snapshot.{version_bytes}
use Rattle.pb_snapshots.proofs.Lists.{FitsIfOwn}
use Rattle.pb_snapshots.proofs.writing.push_versions.Given as goal

abbrev pub invariant-loop-version : goal.invariant-loop-version
invariant-loop-version l = record {
  added : l.bytes.items ≡ l.fn.bytes.items ++ flat_map version_bytes (take l.version-index l.versions);
  fits : AllByRecursion FitsIfOwn (take l.version-index l.versions);
}
