use Rattle.std.proofs.Common.{◌≡◌, ◌++◌, map}
use Rattle.pb_snapshots.specs.VersionWalks.{version_listed}
use Rattle.pb_snapshots.proofs.taking.listed.Given as goal

abbrev pub invariant-loop-key : goal.invariant-loop-key
invariant-loop-key l = l.cells.items ++ map version_listed l.key-iterator ≡ map version_listed l.versions.entries
