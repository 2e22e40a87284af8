use Rattle.std.proofs.Common.{arith, subst}
use Rattle.pb_snapshots.specs.Snapshot.{snapshot_value}
use Rattle.pb_keep.specs.Words.{IsSnapshotTaken, kept_table}
use Rattle.pb_keep.proofs.keeper.Keeper.snapshot.Goals as goal

pub returns-clause-room : goal.returns-clause-room
returns-clause-room g c = grind (arith, c.clock.ensures, c.if-clock.false, c.clock.type_inv)

pub returns-clause-taken : goal.returns-clause-taken
returns-clause-taken g c = subst (λ l. IsSnapshotTaken (kept_table c.args.self.now.state l) (snapshot_value c.in_ok-snapshot.snapshot)) c.deref.ensures.value c.in_ok-snapshot.ensures.taken
