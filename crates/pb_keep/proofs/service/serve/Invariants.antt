use Rattle.std.proofs.Common.{◌≡◌, ℕ, List, IsTrue}
use Rattle.pb_keep.specs.Conversations.{keeper_view, Beginning, Serves}
use Rattle.pb_keep.specs.Served.{ServesRead}
use Rattle.pb_keep.specs.Waits.{IsWaiting}
use Rattle.pb_keep.proofs.service.serve.Given as goal

-- no call of the disk has failed, the next record has what waits, and the lines so far are served
abbrev pub invariant-loop-turn : goal.invariant-loop-turn
invariant-loop-turn g l = record {
  usable : IsTrue (g.D.Disk.is_usable l.keeper.log.disk);
  waiting : IsWaiting l.keeper.waiting;
  faultless : g.D.Disk.faults l.keeper.log.disk ≡ g.D.Disk.faults l.initial.keeper.log.disk;
  same : l.keeper.state.observers ≡ l.initial.keeper.state.observers;
  served : (b : Beginning) (lines : List (List ℕ)) → Serves b lines (keeper_view g.D.Disk.seen g.D.Disk.may_leave l.initial.keeper (g.S.Sink.taken l.initial.out))
      → ServesRead b lines (g.I.LineSource.remaining l.initial.input) (g.I.LineSource.remaining l.input) (keeper_view g.D.Disk.seen g.D.Disk.may_leave l.keeper (g.S.Sink.taken l.out));
}
