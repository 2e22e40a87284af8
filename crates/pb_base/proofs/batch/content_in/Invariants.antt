use Rattle.std.proofs.Common.{◌≡◌, drop}
use Rattle.pb_base.specs.Batch.{writes_of, content_in}
use Rattle.pb_base.proofs.batch.content_in.Given as goal

abbrev pub invariant-loop-write : goal.invariant-loop-write
invariant-loop-write l = content_in (writes_of (drop l.write-index l.writes)) l.cell ≡ content_in (writes_of l.writes) l.cell
