use Rattle.std.proofs.Common.{◌≡◌, drop}
use Rattle.pb_state.specs.Words.{content_in}
use Rattle.pb_state.proofs.cells.content_in.Given as goal

abbrev pub invariant-loop-write : goal.invariant-loop-write
invariant-loop-write l = content_in (drop l.write-index l.writes) l.cell ≡ content_in l.writes l.cell
