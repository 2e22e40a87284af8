use Rattle.std.proofs.Common.{◌≡◌, drop, is_some}
use Rattle.pb_parse.specs.Words.{writes_of, content_in}
use Rattle.pb_parse.proofs.script.lines.names.Given as goal

abbrev pub invariant-loop-write : goal.invariant-loop-write
invariant-loop-write l = is_some (content_in (writes_of (drop l.write-index l.writes)) l.cell) ≡ is_some (content_in (writes_of l.writes) l.cell)
