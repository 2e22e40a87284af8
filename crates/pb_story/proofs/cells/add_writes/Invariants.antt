use Rattle.std.proofs.Common.{◌≡◌, ◌++◌, drop, string_bytes}
use Rattle.pb_story.specs.Cells.{writes_text}
use Rattle.pb_story.proofs.cells.add_writes.Given as goal

abbrev pub invariant-loop-write : goal.invariant-loop-write
invariant-loop-write l = string_bytes l.text ++ writes_text l.observers (drop l.write-index l.writes) ≡ string_bytes l.fn.text ++ writes_text l.observers l.writes
