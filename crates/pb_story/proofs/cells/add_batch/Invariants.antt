use Rattle.std.proofs.Common.{◌≡◌, ◌++◌, drop, string_bytes}
use Rattle.pb_story.specs.Cells.{writes_text}
use Rattle.pb_story.proofs.cells.add_batch.Given as goal

abbrev pub invariant-loop-place : goal.invariant-loop-place
invariant-loop-place l = string_bytes l.text ++ writes_text l.observers (drop l.place l.batch) ≡ string_bytes l.fn.text ++ writes_text l.observers l.batch
