use Rattle.std.proofs.Common.{string_bytes}
use Rattle.pb_story.specs.Cells.{write_text}
use Rattle.pb_story.proofs.Writes.{tell_next}
use Rattle.pb_story.proofs.cells.add_batch.Goals as goal

pub loop-place-preserved : goal.loop-place-preserved
loop-place-preserved c = tell_next (write_text c.args.observers.now) c.args.batch.now c.loop-place.place c.at-cell.result (string_bytes c.loop-place.text) (string_bytes c.add_write.new.text) _ c.at-cell.ensures c.in_ok-add_write.ensures c.loop-place.invariant
