use Rattle.std.proofs.Common.{List, ◌++◌, map, take}
use Rattle.pb_script.specs.declared.reports.newest.Put.{Put}
use Rattle.pb_script.specs.Puts.{put_by}
use Rattle.pb_script.specs.Reports.{AreNewest}
use Rattle.pb_script.proofs.output.note_batch.Given as goal

abbrev pub invariant-loop-place : goal.invariant-loop-place
invariant-loop-place l = (puts : List Put) → AreNewest puts l.fn.table → AreNewest (puts ++ map (put_by l.commit) (take l.place l.batch)) l.table
