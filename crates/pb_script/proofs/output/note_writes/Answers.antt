use Rattle.std.proofs.Common.{◌++◌, map, take, subst}
use Rattle.std.proofs.lemmas.List.{take_all}
use Rattle.pb_script.specs.Puts.{put_by}
use Rattle.pb_script.specs.Reports.{AreNewest}
use Rattle.pb_script.proofs.Gathering.{goes_on_at}
use Rattle.pb_script.proofs.output.note_writes.Goals as goal

pub loop-write-preserved : goal.loop-write-preserved
loop-write-preserved c = λ puts h.
    let before = puts ++ map (put_by c.args.commit) (take c.loop-write.write-index c.args.writes.now) in
    subst (λ ps. AreNewest ps c.note.new.table) (goes_on_at (put_by c.args.commit) c.args.writes.now c.loop-write.write-index c.write-item.result puts c.loop-write-test.true c.write-item.is)
    (c.in_ok-note.ensures before (c.loop-write.invariant puts h))

pub returns : goal.returns
returns c = λ puts h.
    subst (λ ws. AreNewest (puts ++ map (put_by c.args.commit) ws) c.loop-write.table) (take_all c.loop-write.write-index c.args.writes.now c.loop-write-test.false) (c.loop-write.invariant puts h)
