use Rattle.std.proofs.Common.{◌++◌, map, take, refl, subst, arith}
use Rattle.std.proofs.lemmas.List.{take_all}
use Rattle.pb_script.specs.Puts.{put_by}
use Rattle.pb_script.specs.Reports.{AreNewest}
use Rattle.pb_script.proofs.Gathering.{goes_on}
use Rattle.pb_script.proofs.output.note_batch.Goals as goal

pub loop-place-preserved : goal.loop-place-preserved
loop-place-preserved c = λ puts h.
    let before = puts ++ map (put_by c.args.commit) (take c.loop-place.place c.args.batch.now) in
    subst (λ ps. AreNewest ps c.note.new.table) (goes_on (put_by c.args.commit) c.args.batch.now c.loop-place.place c.at-cell.result puts before c.at-cell.ensures refl)
    (c.in_ok-note.ensures before (c.loop-place.invariant puts h))

pub returns : goal.returns
returns c = λ puts h.
    subst (λ ws. AreNewest (puts ++ map (put_by c.args.commit) ws) c.loop-place.table)
    (take_all c.loop-place.place c.args.batch.now (omega (arith, c.loop-place-test.false, c.len-place-end.ensures.count))) (c.loop-place.invariant puts h)
