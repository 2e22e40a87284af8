use Rattle.std.proofs.Common.{◌≡◌, ◌++◌, map, rules, sym, subst}
use Rattle.std.proofs.lemmas.Result.{on_ok_weaker}
use Rattle.pb_script.specs.Puts.{put_by, puts_by}
use Rattle.pb_script.specs.Reports.{AreNewest}
use Rattle.pb_script.proofs.output.note_entry.Goals as goal

pub returns-in-Script : goal.returns-in-Script
returns-in-Script g c =
    let same : puts_by c.args.shared.now.state c.args.entry.now ≡ map (put_by c.in-Some-Committed.commit) c.in-Script.batch = search rules in
    on_ok_weaker c.note_batch.result (λ d puts h. subst (λ ps. AreNewest (puts ++ ps) c.note_batch.new.table) (sym same) (d puts h)) c.note_batch.ensures

pub returns-in-Run : goal.returns-in-Run
returns-in-Run g c =
    let same : puts_by c.args.shared.now.state c.args.entry.now ≡ map (put_by c.in-Some-Committed.commit) c.writes.result.now = search rules in
    on_ok_weaker c.note_writes.result (λ d puts h. subst (λ ps. AreNewest (puts ++ ps) c.note_writes.new.table) (sym same) (d puts h)) c.note_writes.ensures
