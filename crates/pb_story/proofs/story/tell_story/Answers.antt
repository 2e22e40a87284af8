use Rattle.std.proofs.Common.{arith, subst, Err}
use Rattle.pb_story.specs.Words.{taking, ReportFault, Reports}
use Rattle.pb_story.proofs.Retelling.{whole_after_report, report_cut, report_unmade}
use Rattle.pb_story.proofs.story.tell_story.Goals as goal

pub returns-in-Ok : goal.returns-in-Ok
returns-in-Ok g c = grind (arith, whole_after_report, g.S.Sink.taken, g.S.Sink.failed, c.tell_events.new.sink, c.report.new.sink, c.shared.ensures, c.in-Ok.ensures, c.args.excerpt.now, c.args.world.now, c.args.events.now, c.tell_events.new.world, c.args.sink.now, c.in_ok-tell_events.ensures)

pub returns-in-Err-Output : goal.returns-in-Err-Output
returns-in-Err-Output g c = grind (arith, report_cut, g.S.Sink.taken, g.S.Sink.failed, c.tell_events.new.sink, c.report.new.sink, c.shared.result.now, c.in-Err-Output.field-0-is, c.in-Err-Output.ensures, c.args.excerpt.now, c.args.world.now, c.args.events.now, c.tell_events.new.world, c.args.sink.now, c.in_ok-tell_events.ensures, c.shared.ensures)

pub returns-in-Err-NoMemory : goal.returns-in-Err-NoMemory
returns-in-Err-NoMemory g c =
    let e = c.in-Err-NoMemory in
    let out = taking g.S.Sink.taken g.S.Sink.failed c.tell_events.new.sink c.report.new.sink in
    let nothing = subst (λ (f : ReportFault). Reports c.shared.result.now out (Err f)) e.field-0-is e.ensures in
    report_unmade c.args.excerpt.now c.args.world.now c.args.events.now c.tell_events.new.world (g.S.Sink.taken c.args.sink.now) (g.S.Sink.taken c.tell_events.new.sink) (g.S.Sink.taken c.report.new.sink)
    (g.S.Sink.failed c.tell_events.new.sink) (g.S.Sink.failed c.report.new.sink) c.in_ok-tell_events.ensures nothing
