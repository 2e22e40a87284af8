use Rattle.std.proofs.Common.{arith, refl}
use Rattle.pb_driver.specs.Words.{taking}
use Rattle.pb_driver.proofs.ReplayEndings.{ends_reported, ends_cut_short, ends_at_event}
use Rattle.pb_driver.proofs.replay.run.Goals as goal

pub returns-in-Ok-report : goal.returns-in-Ok-report
returns-in-Ok-report g c = grind (arith, ends_reported, g.S.Sink.taken, g.S.Sink.failed, c.args.sink.now, c.report.new.sink, c.shared.ensures, c.in-Ok-report.ensures, c.args.world.now, c.args.events.now, c.in-Ok._notes.items, c.run.new.self, c.in-Ok.ensures.ok)

pub returns-in-Ok : goal.returns-in-Ok
returns-in-Ok g c = grind (arith, ends_cut_short, g.S.Sink.taken, g.S.Sink.failed, c.args.sink.now, c.report.new.sink, c.in-Err-report.fault, c.shared.ensures, c.in-Err-report.ensures, c.into.ensures, c.args.world.now, c.args.events.now, c.in-Ok._notes.items, c.run.new.self, c.in-Ok.ensures.ok)

pub returns : goal.returns
returns g c =
    let out = taking g.S.Sink.taken g.S.Sink.failed c.args.sink.now c.args.sink.now in
    rw c.fault_of.ensures (ends_at_event c.args.world.now c.args.events.now c.in-Err.fault.event c.in-Err.fault.fault c.run.new.self out (refl, c.requires.unfailed) c.in-Err.ensures.err)
