use Rattle.std.proofs.Common.{rules, ◌≡◌, length-append, arith}
use Rattle.pb_world.specs.Faults.{fault_code}
use Rattle.pb_world.proofs.Going.{runs_on, stops_at_fault}
use Rattle.pb_world.proofs.world.World.run.Goals as goal

pub returns-in-Err-event-clause-err : goal.returns-in-Err-event-clause-err
returns-in-Err-event-clause-err g c =
    let l = c.loop-event in
    let at : c.fault_at-in-Err-event.result.event ≡ l.event-index = search rules in
    let code : fault_code c.fault_at-in-Err-event.result.fault ≡ fault_code c.in-Err-event.fault = search rules in
    stops_at_fault c.args.self.now c.args.events.now l.notes.items l.event-index c.fault_at-in-Err-event.result.event c.in-Err-event.fault (fault_code c.fault_at-in-Err-event.result.fault) l.self c.event-item.result c.event.new.self c.loop-event-test.true at code l.invariant.runs c.in-Err-event.ensures.0 c.event-item.is c.in-Err-event.ensures.1

pub loop-event-preserved : goal.loop-event-preserved
loop-event-preserved g c = grind (arith, runs_on, length-append, c.loop-event, c.args.events.now, c.event-item.result, c.in-Ok-event.note, c.event.new.self, c.event-item.is, c.in-Ok-event.ensures, c.args.self.now, c.loop-event-test.true, c.append.new.list, c.append.ensures.room, c.append.ensures.items)
