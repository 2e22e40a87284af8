use Rattle.std.proofs.Common.{arith}
use Rattle.pb_driver.specs.Words.{spares_of, taking}
use Rattle.pb_driver.proofs.RunEndings.{table_run_ends}
use Rattle.pb_driver.proofs.run.run_on.Goals as goal

pub returns-in-Ok : goal.returns-in-Ok
returns-in-Ok g c =
    let w = c.in-Ok.worked in
    table_run_ends c.changes_are_made.ensures c.args.shared c.args.seats.items c.args.batches.items (spares_of g.T.Tablet.contents c.args.spares.items)
    c.requires.seated (omega (arith, c.requires.some, c.args.seats.ok))
    (record { table = w.shared; seats = w.seats.items; refusals = w.refusals.items; unfinished = w.unfinished.items }) (record { worked = c.in-Ok.ensures.worked; keeps = c.in-Ok.ensures.table })
    (taking g.S.Sink.taken g.S.Sink.failed c.args.sink.now c.conclude.new.sink) c.conclude.result c.conclude.ensures
