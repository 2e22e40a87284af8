use Rattle.std.proofs.Common.{false, inl}
use Rattle.pb_threads.specs.Tries.{HasTriedTo}
use Rattle.pb_threads.proofs.TryAlong.{try_at_first, try_left}
use Rattle.pb_threads.proofs.tries.try_once.Goals as goal

pub returns-in-Err-clause-err : goal.returns-in-Err-clause-err
returns-in-Err-clause-err g c = try_left (try_at_first c.args.batch.now c.args.seat.now) c.changes_converse.ensures.converses c.known.ensures.some (inl c.from-refusal.ensures)

pub returns-in-Ok : goal.returns-in-Ok
returns-in-Ok g c =
    let along : HasTriedTo c.args.batch.now c.args.seat.now c.args.seat.now c.in-Ok.job false = rw c.in-Ok.ensures (try_at_first c.args.batch.now c.args.seat.now) in
    record {
      ok = c.try_to_end.ensures.ok c.args.batch.now c.args.seat.now c.known.ensures.some along;
      err = c.try_to_end.ensures.err c.args.batch.now c.args.seat.now c.known.ensures.some along;
    }
