use Rattle.pb_threads.proofs.Refusing.{stops_at}
use Rattle.pb_threads.proofs.TryAlong.{try_left, try_after_step, try_ends}
use Rattle.pb_threads.proofs.tries.try_to_end.Goals as goal

pub loop-turn-init : goal.loop-turn-init
loop-turn-init g c = λ batch a h. h

pub returns-in_default-clause-ok : goal.returns-in_default-clause-ok
returns-in_default-clause-ok g c = λ batch a some h. rw c.has_committed.ensures (try_ends (c.loop-turn.invariant batch a h) some c.plans_converse.ensures.stops c.changes_converse.ensures.ends c.in_default.ensures)

pub loop-turn-preserved : goal.loop-turn-preserved
loop-turn-preserved g c = λ batch a h. try_after_step (c.loop-turn.invariant batch a h) c.in-Some-next.ensures c.in-Ok.ensures.can c.in-Ok.ensures.told c.took.ensures c.or_commits-committed.ensures

pub returns-in-Err-clause-err : goal.returns-in-Err-clause-err
returns-in-Err-clause-err g c = λ batch a some h.
    rw c.in-Err.ensures.seat (try_left (c.loop-turn.invariant batch a h) c.changes_converse.ensures.converses some (stops_at c.in-Some-next.ensures c.in-Err.ensures.refused))
