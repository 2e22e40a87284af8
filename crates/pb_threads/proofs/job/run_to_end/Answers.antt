use Rattle.std.proofs.Common.{inl}
use Rattle.std.proofs.lemmas.Result.{err_from_is_err_and}
use Rattle.pb_threads.proofs.Refusing.{stops_at}
use Rattle.pb_threads.proofs.RunAlong.{run_after_step, run_left, run_ends}
use Rattle.pb_threads.proofs.job.run_to_end.Goals as goal

pub loop-turn-init : goal.loop-turn-init
loop-turn-init g c = record { along = λ observers n x a h. h; calls = c.requires.calls }

pub returns-in_default-clause-ok : goal.returns-in_default-clause-ok
returns-in_default-clause-ok g c = λ observers n x a h. run_ends (c.loop-turn.invariant.along observers n x a h) c.jobs_converse.ensures.ends c.loop-turn.invariant.calls c.in_default.ensures.next c.in_default.ensures.some

pub loop-turn-preserved : goal.loop-turn-preserved
loop-turn-preserved g c = record {
  along = λ observers n x a h. run_after_step (c.loop-turn.invariant.along observers n x a h) c.in-Some-next.ensures.next c.in_ok-answer.ensures.can c.in_ok-answer.ensures.told c.took.ensures.answered c.took.ensures.told c.compute_on.ensures.on;
  calls = c.in_ok-compute_on.ensures.ok.calls;
}

pub returns-in_err-compute_on-clause-err : goal.returns-in_err-compute_on-clause-err
returns-in_err-compute_on-clause-err g c = λ observers n x a h.
    let p = err_from_is_err_and c.from_residual-in_err-compute_on.result c.from_residual-in_err-compute_on.ensures.1 in
    rw (p.1, p.2) (run_left (run_after_step (c.loop-turn.invariant.along observers n x a h) c.in-Some-next.ensures.next c.in_ok-answer.ensures.can c.in_ok-answer.ensures.told c.took.ensures.answered c.took.ensures.told c.compute_on.ensures.on)
    c.jobs_converse.ensures.converses (inl c.in_err-compute_on.ensures.want))

pub returns-in_err-answer-clause-err : goal.returns-in_err-answer-clause-err
returns-in_err-answer-clause-err g c = λ observers n x a h.
    let p = err_from_is_err_and c.from_residual.result c.from_residual.ensures.1 in
    rw (p.1, p.2, c.in_err-answer.ensures.seat) (run_left (c.loop-turn.invariant.along observers n x a h) c.jobs_converse.ensures.converses (stops_at c.in-Some-next.ensures.next c.in_err-answer.ensures.refused))
