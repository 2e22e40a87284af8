use Rattle.std.proofs.Common.{inl, sym, subst}
use Rattle.std.proofs.lemmas.Result.{err_from_is_err_and}
use Rattle.pb_threads.specs.Runs.{HasRunTo}
use Rattle.pb_threads.proofs.RunAlong.{run_at_first, job_is, run_left}
use Rattle.pb_threads.proofs.job.run_one.Goals as goal

pub returns-in_err-job-clause-err : goal.returns-in_err-job-clause-err
returns-in_err-job-clause-err g c =
    let p = err_from_is_err_and c.from_residual.result c.from_residual.ensures.1 in
    rw p.1 (run_left (run_at_first c.args.observers.now c.args.number c.args.cell c.args.seat.now c.requires.known) c.jobs_converse.ensures.converses (inl p.2))

pub returns : goal.returns
returns g c =
    let along : HasRunTo c.args.observers.now c.args.number c.args.cell c.args.seat.now c.args.seat.now c.in_ok-job.job = subst (λ j. HasRunTo c.args.observers.now c.args.number c.args.cell c.args.seat.now c.args.seat.now j)
    (sym (job_is c.args.observers.now c.args.number c.args.cell c.in_ok-job.job c.requires.known c.in_ok-job.ensures))
    (run_at_first c.args.observers.now c.args.number c.args.cell c.args.seat.now c.requires.known) in
    record {
      ok = c.run_to_end.ensures.ok c.args.observers.now c.args.number c.args.cell c.args.seat.now along;
      err = c.run_to_end.ensures.err c.args.observers.now c.args.number c.args.cell c.args.seat.now along;
    }
