use Rattle.std.proofs.Common.{ap, ◌∙◌}
use Rattle.std.proofs.lemmas.Result.{err_from_is_err_and}
use Rattle.pb_state.proofs.Outcomes.{err_always}
use Rattle.pb_keeper.specs.Words.{BeginsRun}
use Rattle.pb_keeper.specs.Leads.{SaidLeads}
use Rattle.pb_keeper.specs.Stats.{added}
use Rattle.pb_keeper.proofs.Reaching.{at_start, run_begins, run_ends}
use Rattle.pb_keeper.proofs.run.run_one.Goals as goal

pub returns-in_err-end-clause-err : goal.returns-in_err-end-clause-err
returns-in_err-end-clause-err g c =
    let so_far = c.go_to_end.ensures.on c.args.job.now c.args.state.now (at_start c.args.job.now c.args.state.now c.requires) in
    err_always c.from_residual.result (SaidLeads (BeginsRun c.args.job.now.watch) c.args.state.now c.go_to_end.new.state)
    (run_begins c.args.job.now c.go_to_end.new.job c.go_to_end.new.stats c.args.state.now c.go_to_end.new.state c.jobs_converse.ensures.converses c.requires so_far)

pub returns-in_err-end-clause-stops : goal.returns-in_err-end-clause-stops
returns-in_err-end-clause-stops g c kept known =
    let p = err_from_is_err_and c.from_residual.result c.from_residual.ensures.1 in
    rw (p.1, p.2) (c.in_err-end.ensures.stops c.args.job.now c.args.state.now kept known (at_start c.args.job.now c.args.state.now c.requires))

pub returns-clause-ok : goal.returns-clause-ok
returns-clause-ok g c =
    let so_far = c.go_to_end.ensures.on c.args.job.now c.args.state.now (at_start c.args.job.now c.args.state.now c.requires) in
    run_ends c.args.job.now c.go_to_end.new.job c.in_ok-end.end c.go_to_end.new.stats c.add.new.self c.args.state.now c.go_to_end.new.state c.jobs_converse.ensures.ends c.requires so_far c.in_ok-end.ensures.over
    (c.add.ensures ∙ ap (λ s. added c.go_to_end.new.stats s) c.of_end.ensures)
