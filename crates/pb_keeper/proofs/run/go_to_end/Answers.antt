use Rattle.std.proofs.lemmas.Result.{err_from_is_err_and}
use Rattle.pb_keeper.proofs.run.go_to_end.Goals as goal

pub returns-in_err-end-clause-stops : goal.returns-in_err-end-clause-stops
returns-in_err-end-clause-stops g c first start kept known so_far =
    let p = err_from_is_err_and c.from_residual.result c.from_residual.ensures.1 in
    rw (p.1, p.2) (c.in_err-end.ensures.stops first start kept known so_far)

pub returns-in-None-clause-stops : goal.returns-in-None-clause-stops
returns-in-None-clause-stops g c first start kept known so_far = c.finish.ensures.stops first start kept known (c.go_to_plan.ensures.on first start so_far)
