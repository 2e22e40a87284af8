use Rattle.std.proofs.lemmas.Result.{err_from_is_err_and}
use Rattle.pb_keeper.proofs.Turns.{gone_on, late_goes}
use Rattle.pb_keeper.proofs.run.finish.Goals as goal

pub loop-end-smaller : goal.loop-end-smaller
loop-end-smaller g c = (late_goes c.loop-end.job c.go_on.new.job (gone_on c.in_ok-end.field-0 c.in_default.not-Some c.in_ok-end.ensures.goes) c.loop-end.invariant.late).fewer

pub loop-end-preserved : goal.loop-end-preserved
loop-end-preserved g c = record {
  late = (late_goes c.loop-end.job c.go_on.new.job (gone_on c.in_ok-end.field-0 c.in_default.not-Some c.in_ok-end.ensures.goes) c.loop-end.invariant.late).late;
  on = λ first start so_far. c.go_on.ensures.on first start (c.loop-end.invariant.on first start so_far);
}

pub returns-in_err-end-clause-stops : goal.returns-in_err-end-clause-stops
returns-in_err-end-clause-stops g c first start kept known so_far =
    let p = err_from_is_err_and c.from_residual.result c.from_residual.ensures.1 in
    rw (p.1, p.2) (c.in_err-end.ensures.stops first start kept known (c.loop-end.invariant.on first start so_far))
