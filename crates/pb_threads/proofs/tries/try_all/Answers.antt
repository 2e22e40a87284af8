use Rattle.std.proofs.Common.{refl}
use Rattle.std.proofs.lemmas.Result.{err_from_is_err_and}
use Rattle.pb_threads.specs.Words.{no_part}
use Rattle.pb_threads.proofs.Gaining.{gains_none, gains_as, gains_part, gains_end, gains_cut, stops_as}
use Rattle.pb_threads.proofs.tries.try_all.Goals as goal

pub loop-count-init : goal.loop-count-init
loop-count-init g c = gains_none no_part

pub returns-then-committed-clause-ok : goal.returns-then-committed-clause-ok
returns-then-committed-clause-ok g c = gains_end c.loop-count.invariant (gains_as (λ said t. (c.loop-count-test.true, t)) (rw c.if-committed.true at c.in_ok-committed.ensures.ok))

pub loop-count-preserved : goal.loop-count-preserved
loop-count-preserved g c = gains_part c.loop-count.invariant (gains_as (λ said t. (refl, t)) (rw c.if-committed.false at c.in_ok-committed.ensures.ok))

pub returns-in_err-committed-clause-err : goal.returns-in_err-committed-clause-err
returns-in_err-committed-clause-err g c =
    let p = err_from_is_err_and c.from_residual.result c.from_residual.ensures.1 in
    rw (p.1, p.2) (gains_cut c.loop-count.invariant (stops_as (λ next said begun. (c.loop-count-test.true, begun)) c.in_err-committed.ensures.err))
