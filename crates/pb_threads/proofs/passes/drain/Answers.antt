use Rattle.std.proofs.Common.{refl, inl}
use Rattle.std.proofs.lemmas.Result.{err_from_is_err_and}
use Rattle.pb_threads.specs.Words.{no_part}
use Rattle.pb_threads.proofs.Gaining.{gains_none, gains_as, gains_part, gains_end, gains_cut, stops_as}
use Rattle.pb_threads.proofs.passes.drain.Goals as goal

pub loop-count-init : goal.loop-count-init
loop-count-init g c = gains_none no_part

pub returns-in_err-marked-clause-err : goal.returns-in_err-marked-clause-err
returns-in_err-marked-clause-err g c =
    let p = err_from_is_err_and c.from_residual.result c.from_residual.ensures.1 in
    rw (p.1, p.2) (gains_cut c.loop-count.invariant (stops_as (λ next said begun. (c.loop-count-test.true, begun)) c.in_err-marked.ensures.err))

pub returns-then-not-marked-clause-ok : goal.returns-then-not-marked-clause-ok
returns-then-not-marked-clause-ok g c = gains_end c.loop-count.invariant (gains_as (λ said p. inl (c.loop-count-test.true, p)) (rw c.if-not-marked.true at c.in_ok-marked.ensures.ok))

pub loop-count-preserved : goal.loop-count-preserved
loop-count-preserved g c = gains_part c.loop-count.invariant (gains_as (λ said p. (refl, p)) (rw c.if-not-marked.false at c.in_ok-marked.ensures.ok))
