use Rattle.std.proofs.Common.{refl, inl, inr}
use Rattle.std.proofs.lemmas.Result.{err_from_is_err_and}
use Rattle.pb_threads.specs.Words.{no_part}
use Rattle.pb_threads.proofs.Gaining.{gains_none, gains_as, gains_part, gains_cut}
use Rattle.pb_threads.proofs.passes.run_all.Goals.{then-is_observer_of+in-Some+in_ok-run_one, else-is_observer_of}
use Rattle.pb_threads.proofs.passes.run_all.Goals as goal

pub loop-place-init : goal.loop-place-init
loop-place-init g c = gains_none no_part

pub returns-in_err-run_one-clause-err : goal.returns-in_err-run_one-clause-err
returns-in_err-run_one-clause-err g c =
    let p = err_from_is_err_and c.from_residual.result c.from_residual.ensures.1 in
    rw (p.1, p.2) (gains_cut c.loop-place.invariant (rw c.in-Some.ensures.some at c.in_err-run_one.ensures.err))

pub loop-place-preserved : goal.loop-place-preserved
loop-place-preserved g c =
    elim c.if-is_observer_of.branch [
      | then-is_observer_of+in-Some+in_ok-run_one w ↦ rw w.seat-is (gains_part c.loop-place.invariant (gains_as (λ said run. (refl, inl run)) (rw w.in-Some.ensures.some at w.in_ok-run_one.ensures.ok)))
      | else-is_observer_of w ↦ rw w.seat-is (gains_part c.loop-place.invariant (gains_none (refl, inr (c.is_observer_of.ensures.isnt w.if-is_observer_of.false, refl))))
    ]
