use Rattle.std.proofs.Common.{refl, inl, inr}
use Rattle.std.proofs.lemmas.Result.{err_from_is_err_and}
use Rattle.pb_passes.specs.Begun.{IsDrainBegun}
use Rattle.pb_threads.specs.Tries.{AreAllTried}
use Rattle.pb_threads.specs.Stops.{AreChangesBegun}
use Rattle.pb_threads.proofs.Gaining.{gains_on, gains_stop, stops_as}
use Rattle.pb_threads.proofs.worker.work_on.Goals as goal

pub returns-in_err-change_all-clause-err : goal.returns-in_err-change_all-clause-err
returns-in_err-change_all-clause-err g c =
    let p = err_from_is_err_and c.from_residual.result c.from_residual.ensures.1 in
    rw (p.1, p.2) (stops_as {Q = AreChangesBegun c.args.batches.now c.args.count c.args.first c.change_all.new.done.items} {b = c.change_all.new.seat} (λ next said begun. inl begun) c.in_err-change_all.ensures.err)

pub returns-in_err-drain-clause-err : goal.returns-in_err-drain-clause-err
returns-in_err-drain-clause-err g c =
    let p = err_from_is_err_and c.from_residual-in_err-drain.result c.from_residual-in_err-drain.ensures.1 in
    rw (p.1, p.2) (gains_stop {P = AreAllTried c.args.batches.now c.args.count c.args.first c.change_all.new.done.items} {Q = IsDrainBegun c.args.observers.now} c.in_ok-change_all.ensures.ok c.in_err-drain.ensures.err (λ said more next t begun. inr (record { at = c.change_all.new.done.items; before = said; parts = t.tried; last = more; ends = (refl, t.all, begun); said_is = refl })))

pub returns-clause-ok : goal.returns-clause-ok
returns-clause-ok g c = gains_on c.in_ok-change_all.ensures.ok c.in_ok-drain.ensures.ok (λ said more t d. record { at = c.change_all.new.done.items; before = said; parts = t.tried; last = more; ends = (refl, t.all, d); said_is = refl })
