use Rattle.std.proofs.Common.{List, subst, Result, Ok, Err, IfOk, OnErr}
use Rattle.pb_keeper.specs.Words.{ObserverOf, IsJobOn}
use Rattle.pb_keeper.proofs.BrokenOff.{begun_of_runs}
use Rattle.pb_keeper.proofs.InTime.{job_is_of}
use Rattle.pb_keeper.proofs.passes.run_number.Goals as goal

on_ok : {A E : Type 0} {P Q : A → Type 0} (r : Result A E) → ((x : A) → P x → Q x) → IfOk r P → IfOk r Q
on_ok (Ok x) f h = f x h
on_ok (Err e) f h = tt

on_err : {A E P Q : Type 0} (r : Result A E) → (P → Q) → OnErr r P → OnErr r Q
on_err (Ok x) f h = tt
on_err (Err e) f h = f h

pub returns-clause-ok : goal.returns-clause-ok
returns-clause-ok g c =
    on_ok c.run_one.result (λ ran leads. (c.in-Ok.job, subst (λ (l : List ObserverOf). IsJobOn l c.args.number c.args.cell.now c.in-Ok.job) c.observers.ensures.observers c.in-Ok.ensures, leads)) c.run_one.ensures.ok

-- its beginning is no more than a run
pub returns-clause-err : goal.returns-clause-err
returns-clause-err g c =
    on_err c.run_one.result (λ b. record { said = b.said; form = begun_of_runs c.in-Ok.job.watch b.said b.form; leads = b.leads }) c.run_one.ensures.err

pub returns-clause-stops : goal.returns-clause-stops
returns-clause-stops g c opened =
    let on = subst (λ (l : List ObserverOf). IsJobOn l c.args.number c.args.cell.now c.in-Ok.job) c.observers.ensures.observers c.in-Ok.ensures in
    c.run_one.ensures.stops opened (job_is_of c.args.state.now.observers c.args.number c.args.cell.now c.in-Ok.job c.fits.ensures.row c.fits.ensures.column c.requires.column on)
