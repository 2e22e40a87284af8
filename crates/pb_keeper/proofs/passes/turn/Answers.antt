use Rattle.std.proofs.Common.{arith, ◌≤◌, List, inr, refl, subst}
use Rattle.pb_state.proofs.Outcomes.{err_always}
use Rattle.pb_keeper.specs.BrokenOff.{IsOfRuns}
use Rattle.pb_keeper.specs.Leads.{SaidLeads}
use Rattle.pb_keeper.proofs.BrokenOff.{more_runs}
use Rattle.pb_keeper.specs.Words.{ObserverOf, HasColumn, IsOfOther}
use Rattle.pb_keeper.proofs.PassAlong.{led_none}
use Rattle.pb_keeper.proofs.passes.turn.Goals as goal

-- a run may be made
pub returns-in_err-commits-clause-err : goal.returns-in_err-commits-clause-err
returns-in_err-commits-clause-err g c =
    let b = c.in_err-commits.ensures.err in
    let some : 1 ≤ c.args.left = grind (arith, c.if-left-eq0.false) in
    err_always c.from_residual.result (SaidLeads (IsOfRuns c.args.left) c.args.state.now c.run_place.new.state) (record { said = b.said; form = more_runs 1 c.args.left b.said some b.form; leads = b.leads })

-- an observer of another column has no part
pub returns-then-not-is_observer_of-clause-ok : goal.returns-then-not-is_observer_of-clause-ok
returns-then-not-is_observer_of-clause-ok g c = led_none (inr (subst (λ (l : List ObserverOf). IsOfOther l c.args.place c.args.cell.now) c.observers.ensures.observers (c.is_observer_of.ensures.isnt c.if-not-is_observer_of.true), refl))

-- no run may be made
pub returns-then-left-eq0-clause-ok : goal.returns-then-left-eq0-clause-ok
returns-then-left-eq0-clause-ok g c = led_none (subst (λ (l : List ObserverOf). HasColumn l c.args.place c.args.cell.now) c.observers.ensures.observers (c.is_observer_of.ensures.is c.if-not-is_observer_of.false), refl)
