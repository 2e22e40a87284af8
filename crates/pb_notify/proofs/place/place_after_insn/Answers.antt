use Rattle.std.proofs.Common.{rules, sym, subst}
use Rattle.pb_notify.specs.Words.{PlanOf}
use Rattle.pb_notify.specs.declared.place.RunPlace.{RunPlace}
use Rattle.pb_notify.specs.Places.{ComesTo, goes, waits, declares}
use Rattle.pb_notify.specs.Steps.{MovesOn}
use Rattle.pb_notify.proofs.place.place_after_insn.Goals as goal

pub returns-in-Went-clause-ok : goal.returns-in-Went-clause-ok
returns-in-Went-clause-ok c v m =
    let did = subst (λ x. MovesOn v x c.args.machine) c.in-Went.is m in
    goes c.args.machine (record { went = did.moves; most = did.most })

pub returns-in-Asks-clause-ok : goal.returns-in-Asks-clause-ok
returns-in-Asks-clause-ok c v m =
    let did = subst (λ x. MovesOn v x c.args.machine) c.in-Asks.is m in
    waits c.args.machine c.in-Asks.ask did.moves

pub returns-in_ok-end-in-Ended-clause-ok : goal.returns-in_ok-end-in-Ended-clause-ok
returns-in_ok-end-in-Ended-clause-ok c v m =
    let did = subst (λ x. MovesOn v x c.args.machine) c.in-Ended.is m in
    let end = c.in_ok-end-in-Ended in
    subst (λ (p : PlanOf). ComesTo c.args.observer c.args.start v (RunPlace.Planning end.end p)) (sym c.new.ensures) (declares end.end end.what (end.ensures.ok v c.in-Ended.field-0 did))

pub returns-in_err-end-in-Ended-clause-same : goal.returns-in_err-end-in-Ended-clause-same
returns-in_err-end-in-Ended-clause-same c v m =
    let did = subst (λ x. MovesOn v x c.args.machine) c.in-Ended.is m in
    let same = c.in_err-end-in-Ended.ensures.same v c.in-Ended.field-0 did in
    search (rules, same)
