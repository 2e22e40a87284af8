use Rattle.std.proofs.Common.{arith, refl, sym, subst, ◌∙◌, rules}
use Rattle.pb_notify.specs.Words.{Cell}
use Rattle.pb_notify.specs.declared.place.RunPlace.{RunPlace}
use Rattle.pb_notify.specs.Places.{goes, GoesOnFrom, AtPlace}
use Rattle.pb_notify.specs.Runs.{RunOf, IsJob, Computes}
use Rattle.pb_notify.specs.Steps.{MovesOn}
use Rattle.pb_notify.proofs.Kept.{at_come, at_computed}
use Rattle.pb_notify.proofs.job.ObserverJob.local.Goals as goal
use Rattle.pb_notify.proofs.job.ObserverJob.local.Goals.{in-Computing+in_default-local+in_ok-leave_turn-in_default-local, in_default+in_ok-begin-in_default}

pub returns-in-Went-clause-ok : goal.returns-in-Went-clause-ok
returns-in-Went-clause-ok c =
    let i = c.self.inside in
    let place : RunPlace = RunPlace.Computing c.in-Computing.field-0 c.local.new.self in
    let k : RunOf = record { watch = record { observer = i.observer; judged = i.accepted.value; row = i.row; column = i.column }; locked = i.locked; place = place } in
    let did = subst (λ m. MovesOn c.in-Computing.machine m c.local.new.self) c.in-Went.is c.local.ensures in
    subst (λ (j : RunOf). Computes j k) c.self.view_is
    (record { comes = subst (λ p. GoesOnFrom i.observer i.accepted.value (Cell.Data i.row i.column) p place) (sym c.in-Computing.is) (goes c.local.new.self (record { went = did.moves; most = did.most })); same = refl })

pub invariant_of-self-in_err-leave_turn-in_default-local : goal.invariant_of-self-in_err-leave_turn-in_default-local
invariant_of-self-in_err-leave_turn-in_default-local c =
    let i = c.self.inside in
    let back = c.in_err-leave_turn-in_default-local.ensures.same c.in-Computing.field-0 c.in-Computing.machine (c.local.new.self, refl, c.local.ensures) in
    subst (λ p. IsJob i.observer i.row i.column i.locked p i.next) (c.in-Computing.is ∙ sym back.0) c.self.invariant

pub returns-in_err-leave_turn-in_default-local : goal.returns-in_err-leave_turn-in_default-local
returns-in_err-leave_turn-in_default-local c =
    let back = c.in_err-leave_turn-in_default-local.ensures.same c.in-Computing.field-0 c.in-Computing.machine (c.local.new.self, refl, c.local.ensures) in
    search rules

pub invariant_of-self-2 : goal.invariant_of-self-2
invariant_of-self-2 c = record {
  stored = c.keep_step.ensures;
  at = elim c.match-self.branch [
    | in-Computing+in_default-local+in_ok-leave_turn-in_default-local w ↦
        let i = c.self.inside in
        let few = (subst (AtPlace i.locked) w.in-Computing.is c.self.invariant.at).0 in
        let comes = w.in_ok-leave_turn-in_default-local.ensures.ok w.in-Computing.field-0 w.in-Computing.machine (w.local.new.self, refl, w.local.ensures) in
        rw w.self-inside-is (at_come i.locked i.observer w.in-Computing.field-0 w.in-Computing.machine w.leave_turn.new.place comes few)
    | in_default+in_ok-begin-in_default w ↦
        grind (arith, at_computed, c.self.inside, c.self.invariant.at)
  ];
}
