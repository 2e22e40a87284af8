use Rattle.std.proofs.Common.{rules, ◌≡◌, subst}
use Rattle.pb_notify.specs.declared.need.Need.{Need}
use Rattle.pb_notify.specs.Runs.{RunOf, need_of, HasNext}
use Rattle.pb_notify.proofs.Kept.{call_has_next}
use Rattle.pb_notify.proofs.job.ObserverJob.next.Goals as goal

pub returns-in-Planning-clause-some : goal.returns-in-Planning-clause-some
returns-in-Planning-clause-some c =
    let i = c.self.inside in
    subst (λ (j : RunOf). need_of j ≡ Need.Call → HasNext j) c.self.view_is (call_has_next i.observer i.row i.column i.locked i.place c.self.invariant.at)

pub returns-in_default : goal.returns-in_default
returns-in_default c =
    let i = c.self.inside in
    record {
      next = search rules;
      some = subst (λ (j : RunOf). need_of j ≡ Need.Call → HasNext j) c.self.view_is (call_has_next i.observer i.row i.column i.locked i.place c.self.invariant.at);
    }
