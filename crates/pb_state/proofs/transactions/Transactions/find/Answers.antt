use Rattle.std.proofs.Common.{refl, subst}
use Rattle.pb_state.specs.Starts.{IsStartAt, IsNoStart}
use Rattle.pb_state.proofs.Rising.{found_in_map, not_held}
use Rattle.pb_state.proofs.transactions.Transactions.find.Goals as goal

pub returns-in-Some : goal.returns-in-Some
returns-in-Some c =
    let at = subst (λ es. IsStartAt es c.args.start.0 c.in-Some.place) c.deref.ensures.value c.in-Some.ensures in
    let here = found_in_map c.self.inside.list.items c.args.self.now c.args.start.0 c.in-Some.place c.self.invariant c.self.view_is c.index.result.now at c.index.ensures in
    (refl, here.0, here.1)

pub returns-in-None : goal.returns-in-None
returns-in-None c = not_held c.self.inside.list.items c.args.self.now c.args.start.0 c.self.view_is (subst (λ es. IsNoStart es c.args.start.0) c.deref.ensures.value c.in-None.ensures)
