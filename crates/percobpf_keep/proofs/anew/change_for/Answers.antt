use Rattle.std.proofs.Common.{List, subst, sym}
use Rattle.pb_accepted.specs.Observers.{ObserverOf}
use Rattle.pb_keeper.specs.Choosing.{IsOneOf}
use Rattle.percobpf_keep.proofs.anew.change_for.Goals as goal

-- those that the table lacks are new to it
pub change_observers-requires-clause-new : goal.change_observers-requires-clause-new
change_observers-requires-clause-new g c o there was = c.in_ok-staying.ensures.others o there (subst (λ (l : List ObserverOf). IsOneOf l o) (sym c.observers.ensures.observers) was)
