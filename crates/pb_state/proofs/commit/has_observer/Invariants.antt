use Rattle.std.proofs.Common.{◌≡◌, drop, ◌==◌}
use Rattle.std.specs.List.{list_any}
use Rattle.pb_state.proofs.commit.has_observer.Given as goal

abbrev pub invariant-loop-observer : goal.invariant-loop-observer
invariant-loop-observer l = list_any (λ o. o.column == l.column) (drop l.observer-index l.observers) ≡ list_any (λ o. o.column == l.column) l.observers
