use Rattle.std.proofs.Common.{◌≡◌, drop, map}
use Rattle.std.specs.List.{list_all}
use Rattle.serde_json.specs.View.{view}
use Rattle.pb_registry.specs.Manifests.{is_observer}
use Rattle.pb_registry.proofs.form.are_observers.Given as goal

abbrev pub invariant-loop-item : goal.invariant-loop-item
invariant-loop-item l = list_all (is_observer l.profile) (map view (drop l.item-index l.items)) ≡ list_all (is_observer l.profile) (map view l.items)
