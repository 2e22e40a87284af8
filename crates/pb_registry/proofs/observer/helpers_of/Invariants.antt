use Rattle.std.proofs.Common.{◌≡◌, true, take, map}
use Rattle.serde_json.specs.View.{view}
use Rattle.pb_registry.specs.Manifests.{numbers_of}
use Rattle.pb_registry.specs.Helpers.{are_helpers, helper_set}
use Rattle.pb_registry.proofs.observer.helpers_of.Given as goal

abbrev pub invariant-loop-element : goal.invariant-loop-element
invariant-loop-element l = record {
  are : are_helpers (numbers_of (map view (take l.element-index l.elements))) ≡ true;
  set : l.helpers ≡ helper_set (numbers_of (map view (take l.element-index l.elements)));
}
