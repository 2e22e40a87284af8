use Rattle.std.proofs.Common.{◌≤◌, ◌∙◌, map, sym, subst}
use Rattle.std.proofs.lemmas.List.{length-map}
use Rattle.std.proofs.lemmas.Slice.Zip.{AllZip-long}
use Rattle.serde_json.specs.View.{view}
use Rattle.pb_registry.specs.Words.{MAX_OBSERVERS}
use Rattle.pb_registry.specs.Observers.{observers_of}
use Rattle.pb_registry.specs.Judging.{IsObserver}
use Rattle.pb_registry.proofs.manifest.Registry.from_json.Goals as goal

pub returns-clause-few : goal.returns-clause-few
returns-clause-few c =
    let elements = c.in-Ok-whole_in.manifest.elements.now in
    let as_many = AllZip-long (IsObserver c.in-Ok-whole_in.manifest.profile) (map view elements) (observers_of c.in_ok-observers.observers.entries) c.in_ok-observers.ensures.ok.each ∙ length-map elements view in
    subst (λ n. n ≤ MAX_OBSERVERS) (sym as_many) c.in-Ok-whole_in.ensures.few
