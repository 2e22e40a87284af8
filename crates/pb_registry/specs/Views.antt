-- A manifest's parts, by the values that its text is read as.
use Rattle.std.specs.Prelude.{map}
use Rattle.serde_json.specs.View.{view}
use Rattle.pb_registry.specs.declared.form.Manifest.{Manifest}
use Rattle.pb_registry.specs.Manifests.{ManifestOf}

-- a manifest's profile, and its elements as the values that they are
abbrev pub manifest_view : Manifest → ManifestOf
manifest_view m = record { profile = m.profile; elements = map view m.elements.now }
