use Rattle.std.proofs.Common.{take, map}
use Rattle.serde_json.specs.View.{view}
use Rattle.pb_registry.specs.Observers.{observers_of}
use Rattle.pb_registry.specs.Judging.{AreObservers}
use Rattle.pb_registry.proofs.listing.observers_in.Given as goal

abbrev pub invariant-loop-place : goal.invariant-loop-place
invariant-loop-place l = AreObservers l.profile (map view (take l.place l.elements)) (observers_of l.observers.entries)
