-- The observers that a registry keeps by their names, and what one is written as: views, so that contracts speak of a
-- table's observers and not of a map.
use Rattle.std.specs.Prelude.{List, map, String, string_bytes}
use Rattle.std.specs.declared.alloc.Global.{Global}
use Rattle.std.specs.Coded.{Coded, coded_list}
use Rattle.pb_registry.specs.Words.{ObserverOf, observer_code}
use Rattle.pb_registry.specs.declared.observer.RegisteredObserver.{RegisteredObserver}
use Rattle.pb_registry.specs.declared.observer.Written.{Written}
use Rattle.pb_registry.specs.Manifests.{WrittenOf}

-- an entry of the map is an observer: its key the name, its value the rest
abbrev pub observer_of : String Global × RegisteredObserver → ObserverOf
observer_of e = record { name = string_bytes e.0; column = e.1.column; program = e.1.program.value }

-- the map's entries, in the order of the manifest
abbrev pub observers_of : List (String Global × RegisteredObserver) → List ObserverOf
observers_of es = map observer_of es

-- each model has a code; that of a registry is the code of the list of its observers
abbrev pub observers_code : Coded (List ObserverOf)
observers_code = coded_list observer_code

-- what was read of an element, without where its texts lie in memory
abbrev pub written_of : Written → WrittenOf
written_of w = record { name = string_bytes w.name; column = w.column; helpers = w.helpers; version = w.version; bytes = w.bytes.items }
