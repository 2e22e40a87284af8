-- What reading a manifest answers: a relation of elements and observers, place by place. A function that reads from
-- left to right would hide which fault is the first, and which code is the lowest. `Registry::from_json` promises it.
use Rattle.std.specs.Prelude.{◌≡◌, ◌⊎◌, ℕ, Bool, true, false, if◌then◌else◌, List, [], ◌∷◌, ◌++◌, map, take, slice_get, codes, Option, Some, None, Result, Ok, Err, bytes_eq}
use Rattle.std.specs.List.{AllZip, IsDistinct, list_any}
use Rattle.serde_json.specs.Data.{Data}
use Rattle.pb_registry.specs.Words.{Profile, HelperSet, Version, ObserverOf, refused_growth, NoMemory}
use Rattle.pb_registry.specs.declared.code.ManifestCode.{ManifestCode}
use Rattle.pb_registry.specs.declared.fault.RegistryFault.{RegistryFault}
use Rattle.pb_registry.specs.Accepting.{IsAcceptedCode, IsRefusedCode}
use Rattle.pb_registry.specs.Codes.{is_memory, memory}
use Rattle.pb_registry.specs.Manifests.{WrittenOf, ManifestOf, text_at, members_of, manifest_of_text}

-- an observer as it is written, with the program that its code is in this profile
pub record IsUpload (p : Profile) (w : WrittenOf) (o : ObserverOf) : Type 0 where
  pub name : o.name ≡ w.name
  pub column : o.column ≡ w.column
  pub program : IsAcceptedCode p w.version w.bytes w.helpers o.program

-- this observer is written in this element, its program in this profile
abbrev pub IsObserver : Profile → Data → ObserverOf → Type 0
IsObserver p d o = (w : WrittenOf) × (members_of d ≡ Ok w) × IsUpload p w o

-- the program that this code is isn't accepted with these helpers, for records of this version
abbrev pub IsProgramFault : Profile → Version → List ℕ → HelperSet → ManifestCode → Type 0
IsProgramFault p version bytes helpers (ManifestCode.Program r) = IsRefusedCode p version bytes helpers r.slot r.code
IsProgramFault p version bytes helpers c = ⊥

-- the lowest code of an element by itself, that of its program last
abbrev pub IsOwnFault : Profile → Data → ManifestCode → Type 0
IsOwnFault p d c = (members_of d ≡ Err c) ⊎ ((w : WrittenOf) × (members_of d ≡ Ok w) × IsProgramFault p w.version w.bytes w.helpers c)

-- the names of these observers, in their order
abbrev pub names_of : List ObserverOf → List (List ℕ)
names_of os = map (λ o. o.name) os

-- whether a text is one of the names; where there is no text it is none
abbrev pub is_among : List (List ℕ) → Option (List ℕ) → Bool
is_among names None = false
is_among names (Some s) = list_any (bytes_eq s) names

-- the element's name is one of these
abbrev pub is_used : List (List ℕ) → Data → Bool
is_used names d = is_among names (text_at (codes "name") d)

-- a used name is 53 whatever else is wrong, as no own fault of an element has a lower number
abbrev pub FaultAfter : Bool → Profile → Data → ManifestCode → Type 0
FaultAfter true p d c = c ≡ ManifestCode.Name
FaultAfter false p d c = IsOwnFault p d c

-- the lowest code of an element after others with these names
abbrev pub IsLowestAfter : List (List ℕ) → Profile → Data → ManifestCode → Type 0
IsLowestAfter names p d c = FaultAfter (is_used names d) p d c

-- the observer of this element is appended to those before it
abbrev pub HasOneMore : Profile → Data → List ObserverOf → List ObserverOf → Type 0
HasOneMore p d old new = (o : ObserverOf) × IsObserver p d o × (new ≡ old ++ o ∷ [])

-- an observer in each element, and no two with one name
pub record AreObservers (p : Profile) (ds : List Data) (os : List ObserverOf) : Type 0 where
  pub each : AllZip (IsObserver p) ds os
  pub apart : IsDistinct bytes_eq (names_of os)

-- the first element at fault is at this place, with this code: those before it are observers
pub record IsFirstElementFault (p : Profile) (ds : List Data) (place : ℕ) (code : ManifestCode) : Type 0 where
  pub before : List ObserverOf
  pub good : AreObservers p (take place ds) before
  pub element : Data
  pub there : slice_get ds place ≡ Some element
  pub fault : IsLowestAfter (names_of before) p element code

-- how a code is reported, of the whole or of the observer at a place
abbrev pub fault_with : Option ℕ → ManifestCode → RegistryFault
fault_with place c = record { observer = place; cause = c }

-- how a code is reported of the observer at a place; want of memory has no place, since it is no observer's fault
abbrev pub fault_at : ℕ → ManifestCode → RegistryFault
fault_at place c = if is_memory c then fault_with None memory else fault_with (Some place) c

-- observers are taken only where the whole has no fault
abbrev pub AreTaken : Result ManifestOf ManifestCode → List ObserverOf → Type 0
AreTaken (Ok m) os = AreObservers m.profile m.elements os
AreTaken (Err c) os = ⊥

-- the refused growth that a fault was made of, or else the fault itself
abbrev pub memory_in : RegistryFault → Result NoMemory RegistryFault
memory_in f = if is_memory f.cause then Ok refused_growth else Err f

-- the fault of the whole, or that of the first observer at fault
abbrev pub TellsFault : Result ManifestOf ManifestCode → RegistryFault → Type 0
TellsFault (Err c) f = f ≡ fault_with None c
TellsFault (Ok m) f = (place : ℕ) × (c : ManifestCode) × IsFirstElementFault m.profile m.elements place c × (f ≡ fault_with (Some place) c)

-- what reading a manifest returns: its observers, or its fault
abbrev pub ReadsManifest : List ℕ → Result (List ObserverOf) RegistryFault → Type 0
ReadsManifest text (Ok os) = AreTaken (manifest_of_text text) os
ReadsManifest text (Err f) = TellsFault (manifest_of_text text) f

-- a manifest is taken with the observers that it says, and refused with its fault, unless memory ran out
abbrev pub IsJudged : Result (List ObserverOf) RegistryFault → List ℕ → Type 0
IsJudged (Ok os) text = ReadsManifest text (Ok os)
IsJudged (Err f) text = (f ≡ fault_with None memory) ⊎ ReadsManifest text (Err f)
