-- The verdict on a manifest that C gets.
use Rattle.std.specs.Prelude.{◌≡◌, ◌⊎◌, ℕ, ◌-◌, ◌^◌, List, length, option_map, unwrap_or, Ok, Err, IsUtf8}
use Rattle.pb_accepted.specs.Observers.{ObserverOf}
use Rattle.pb_registry.specs.Codes.{number_of, refusal_of}
use Rattle.pb_registry.specs.Judging.{ReadsManifest}
use Rattle.pb_registry.specs.declared.fault.RegistryFault.{RegistryFault}
use Rattle.pb_api.specs.declared.manifests.ManifestVerdict.{ManifestVerdict}
use Rattle.pb_api.specs.declared.kind.AnswerKind.{AnswerKind}
use Rattle.pb_api.specs.Kinds.{kind_number, no_memory}

-- what stands for an observer where there is none
abbrev pub no_observer : ℕ
no_observer = 2 ^ 32 - 1

-- a verdict that is of no observer
abbrev pub plain_verdict : AnswerKind → ℕ → ℕ → ManifestVerdict
plain_verdict kind observers code = record { kind = kind_number kind; observers = observers; observer = no_observer; code = code; slot = 0; slot_code = 0 }

-- the fault of a manifest by its numbers
abbrev pub fault_verdict : RegistryFault → ManifestVerdict
fault_verdict f = record {
  kind = kind_number AnswerKind.Refused;
  observers = 0;
  observer = unwrap_or f.observer no_observer;
  code = number_of f.cause;
  slot = unwrap_or (option_map (λ r. r.slot) (refusal_of f.cause)) 0;
  slot_code = unwrap_or (option_map (λ r. r.code) (refusal_of f.cause)) 0;
}

-- the text is a manifest with so many observers
pub record AcceptsManifest (text : List ℕ) (v : ManifestVerdict) : Type 0 where
  pub observers : List ObserverOf
  pub utf8 : IsUtf8 text
  pub read : ReadsManifest text (Ok observers)
  pub verdict_is : v ≡ plain_verdict AnswerKind.Done (length observers) 0

-- the text is none, and this is its fault
pub record RefusesManifest (text : List ℕ) (v : ManifestVerdict) : Type 0 where
  pub fault : RegistryFault
  pub utf8 : IsUtf8 text
  pub read : ReadsManifest text (Err fault)
  pub verdict_is : v ≡ fault_verdict fault

-- the bytes are no text
pub record FindsNoText (text : List ℕ) (v : ManifestVerdict) : Type 0 where
  pub utf8 : IsUtf8 text → ⊥
  pub verdict_is : v ≡ plain_verdict AnswerKind.NotText 0 0

-- that of want of memory shows nothing of the text
abbrev pub IsManifestVerdict : List ℕ → ManifestVerdict → Type 0
IsManifestVerdict text v = AcceptsManifest text v ⊎ (RefusesManifest text v ⊎ (FindsNoText text v ⊎ (v ≡ plain_verdict no_memory 0 1)))
