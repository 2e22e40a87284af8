-- Why the program ends with status 1, and the line that reports it.
use Rattle.std.specs.Prelude.{◌≡◌, ◌==◌, ◌<◌, ◌^◌, ◌++◌, if◌then◌else◌, Bool, true, false, ℕ, List, length, Option, None, Some, Result, Ok, Err, codes, decimal, string_bytes, IsUtf8}
use Rattle.std.specs.IoError.{error_kind}
use Rattle.std.specs.declared.io.Error.{Error}
use Rattle.std.specs.declared.io.ErrorKind.{ErrorKind}
use Rattle.pb_base.specs.Growths.{refused_growth}
use Rattle.pb_base.specs.declared.refusal.NoMemory.{NoMemory}
use Rattle.pb_keep.specs.declared.replace.ReplaceFault.{ReplaceFault}
use Rattle.pb_registry.specs.FaultTexts.{fault_text}
use Rattle.pb_registry.specs.declared.fault.RegistryFault.{RegistryFault}
use Rattle.percobpf_keep.specs.Refused.{is_refused}
use Rattle.percobpf_keep.specs.declared.failure.Failure.{Failure}
use Rattle.percobpf_keep.specs.declared.failure.FileState.{FileState}
use Rattle.percobpf_keep.specs.declared.failure.Wanted.{Wanted}

-- the name of a number in the help
abbrev pub wanted_text : Wanted → List ℕ
wanted_text Wanted.Bytes = codes "BYTES"
wanted_text Wanted.Entries = codes "ENTRIES"

-- what is reported of a file, after its name
abbrev pub state_text : FileState → List ℕ
state_text FileState.NotText = codes "stream did not contain valid UTF-8"
state_text FileState.Reserved = codes "names ending in ~new or ~new-wal are reserved"
state_text FileState.OtherLog = codes "another log was put in its place, start again"
state_text FileState.Lost = codes "the log was removed, renamed or replaced"
state_text FileState.NamesTaken = codes "all names for a new log are taken"
state_text FileState.OwnManifestNotText = codes "its manifest is not text"
state_text FileState.OtherLimit = codes "its limit is another one: --compact changes it"
state_text FileState.NotBegun = codes "no log was begun in it"
state_text FileState.SameObservers = codes "two of its observers are the same"
state_text FileState.Taken = codes "it is there already"
state_text FileState.NoFolder = codes "it is no folder"

-- The text that is reported, with the whole of each name and word. That of a fault of the system or of the log isn't known here.
abbrev pub failure_text : Failure → Option (List ℕ)
failure_text (Failure.NoMemory refused) = Some (codes "no memory")
failure_text Failure.Words = Some (codes "two words are wanted, MANIFEST and LOG: `percobpf_keep --help` has more")
failure_text Failure.CopyWords = Some (codes "two words are wanted, LOG and PATH: `percobpf_keep --help` has more")
failure_text Failure.ManifestWords = Some (codes "one word is wanted, LOG: `percobpf_keep --help` has more")
failure_text Failure.Options = Some (codes "these options don't go together: `percobpf_keep --help` has more")
failure_text (Failure.NoNumber wanted word) = Some (wanted_text wanted ++ (codes " is a decimal number below 2^64, and not `" ++ (string_bytes word ++ codes "`: `percobpf_keep --help` has more")))
failure_text (Failure.File name state) = Some (string_bytes name ++ (codes ": " ++ state_text state))
failure_text Failure.LargeManifest = Some (codes "the manifest is too large")
failure_text (Failure.Manifest fault) = Some (fault_text fault)
failure_text (Failure.Tablets code) = Some (codes "tablets refused code " ++ decimal code)
failure_text Failure.HasChanges = Some (codes "the new log has changes")
failure_text _ = None

-- the failure of a file of this name for what is so of it, unless memory was refused for the name
abbrev pub IsOfFile : List ℕ → FileState → Failure → Type 0
IsOfFile path state (Failure.NoMemory refused) = Unit {0}
IsOfFile path state (Failure.File name its) = (string_bytes name ≡ path) × (its ≡ state)
IsOfFile path state _ = ⊥

-- a call of the system failed for want of memory
abbrev pub is_kind_of_memory : ErrorKind → Bool
is_kind_of_memory ErrorKind.OutOfMemory = true
is_kind_of_memory _ = false

-- the failure of a call for the file of this name, by its error: memory was refused for the call or for the name, or it failed otherwise
abbrev pub IsOfCall : List ℕ → Error → Failure → Type 0
IsOfCall path error (Failure.NoMemory refused) = Unit {0}
IsOfCall path error (Failure.Call name its) = (string_bytes name ≡ path) × (its ≡ error) × (is_kind_of_memory (error_kind error) ≡ false)
IsOfCall path error _ = ⊥

-- the failure of a file of this name that isn't opened as a log
abbrev pub IsOfOpening : List ℕ → Failure → Type 0
IsOfOpening path (Failure.NoMemory refused) = Unit {0}
IsOfOpening path (Failure.Call name its) = string_bytes name ≡ path
IsOfOpening path (Failure.Open name its) = string_bytes name ≡ path
IsOfOpening path _ = ⊥

-- the failure of another call of the system, by its error
abbrev pub IsOfSystem : Error → Failure → Type 0
IsOfSystem error (Failure.NoMemory refused) = is_kind_of_memory (error_kind error) ≡ true
IsOfSystem error (Failure.System its) = (its ≡ error) × (is_kind_of_memory (error_kind error) ≡ false)
IsOfSystem error _ = ⊥

-- the failure of a refusal of this number, of which 1 is that of a growth
abbrev pub of_refusal : ℕ → Failure
of_refusal code = if code == 1 then Failure.NoMemory refused_growth else Failure.Tablets code

-- the failure of a manifest that isn't read: the growth that was refused, or else the fault
abbrev pub IsOfManifest : Result NoMemory RegistryFault → Failure → Type 0
IsOfManifest (Ok refused) failure = failure ≡ Failure.NoMemory refused
IsOfManifest (Err fault) failure = failure ≡ Failure.Manifest fault

-- the failure of bytes that were read as a manifest: they are more than 16 MiB, or no text
abbrev pub IsOfManifestBytes : List ℕ → List ℕ → Failure → Type 0
IsOfManifestBytes path bytes Failure.LargeManifest = 2 ^ 24 < length bytes
IsOfManifestBytes path bytes (Failure.NoMemory refused) = IsUtf8 bytes → ⊥
IsOfManifestBytes path bytes (Failure.File name its) = (string_bytes name ≡ path) × (its ≡ FileState.NotText) × (IsUtf8 bytes → ⊥)
IsOfManifestBytes path bytes _ = ⊥

-- the failure of a file whose name leads to another one, for what is so of it then, or of the call that looked
abbrev pub IsOfName : List ℕ → FileState → Result Bool Error → Failure → Type 0
IsOfName path state (Ok same) failure = (same ≡ false) × IsOfFile path state failure
IsOfName path state (Err error) failure = IsOfCall path error failure

-- the failure of a log that isn't replaced, and whose table can't be served as before either
abbrev pub IsOfReplacing : ReplaceFault Failure → Failure → Type 0
IsOfReplacing (ReplaceFault.Snapshot why) failure = (is_refused why ≡ false) × (failure ≡ Failure.Snapshot why)
IsOfReplacing (ReplaceFault.New fault) failure = failure ≡ Failure.Keep fault
IsOfReplacing ReplaceFault.NotNew failure = failure ≡ Failure.HasChanges
IsOfReplacing (ReplaceFault.Folder fault) failure = failure ≡ fault

-- how a service ends whose lines ended so: where the log has lost its name, that is why
abbrev pub ended_with : Option Failure → Result (Unit {0}) Failure → Result (Unit {0}) Failure
ended_with None done = done
ended_with (Some lost) done = Err lost
