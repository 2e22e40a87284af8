-- What is so of a file: under which name it stands, and who may open one that is made.
use Rattle.std.specs.Prelude.{◌≡◌, ℕ, Bool, true, false, List, Option, None, Some, Result, Ok, Err}
use Rattle.std.specs.IoError.{error_kind}
use Rattle.std.specs.declared.io.Error.{Error}
use Rattle.std.specs.declared.io.ErrorKind.{ErrorKind}
use Rattle.percobpf_keep.specs.Failures.{IsOfCall}
use Rattle.percobpf_keep.specs.declared.failure.Failure.{Failure}
use Rattle.percobpf_keep.specs.declared.file.FileId.{FileId}
use Rattle.percobpf_keep.specs.declared.file.Rights.{Rights}

-- the file that was found under a name is this one: on the same device, and of the same number there
abbrev pub IsFoundUnder : FileId → Option FileId → Type 0
IsFoundUnder id None = ⊥
IsFoundUnder id (Some other) = (other.device ≡ id.device) × (other.number ≡ id.number)

-- the failure of what was done with the file of this name, if that failed
abbrev pub IsOfNamed : {T : Type 0} → List ℕ → Result T Error → Failure → Type 0
IsOfNamed path (Ok x) failure = ⊥
IsOfNamed path (Err error) failure = IsOfCall path error failure

-- the mode of a file that is made: nobody but its owner may write it
abbrev pub mode_of : Rights → ℕ
mode_of Rights.OwnerAlone = 0o600
mode_of Rights.ReadByOthers = 0o644

-- the system denies this user a call
abbrev pub is_kind_of_denial : ErrorKind → Bool
is_kind_of_denial ErrorKind.PermissionDenied = true
is_kind_of_denial _ = false

abbrev pub IsDenied : Error → Type 0
IsDenied error = is_kind_of_denial (error_kind error) ≡ true

-- a call failed with this error, and wasn't denied
abbrev pub IsOtherFault : Result (Unit {0}) Error → Error → Type 0
IsOtherFault given error = (given ≡ Err error) × (is_kind_of_denial (error_kind error) ≡ false)
