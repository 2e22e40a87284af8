-- The numbers by which refusals are reported. The table's definitions name reasons, and only contracts at the edge come here.
use Rattle.std.specs.Prelude.{◌≡◌, ℕ, Option, Some, None}
use Rattle.pb_base.specs.declared.refusal.Reason.{Reason}
use Rattle.pb_base.specs.declared.refusal.Refusal.{Refusal}

-- the number of want of memory, which is no reason's: it is reported for a refused growth alone
abbrev pub memory_code : ℕ
memory_code = 1

-- 2 to 5 are of tables and tablets, 40 to 49 of steps; 48 is a run's whose seats differ, and no step's
abbrev pub reason_code : Reason → ℕ
reason_code Reason.NoTablet = 2
reason_code Reason.RowsDontRise = 3
reason_code Reason.NotEmpty = 4
reason_code Reason.NoSuchPlace = 5
reason_code Reason.OutOfTimestamps = 40
reason_code Reason.NotOfSeat = 41
reason_code Reason.WrongPhase = 42
reason_code Reason.NotItsDeclaration = 43
reason_code Reason.JournalFull = 44
reason_code Reason.NotDeclared = 45
reason_code Reason.AlreadyPrewritten = 46
reason_code Reason.NoSuchObserver = 47
reason_code Reason.LaterThanStart = 49

-- what a caller gets for this reason
abbrev pub refusal_by : Reason → Refusal
refusal_by r = record { 0 = reason_code r }

-- what a caller gets for a refused growth
abbrev pub memory_refusal : Refusal
memory_refusal = record { 0 = memory_code }

-- this refusal has the number of that reason, and there is a reason
abbrev pub TellsReason : Option Reason → Refusal → Type 0
TellsReason None r = ⊥
TellsReason (Some why) r = r ≡ refusal_by why
