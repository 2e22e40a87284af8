-- How the codes of a manifest's faults are reported. Readers refer to codes by name; three have one number.
use Rattle.std.specs.Prelude.{ℕ, Bool, true, false, Option, Some, None}
use Rattle.pb_registry.specs.Words.{Refused, refused_growth}
use Rattle.pb_registry.specs.declared.code.ManifestCode.{ManifestCode}

-- 1 where memory ran out, else the number that docs/CODES.md explains
abbrev pub number_of : ManifestCode → ℕ
number_of (ManifestCode.Memory refused) = 1
number_of ManifestCode.Text = 50
number_of ManifestCode.Form = 51
number_of ManifestCode.TooMany = 52
number_of ManifestCode.Name = 53
number_of ManifestCode.Column = 54
number_of ManifestCode.Helpers = 54
number_of ManifestCode.Record = 54
number_of ManifestCode.Digits = 55
number_of (ManifestCode.Program r) = 56

-- the slot at fault and its code, where the program is refused, and nothing of any other fault
abbrev pub refusal_of : ManifestCode → Option Refused
refusal_of (ManifestCode.Program r) = Some r
refusal_of c = None

-- want of memory
abbrev pub memory : ManifestCode
memory = ManifestCode.Memory refused_growth

-- whether it is that
abbrev pub is_memory : ManifestCode → Bool
is_memory (ManifestCode.Memory refused) = true
is_memory _ = false
