-- What is wrong with a line or a text, as it is reported.
use Rattle.std.specs.Prelude.{ℕ}
use Rattle.pb_asm.specs.declared.fault.AsmCode.{AsmCode}

-- the numbers by which the faults are reported
abbrev pub asm_code : AsmCode → ℕ
asm_code AsmCode.Word = 80
asm_code AsmCode.Form = 81
asm_code AsmCode.Range = 82
asm_code AsmCode.TooLong = 83
asm_code AsmCode.Nothing = 84
