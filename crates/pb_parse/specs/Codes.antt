-- The numbers by which a script's faults are reported. They stand apart from the reading, which uses the codes' names.
use Rattle.std.specs.Prelude.{ℕ}
use Rattle.pb_parse.specs.declared.script.code.ScriptCode.{ScriptCode}

-- the number that docs/CODES.md explains
abbrev pub script_code : ScriptCode → ℕ
script_code ScriptCode.Form = 70
script_code ScriptCode.Range = 71
script_code ScriptCode.Hex = 72
script_code ScriptCode.Twice = 73
script_code ScriptCode.Seventeenth = 74
script_code ScriptCode.TooMany = 75
