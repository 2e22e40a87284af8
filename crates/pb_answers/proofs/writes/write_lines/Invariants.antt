use Rattle.std.proofs.Common.{◌≡◌, ◌++◌, string_bytes}
use Rattle.std.specs.List.{flat_map}
use Rattle.pb_answers.specs.Writes.{since_line}
use Rattle.pb_answers.proofs.writes.write_lines.Given as goal

abbrev pub invariant-loop-key : goal.invariant-loop-key
invariant-loop-key l = string_bytes l.text ++ flat_map since_line l.key-iterator ≡ flat_map since_line l.writes.entries
