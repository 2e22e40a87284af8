use Rattle.std.proofs.Common.{◌≡◌, ◌++◌, drop, string_bytes}
use Rattle.pb_command.specs.FaultLines.{change_lines}
use Rattle.pb_command.proofs.fault.change_lines.Given as goal

abbrev pub invariant-loop-number : goal.invariant-loop-number
invariant-loop-number l = string_bytes l.text ++ change_lines (drop l.number-index l.unfinished) ≡ change_lines l.unfinished
