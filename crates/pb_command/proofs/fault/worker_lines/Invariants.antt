use Rattle.std.proofs.Common.{◌≡◌, ◌++◌, drop, string_bytes}
use Rattle.std.specs.List.{enumerate_from, flat_map}
use Rattle.pb_command.specs.FaultLines.{worker_line, worker_lines}
use Rattle.pb_command.proofs.fault.worker_lines.Given as goal

abbrev pub invariant-loop-seat : goal.invariant-loop-seat
invariant-loop-seat l = string_bytes l.text ++ flat_map (λ s. worker_line s.0 s.1) (enumerate_from l.seat (drop l.seat l.refusals)) ≡ worker_lines l.refusals
