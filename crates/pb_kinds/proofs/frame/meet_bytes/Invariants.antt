use Rattle.std.proofs.Common.{◌≡◌, ◌++◌, take, drop}
use Rattle.pb_kinds.specs.Frames.{meet_bytes}
use Rattle.pb_kinds.proofs.frame.meet_bytes.Given as goal

abbrev pub invariant-loop-i : goal.invariant-loop-i
invariant-loop-i l = l.written ≡ meet_bytes (take l.i l.a) (take l.i l.b) ++ drop l.i l.a
