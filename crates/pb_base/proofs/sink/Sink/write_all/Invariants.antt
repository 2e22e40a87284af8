use Rattle.std.proofs.Common.{◌≡◌, length}
use Rattle.pb_base.specs.Sink.{IsPart}
use Rattle.pb_base.proofs.sink.Sink.write_all.Given as goal

abbrev pub invariant-loop-rest : goal.invariant-loop-rest
invariant-loop-rest g l = IsPart (g.Self.Sink.taken l.fn.self) (g.Self.Sink.taken l.self) l.bytes l.rest × (g.Self.Sink.failed l.self ≡ g.Self.Sink.failed l.fn.self)

abbrev pub decreases-loop-rest : goal.decreases-loop-rest
decreases-loop-rest g l = length l.rest
