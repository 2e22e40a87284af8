use Rattle.std.proofs.Common.{rules}
use Rattle.pb_kinds.specs.Frames.{join}
use Rattle.pb_kinds.proofs.JoinIsMeet.{join_is_meet}
use Rattle.pb_kinds.proofs.frame.join.Goals as goal

pub returns-clause-value : goal.returns-clause-value
unfolding join
returns-clause-value c = search rules

pub returns-clause-meet : goal.returns-clause-meet
unfolding join
returns-clause-meet c = rw (c.meet_kinds.ensures, c.meet_bytes.ensures) (join_is_meet c.args.a.now c.args.b.now)
