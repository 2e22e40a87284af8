use Rattle.pb_verify.proofs.PointersWithin.{within_kind}
use Rattle.pb_verify.proofs.following.set_kind.Goals as goal

pub returns-clause-near : goal.returns-clause-near
returns-clause-near c = λ b h n. rw c.number.ensures.number (within_kind b c.args.frame.now c.args.reg c.args.kind h n)
