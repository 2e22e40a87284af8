use Rattle.pb_verify.proofs.OneVerdict.{one_verdict}
use Rattle.pb_verify.proofs.verifier.either_accepted_or_refused.Goals as goal

pub returns : goal.returns
returns c = one_verdict
