use Rattle.std.proofs.Common.{arith}
use Rattle.pb_helpers.proofs.change.first_bytes.Goals as goal

pub returns-clause-record : goal.returns-clause-record
returns-clause-record c = grind arith
