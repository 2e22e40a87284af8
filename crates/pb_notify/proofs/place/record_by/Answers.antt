use Rattle.std.proofs.Common.{arith}
use Rattle.pb_notify.proofs.place.record_by.Goals as goal

pub returns-clause-record : goal.returns-clause-record
returns-clause-record c = grind arith
