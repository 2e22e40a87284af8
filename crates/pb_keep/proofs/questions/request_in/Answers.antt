use Rattle.std.proofs.Common.{subst}
use Rattle.pb_keep.specs.Input.{IsLineRead}
use Rattle.pb_keep.proofs.Reading.{long_line}
use Rattle.pb_keep.proofs.questions.request_in.Goals as goal

pub returns-in-TooLong-clause-asks : goal.returns-in-TooLong-clause-asks
returns-in-TooLong-clause-asks c = λ from to read. let long = subst (λ r. IsLineRead r c.args.line.now from to) c.in-TooLong.is read in (long.1, long.3, long_line long.1 long.2)
