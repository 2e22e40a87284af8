use Rattle.std.proofs.Common.{arith}
use Rattle.pb_reading.proofs.FirstPart.{first_and_rest, one_part}
use Rattle.pb_reading.proofs.words.first_word.Goals as goal

pub returns-in-Some : goal.returns-in-Some
returns-in-Some c =
    let p = c.in-Some.ensures.byte (omega arith) (λ w o h. h) in
    first_and_rest 32 c.args.line.now c.in-Some.word.now c.in-Some.after.now p.0 p.1 p.2

pub returns-in-None : goal.returns-in-None
returns-in-None c = one_part 32 c.args.line.now (c.in-None.ensures.byte (omega arith) (λ w o h. h))
