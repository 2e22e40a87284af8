use Rattle.std.proofs.Common.{false, arith}
use Rattle.pb_texts.proofs.Counts.{begins_as_told, count_read, count_unread}
use Rattle.pb_texts.proofs.words.parse.number_named.Goals as goal

pub returns-in-Ok : goal.returns-in-Ok
returns-in-Ok c = grind (arith, begins_as_told, count_read, c.args.text.now, c.starts_with.result, c.starts_with.ensures.byte, c.if-starts_with.false, c.args.low, c.args.high, c.ranges.high.fits, c.in-Ok.number, c.is_within.ensures, c.if-is_within.true)

pub returns-in-Err : goal.returns-in-Err
returns-in-Err c =
    let plain = begins_as_told c.args.text.now false c.starts_with.result (c.starts_with.ensures.byte (omega arith) (omega arith) (λ w o h. h)) c.if-starts_with.false in
    count_unread c.args.low c.args.high (c.ranges.high.fits) c.args.text.now plain c.in-Err.field-0 c.in-Err.ensures.value.0
