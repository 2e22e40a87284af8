use Rattle.std.proofs.Common.{sym, ◌∙◌}
use Rattle.pb_answers.proofs.Since.{no_put, not_since, one_noted}
use Rattle.pb_answers.proofs.writes.note_write.Goals as goal

pub returns-in_default : goal.returns-in_default
returns-in_default g c = λ stands rest so. no_put c.args.table.now.contents.entries c.args.above.0 c.args.slot.now c.args.item.now stands rest c.args.writes.now so (sym c.put_in.ensures ∙ c.in_default.is)

pub returns-then-not-is_since : goal.returns-then-not-is_since
returns-then-not-is_since g c = λ stands rest so.
    not_since c.args.table.now.contents.entries c.args.above.0 c.args.slot.now c.args.item.now stands rest c.args.writes.now so c.in-Some.put (sym c.put_in.ensures ∙ c.in-Some.is) (sym c.is_since.ensures ∙ c.if-not-is_since.true)

pub returns : goal.returns
returns g c = λ stands rest so.
    one_noted c.args.table.now.contents.entries c.args.above.0 c.args.slot.now c.args.item.now stands rest c.args.writes.now so c.in-Some.put (sym c.put_in.ensures ∙ c.in-Some.is) (sym c.is_since.ensures ∙ c.if-not-is_since.false)
    c.insert.new.self c.in_ok-insert.ensures.updates.0 c.in_ok-insert.ensures.ordered
