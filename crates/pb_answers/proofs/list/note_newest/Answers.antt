use Rattle.std.proofs.Common.{sym, ◌∙◌}
use Rattle.pb_answers.proofs.Newests.{no_put, too_late, one_noted}
use Rattle.pb_answers.proofs.list.note_newest.Goals as goal

pub returns-in_default : goal.returns-in_default
returns-in_default g c = λ stands rest so. no_put c.args.table.now.contents.entries c.args.last.0 c.args.slot.now c.args.item.now stands rest c.args.newest.now so (sym c.put_in.ensures ∙ c.in_default.is)

pub returns-then-not-is_up_to : goal.returns-then-not-is_up_to
returns-then-not-is_up_to g c = λ stands rest so.
    too_late c.args.table.now.contents.entries c.args.last.0 c.args.slot.now c.args.item.now stands rest c.args.newest.now so c.in-Some.put (sym c.put_in.ensures ∙ c.in-Some.is) (sym c.is_up_to.ensures ∙ c.if-not-is_up_to.true)

pub returns : goal.returns
returns g c = λ stands rest so.
    one_noted c.args.table.now.contents.entries c.args.last.0 c.args.slot.now c.args.item.now stands rest c.args.newest.now so c.in-Some.put (sym c.put_in.ensures ∙ c.in-Some.is) (sym c.is_up_to.ensures ∙ c.if-not-is_up_to.false)
    c.note.new.table c.in_ok-note.ensures
