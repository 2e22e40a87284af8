use Rattle.std.proofs.Common.{inl, sym, ◌∙◌, arith}
use Rattle.pb_state.proofs.Newest.{lock_if, no_lock, is_unlocked}
use Rattle.pb_state.proofs.readings.is_taken.Goals as goal

pub returns-in_default : goal.returns-in_default
returns-in_default g c = (c.in_default.ensures.none.0, λ t le lt. c.in_default.ensures.none.1 t (omega arith) lt)

pub returns-in-Write : goal.returns-in-Write
returns-in-Write g c = is_unlocked c.args.table.now.contents.entries c.args.cell.now c.args.from.0 c.is_written.result (c.in-Some.ensures.write c.in-Write.is) c.is_written.ensures

pub returns-then-is_some : goal.returns-then-is_some
returns-then-is_some g c = inl (lock_if c.args.table.now.contents.entries c.args.cell.now c.newest.result c.newest.ensures (sym c.is_some.ensures ∙ c.if-is_some.true))

pub returns-else-is_some : goal.returns-else-is_some
returns-else-is_some g c =
    is_unlocked c.args.table.now.contents.entries c.args.cell.now c.args.from.0 c.is_written-in_default-first.result (no_lock c.args.table.now.contents.entries c.args.cell.now c.newest.result c.newest.ensures (sym c.is_some.ensures ∙ c.if-is_some.false))
    c.is_written-in_default-first.ensures
