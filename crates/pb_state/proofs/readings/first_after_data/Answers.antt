use Rattle.std.proofs.Common.{◌≡◌, Some, slice_get, subst}
use Rattle.std.specs.FinMap as map
use Rattle.pb_state.specs.Words.{entries_after}
use Rattle.pb_state.proofs.FirstAfter.{free_at_end, free_before_other, unlocked_before_write, other_cell, same_cell}
use Rattle.pb_state.proofs.readings.first_after_data.Goals as goal

pub returns-in_default-clause-none : goal.returns-in_default-clause-none
returns-in_default-clause-none g c =
    let e = c.args.table.now.contents.entries in
    let next = subst (λ s. c.next_entry.result ≡ slice_get (entries_after (Some s) (map.entries e)) 0) c.slot_of-data.ensures c.next_entry.ensures.entry in
    free_at_end e c.args.cell.now c.next_entry.result next c.in_default.is

pub returns-then-ne-clause-none : goal.returns-then-ne-clause-none
returns-then-ne-clause-none g c =
    let e = c.args.table.now.contents.entries in
    let next = subst (λ s. c.next_entry.result ≡ slice_get (entries_after (Some s) (map.entries e)) 0) c.slot_of-data.ensures c.next_entry.ensures.entry in
    free_before_other e c.args.cell.now c.next_entry.result next (c.in-Some.slot, c.in-Some.field-0-1) c.in-Some.is (other_cell c.in-Some.slot.cell c.args.cell.now c.ne.result c.ne.ensures c.if-ne.true)

pub returns-clause-write : goal.returns-clause-write
returns-clause-write g c written =
    let e = c.args.table.now.contents.entries in
    let next = subst (λ s. c.next_entry.result ≡ slice_get (entries_after (Some s) (map.entries e)) 0) c.slot_of-data.ensures c.next_entry.ensures.entry in
    unlocked_before_write e c.args.cell.now c.next_entry.result next (c.in-Some.slot, c.in-Some.field-0-1) c.in-Some.is (same_cell c.in-Some.slot.cell c.args.cell.now c.ne.result c.ne.ensures c.if-ne.false) written
