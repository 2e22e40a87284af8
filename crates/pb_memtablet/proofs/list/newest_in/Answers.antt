use Rattle.std.proofs.Common.{arith, ◌≡◌, None, sym, ◌∙◌}
use Rattle.std.specs.List.{last_or}
use Rattle.pb_memtablet.specs.Words.{slot_cmp, slot_cmp_total, slot_at}
use Rattle.pb_memtablet.specs.Chunks.{entries_up_to}
use Rattle.pb_memtablet.proofs.Spots.{true_holds}
use Rattle.pb_memtablet.proofs.Cuts.{IsLastUpTo, last_up_to_is, none_up_to}
use Rattle.pb_memtablet.proofs.Nearest.{none_lowest, none_of_other, newest_here}
use Rattle.pb_memtablet.proofs.list.newest_in.Goals as goal
use Rattle.pb_memtablet.proofs.list.newest_in.Goals.{In_ok-slot}

found : (c : In_ok-slot) → IsLastUpTo slot_cmp c.args.entries.now.entries (slot_at c.args.cell c.args.sort c.args.high.0) (c.in_ok-slot.slot, c.in_ok-slot.item)
found c = last_up_to_is slot_cmp slot_cmp_total c.args.entries.now.entries (slot_at c.args.cell c.args.sort c.args.high.0) (true_holds _ c.requires.sorted) (c.in_ok-slot.slot, c.in_ok-slot.item) (sym c.in_ok-slot.was ∙ c.last_up_to.ensures)

pub returns-in_err-slot : goal.returns-in_err-slot
returns-in_err-slot c =
    let none : None ≡ last_or None (entries_up_to slot_cmp (slot_at c.args.cell c.args.sort c.args.high.0) c.args.entries.now.entries) = sym c.in_err-slot.was ∙ c.last_up_to.ensures in
    rw c.from_residual.ensures
    (none_lowest c.args.entries.now.entries (true_holds _ c.requires.sorted) c.args.cell c.args.sort c.args.high
    (none_up_to slot_cmp slot_cmp_total c.args.entries.now.entries (slot_at c.args.cell c.args.sort c.args.high.0) (true_holds _ c.requires.sorted) none))

pub returns-then-is_beside : goal.returns-then-is_beside
returns-then-is_beside c =
    let last = found (goal.at.returns-then-is_beside c).In_ok-slot in
    let beside = c.is_beside.ensures.0 c.if-is_beside.true in
    newest_here c.args.entries.now.entries (true_holds _ c.requires.sorted) c.args.cell c.args.sort c.args.high last.place (c.in_ok-slot.slot, c.in_ok-slot.item) last.is last.within last.cut
    c.requires.of_sort beside.0 beside.1

pub returns-else-is_beside : goal.returns-else-is_beside
returns-else-is_beside c =
    let last = found (goal.at.returns-else-is_beside c).In_ok-slot in
    grind (arith, none_of_other, true_holds, c.args.entries.now.entries, c.requires.sorted, c.args.cell, c.args.sort, c.args.high, c.in_ok-slot.slot, c.in_ok-slot.item)
