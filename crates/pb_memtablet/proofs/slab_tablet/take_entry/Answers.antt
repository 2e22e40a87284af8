use Rattle.std.proofs.Common.{◌≡◌, Some, sym, ap, ◌∙◌}
use Rattle.std.specs.FinMap.{find}
use Rattle.pb_memtablet.specs.Words.{slot_cmp}
use Rattle.pb_memtablet.specs.Stored.{seen, HasItem}
use Rattle.pb_memtablet.proofs.Spots.{true_holds}
use Rattle.pb_memtablet.proofs.Kept.{of_found, taken_seen, stored_taken, nothing_gone, seen-where, sorted_without, found_no_more}
use Rattle.pb_memtablet.proofs.slab_tablet.take_entry.Goals as goal
use Rattle.pb_memtablet.proofs.slab_tablet.take_entry.Goals.{After-remove}

pub remove-requires : goal.remove-requires
remove-requires c = of_found (HasItem c.args.items.now.slots) c.args.keys.now.entries c.args.slot.now c.in-Some.key (sym c.get.ensures ∙ c.in-Some.is) c.requires.stored.stored

found : (c : After-remove) → find slot_cmp c.args.slot.now c.args.keys.now.entries ≡ Some c.in-Some.key
found c = sym c.get.ensures ∙ c.in-Some.is

pub returns-in-Some-clause-stored : goal.returns-in-Some-clause-stored
returns-in-Some-clause-stored c =
    stored_taken c.args.items.now.slots c.remove.new.self.slots c.args.keys.now.entries c.take_out.new.self.entries c.args.slot.now c.in-Some.key c.requires.stored (found c)
    c.remove.ensures.updates.others c.take_out.ensures.entries (true_holds _ c.requires.sorted) c.remove.ensures.len

pub returns-in-Some-clause-seen : goal.returns-in-Some-clause-seen
returns-in-Some-clause-seen c =
    taken_seen c.args.items.now.slots c.remove.new.self.slots c.args.keys.now.entries c.take_out.new.self.entries c.args.slot.now c.in-Some.key c.requires.stored (found c)
    c.remove.ensures.updates.others c.take_out.ensures.entries

pub returns-in-Some-clause-sorted : goal.returns-in-Some-clause-sorted
returns-in-Some-clause-sorted c = sorted_without c.args.slot.now c.args.keys.now.entries c.take_out.new.self.entries (true_holds _ c.requires.sorted) c.take_out.ensures.entries

pub returns-in-Some-clause-free : goal.returns-in-Some-clause-free
returns-in-Some-clause-free c = ap (find slot_cmp c.args.slot.now) c.take_out.ensures.entries ∙ found_no_more c.args.slot.now c.args.keys.now.entries

pub returns-in_default-clause-seen : goal.returns-in_default-clause-seen
returns-in_default-clause-seen c =
    ap (seen c.args.items.now.slots) (sym (nothing_gone c.args.slot.now c.args.keys.now.entries (sym c.get.ensures ∙ c.in_default.is)))
    ∙ seen-where c.args.items.now.slots _ c.args.keys.now.entries
