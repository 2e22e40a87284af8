use Rattle.std.proofs.Common.{◌≡◌, None, is_some, sym, ap, ◌∙◌}
use Rattle.std.specs.FinMap.{find}
use Rattle.pb_memtablet.specs.Words.{slot_cmp}
use Rattle.pb_memtablet.specs.Stored.{HasItem}
use Rattle.pb_memtablet.proofs.Spots.{true_holds}
use Rattle.pb_memtablet.proofs.Kept.{of_found, renewed_seen, stored_renewed}
use Rattle.pb_memtablet.proofs.slab_tablet.renew_entry.Goals as goal
use Rattle.pb_memtablet.proofs.slab_tablet.renew_entry.Goals.{After-replace}
use Rattle.pb_base.proofs.Logic.{none_is as no_key}

pub remove-requires : goal.remove-requires
remove-requires c = of_found (HasItem c.args.items.now.slots) c.args.keys.now.entries c.args.gone.now c.in-Some.key (sym c.get-2.ensures ∙ c.in-Some.is) c.requires.stored.stored

-- the second slot was found to have no entry
free : (c : After-replace) → find slot_cmp c.args.slot.now c.args.keys.now.entries ≡ None
free c = no_key _ (ap is_some (sym c.get.ensures) ∙ sym c.if-is_some.ensures)

pub returns-clause-stored : goal.returns-clause-stored
returns-clause-stored c =
    stored_renewed c.args.items.now.slots c.remove.new.self.slots c.insert_reserved-again.new.self.slots c.args.keys.now.entries c.replace.new.self.entries c.args.gone.now c.args.slot.now c.in-Some.key c.insert_reserved-again.result c.args.item.now
    c.requires.stored (sym c.get-2.ensures ∙ c.in-Some.is) (true_holds _ c.requires.sorted) (free c) c.remove.ensures.updates.others c.remove.ensures.len
    c.insert_reserved-again.ensures.was_vacant c.insert_reserved-again.ensures.updates.changed c.insert_reserved-again.ensures.updates.others c.insert_reserved-again.ensures.len c.replace.ensures.entries

pub returns-clause-renewed : goal.returns-clause-renewed
returns-clause-renewed c _ =
    renewed_seen c.args.items.now.slots c.remove.new.self.slots c.insert_reserved-again.new.self.slots c.args.keys.now.entries c.replace.new.self.entries c.args.gone.now c.args.slot.now c.in-Some.key c.insert_reserved-again.result c.args.item.now
    c.requires.stored (sym c.get-2.ensures ∙ c.in-Some.is) (true_holds _ c.requires.sorted) (free c) c.remove.ensures.updates.others c.remove.ensures.len
    c.insert_reserved-again.ensures.was_vacant c.insert_reserved-again.ensures.updates.changed c.insert_reserved-again.ensures.updates.others c.insert_reserved-again.ensures.len c.replace.ensures.entries
