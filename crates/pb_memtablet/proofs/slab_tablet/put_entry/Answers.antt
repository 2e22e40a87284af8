use Rattle.std.proofs.Common.{arith}
use Rattle.pb_memtablet.proofs.Spots.{true_holds}
use Rattle.pb_memtablet.proofs.Kept.{put_seen, stored_put}
use Rattle.pb_memtablet.proofs.slab_tablet.put_entry.Goals as goal

pub returns-clause-stored : goal.returns-clause-stored
returns-clause-stored c =
    stored_put c.args.items.now.slots c.insert_reserved-key.new.self.slots c.args.keys.now.entries c.put.new.self.entries c.args.slot.now c.insert_reserved-key.result c.args.item.now c.requires.stored
    c.insert_reserved-key.ensures.was_vacant c.insert_reserved-key.ensures.updates.changed c.insert_reserved-key.ensures.updates.others c.put.ensures.entries
    (true_holds _ c.requires.sorted) c.requires.free c.insert_reserved-key.ensures.len

pub returns-clause-seen : goal.returns-clause-seen
returns-clause-seen c = grind (arith, put_seen, c.args.items.now.slots, c.insert_reserved-key.new.self.slots, c.args.keys.now.entries, c.put.new.self.entries, c.args.slot.now, c.insert_reserved-key.result, c.args.item.now, c.requires.stored, c.insert_reserved-key.ensures.was_vacant, c.insert_reserved-key.ensures.updates.changed, c.insert_reserved-key.ensures.updates.others, c.put.ensures.entries)
