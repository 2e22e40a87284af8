use Rattle.pb_memtablet.proofs.Spots.{true_holds}
use Rattle.pb_memtablet.proofs.Kept.{both_seen, stored_both}
use Rattle.pb_memtablet.proofs.slab_tablet.put_both.Goals as goal

pub returns-clause-stored : goal.returns-clause-stored
returns-clause-stored c =
    stored_both c.args.items.now.slots c.insert_reserved-key.new.self.slots c.insert_reserved-next.new.self.slots c.args.keys.now.entries c.put_both.new.self.entries c.args.first.now c.args.second.now c.insert_reserved-key.result c.insert_reserved-next.result c.args.item.now c.args.other.now
    c.requires.stored (true_holds _ c.requires.sorted) c.requires.apart c.requires.first c.requires.second
    c.insert_reserved-key.ensures.was_vacant c.insert_reserved-key.ensures.updates.changed c.insert_reserved-key.ensures.updates.others c.insert_reserved-key.ensures.len
    c.insert_reserved-next.ensures.was_vacant c.insert_reserved-next.ensures.updates.changed c.insert_reserved-next.ensures.updates.others c.insert_reserved-next.ensures.len c.put_both.ensures.entries

pub returns-clause-seen : goal.returns-clause-seen
returns-clause-seen c =
    both_seen c.args.items.now.slots c.insert_reserved-key.new.self.slots c.insert_reserved-next.new.self.slots c.args.keys.now.entries c.put_both.new.self.entries c.args.first.now c.args.second.now c.insert_reserved-key.result c.insert_reserved-next.result c.args.item.now c.args.other.now
    c.requires.stored (true_holds _ c.requires.sorted) c.requires.apart c.requires.first c.requires.second
    c.insert_reserved-key.ensures.was_vacant c.insert_reserved-key.ensures.updates.changed c.insert_reserved-key.ensures.updates.others c.insert_reserved-key.ensures.len
    c.insert_reserved-next.ensures.was_vacant c.insert_reserved-next.ensures.updates.changed c.insert_reserved-next.ensures.updates.others c.insert_reserved-next.ensures.len c.put_both.ensures.entries
