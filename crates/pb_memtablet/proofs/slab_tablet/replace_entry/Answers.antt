use Rattle.std.proofs.Common.{ap, ◌∙◌}
use Rattle.std.specs.FinMap.{put}
use Rattle.pb_memtablet.specs.Words.{slot_cmp}
use Rattle.pb_memtablet.specs.Stored.{seen}
use Rattle.pb_memtablet.proofs.Spots.{true_holds}
use Rattle.pb_memtablet.proofs.Kept.{put_anew, is_sorted-seen}
use Rattle.pb_memtablet.proofs.slab_tablet.replace_entry.Goals as goal

pub returns-clause-seen : goal.returns-clause-seen
returns-clause-seen c =
    c.put_entry.ensures.seen
    ∙ ap (put slot_cmp c.args.slot.now c.args.item.now) c.take_entry.ensures.seen
    ∙ put_anew c.args.slot.now c.args.item.now (seen c.args.items.now.slots c.args.keys.now.entries) (true_holds _ (is_sorted-seen c.args.items.now.slots c.args.keys.now.entries ∙ c.requires.sorted))
