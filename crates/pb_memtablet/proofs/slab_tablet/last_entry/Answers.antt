use Rattle.std.proofs.Common.{None, ap, ◌∙◌, subst, sym, IfSome, option_map}
use Rattle.pb_memtablet.specs.Stored.{HasItem}
use Rattle.pb_memtablet.proofs.Kept.{as_entry, last-seen, last_stored}
use Rattle.pb_memtablet.proofs.slab_tablet.last_entry.Goals as goal

pub entry_at-requires : goal.entry_at-requires
entry_at-requires c =
    subst (λ o. IfSome o (λ k. HasItem c.args.items.now.slots k.1)) (sym c.last_up_to.ensures) (last_stored (HasItem c.args.items.now.slots) c.args.slot.now None c.args.keys.now.entries tt c.requires.stored)

pub returns : goal.returns
returns c = c.entry_at.ensures ∙ ap (option_map (as_entry c.args.items.now.slots)) c.last_up_to.ensures ∙ last-seen c.args.items.now.slots c.args.slot.now None c.args.keys.now.entries
