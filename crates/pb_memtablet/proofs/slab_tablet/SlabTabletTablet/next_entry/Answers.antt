use Rattle.std.proofs.Common.{arith, ◌≡◌, sym, ap, ◌∙◌, subst, IfSome, slice_get, option_map}
use Rattle.pb_memtablet.specs.Words.{IsOfSort, entries_after}
use Rattle.pb_memtablet.specs.Stored.{seen, HasItem}
use Rattle.pb_memtablet.proofs.Answered.{entries-listed, of_sort_after}
use Rattle.pb_memtablet.proofs.Kept.{as_entry, next-seen, next_stored}
use Rattle.pb_memtablet.proofs.slab_tablet.SlabTabletTablet.next_entry.Goals as goal
use Rattle.pb_memtablet.proofs.slab_tablet.SlabTabletTablet.next_entry.Goals.{After-entry_at}

pub entry_at-requires : goal.entry_at-requires
entry_at-requires c =
    subst (λ o. IfSome o (λ k. HasItem c.self.inside.items.slots k.1)) (sym c.entry_after.ensures)
    (next_stored (HasItem c.self.inside.items.slots) c.args.after c.self.inside.keys.entries c.self.invariant.keys.stored)

found : (c : After-entry_at) → c.entry_at.result ≡ slice_get (entries_after c.args.after (seen c.self.inside.items.slots c.self.inside.keys.entries)) 0
found c =
    c.entry_at.ensures
    ∙ ap (option_map (as_entry c.self.inside.items.slots)) c.entry_after.ensures
    ∙ next-seen c.self.inside.items.slots c.args.after c.self.inside.keys.entries

pub returns-clause-entry : goal.returns-clause-entry
returns-clause-entry c = grind (arith, found, entries-listed, c.args.after, c.self.inside.items.slots, c.self.inside.keys.entries, c.self.inside.marks.entries, c.self.invariant.lists, c.self.view_is)

pub returns-clause-sort : goal.returns-clause-sort
returns-clause-sort c =
    subst (λ o. IfSome o (λ e. IsOfSort e.0.sort e.1)) (sym (found c))
    (of_sort_after c.args.after (seen c.self.inside.items.slots c.self.inside.keys.entries) c.self.invariant.lists.of_sort)
