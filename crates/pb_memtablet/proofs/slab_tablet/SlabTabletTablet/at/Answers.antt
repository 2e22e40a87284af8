use Rattle.std.proofs.Common.{arith, ◌≡◌, sym, ap, ◌∙◌, subst, IfSome, slice_get, option_map}
use Rattle.pb_memtablet.specs.Words.{IsOfSort}
use Rattle.pb_memtablet.specs.Stored.{seen, HasItem}
use Rattle.pb_memtablet.proofs.Answered.{entries-listed, of_sort_there}
use Rattle.pb_memtablet.proofs.Kept.{as_entry, at-seen, stored_at}
use Rattle.pb_memtablet.proofs.slab_tablet.SlabTabletTablet.at.Goals as goal
use Rattle.pb_memtablet.proofs.slab_tablet.SlabTabletTablet.at.Goals.{After-entry_at}

pub entry_at-requires : goal.entry_at-requires
entry_at-requires c =
    subst (λ o. IfSome o (λ k. HasItem c.self.inside.items.slots k.1)) (sym c.at.ensures) (stored_at (HasItem c.self.inside.items.slots) c.self.inside.keys.entries c.args.place c.self.invariant.keys.stored)

found : (c : After-entry_at) → c.entry_at.result ≡ slice_get (seen c.self.inside.items.slots c.self.inside.keys.entries) c.args.place
found c = c.entry_at.ensures ∙ ap (option_map (as_entry c.self.inside.items.slots)) c.at.ensures ∙ sym (at-seen c.self.inside.items.slots c.self.inside.keys.entries c.args.place)

pub returns-clause-entry : goal.returns-clause-entry
returns-clause-entry c = grind (arith, found, entries-listed, c.args.place, c.self.inside.items.slots, c.self.inside.keys.entries, c.self.inside.marks.entries, c.self.invariant.lists, c.self.view_is)

pub returns-clause-sort : goal.returns-clause-sort
returns-clause-sort c =
    subst (λ o. IfSome o (λ e. IsOfSort e.0.sort e.1)) (sym (found c)) (of_sort_there (seen c.self.inside.items.slots c.self.inside.keys.entries) c.args.place c.self.invariant.lists.of_sort)
