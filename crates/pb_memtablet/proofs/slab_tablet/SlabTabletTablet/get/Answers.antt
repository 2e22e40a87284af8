use Rattle.std.proofs.Common.{arith, ◌≡◌, sym, ap, ◌∙◌, subst, IfSome, Option, option_map}
use Rattle.std.specs.FinMap.{find}
use Rattle.pb_memtablet.specs.Words.{Item, slot_cmp, IsOfSort}
use Rattle.pb_memtablet.specs.Stored.{seen, item_at}
use Rattle.pb_memtablet.proofs.Answered.{get-listed, of_sort_found}
use Rattle.pb_memtablet.proofs.Kept.{find-seen, found_stored}
use Rattle.pb_memtablet.proofs.slab_tablet.SlabTabletTablet.get.Goals as goal
use Rattle.pb_memtablet.proofs.slab_tablet.SlabTabletTablet.get.Goals.{After-item_of}

pub item_of-requires : goal.item_of-requires
item_of-requires c = grind (arith, found_stored, c.self.inside.items.slots, c.get.ensures, c.self.inside.keys.entries, c.args.slot, c.self.invariant.keys.stored)

found : (c : After-item_of) → c.item_of.result ≡ find slot_cmp c.args.slot (seen c.self.inside.items.slots c.self.inside.keys.entries)
found c = c.item_of.ensures ∙ ap (option_map (item_at c.self.inside.items.slots)) c.get.ensures ∙ sym (find-seen c.self.inside.items.slots c.args.slot c.self.inside.keys.entries)

pub returns-clause-item : goal.returns-clause-item
returns-clause-item c = grind (arith, found, get-listed, c.self.inside.items.slots, c.self.inside.keys.entries, c.self.inside.marks.entries, c.self.invariant.lists, c.args.slot, c.self.view_is)

pub returns-clause-sort : goal.returns-clause-sort
returns-clause-sort c =
    subst (λ (o : Option Item). IfSome o (IsOfSort c.args.slot.sort)) (sym (found c)) (of_sort_found (seen c.self.inside.items.slots c.self.inside.keys.entries) c.args.slot c.self.invariant.lists.of_sort)
