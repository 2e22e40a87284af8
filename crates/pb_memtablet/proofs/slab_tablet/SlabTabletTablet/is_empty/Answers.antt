use Rattle.std.proofs.Common.{arith, ◌≡◌, ◌==◌, ◌&&◌, length, sym, ap, ◌∙◌}
use Rattle.pb_memtablet.specs.Words.{is_nothing}
use Rattle.pb_memtablet.proofs.Kept.{length-seen}
use Rattle.pb_memtablet.proofs.Answered.{is_nothing-listed}
use Rattle.pb_memtablet.proofs.slab_tablet.SlabTabletTablet.is_empty.Goals as goal
use Rattle.pb_memtablet.proofs.slab_tablet.SlabTabletTablet.is_empty.Goals.{After-is_empty}

told : (c : After-is_empty) → ((length c.self.inside.keys.entries == 0) && (length c.self.inside.marks.entries == 0)) ≡ is_nothing c.args.self.now
told c = grind (arith, length-seen, is_nothing-listed, c.self.inside.marks.entries, c.self.inside.items.slots, c.self.inside.keys.entries, c.self.invariant.lists, c.self.view_is)

pub returns-then-is_empty : goal.returns-then-is_empty
returns-then-is_empty c =
    let start = (goal.at.returns-then-is_empty c).After-is_empty in
    c.is_empty-then-is_empty.ensures
    ∙ ap (λ b. b && (length c.self.inside.marks.entries == 0)) (sym c.if-is_empty.true ∙ start.is_empty.ensures)
    ∙ told start

pub returns-else-is_empty : goal.returns-else-is_empty
returns-else-is_empty c =
    let start = (goal.at.returns-else-is_empty c).After-is_empty in
    c.if-is_empty.false ∙ ap (λ b. b && (length c.self.inside.marks.entries == 0)) (sym c.if-is_empty.false ∙ start.is_empty.ensures) ∙ told start
