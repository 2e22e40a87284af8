use Rattle.std.proofs.Common.{arith, ◌≡◌, ◌==◌, ◌&&◌, length, sym, ap, ◌∙◌}
use Rattle.pb_memtablet.specs.Words.{is_nothing}
use Rattle.pb_memtablet.proofs.Answered.{is_nothing-listed}
use Rattle.pb_memtablet.proofs.list.ListTabletTablet.is_empty.Goals as goal
use Rattle.pb_memtablet.proofs.list.ListTabletTablet.is_empty.Goals.{After-is_empty}

told : (c : After-is_empty) → ((length c.self.inside.entries.entries == 0) && (length c.self.inside.marks.entries == 0)) ≡ is_nothing c.args.self.now
told c = sym (is_nothing-listed c.self.inside.entries.entries c.self.inside.marks.entries c.self.invariant) ∙ ap is_nothing c.self.view_is

pub returns-then-is_empty : goal.returns-then-is_empty
returns-then-is_empty c = grind (arith, told, c.is_empty-then-is_empty.ensures, c.self.inside.marks.entries, c.if-is_empty.true)

pub returns-else-is_empty : goal.returns-else-is_empty
returns-else-is_empty c = grind (arith, told, c.if-is_empty.false, c.self.inside.marks.entries)
