use Rattle.std.proofs.Common.{arith, sym, subst, IfSome, Option}
use Rattle.pb_memtablet.specs.Words.{Item, IsOfSort}
use Rattle.pb_memtablet.proofs.Answered.{get-listed, of_sort_found}
use Rattle.pb_memtablet.proofs.list.ListTabletTablet.get.Goals as goal

pub returns-clause-item : goal.returns-clause-item
returns-clause-item c = grind (arith, get-listed, c.get.ensures, c.self.inside.entries.entries, c.self.inside.marks.entries, c.self.invariant, c.args.slot, c.self.view_is)

pub returns-clause-sort : goal.returns-clause-sort
returns-clause-sort c = subst (λ (o : Option Item). IfSome o (IsOfSort c.args.slot.sort)) (sym c.get.ensures) (of_sort_found c.self.inside.entries.entries c.args.slot c.self.invariant.of_sort)
