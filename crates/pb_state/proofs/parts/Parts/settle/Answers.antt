use Rattle.std.proofs.Common.{arith, ◌≡◌, refl, ap, subst}
use Rattle.pb_state.specs.Words.{StateOf, NoLock, IsLockOn}
use Rattle.pb_state.proofs.NewState.{same_marks, new_entries}
use Rattle.pb_state.proofs.SameCells.{same_if}
use Rattle.pb_state.proofs.parts.Parts.settle.Goals as goal

pub returns-in_default-clause-taken : goal.returns-in_default-clause-taken
returns-in_default-clause-taken g c =
    let e : c.self.inside.table.contents.entries ≡ c.args.self.now.entries = ap (λ (s : StateOf). s.entries) c.self.view_is in
    record { allowed = c.requires; taken = record { unlocked = subst (λ m. NoLock m c.args.cell.now) e c.in_default.ensures; new_is = refl } }

pub returns-clause-taken : goal.returns-clause-taken
returns-clause-taken g c =
    let e : c.self.inside.table.contents.entries ≡ c.args.self.now.entries = ap (λ (s : StateOf). s.entries) c.self.view_is in
    let its_own : c.in-Some.primary ≡ c.args.cell.now = same_if _ _ _ c.ne.ensures c.if-ne.false in
    let locked = subst (λ m. IsLockOn m c.args.cell.now c.in-Some.start.0 c.in-Some.primary) e c.in-Some.ensures in
    grind (arith, new_entries, same_marks, c.args.self.now.entries, c.self.view_is, c.args.cell.now, c.requires, c.self.inside.table, c.apply.new.self, c.self.inside.observers.items, c.self.inside.clock, c.self.inside.seats, c.self.inside.transactions, c.in_ok-apply.ensures.ok, c.erase_edits.ensures.erased, c.self.inside.table.contents, c.args.self.now)
