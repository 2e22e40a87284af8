use Rattle.std.proofs.Common.{arith, ◌≡◌, refl, sym, ap, subst, ◌∙◌, is_some, Some}
use Rattle.pb_state.specs.Words.{StateOf, NoLock, IsLockOn, lock_at, write_at, commit_lock, with_mark, NoWriteOf}
use Rattle.pb_state.proofs.NewState.{same_marks, new_entries}
use Rattle.pb_state.proofs.parts.Parts.clear.Goals as goal
use Rattle.pb_state.proofs.parts.Parts.clear.Goals.{then-eq-via-then-eq, then-eq-via-else-eq+then-has_lock}

pub returns-in_default-clause-taken : goal.returns-in_default-clause-taken
returns-in_default-clause-taken g c =
    let e : c.self.inside.table.contents.entries ≡ c.args.self.now.entries = ap (λ (s : StateOf). s.entries) c.self.view_is in
    record { allowed = c.requires; taken = record { unlocked = subst (λ m. NoLock m c.args.cell.now) e c.in_default.ensures; new_is = refl } }

pub returns-then-eq-clause-taken : goal.returns-then-eq-clause-taken
returns-then-eq-clause-taken g c =
    let e : c.self.inside.table.contents.entries ≡ c.args.self.now.entries = ap (λ (s : StateOf). s.entries) c.self.view_is in
    let locked = subst (λ m. IsLockOn m c.args.cell.now c.in-Some.start.0 c.in-Some.primary) e c.in-Some.ensures in
    grind (arith, then-eq-via-then-eq, then-eq-via-else-eq+then-has_lock, c.in-Some.primary, c.requires, c.then-eq.branch, c.eq.ensures)

pub returns-in_ok-commit_cell-in-Some-commit_of-clause-taken :
    goal.returns-in_ok-commit_cell-in-Some-commit_of-clause-taken
returns-in_ok-commit_cell-in-Some-commit_of-clause-taken g c =
    let e : c.self.inside.table.contents.entries ≡ c.args.self.now.entries = ap (λ (s : StateOf). s.entries) c.self.view_is in
    record {
      allowed = c.requires;
      taken = record {
        start = c.in-Some.start.0;
        primary = c.in-Some.primary;
        locked = subst (λ m. IsLockOn m c.args.cell.now c.in-Some.start.0 c.in-Some.primary) e c.in-Some.ensures;
        other = sym c.eq.ensures ∙ c.if-eq.false;
        unlocked = ap (λ m. is_some (lock_at m c.in-Some.primary c.in-Some.start.0)) (sym e) ∙ sym c.has_lock.ensures ∙ c.if-has_lock.false;
        written = subst (λ m. write_at m c.in-Some.primary c.in-Some-commit_of.commit.0 ≡ Some c.in-Some.start.0) e c.in-Some-commit_of.ensures;
        new_is = new_entries c.self.inside.table c.commit_cell.new.table c.self.inside.observers.items c.self.inside.clock c.self.inside.seats c.self.inside.transactions
            (λ m. commit_lock m c.args.cell.now c.in-Some.start.0 c.in-Some-commit_of.commit.0) (λ os m. with_mark os m c.args.cell.now)
            (c.in_ok-commit_cell-in-Some-commit_of.ensures.ok ∙ (λ i. record { entries = commit_lock c.self.inside.table.contents.entries c.args.cell.now c.in-Some.start.0 c.in-Some-commit_of.commit.0; marks = with_mark (c.deref.ensures.value i) c.self.inside.table.contents.marks c.args.cell.now })) c.args.self.now c.self.view_is;
      };
    }

pub returns-in_ok-apply-in-None-clause-taken : goal.returns-in_ok-apply-in-None-clause-taken
returns-in_ok-apply-in-None-clause-taken g c =
    let e : c.self.inside.table.contents.entries ≡ c.args.self.now.entries = ap (λ (s : StateOf). s.entries) c.self.view_is in
    record {
      allowed = c.requires;
      taken = record {
        start = c.in-Some.start.0;
        primary = c.in-Some.primary;
        locked = subst (λ m. IsLockOn m c.args.cell.now c.in-Some.start.0 c.in-Some.primary) e c.in-Some.ensures;
        other = sym c.eq.ensures ∙ c.if-eq.false;
        unlocked = ap (λ m. is_some (lock_at m c.in-Some.primary c.in-Some.start.0)) (sym e) ∙ sym c.has_lock.ensures ∙ c.if-has_lock.false;
        none = subst (λ m. NoWriteOf m c.in-Some.primary c.in-Some.start.0) e c.in-None.ensures;
        new_is = grind (arith, new_entries, same_marks, c.self.view_is, c.args.cell.now, c.self.inside.table, c.apply.new.self, c.self.inside.observers.items, c.self.inside.clock, c.self.inside.seats, c.self.inside.transactions, c.in_ok-apply-in-None.ensures.ok, c.erase_edits.ensures.erased, c.self.inside.table.contents, c.args.self.now);
      };
    }
