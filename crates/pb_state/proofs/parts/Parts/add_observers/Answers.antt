use Rattle.std.proofs.Common.{◌≡◌, true, subst, List, []}
use Rattle.std.proofs.lemmas.Result.{err_from_is_err_and}
use Rattle.pb_state.specs.Words.{ObserverOf, is_observed}
use Rattle.pb_state.specs.MoreMarks.{AreMarkedBefore}
use Rattle.pb_state.proofs.MoreMarks.{more_marks, more_observers}
use Rattle.pb_state.proofs.parts.Parts.add_observers.Goals as goal

pub returns-in_err-append-clause-err : goal.returns-in_err-append-clause-err
returns-in_err-append-clause-err g c =
    let p = err_from_is_err_and c.from_residual-in_err-append.result c.from_residual-in_err-append.ensures.1 in
    let e = c.self.inside.table.contents in
    let now = c.mark_records.new.table.contents in
    let so = subst (λ (os : List ObserverOf). AreMarkedBefore (λ x. is_observed os x ≡ true) e.entries [] e.marks now.marks) c.deref.ensures.value c.in_ok-mark_records.ensures.ok in
    rw (p.1) (more_marks c.self.inside.table c.mark_records.new.table c.self.inside.observers.items c.append.new.self.items c.self.inside.clock c.self.inside.seats c.self.inside.transactions c.args.more.items c.mark_records.ensures.entries
    c.in_err-append.ensures.items so.adds c.args.self.now c.self.view_is)

pub returns-clause-ok : goal.returns-clause-ok
returns-clause-ok g c =
    let e = c.self.inside.table.contents in
    let now = c.mark_records.new.table.contents in
    let so = subst (λ (os : List ObserverOf). AreMarkedBefore (λ x. is_observed os x ≡ true) e.entries [] e.marks now.marks) c.deref.ensures.value c.in_ok-mark_records.ensures.ok in
    more_observers c.self.inside.table c.mark_records.new.table c.self.inside.observers.items c.append.new.self.items c.self.inside.clock c.self.inside.seats c.self.inside.transactions c.args.more.items c.mark_records.ensures.entries
    c.in_ok-append.ensures.items so c.args.self.now c.self.view_is
