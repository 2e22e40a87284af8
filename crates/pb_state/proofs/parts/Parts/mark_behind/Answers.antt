use Rattle.std.proofs.Common.{[], List, OnErr, OnOk, subst}
use Rattle.pb_base.proofs.Logic.{ok_then}
use Rattle.pb_store.proofs.Applying.{err_then}
use Rattle.pb_state.specs.Words.{ObserverOf, SomeBehind}
use Rattle.pb_state.specs.MoreMarks.{AddsMarks, AreMarkedBefore}
use Rattle.pb_state.proofs.MarkedBehind.{all_marked, some_marked}
use Rattle.pb_state.proofs.parts.Parts.mark_behind.Goals as goal

pub returns-clause-ok : goal.returns-clause-ok
returns-clause-ok g c =
    let e = c.self.inside.table.contents in
    let now = c.mark_all_behind.new.table.contents in
    let so : OnOk c.mark_all_behind.result (AreMarkedBefore (SomeBehind c.self.inside.observers.items e.entries) e.entries [] e.marks now.marks) =
    subst (λ (os : List ObserverOf). OnOk c.mark_all_behind.result (AreMarkedBefore (SomeBehind os e.entries) e.entries [] e.marks now.marks)) c.deref.ensures.value c.mark_all_behind.ensures.ok in
    ok_then c.mark_all_behind.result _ _ (λ is. all_marked c.self.inside.table c.mark_all_behind.new.table c.self.inside.observers.items c.self.inside.clock c.self.inside.seats c.self.inside.transactions c.mark_all_behind.ensures.entries is c.args.self.now c.self.view_is) so

pub returns-clause-err : goal.returns-clause-err
returns-clause-err g c =
    let e = c.self.inside.table.contents in
    let now = c.mark_all_behind.new.table.contents in
    let so : OnErr c.mark_all_behind.result (AddsMarks (SomeBehind c.self.inside.observers.items e.entries) e.entries e.marks now.marks) =
    subst (λ (os : List ObserverOf). OnErr c.mark_all_behind.result (AddsMarks (SomeBehind os e.entries) e.entries e.marks now.marks)) c.deref.ensures.value c.mark_all_behind.ensures.err in
    err_then c.mark_all_behind.result _ _ (λ adds. some_marked c.self.inside.table c.mark_all_behind.new.table c.self.inside.observers.items c.self.inside.clock c.self.inside.seats c.self.inside.transactions c.mark_all_behind.ensures.entries adds c.args.self.now c.self.view_is) so
