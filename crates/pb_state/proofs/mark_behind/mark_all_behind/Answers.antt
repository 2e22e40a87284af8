use Rattle.std.proofs.Common.{◌∙◌, refl, subst, sym}
use Rattle.pb_state.specs.Words.{Entries, SomeBehind}
use Rattle.pb_state.specs.MoreMarks.{IsMarkedBy}
use Rattle.pb_state.proofs.MoreMarks.{all_passed, none_met, one_passed}
use Rattle.pb_state.proofs.mark_behind.mark_all_behind.Goals as goal

pub loop-slot-init : goal.loop-slot-init
loop-slot-init g c = record { same = refl; marked = none_met (SomeBehind c.args.observers.now c.args.table.now.contents.entries) c.args.table.now.contents.entries c.args.table.now.contents.marks }

pub loop-slot-preserved : goal.loop-slot-preserved
loop-slot-preserved g c =
    let e = c.args.table.now.contents.entries in
    let now = c.loop-slot.table.contents.marks in
    let new = c.mark_if_behind.new.table.contents.marks in
    let same = c.loop-slot.invariant.same in
    let by : IsMarkedBy (SomeBehind c.args.observers.now e) c.in-Some.slot c.in-Some.item now new = subst (λ (d : Entries). IsMarkedBy (SomeBehind c.args.observers.now d) c.in-Some.slot c.in-Some.item now new) same c.in_ok-mark_if_behind.ensures.ok in
    record {
      same = c.mark_if_behind.ensures.entries ∙ same;
      marked = one_passed (SomeBehind c.args.observers.now e) e c.loop-slot.table.contents.entries same c.loop-slot.after c.args.table.now.contents.marks now
          c.loop-slot.invariant.marked (c.in-Some.slot, c.in-Some.item) new (sym c.in-Some.is ∙ c.next_entry.ensures.entry) c.in-Some.ensures.rest by;
    }

pub returns-clause-ok : goal.returns-clause-ok
returns-clause-ok g c =
    all_passed (SomeBehind c.args.observers.now c.args.table.now.contents.entries) c.args.table.now.contents.entries c.loop-slot.table.contents.entries c.loop-slot.invariant.same c.loop-slot.after c.args.table.now.contents.marks c.loop-slot.table.contents.marks
    c.loop-slot.invariant.marked (sym c.in_default.is ∙ c.next_entry.ensures.entry)
