use Rattle.std.proofs.Common.{◌≡◌, ◌∙◌, true, refl, sym}
use Rattle.pb_state.specs.Words.{is_observed}
use Rattle.pb_state.proofs.MoreMarks.{all_passed, none_met, one_passed}
use Rattle.pb_state.proofs.add_observers.mark_records.Goals as goal

pub loop-slot-init : goal.loop-slot-init
loop-slot-init g c = record { same = refl; marked = none_met (λ x. is_observed c.args.observers.now x ≡ true) c.args.table.now.contents.entries c.args.table.now.contents.marks }

pub loop-slot-preserved : goal.loop-slot-preserved
loop-slot-preserved g c = record {
  same = c.mark_record.ensures.entries ∙ c.loop-slot.invariant.same;
  marked = one_passed (λ x. is_observed c.args.observers.now x ≡ true) c.args.table.now.contents.entries c.loop-slot.table.contents.entries c.loop-slot.invariant.same c.loop-slot.after c.args.table.now.contents.marks c.loop-slot.table.contents.marks
      c.loop-slot.invariant.marked (c.in-Some.slot, c.in-Some.item) c.mark_record.new.table.contents.marks (sym c.in-Some.is ∙ c.next_entry.ensures.entry) c.in-Some.ensures.rest c.in_ok-mark_record.ensures.ok;
}

pub returns-clause-ok : goal.returns-clause-ok
returns-clause-ok g c =
    all_passed (λ x. is_observed c.args.observers.now x ≡ true) c.args.table.now.contents.entries c.loop-slot.table.contents.entries c.loop-slot.invariant.same c.loop-slot.after c.args.table.now.contents.marks c.loop-slot.table.contents.marks
    c.loop-slot.invariant.marked (sym c.in_default.is ∙ c.next_entry.ensures.entry)
