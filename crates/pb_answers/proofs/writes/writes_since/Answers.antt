use Rattle.std.proofs.Common.{◌≡◌, [], ◌∙◌, List, sym, subst, Some}
use Rattle.std.specs.FinMap as map
use Rattle.pb_answers.specs.Words.{Slot, Item, entries_after}
use Rattle.pb_answers.specs.Records.{HasWritesSince}
use Rattle.pb_state.proofs.EntryWalks.{first_and_rest, rest_shorter, none_left, stands_there}
use Rattle.pb_answers.proofs.Since.{none_noted, all_noted}
use Rattle.pb_answers.proofs.writes.writes_since.Goals as goal

pub loop-slot-init : goal.loop-slot-init
loop-slot-init g c = none_noted c.args.table.now.contents.entries c.args.above.0 c.new-writes.result c.new-writes.ensures.empty c.new-writes.ensures.ordered

pub loop-slot-smaller : goal.loop-slot-smaller
loop-slot-smaller g c =
    let es = map.entries c.args.table.now.contents.entries in
    rest_shorter (entries_after c.loop-slot.after es) _ (c.in-Some.slot, c.in-Some.item) (first_and_rest _ _ _ (sym c.in-Some.is ∙ c.next_entry.ensures.entry) c.in-Some.ensures.rest)

pub loop-slot-preserved : goal.loop-slot-preserved
loop-slot-preserved g c =
    let e = c.args.table.now.contents.entries in
    let x : Slot × Item = (c.in-Some.slot, c.in-Some.item) in
    let first : Some x ≡ _ = sym c.in-Some.is ∙ c.next_entry.ensures.entry in
    let left = entries_after (Some c.in-Some.slot) (map.entries e) in
    c.in_ok-note_write.ensures (stands_there e c.loop-slot.after x first) left
    (subst (λ (xs : List (Slot × Item)). HasWritesSince e c.args.above.0 xs c.loop-slot.writes) (first_and_rest (entries_after c.loop-slot.after (map.entries e)) left x first c.in-Some.ensures.rest) c.loop-slot.invariant)

pub returns : goal.returns
returns g c =
    let e = c.args.table.now.contents.entries in
    let none : entries_after c.loop-slot.after (map.entries e) ≡ [] = none_left _ (sym c.in_default.is ∙ c.next_entry.ensures.entry) in
    all_noted e c.args.above.0 c.loop-slot.writes (subst (λ (xs : List (Slot × Item)). HasWritesSince e c.args.above.0 xs c.loop-slot.writes) none c.loop-slot.invariant)
