use Rattle.std.proofs.Common.{◌≡◌, [], ◌∷◌, ◌∙◌, List, sym, subst, Some}
use Rattle.std.specs.FinMap as map
use Rattle.pb_snapshots.specs.Words.{Entries, entries_after, Item, Slot}
use Rattle.pb_snapshots.specs.VersionWalks.{HasTaken}
use Rattle.pb_state.proofs.EntryWalks.{first_and_rest, none_left}
use Rattle.pb_snapshots.proofs.VersionWalks.{none_noted, versions_listed}
use Rattle.pb_snapshots.proofs.taking.taken_versions.Goals as goal

pub loop-slot-init : goal.loop-slot-init
loop-slot-init g c = none_noted c.args.state.now c.new-versions.result c.new-versions.ensures.empty c.new-versions.ensures.ordered

pub loop-slot-preserved : goal.loop-slot-preserved
loop-slot-preserved g c =
    let x : Slot × Item = (c.in-Some.slot, c.in-Some.field-0-1) in
    let first : Some x ≡ _ = sym c.in-Some.is ∙ c.next_entry.ensures.entry in
    let rest = λ (m : Entries). entries_after (Some c.in-Some.slot) (map.entries m) in
    let here = first_and_rest (entries_after c.loop-slot.after (map.entries c.table.result.now.contents.entries)) (rest c.table.result.now.contents.entries) x first c.in-Some.ensures.rest in
    let step : entries_after c.loop-slot.after (map.entries c.args.state.now.entries) ≡ x ∷ rest c.args.state.now.entries =
    subst (λ (m : Entries). entries_after c.loop-slot.after (map.entries m) ≡ x ∷ rest m) c.table.ensures.entries here in
    c.in_ok-note_version.ensures c.in-Some.field-0-1 (rest c.args.state.now.entries) (subst (λ (xs : List (Slot × Item)). HasTaken c.args.state.now xs c.loop-slot.versions) step c.loop-slot.invariant)

pub returns : goal.returns
returns g c =
    let here = none_left (entries_after c.loop-slot.after (map.entries c.table.result.now.contents.entries)) (sym c.in_default.is ∙ c.next_entry.ensures.entry) in
    let none : entries_after c.loop-slot.after (map.entries c.args.state.now.entries) ≡ [] = subst (λ (m : Entries). entries_after c.loop-slot.after (map.entries m) ≡ []) c.table.ensures.entries here in
    versions_listed c.args.state.now c.loop-slot.versions (subst (λ (xs : List (Slot × Item)). HasTaken c.args.state.now xs c.loop-slot.versions) none c.loop-slot.invariant)
