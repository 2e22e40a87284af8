use Rattle.std.proofs.Common.{◌≡◌, ◌+◌, List, Some, length, drop, slice_get, refl, subst}
use Rattle.std.proofs.lemmas.Option.{slice_get_read}
use Rattle.pb_snapshots.specs.Words.{Cell, Revision}
use Rattle.pb_snapshots.specs.ChosenWalks.{HasChosen}
use Rattle.pb_snapshots.proofs.ChosenWalks.{chosen_listed, none_chosen, rising_apart}
use Rattle.pb_snapshots.proofs.Places.{next_dropped, none_left}
use Rattle.pb_snapshots.proofs.TakenOrder.{has_got}
use Rattle.pb_snapshots.proofs.choosing.chosen_versions.Goals as goal

pub loop-version-init : goal.loop-version-init
loop-version-init c = none_chosen c.args.places.now c.args.cells.now c.new-versions.result c.new-versions.ensures.empty c.new-versions.ensures.ordered

pub loop-version-preserved : goal.loop-version-preserved
loop-version-preserved c =
    let cells = c.args.cells.now in
    let i = c.loop-version.version-index in
    let version = c.version-item.result in
    let here : slice_get cells i ≡ Some version = slice_get_read cells (length cells) i version refl c.loop-version-test.true c.version-item.is in
    c.in_ok-note_chosen.ensures cells (drop (i + 1) cells) (rising_apart cells c.requires.rising) (has_got cells i version here)
    (subst (λ (l : List (Cell × Revision)). HasChosen c.args.places.now cells l c.loop-version.versions) (next_dropped cells i version here) c.loop-version.invariant)

pub returns : goal.returns
returns c =
    let cells = c.args.cells.now in
    chosen_listed c.args.places.now cells c.loop-version.versions
    (subst (λ (l : List (Cell × Revision)). HasChosen c.args.places.now cells l c.loop-version.versions) (none_left cells c.loop-version.version-index c.loop-version-test.false) c.loop-version.invariant)
