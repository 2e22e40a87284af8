use Rattle.std.proofs.Common.{◌≡◌, ◌==◌, false, Some, slice_get, slice_index_or, arith, sym, ap, ◌∙◌}
use Rattle.std.proofs.lemmas.Option.{slice_get-get_or}
use Rattle.pb_snapshots.proofs.Places.{found_here, found_later, found_nowhere}
use Rattle.pb_snapshots.proofs.choosing.place_among.Goals as goal

pub returns-then-other-number-clause-value : goal.returns-then-other-number-clause-value
returns-then-other-number-clause-value c =
    let places = c.args.places.now in
    let i = c.loop-place.place in
    let here : slice_get places i ≡ Some c.args.number = slice_get-get_or places i 0 c.loop-place-test.true ∙ ap Some c.if-other-number.true in
    sym (found_here places i c.args.number here) ∙ c.loop-place.invariant

pub loop-place-preserved : goal.loop-place-preserved
loop-place-preserved c =
    let places = c.args.places.now in
    let i = c.loop-place.place in
    let other : (slice_index_or places i 0 == c.args.number) ≡ false = grind (arith, c.if-other-number.false) in
    found_later places i c.args.number (slice_index_or places i 0) (slice_get-get_or places i 0 c.loop-place-test.true) other ∙ c.loop-place.invariant

pub returns-clause-value : goal.returns-clause-value
returns-clause-value c = sym (found_nowhere c.args.places.now c.loop-place.place c.args.number c.loop-place-test.false) ∙ c.loop-place.invariant
