use Rattle.std.proofs.Common.{◌≡◌, ◌≢◌, ◌<◌, List, length, length-set, slice_get, slice_index_or, Some, arith, refl, ◌∙◌, subst}
use Rattle.std.proofs.lemmas.Bool.{false≢true}
use Rattle.pb_history.specs.declared.entry.Received.{Received}
use Rattle.pb_ending.specs.Cursors.{IsAt, told_by}
use Rattle.pb_ending.proofs.Cursors.{at_first, none_on, off_not_told, one_on, all_told}
use Rattle.pb_ending.proofs.ending.are_told.Goals as goal
use Rattle.pb_ending.proofs.ending.are_told.Goals.{in-Some+in-Some-cursor_after, in_default}

pub loop-e-init : goal.loop-e-init
loop-e-init c = record { sized = refl; along = at_first c.args.journal.now c.args.seats.now 64 }

pub returns-in-None : goal.returns-in-None
returns-in-None c =
    let l = c.loop-e in
    let s = c.index-seats-place.result in
    let P : List Received → Type 0 = λ rs. slice_get rs (slice_index_or l.cursors c.in-Some.place 0) ≢ Some (told_by c.e-item.result) in
    let other : P s.received = subst P c.received.ensures (c.in-None.ensures.none refl) in
    let stands : IsAt c.args.seats.now c.e-item.result.seat c.in-Some.place = subst (λ n. IsAt c.args.seats.now n c.in-Some.place) c.seat.ensures c.in-Some.ensures.some in
    (λ t. absurd (false≢true t), λ told. absurd (off_not_told c.args.journal.now l.e-index c.e-item.result c.loop-e-test.true c.e-item.is c.args.seats.now l.cursors l.invariant.along c.in-Some.place s stands c.index-seats-place.is c.args.count other told))

pub loop-e-preserved : goal.loop-e-preserved
loop-e-preserved c =
    let l = c.loop-e in
    elim c.match-place_of.branch [
      | in-Some+in-Some-cursor_after w ↦
          let s = w.index-seats-place.result in
          let place = w.in-Some.place in
          let in' : place < length l.cursors = let few = c.requires.few in let counted = c.requires.counted in let within = w.in-Some.ensures.some.within in omega (arith, few, counted, within, l.invariant.sized) in
          let P : List Received → Type 0 = λ rs. slice_get rs (slice_index_or l.cursors place 0) ≡ Some (told_by c.e-item.result) in
          let there : P s.received = subst P w.received.ensures w.in-Some-cursor_after.ensures.some.0 in
          let stands : IsAt c.args.seats.now c.e-item.result.seat place = subst (λ n. IsAt c.args.seats.now n place) c.seat.ensures w.in-Some.ensures.some in
          rw w.cursors-is (record {
            sized = length-set l.cursors place w.in-Some-cursor_after.next ∙ l.invariant.sized;
            along = one_on c.args.journal.now l.e-index c.e-item.result c.loop-e-test.true c.e-item.is c.args.seats.now l.cursors l.invariant.along place s stands w.index-seats-place.is c.places_of-places.result w.in-Some-cursor_after.next c.places_of-places.ensures in' there w.in-Some-cursor_after.ensures.some.1;
          })
      | in_default w ↦ grind (arith, none_on, c.seat.ensures, c.e-item.result, c.args.journal.now, c.loop-e-test.true, c.e-item.is, c.args.seats.now)
    ]

pub returns : goal.returns
returns c =
    let l = c.loop-e in
    let all = all_told c.args.journal.now l.e-index c.args.seats.now l.cursors c.args.count (omega arith) c.requires.seated l.invariant.along in
    (λ t. all.0 (c.are_at_end.ensures.0 t), λ told. c.are_at_end.ensures.1 (all.1 told))
