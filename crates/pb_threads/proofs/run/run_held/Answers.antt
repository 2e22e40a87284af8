use Rattle.std.proofs.Common.{arith, ◌≡◌, ◌<◌, ◌-◌, List, length, sym, ap, ◌∙◌, subst}
use Rattle.pb_threads.specs.Words.{Writes, ObserverOf, SeatOf, AreSeatsFrom}
use Rattle.pb_threads.specs.declared.worker.Worker.{Worker}
use Rattle.pb_threads.specs.Gains.{OpeningOf, opening_of}
use Rattle.pb_threads.specs.Swaps.{Spare, spares_of}
use Rattle.pb_threads.specs.Work.{AllWork, AreFilled, seats_in, refusals_in, flags_in, is_done, undone_below}
use Rattle.pb_threads.proofs.Joined.{as_many, work_is_joined}
use Rattle.pb_threads.proofs.run.run_held.Goals as goal

pub returns-clause-worked : goal.returns-clause-worked
returns-clause-worked g c =
    let olds = c.seat_all.new.workers.items in
    let news = c.run_all-workers.result.items in
    let obs = c.args.shared.state.observers in
    let spares : List Spare = spares_of g.T.Tablet.contents c.args.spares.items in
    let held : AllWork g.J.Opening.opening obs c.args.batches.items spares olds news =
    subst (λ (bs : List Writes). AllWork g.J.Opening.opening obs bs spares olds news) c.deref-3.ensures.value
    (subst (λ (os : List ObserverOf). AllWork g.J.Opening.opening os c.deref-3.result.now spares olds news)
    (c.deref-2.ensures.value ∙ (c.in-Ok.ensures.observers_are ∙ c.observers.ensures.observers)) c.run_all-workers.ensures) in
    let all : AllWork (opening_of c.args.shared) obs c.args.batches.items spares olds news = subst (λ (o : OpeningOf). AllWork o obs c.args.batches.items spares olds news) (sym c.requires.opened) held in
    let were : seats_in olds ≡ c.args.seats.items = c.seat_all.ensures in
    let are : AreSeatsFrom 0 c.args.shared.journal (seats_in olds) = subst (λ (ss : List SeatOf). AreSeatsFrom 0 c.args.shared.journal ss) (sym were) c.requires.seated.each in
    let some : 1 < length olds = omega (arith, as_many olds c.args.seats.items were, c.requires.some, c.args.seats.ok.0) in
    let back : c.part.new.seats.items ≡ seats_in news = c.part.ensures.seats in
    let refusals : c.part.new.refusals.items ≡ refusals_in news = c.part.ensures.refusals in
    let filled : AreFilled c.args.batches.items = subst (λ (bs : List Writes). AreFilled bs) c.deref.ensures.value c.look_through.ensures in
    let undone : c.note_unfinished.new.unfinished.items ≡ undone_below (is_done (flags_in news) (length news - 1)) (length c.args.batches.items) =
    c.note_unfinished.ensures
    ∙ (ap (λ (ws : List Worker). undone_below (is_done (flags_in ws) (length ws - 1)) c.len-3.result) c.deref-4.ensures.value
    ∙ ap (undone_below (is_done (flags_in news) (length news - 1))) (omega (arith, c.len-3.ensures, c.args.batches.ok.0))) in
    rw (← were, back, refusals, undone) (work_is_joined obs c.args.batches.items spares olds news c.args.shared.journal some are all filled)

pub seat_all-requires-clause-none : goal.seat_all-requires-clause-none
seat_all-requires-clause-none g c = c.in-Ok.ensures.no_workers

pub seat_all-requires-clause-room : goal.seat_all-requires-clause-room
seat_all-requires-clause-room g c = omega (arith, c.in-Ok.ensures.workers_room, c.len.ensures)

pub run_all-workers-requires-clause-some : goal.run_all-workers-requires-clause-some
run_all-workers-requires-clause-some g c = omega (arith, as_many _ _ c.seat_all.ensures, c.requires.some, c.args.seats.ok.0)

pub run_all-workers-requires-clause-few : goal.run_all-workers-requires-clause-few
run_all-workers-requires-clause-few g c = omega (arith, as_many _ _ c.seat_all.ensures, c.requires.seated.counted, c.seats.ensures.seats, c.seats.ensures.few)

pub run_all-workers-requires-clause-numbered : goal.run_all-workers-requires-clause-numbered
run_all-workers-requires-clause-numbered g c = omega (arith, ap length (c.deref-2.ensures.value ∙ c.in-Ok.ensures.observers_are), c.observers.ensures.few)

pub note_unfinished-requires-clause-some : goal.note_unfinished-requires-clause-some
note_unfinished-requires-clause-some g c = omega (arith, ap length c.deref-4.ensures.value, c.run_all-workers.ensures.counted, as_many _ _ c.seat_all.ensures, c.requires.some, c.args.seats.ok.0)

pub note_unfinished-requires-clause-none : goal.note_unfinished-requires-clause-none
note_unfinished-requires-clause-none g c = c.in-Ok.ensures.none_unfinished

pub note_unfinished-requires-clause-room : goal.note_unfinished-requires-clause-room
note_unfinished-requires-clause-room g c = omega (arith, c.len-3.ensures, c.len-2.ensures, c.in-Ok.ensures.unfinished_room)

pub part-requires-clause-no_seats : goal.part-requires-clause-no_seats
part-requires-clause-no_seats g c = c.in-Ok.ensures.no_seats

pub part-requires-clause-no_refusals : goal.part-requires-clause-no_refusals
part-requires-clause-no_refusals g c = c.in-Ok.ensures.no_refusals

pub part-requires-clause-seats_room : goal.part-requires-clause-seats_room
part-requires-clause-seats_room g c = omega (arith, c.in-Ok.ensures.seats_room, c.len.ensures, c.run_all-workers.ensures.counted, as_many _ _ c.seat_all.ensures, c.run_all-workers.result.ok.0, c.args.seats.ok.0)

pub part-requires-clause-refusals_room : goal.part-requires-clause-refusals_room
part-requires-clause-refusals_room g c = omega (arith, c.in-Ok.ensures.refusals_room, c.len.ensures, c.run_all-workers.ensures.counted, as_many _ _ c.seat_all.ensures, c.run_all-workers.result.ok.0, c.args.seats.ok.0)

pub returns-clause-table : goal.returns-clause-table
returns-clause-table g c = c.into_shared-shared.ensures ∙ sym c.requires.opened
