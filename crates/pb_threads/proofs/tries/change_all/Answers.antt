use Rattle.std.proofs.Common.{◌≡◌, ℕ, ◌+◌, ◌*◌, ◌<◌, ◌⊎◌, get_or, inl, inr, Bool, false, List, [], ◌∷◌, ◌++◌, Option, Some, length, length-append, refl, ◌∙◌, ap, slice_get, arith}
use Rattle.std.proofs.lemmas.Option.{slice_get_read}
use Rattle.std.proofs.lemmas.Result.{err_from_is_err_and}
use Rattle.pb_threads.specs.Words.{Refusal, Writes, SeatOf, no_part}
use Rattle.pb_threads.specs.Gains.{OpeningOf, Gains}
use Rattle.pb_threads.specs.Tries.{AreTries, AreTried}
use Rattle.pb_threads.specs.Stops.{Stops, AreTriesBegun, AreChangesBegun}
use Rattle.pb_threads.proofs.Gaining.{gains_none, gains_as, gains_part, gains_cut, stops_as}
use Rattle.pb_threads.proofs.TryAlong.{try_at_first, try_left}
use Rattle.pb_threads.proofs.tries.change_all.Goals as goal

-- a worker's next change is as many further as there are workers
next_number : (next n first : ℕ) (flags : List Bool) (b : Bool) → next ≡ first + length flags * n → next + n ≡ first + length (flags ++ b ∷ []) * n
next_number next n first flags b is =
    let one : length (flags ++ b ∷ []) ≡ length flags + 1 = length-append flags (b ∷ []) in
    let more : (length flags + 1) * n ≡ length flags * n + n = omega arith in
    rw one (rw more (ap (λ k. k + n) is ∙ omega arith))

-- with the tries of the change that comes next
module _ {batches : List Writes} {n first next : ℕ} {flags : List Bool} {a b : SeatOf} {batch : Writes} (before : Gains (AreTried batches n first flags) a b) (number : next ≡ first + length flags * n) (few : next < length batches) (is : batch ≡ get_or batches next batch) where
  there : slice_get batches (first + length flags * n) ≡ Some batch
  there = rw (← number) (slice_get_read batches (length batches) next batch refl few is)

  change_tried : {c : SeatOf} (committed : Bool) {done : List Bool} → done ≡ flags ++ committed ∷ [] → Gains (AreTries batch committed) b c → Gains (AreTried batches n first done) a c
  change_tried committed is h = gains_part before (gains_as (λ said t. record { batch = batch; there = there; committed = committed; now_is = is; tries = t }) h)

  changes_stop : {opens : Option OpeningOf} {c : SeatOf} {committed : Bool} {done : List Bool} {r : Refusal} → (done ≡ flags ++ committed ∷ []) ⊎ ((done ≡ flags) × (committed ≡ false)) → Gains (Stops opens b.number (AreTriesBegun batch committed) r) b c
      → Gains (Stops opens a.number (AreChangesBegun batches n first done) r) a c
  changes_stop {committed = committed} is h = gains_cut before (stops_as (λ next said begun. record { batch = batch; there = there; committed = committed; tries = begun; done_is = is }) h)

pub loop-next-init : goal.loop-next-init
loop-next-init g c = rw c.requires.none (record { number = omega arith; tried = gains_none no_part })

pub returns-in_err-make_room-clause-err : goal.returns-in_err-make_room-clause-err
returns-in_err-make_room-clause-err g c =
    let p = err_from_is_err_and c.from_residual.result c.from_residual.ensures.1 in
    let none = try_left (try_at_first c.index-batches-next.result c.loop-next.seat) c.changes_converse.ensures.converses c.known.ensures.some (inl c.in_err-make_room.ensures.want) in
    rw (p.1, p.2, c.in_err-make_room.ensures.items) (changes_stop c.loop-next.invariant.tried c.loop-next.invariant.number c.loop-next-test.true c.index-batches-next.is (inr (refl, refl))
    (gains_cut {t = 0} (gains_none no_part) (stops_as (λ next said begun. (omega arith, begun)) none)))

pub returns-in-Err-clause-err : goal.returns-in-Err-clause-err
returns-in-Err-clause-err g c =
    changes_stop c.loop-next.invariant.tried c.loop-next.invariant.number c.loop-next-test.true c.index-batches-next-in-loop-next.is (inl (rw c.in_ok-make_room.ensures.items at c.note-in-Err.ensures)) c.in-Err.ensures.err

pub loop-next-preserved : goal.loop-next-preserved
loop-next-preserved g c =
    let items = rw c.in_ok-make_room.ensures.items at c.note.ensures in
    record {
      number = rw items (next_number c.loop-next.next c.args.count c.args.first c.loop-next.done.items c.in-Ok.committed c.loop-next.invariant.number);
      tried = change_tried c.loop-next.invariant.tried c.loop-next.invariant.number c.loop-next-test.true c.index-batches-next-in-loop-next.is c.in-Ok.committed items c.in-Ok.ensures.ok;
    }

pub returns-clause-ok : goal.returns-clause-ok
returns-clause-ok g c = grind arith
