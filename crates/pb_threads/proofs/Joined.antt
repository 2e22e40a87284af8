-- What all workers did, stated of their seats.
use Rattle.std.proofs.Common.{◌≡◌, ℕ, zero, suc, ◌+◌, ◌-◌, ◌<◌, List, [], ◌∷◌, length, Option, Some, None, sym, ap, subst, ◌∙◌, arith, slice_index_or}
use Rattle.std.proofs.lemmas.List.{get_or-map, length-map}
use Rattle.std.proofs.lemmas.Option.{slice_get-get_or}
use Rattle.pb_threads.specs.Words.{Refusal, Writes, ObserverOf, Entry, SeatOf, AreSeatsFrom}
use Rattle.pb_threads.specs.declared.worker.Worker.{Worker}
use Rattle.pb_threads.specs.Gains.{Gains, OpeningOf}
use Rattle.pb_threads.specs.Swaps.{Spare}
use Rattle.pb_threads.specs.Work.{share_of, IsWork, IsLastDrain, AllWork, WorkedOn, AreFilled, seats_in, refusals_in, flags_in, is_done, undone_below}

-- all seats of a table, in order, have their places as numbers
pub seats_are_numbered : (from : ℕ) (journal : List Entry) (seats : List SeatOf) → AreSeatsFrom from journal seats → (k : ℕ) (d : SeatOf) → k < length seats → (slice_index_or seats k d).number ≡ from + k
seats_are_numbered from j [] a k d lt = absurd (omega (arith, lt))
seats_are_numbered from j (s ∷ ss) a zero d lt = a.0 ∙ omega arith
seats_are_numbered from j (s ∷ ss) a (suc k) d lt = grind (arith, seats_are_numbered (from + 1) j ss a.2 k d (omega arith))

pub as_many : (olds : List Worker) (seats : List SeatOf) → seats_in olds ≡ seats → length olds ≡ length seats
as_many olds seats is = sym (length-map olds (λ (w : Worker). w.seat)) ∙ ap length is

some_worker : (ws : List Worker) → 1 < length ws → Worker
some_worker [] lt = absurd (omega (arith, lt))
some_worker (w ∷ ws) lt = w

module _ {opening : OpeningOf} (observers : List ObserverOf) (batches : List Writes) (spares : List Spare) (olds news : List Worker) (journal : List Entry) (some : 1 < length olds) (are : AreSeatsFrom 0 journal (seats_in olds)) (all : AllWork opening observers batches spares olds news) where
  abbrev refusal_of : Worker → Option Refusal
  refusal_of w = w.refusal

  e : Worker
  e = some_worker olds some

  old_seat : (k : ℕ) (d : SeatOf) → k < length olds → (slice_index_or olds k e).seat ≡ slice_index_or (seats_in olds) k d
  old_seat k d lt = sym (get_or-map (λ (w : Worker). w.seat) olds k e d lt)

  new_seat : (k : ℕ) (d : SeatOf) → k < length olds → (slice_index_or news k e).seat ≡ slice_index_or (seats_in news) k d
  new_seat k d lt = sym (get_or-map (λ (w : Worker). w.seat) news k e d (subst (λ n. k < n) (sym all.counted) lt))

  refusal : (k : ℕ) → k < length olds → (slice_index_or news k e).refusal ≡ slice_index_or (refusals_in news) k None
  refusal k lt = sym (get_or-map refusal_of news k e None (subst (λ n. k < n) (sym all.counted) lt))

  number : (k : ℕ) → k < length olds → (slice_index_or olds k e).seat.number ≡ k
  number k lt =
      let plain : 0 + k ≡ k = omega arith in
      ap (λ (s : SeatOf). s.number) (old_seat k e.seat lt) ∙ seats_are_numbered 0 journal (seats_in olds) are k e.seat (subst (λ n. k < n) (sym (length-map olds (λ (w : Worker). w.seat))) lt) ∙ plain

  one : (w : ℕ) (d : SeatOf) → w + 1 < length olds
      → Gains (IsWork (Some opening) (w + 1) observers (share_of batches (length olds - 1) w) (flags_in news w) (slice_index_or (refusals_in news) (w + 1) None)) (slice_index_or (seats_in olds) (w + 1) d) (slice_index_or (seats_in news) (w + 1) d)
  one w d lt = grind (arith, e, slice_get-get_or, number, refusal, old_seat, new_seat, all.workers, all.counted)

  first : (d : SeatOf) → Gains (IsLastDrain (Some opening) opening.places spares 0 observers (slice_index_or (refusals_in news) 0 None)) (slice_index_or (seats_in olds) 0 d) (slice_index_or (seats_in news) 0 d)
  first d = grind (arith, e, number, refusal, old_seat, new_seat, all.main)

  many : length (seats_in olds) ≡ length olds
  many = length-map olds (λ (w : Worker). w.seat)

  pub work_is_joined : AreFilled batches → WorkedOn opening observers batches spares (seats_in olds) (seats_in news) (refusals_in news) (undone_below (is_done (flags_in news) (length news - 1)) (length batches))
  work_is_joined filled = grind (arith, length-map, many, one, first, all.counted)
