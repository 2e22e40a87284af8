-- Seats with empty lists are those of an empty journal.
use Rattle.std.proofs.Common.{◌≡◌, ℕ, ◌+◌, ◌<◌, List, [], ◌∷◌, length, get_or, suc, ap, ◌∙◌, arith}
use Rattle.pb_core.specs.Calls.{SeatOf, SharedOf, IsFresh, AreSeatsFrom, AreSeats}

fresh_from : (from : ℕ) (seats : List SeatOf) → ((k : ℕ) (d : SeatOf) → k < length seats → get_or seats k d ≡ record { number = from + k; received = [] }) → AreSeatsFrom from [] seats
fresh_from from [] h = tt
fresh_from from (seat ∷ seats) h =
    let e = h 0 seat (omega arith) in
    let n : from + 0 ≡ from = omega arith in (
      ap (λ (s : SeatOf). s.number) e ∙ n,
      ap (λ (s : SeatOf). s.received) e,
      fresh_from (from + 1) seats (λ k d lt.
          let m : from + suc k ≡ (from + 1) + k = omega arith in
          h (suc k) d (omega arith) ∙ (λ i. record { number = m i; received = [] })),
    )

-- seats just made are those of a table just opened
pub fresh_seats : (shared : SharedOf) (count : ℕ) (seats : List SeatOf) → shared.journal ≡ [] → shared.state.seats ≡ count → IsFresh count seats → AreSeats shared seats
fresh_seats shared count seats empty counted f = grind (arith, fresh_from, f.counted, f.each)
