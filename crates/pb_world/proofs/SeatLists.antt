-- All seats of a table are still all its seats after a call of one of them.
use Rattle.std.proofs.Common.{◌≡◌, ◌≢◌, ℕ, zero, suc, ◌+◌, ◌<◌, Bool, cond, List, [], ◌∷◌, ◌++◌, slice_get, slice_set, Some, refl, sym, ap, ◌∙◌, arith, append-nil, eq-eqb, length-set, ◌==◌}
use Rattle.pb_world.specs.Words.{Step, Answer, Entry, Received, entries_of, SharedOf, SeatOf, Calls, AreSeatsFrom, AreSeats}
use Rattle.pb_base.proofs.Logic.{same_some as some_same, none_some as some_none}

abbrev received_of : Entry → Received
received_of e = record { step = e.step; answer = e.answer }

one_more : (b : Bool) (r : Received) (all xs ys : List Received) → all ≡ xs ++ ys → cond b (r ∷ all) all ≡ cond b (r ∷ xs) xs ++ ys
one_more b r all xs ys e = grind arith

-- a seat's entries of two parts of a journal, one after the other
entries_join : (n : ℕ) (xs ys : List Entry) → entries_of n (xs ++ ys) ≡ entries_of n xs ++ entries_of n ys
entries_join n [] ys = refl
entries_join n (x ∷ xs) ys = one_more (x.seat == n) (received_of x) (entries_of n (xs ++ ys)) (entries_of n xs) (entries_of n ys) (entries_join n xs ys)

-- an entry of the seat, and one of another
own : (n : ℕ) (j : List Entry) (e : Entry) → e.seat ≡ n → entries_of n (j ++ e ∷ []) ≡ entries_of n j ++ received_of e ∷ []
own n j e is = grind (arith, eq-eqb, entries_join, e.seat)

-- an entry of another seat adds nothing to a seat's
other : (n : ℕ) (j : List Entry) (e : Entry) → e.seat ≢ n → entries_of n (j ++ e ∷ []) ≡ entries_of n j
other n j e apart = grind (arith, entries_join, append-nil, e.seat)

less_apart : (a b : ℕ) → a < b → a ≢ b
less_apart a b lt e = omega (arith, lt, e)

-- seats numbered from higher on
others : (from : ℕ) (j : List Entry) (e : Entry) (seats : List SeatOf) → e.seat < from → AreSeatsFrom from j seats → AreSeatsFrom from (j ++ e ∷ []) seats
others from j e [] lt h = tt
others from j e (q ∷ qs) lt h = (h.0, h.1 ∙ sym (other from j e (less_apart e.seat from lt)), others (from + 1) j e qs (omega (arith, lt)) h.2)

-- a seat has its place's number
number_at : (from : ℕ) (j : List Entry) (seats : List SeatOf) (k : ℕ) (seat : SeatOf) → AreSeatsFrom from j seats → slice_get seats k ≡ Some seat → seat.number ≡ from + k
number_at from j [] k seat h is = absurd (some_none seat is)
number_at from j (q ∷ qs) zero seat h is = let same = some_same q seat is in ap (λ (x : SeatOf). x.number) (sym same) ∙ (h.0 ∙ omega arith)
number_at from j (q ∷ qs) (suc k) seat h is = number_at (from + 1) j qs k seat h.2 is ∙ omega arith

-- its list is its entries
list_at : (from : ℕ) (j : List Entry) (seats : List SeatOf) (k : ℕ) (seat : SeatOf) → AreSeatsFrom from j seats → slice_get seats k ≡ Some seat → seat.received ≡ entries_of (from + k) j
list_at from j [] k seat h is = absurd (some_none seat is)
list_at from j (q ∷ qs) zero seat h is = grind arith
list_at from j (q ∷ qs) (suc k) seat h is = grind (arith, list_at (from + 1) j qs k seat h.2 is)

-- the seat that called has one entry more, and each other seat what it had
after : (from : ℕ) (j : List Entry) (e : Entry) (seats : List SeatOf) (k : ℕ) (seat told : SeatOf) → AreSeatsFrom from j seats → slice_get seats k ≡ Some seat → e.seat ≡ seat.number → told.number ≡ seat.number
    → told.received ≡ seat.received ++ received_of e ∷ [] → AreSeatsFrom from (j ++ e ∷ []) (slice_set seats k told)
after from j e [] k seat told h is by number list = absurd (some_none seat is)
after from j e (q ∷ qs) zero seat told h is by number list = grind (arith, some_same, own, others, seat.number, e.seat, seat.received)
after from j e (q ∷ qs) (suc k) seat told h is by number list = grind (arith, number_at, other, seat.number, e.seat, after (from + 1) j e qs k seat told h.2 is by number list)

-- the table's seats after a call of the seat at this place
pub seats_after_call : (s : SharedOf) (seats : List SeatOf) (k : ℕ) (seat told : SeatOf) (step : Step) (a : Answer) (t : SharedOf) → AreSeats s seats → slice_get seats k ≡ Some seat → Calls s seat step a t told → AreSeats t (slice_set seats k told)
seats_after_call s seats k seat told step a t are is calls = grind (arith, after, length-set, seat.number, s.journal, are.each, calls.number, calls.received, are.counted, calls.seats, calls.journal)

-- a seat's list is the journal's entries of its number
pub seat_list : (s : SharedOf) (seats : List SeatOf) (k : ℕ) (seat : SeatOf) → AreSeats s seats → slice_get seats k ≡ Some seat → (seat.number ≡ k) × (seat.received ≡ entries_of k s.journal)
seat_list s seats k seat are is =
    let n : 0 + k ≡ k = omega arith in
    (number_at 0 s.journal seats k seat are.each is ∙ n, list_at 0 s.journal seats k seat are.each is ∙ ap (λ m. entries_of m s.journal) n)
