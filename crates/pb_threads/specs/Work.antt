-- What workers leave: what each seat gained, and which changes are unfinished. The contract of `run_workers` cites
-- `WorkedOn`; what it means for the journal is the law `changes_are_made`.
use Rattle.std.specs.Prelude.{◌≡◌, ◌≢◌, ℕ, ◌+◌, ◌-◌, ◌/◌, ◌%◌, ◌<◌, ◌≤◌, ◌⊎◌, zero, suc, Bool, false, if◌then◌else◌, List, [], ◌∷◌, ◌++◌, length, map, vec_capacity, slice_get, Option, Some, None, slice_index_or}
use Rattle.std.specs.Option.{option_or}
use Rattle.pb_threads.specs.Words.{Refusal, Writes, Step, ObserverOf, Received, SharedOf, SeatOf, EndsIn}
use Rattle.pb_threads.specs.declared.worker.Worker.{Worker}
use Rattle.pb_threads.specs.declared.run.Rooms.{Rooms}
use Rattle.pb_threads.specs.Gains.{Gains, OpeningOf, opening_of}
use Rattle.pb_threads.specs.Tries.{AreSoMany, IsNextTried}
use Rattle.pb_passes.specs.Passes.{IsDrain}
use Rattle.pb_passes.specs.Begun.{IsDrainBegun}
use Rattle.pb_threads.specs.Stops.{IsUpTo, AreChangesBegun}
use Rattle.pb_threads.specs.Swaps.{Spare, AreSwapped}

-- of all changes those of one of so many workers: its first at this number, and each later one so many further
pub record ShareOfChanges : Type 0 where
  pub batches : List Writes
  pub workers : ℕ
  pub first : ℕ

abbrev pub share_of : List Writes → ℕ → ℕ → ShareOfChanges
share_of batches workers first = record { batches = batches; workers = workers; first = first }

-- all changes, and then this
abbrev pub AreTriedThen : ShareOfChanges → List Bool → (List Received → Type 0) → List Received → Type 0
AreTriedThen share done Last said = EndsIn (IsNextTried share.batches share.workers share.first) (λ flags rest. (flags ≡ done) × AreSoMany share.batches share.workers share.first flags × Last rest) [] said

-- all changes, and then passes up to one without a mark, or so many as may be made
abbrev pub IsWorkDone : List ObserverOf → ShareOfChanges → List Bool → List Received → Type 0
IsWorkDone observers share done said = AreTriedThen share done (IsDrain observers) said

-- just a beginning of that: in the changes, or in the passes
abbrev pub IsWorkBegun : List ObserverOf → ShareOfChanges → List Bool → Option Step → List Received → Type 0
IsWorkBegun observers share done next said = AreChangesBegun share.batches share.workers share.first done next said ⊎ AreTriedThen share done (IsDrainBegun observers next) said

-- what a worker's seat gained: only with a refusal just a beginning
abbrev pub IsWork : Option OpeningOf → ℕ → List ObserverOf → ShareOfChanges → List Bool → Option Refusal → List Received → Type 0
IsWork opens seat observers share done r said = IsUpTo opens seat (IsWorkDone observers share done) (IsWorkBegun observers share done) r said

-- passes alone: only with a refusal just a beginning
abbrev pub IsDrainTo : Option OpeningOf → ℕ → List ObserverOf → Option Refusal → List Received → Type 0
IsDrainTo opens seat observers r said = IsUpTo opens seat (IsDrain observers) (IsDrainBegun observers) r said

-- what the main seat gained: passes alone, whether a spare was refused or not. Its refusal is the first of the swaps',
-- or else that of the passes.
pub record IsLastDrain (opens : Option OpeningOf) (places : ℕ) (spares : List Spare) (seat : ℕ) (observers : List ObserverOf) (refusal : Option Refusal) (said : List Received) : Type 0 where
  pub swapped : Option Refusal
  pub swaps : AreSwapped places spares swapped
  pub drained : Option Refusal
  pub drain : IsDrainTo opens seat observers drained said
  pub first : refusal ≡ option_or swapped drained

-- what one worker did
pub record Works (opens : Option OpeningOf) (observers : List ObserverOf) (batches : List Writes) (n first : ℕ) (old new : Worker) : Type 0 where
  pub gains : Gains (IsWork opens old.seat.number observers (share_of batches n first) new.done.items new.refusal) old.seat new.seat

-- what the main seat did, beside and after the workers
pub record Drains (opens : Option OpeningOf) (places : ℕ) (spares : List Spare) (observers : List ObserverOf) (old new : Worker) : Type 0 where
  pub gains : Gains (IsLastDrain opens places spares old.seat.number observers new.refusal) old.seat new.seat

-- Change i is the (i / n)th of the worker i % n, both from 0: whether a try of it committed.
abbrev pub is_done : (ℕ → List Bool) → ℕ → ℕ → Bool
is_done done n i = slice_index_or (done (i % n)) (i / n) false

-- the changes below this number of which no try committed, in order
abbrev pub undone_below : (ℕ → Bool) → ℕ → List ℕ
undone_below done zero = []
undone_below done (suc i) = if done i then undone_below done i else undone_below done i ++ i ∷ []

-- of a worker, whether each of its changes committed, in their order
abbrev pub done_in : Option Worker → List Bool
done_in None = []
done_in (Some w) = w.done.items

-- what became of the changes of each worker, from 0, who stands one place higher, since the main seat is the first
abbrev pub flags_in : List Worker → ℕ → List Bool
flags_in workers w = done_in (slice_get workers (w + 1))

-- the seats with which workers came, in their order
abbrev pub seats_in : List Worker → List SeatOf
seats_in workers = map (λ (w : Worker). w.seat) workers

-- why each of them stopped, if it was refused
abbrev pub refusals_in : List Worker → List (Option Refusal)
refusals_in workers = map (λ (w : Worker). w.refusal) workers

-- what all workers did
pub record EachWorks (opens : Option OpeningOf) (observers : List ObserverOf) (batches : List Writes) (olds news : List Worker) : Type 0 where
  pub counted : length news ≡ length olds
  pub each : (w : ℕ) (d : Worker) → w < length olds → Works opens observers batches (length olds) w (slice_index_or olds w d) (slice_index_or news w d)

-- what all but the main seat did
pub record RestWork (opens : Option OpeningOf) (observers : List ObserverOf) (batches : List Writes) (olds news : List Worker) : Type 0 where
  pub counted : length news ≡ length olds
  pub main : (d : Worker) → slice_index_or news 0 d ≡ slice_index_or olds 0 d
  pub workers : (w : ℕ) (d : Worker) → w + 1 < length olds → Works opens observers batches (length olds - 1) w (slice_index_or olds (w + 1) d) (slice_index_or news (w + 1) d)

-- what all did, the main seat first
pub record AllWork (opening : OpeningOf) (observers : List ObserverOf) (batches : List Writes) (spares : List Spare) (olds news : List Worker) : Type 0 where
  pub counted : length news ≡ length olds
  pub main : (d : Worker) → Drains (Some opening) opening.places spares observers (slice_index_or olds 0 d) (slice_index_or news 0 d)
  pub workers : (w : ℕ) (d : Worker) → w + 1 < length olds → Works (Some opening) observers batches (length olds - 1) w (slice_index_or olds (w + 1) d) (slice_index_or news (w + 1) d)

-- room for so many seats and changes, and the observers
pub record HasRooms (observers : List ObserverOf) (seats changes : ℕ) (r : Rooms) : Type 0 where
  pub observers_are : r.observers.items ≡ observers
  pub no_workers : r.workers.items ≡ []
  pub workers_room : seats ≤ vec_capacity r.workers
  pub no_seats : r.seats.items ≡ []
  pub seats_room : seats ≤ vec_capacity r.seats
  pub no_refusals : r.refusals.items ≡ []
  pub refusals_room : seats ≤ vec_capacity r.refusals
  pub none_unfinished : r.unfinished.items ≡ []
  pub unfinished_room : changes ≤ vec_capacity r.unfinished

-- each batch has some cells
abbrev pub AreFilled : List Writes → Type 0
AreFilled batches = (i : ℕ) (batch : Writes) → slice_get batches i ≡ Some batch → batch ≢ []

-- what all left: with the spares and seats handed in, the seats given back, the first refusal of each, and the
-- unfinished changes
pub record WorkedOn (opening : OpeningOf) (observers : List ObserverOf) (batches : List Writes) (spares : List Spare) (olds news : List SeatOf) (refusals : List (Option Refusal)) (unfinished : List ℕ) : Type 0 where
  pub seats : length news ≡ length olds
  pub refused : length refusals ≡ length olds
  pub filled : AreFilled batches
  -- of each worker, from 0, whether each of its changes committed
  pub done : ℕ → List Bool
  pub workers : (w : ℕ) (d : SeatOf) → w + 1 < length olds
      → Gains (IsWork (Some opening) (w + 1) observers (share_of batches (length olds - 1) w) (done w) (slice_index_or refusals (w + 1) None)) (slice_index_or olds (w + 1) d) (slice_index_or news (w + 1) d)
  pub main : (d : SeatOf) → Gains (IsLastDrain (Some opening) opening.places spares 0 observers (slice_index_or refusals 0 None)) (slice_index_or olds 0 d) (slice_index_or news 0 d)
  pub unfinished_are : unfinished ≡ undone_below (is_done done (length olds - 1)) (length batches)

-- the table that comes out was opened as the one that went in
abbrev pub KeepsOpening : SharedOf → SharedOf → Type 0
KeepsOpening before after = opening_of after ≡ opening_of before
