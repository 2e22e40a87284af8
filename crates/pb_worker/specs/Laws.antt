-- What the workers' lists and the journal show together.
use Rattle.std.specs.Prelude.{◌≡◌, ℕ, ◌+◌, ◌-◌, ◌%◌, ◌<◌, List, [], length, Option, Some, slice_get}
use Rattle.pb_worker.specs.Words.{Refusal, Writes, Work, ObserverOf, Has, Member, InHistory, SharedOf, SeatOf, AreSeats, IsLegalTable, Agree, OpeningOf, Spare, WorkedOn}

-- the change of this number, of the worker of seat 1 + i mod n, is this committed transaction
pub record IsMadeChange (table : SharedOf) (n i : ℕ) (batch : Writes) (m : Member) : Type 0 where
  pub there : InHistory table.state.observers table.journal m
  pub seat : m.seat ≡ i % n + 1
  pub work : m.work ≡ Work.Script
  pub writes : m.writes ≡ batch

-- the change of this number has this batch, and isn't named as unfinished
pub record IsFinished (batches : List Writes) (unfinished : List ℕ) (i : ℕ) (batch : Writes) : Type 0 where
  pub there : slice_get batches i ≡ Some batch
  pub not_named : Has unfinished i → ⊥

-- Each change that isn't named as unfinished is a committed script transaction of the journal, no two the same: of each
-- change there is the start of the transaction that made it. Where the journal was empty before, there are no others.
pub record MakesChanges (before table : SharedOf) (n : ℕ) (batches : List Writes) (unfinished : List ℕ) : Type 0 where
  pub start : ℕ → ℕ
  pub made : (i : ℕ) (batch : Writes) → IsFinished batches unfinished i batch → (m : Member) × IsMadeChange table n i batch m × (m.start ≡ start i)
  pub only : before.journal ≡ [] → (m : Member) → InHistory table.state.observers table.journal m → m.work ≡ Work.Script → (i : ℕ) × (batch : Writes) × IsFinished batches unfinished i batch × (m.start ≡ start i)
  pub once : (i j : ℕ) (a b : Writes) → IsFinished batches unfinished i a → IsFinished batches unfinished j b → start i ≡ start j → i ≡ j

-- where the seats agree with the journal after a run of workers
abbrev pub ChangesAreMade : Type 0
ChangesAreMade =
    (opening : OpeningOf) (observers : List ObserverOf) (batches : List Writes) (spares : List Spare) (olds news : List SeatOf) (refusals : List (Option Refusal)) (unfinished : List ℕ) (before table : SharedOf)
    → AreSeats before olds → 1 < length olds → WorkedOn opening observers batches spares olds news refusals unfinished → IsLegalTable table → Agree table news
    → MakesChanges before table (length olds - 1) batches unfinished
