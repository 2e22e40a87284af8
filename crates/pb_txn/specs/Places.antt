-- The order of a transaction's steps (OSDI 2010, section 2.2): the step at each place, and where each answer leads.
-- Both are functions of the place, so that a plan's value is its place. The step is an option, so that no cell stands
-- in where the list has none at a place.
use Rattle.std.specs.Prelude.{ℕ, ◌+◌, ◌<◌, ◌≤◌, ◌==◌, nat_lt, if◌then◌else◌, List, ◌∷◌, map, slice_get, Option, Some, None, option_map}
use Rattle.pb_txn.specs.Words.{Cell, Ts, recorded_row, recorded_column, Declared, Step, Answer}
use Rattle.pb_txn.specs.declared.place.Outcome.{Outcome}
use Rattle.pb_txn.specs.declared.place.PlanPlace.{PlanPlace}

-- the cells that a declaration writes, the primary first: those of a script's batch; of a run the acknowledgment of its
-- observer at the row and column of its record, and then the cells of its writes
abbrev pub declared_cells : Declared → List Cell
declared_cells (Declared.Script batch) = map (λ w. w.0) batch
declared_cells (Declared.Run o f) = Cell.Ack o (record { 0 = recorded_row f.bytes }) (recorded_column f.bytes) ∷ map (λ w. w.0) f.writes

-- ---- where an answer leads

-- the next cell to prewrite, or the stamp
abbrev pub prewrite_from : ℕ → ℕ → PlanPlace
prewrite_from count k = if nat_lt k count then PlanPlace.Prewriting k else PlanPlace.Stamping

-- the next secondary to commit, or the end
abbrev pub commit_from : ℕ → Ts → ℕ → PlanPlace
commit_from count c k = if nat_lt k count then PlanPlace.CommittingSecondary c k else PlanPlace.Over (Outcome.Committed c)

-- the next secondary to clear, or the end
abbrev pub clear_from : ℕ → ℕ → Outcome → PlanPlace
clear_from k end o = if nat_lt k end then PlanPlace.Clearing k end o else PlanPlace.Over o

-- a conflict on the primary leaves nothing to clear; after one on a later cell, the primary is settled
abbrev pub after_prewrite : ℕ → ℕ → Answer → PlanPlace
after_prewrite count k Answer.Conflict = if k == 0 then PlanPlace.Over Outcome.Conflicted else PlanPlace.Settling k
after_prewrite count k _ = prewrite_from count (k + 1)

-- the stamp is answered with the commit timestamp, which the end reports
abbrev pub after_stamp : Answer → PlanPlace
after_stamp (Answer.At c) = PlanPlace.CommittingPrimary c
after_stamp _ = PlanPlace.Stamping

-- a primary that is lost has been decided against: all other cells are cleared
abbrev pub after_primary : ℕ → Ts → Answer → PlanPlace
after_primary count c Answer.Committed = commit_from count c 1
after_primary count c _ = clear_from 1 count Outcome.Lost

-- where the answer of the step at a place leads, in a transaction of so many cells
abbrev pub place_after : ℕ → PlanPlace → Answer → PlanPlace
place_after count PlanPlace.Declaring a = prewrite_from count 0
place_after count (PlanPlace.Prewriting k) a = after_prewrite count k a
place_after count PlanPlace.Stamping a = after_stamp a
place_after count (PlanPlace.CommittingPrimary c) a = after_primary count c a
place_after count (PlanPlace.CommittingSecondary c k) a = commit_from count c (k + 1)
place_after count (PlanPlace.Settling k) a = clear_from 1 k Outcome.Conflicted
place_after count (PlanPlace.Clearing k end o) a = clear_from (k + 1) end o
place_after count (PlanPlace.Over o) a = PlanPlace.Over o

-- ---- the step at a place

-- the step at a place, but for the declaration, which a plan keeps by itself
abbrev pub later_step : ℕ → List Cell → PlanPlace → Option Step
later_step s cells PlanPlace.Declaring = None
later_step s cells (PlanPlace.Prewriting k) = option_map (λ x. Step.Prewrite (record { 0 = s }) x) (slice_get cells k)
later_step s cells PlanPlace.Stamping = Some (Step.Stamp (record { 0 = s }))
later_step s cells (PlanPlace.CommittingPrimary c) = Some (Step.CommitPrimary (record { 0 = s }))
later_step s cells (PlanPlace.CommittingSecondary c k) = option_map (λ x. Step.CommitSecondary (record { 0 = s }) x) (slice_get cells k)
later_step s cells (PlanPlace.Settling k) = option_map (λ x. Step.Settle x) (slice_get cells 0)
later_step s cells (PlanPlace.Clearing k end o) = option_map (λ x. Step.Clear x) (slice_get cells k)
later_step s cells (PlanPlace.Over o) = None

-- the step at a place
abbrev pub step_at : ℕ → Declared → PlanPlace → Option Step
step_at s what PlanPlace.Declaring = Some (Step.Declare (record { 0 = s }) what)
step_at s what place = later_step s (declared_cells what) place

-- the place lies within so many cells, and a secondary's isn't that of the primary
abbrev pub LiesWithin : ℕ → PlanPlace → Type 0
LiesWithin count PlanPlace.Declaring = Unit {0}
LiesWithin count (PlanPlace.Prewriting k) = k < count
LiesWithin count PlanPlace.Stamping = Unit {0}
LiesWithin count (PlanPlace.CommittingPrimary c) = Unit {0}
LiesWithin count (PlanPlace.CommittingSecondary c k) = (0 < k) × (k < count)
LiesWithin count (PlanPlace.Settling k) = (0 < k) × (k < count)
LiesWithin count (PlanPlace.Clearing k end o) = (0 < k) × (k < end) × (end ≤ count)
LiesWithin count (PlanPlace.Over o) = Unit {0}
