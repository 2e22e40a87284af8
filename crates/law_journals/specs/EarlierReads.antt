-- Reads up to a transaction's start, or up to an earlier timestamp that they name (OSDI 2010, section 2.2): which are taken,
-- and which locks they pass by.
use Rattle.std.specs.Prelude.{◌≡◌, ℕ, ◌<◌, ◌≤◌, Some, None}
use Rattle.std.specs.FinMap as map
use Rattle.law_journals.specs.Words.{Cell, Revision, Ts, Reason, Entries, Phase, Answer, Step, lock_at, IsVersion, NoVersion, StateOf, TransactionOf, step_reason, TableStep}

-- the transaction of this start is one of the seat, and has declared nothing yet
pub record MayRead (state : StateOf) (seat start : ℕ) : Type 0 where
  pub t : TransactionOf
  pub seated : seat < state.seats
  pub there : map.get state.transactions start ≡ Some t
  pub mine : t.seat ≡ seat
  pub reading : t.phase ≡ Phase.Reading

-- a read at a timestamp is refused where that is above the start, with 49, and else not
abbrev pub ReadsUpToTheStartAreTaken : Type 0
ReadsUpToTheStartAreTaken =
    (state : StateOf) (seat : ℕ) (s : Ts) (x : Cell) (t : Ts) → MayRead state seat s.0
    → (t.0 ≤ s.0 → step_reason state seat (Step.ReadAt s x t) ≡ None) × (s.0 < t.0 → step_reason state seat (Step.ReadAt s x t) ≡ Some Reason.LaterThanStart)

-- each lock on x is of a start above t
abbrev pub LocksAreLater : Entries → Cell → ℕ → Type 0
LocksAreLater e x t = (u : ℕ) (primary : Cell) → lock_at e x u ≡ Some primary → t < u

-- the step is answered with what x has up to t, and with no lock
pub record IsAnsweredUpTo (old : StateOf) (seat : ℕ) (step : Step) (x : Cell) (t : ℕ) : Type 0 where
  pub found : (v : Revision) → IsVersion old.entries x t v → (new : StateOf) × TableStep old seat step (Answer.Found v.start v.commit v.content) new
  pub absent : NoVersion old.entries x t → (new : StateOf) × TableStep old seat step Answer.Absent new
  pub not_locked : (start : Ts) (primary : Cell) (new : StateOf) → TableStep old seat step (Answer.Locked start primary) new → ⊥

-- by a read at the start, and by one at a timestamp up to that
abbrev pub LaterLocksHideNothing : Type 0
LaterLocksHideNothing =
    (old : StateOf) (seat : ℕ) (s : Ts) (x : Cell) → MayRead old seat s.0
    → (LocksAreLater old.entries x s.0 → IsAnsweredUpTo old seat (Step.Read s x) x s.0)
    × ((t : Ts) → t.0 ≤ s.0 → LocksAreLater old.entries x t.0 → IsAnsweredUpTo old seat (Step.ReadAt s x t) x t.0)
