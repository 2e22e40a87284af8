-- The timestamp, other than its start, at which a committed run read a cell.
use Rattle.std.specs.Prelude.{◌≡◌, ℕ, List, Some, slice_get}
use Rattle.law_journals.specs.Words.{Cell, Content, Row, Ts, ObserverOf, observed_cell, acknowledgment, Answer, Step, Work, StateOf, Entry, IsEntry, Member, InHistory, IsSnapshot, IsLegal}

-- a read is answered with what its cell holds, or that it is absent
abbrev pub IsAnswered : Answer → Type 0
IsAnswered (Answer.Found start commit content) = Unit {0}
IsAnswered Answer.Absent = Unit {0}
IsAnswered answer = ⊥

-- the run of start s looks back to what its cell held at t: that is its observer's acknowledgment in its snapshot, and the
-- change record of its observer's program has 120 bytes
pub record LooksBackTo (observers : List ObserverOf) (journal : List Entry) (s : ℕ) (o : ℕ) (row : Row) (x : Cell) (t : Ts) : Type 0 where
  pub observer : ObserverOf
  pub observer_is : slice_get observers o ≡ Some observer
  pub second : observer.program.record_size ≡ 120
  pub cell : x ≡ observed_cell observers o row
  pub by : ℕ
  pub at : ℕ
  pub acknowledged : IsSnapshot observers journal s (acknowledgment observers o row) by at (Content.Stamp t)

-- each answered read at a timestamp, of a committed run
abbrev pub RunsLookBackToTheirAcknowledgment : Type 0
RunsLookBackToTheirAcknowledgment =
    (observers : List ObserverOf) (seats clock : ℕ) (journal : List Entry) (state : StateOf) → IsLegal observers seats clock journal state
    → (m : Member) (o : ℕ) (row : Row) → InHistory state.observers journal m → m.work ≡ Work.Run o row
    → (seat : ℕ) (x : Cell) (t : Ts) (answer : Answer) → IsEntry journal seat (Step.ReadAt (record { 0 = m.start }) x t) answer → IsAnswered answer
    → LooksBackTo state.observers journal m.start o row x t
