-- The version of a cell that an observer has acknowledged, read once more when the cell has a newer one.
use Rattle.std.specs.Prelude.{ℕ, ◌<◌, List}
use Rattle.law_journals.specs.Words.{Content, Row, Ts, ObserverOf, observed_cell, acknowledgment, Answer, Step, StateOf, TableStep, Entry, IsEntry, IsLegal}

-- the answer is a version
abbrev pub IsVersionAnswer : Answer → Type 0
IsVersionAnswer (Answer.Found start commit content) = Unit {0}
IsVersionAnswer answer = ⊥

-- in its snapshot, the transaction of start s found a version of commit c in an observer's cell of this row, and in the
-- acknowledgment of that cell the stamp a
pub record FoundBoth (observers : List ObserverOf) (journal : List Entry) (s : Ts) (o : ℕ) (row : Row) (c a : Ts) : Type 0 where
  pub seat : ℕ
  pub start : Ts
  pub content : Content
  pub found : IsEntry journal seat (Step.Read s (observed_cell observers o row)) (Answer.Found start c content)
  pub by : Ts
  pub at : Ts
  pub acknowledged : IsEntry journal seat (Step.Read s (acknowledgment observers o row)) (Answer.Found by at (Content.Stamp a))

-- where the cell is newer than the stamp, whatever step comes next that reads it at the stamp finds a version
abbrev pub AcknowledgedVersionsAreFound : Type 0
AcknowledgedVersionsAreFound =
    (observers : List ObserverOf) (seats clock : ℕ) (journal : List Entry) (state : StateOf) → IsLegal observers seats clock journal state
    → (s : Ts) (o : ℕ) (row : Row) (c a : Ts) → FoundBoth state.observers journal s o row c a → a.0 < c.0
    → (seat : ℕ) (answer : Answer) (new : StateOf) → TableStep state seat (Step.ReadAt s (observed_cell state.observers o row) a) answer new → IsVersionAnswer answer
