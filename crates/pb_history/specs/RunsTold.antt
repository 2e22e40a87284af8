-- What the history of a legal journal shows of the runs of observers (OSDI 2010, section 2.4).
use Rattle.std.specs.Prelude.{◌≡◌, ℕ, ◌<◌, ◌⊎◌, true, List, [], ◌∷◌, Some, None, slice_get}
use Rattle.pb_history.specs.Words.{Cell, Row, Content, Revision, Writes, Ask, Reply, Talk, Means, AreRunWrites, tells_old, record_by, Work, StateOf, ObserverOf, observed_cell, acknowledgment, asked_cell, value_of}
use Rattle.pb_history.specs.declared.entry.Entry.{Entry}
use Rattle.pb_history.specs.History.{Member, InHistory, IsSnapshot, NoSnapshot}

-- the stamp of an acknowledgment in the snapshot at s, 0 where it has none there
abbrev pub IsAcknowledgedAt : List ObserverOf → List Entry → ℕ → Cell → ℕ → Type 0
IsAcknowledgedAt observers journal s ack a =
    (NoSnapshot observers journal s ack × (a ≡ 0))
    ⊎ ((start : ℕ) × (commit : ℕ) × IsSnapshot observers journal s ack start commit (Content.Stamp (record { 0 = a })))

-- the value of a cell in the snapshot at s, and none where it is deleted or absent there
abbrev pub IsValueAt : List ObserverOf → List Entry → ℕ → Cell → Reply → Type 0
IsValueAt observers journal s x value =
    (NoSnapshot observers journal s x × (value ≡ None))
    ⊎ ((start : ℕ) × (commit : ℕ) × (content : Content) × IsSnapshot observers journal s x start commit content × (value ≡ value_of content))

-- the reply to an ask is the value of its cell in the snapshot at s
abbrev pub IsReplyAt : List ObserverOf → List Entry → ℕ → Ask × Reply → Type 0
IsReplyAt observers journal s a = IsValueAt observers journal s (asked_cell a.0) a.1

-- and so is each reply of a talk
abbrev pub AreRepliesAt : List ObserverOf → List Entry → ℕ → Talk → Type 0
AreRepliesAt observers journal s [] = Unit {0}
AreRepliesAt observers journal s (a ∷ talk) = IsReplyAt observers journal s a × AreRepliesAt observers journal s talk

-- A committed run of an observer on a row: in the snapshot at its start it found its cell newer than its acknowledgment,
-- and it wrote its acknowledgment, with its start as the stamp, and then what its program means on the record of these,
-- with replies that are that snapshot.
pub record IsObserverRun (observers : List ObserverOf) (journal : List Entry) (m : Member) (o : ℕ) (row : Row) : Type 0 where
  pub observer : ObserverOf
  pub observer_is : slice_get observers o ≡ Some observer
  pub version : Revision
  pub found : IsSnapshot observers journal m.start (observed_cell observers o row) version.start.0 version.commit.0 version.content
  pub acknowledged : ℕ
  pub acknowledges : IsAcknowledgedAt observers journal m.start (acknowledgment observers o row) acknowledged
  pub newer : acknowledged < version.commit.0
  -- what the program is given of the acknowledged timestamp, if its record is of version 2
  pub old : Reply
  pub old_is : tells_old observer.program ≡ true → IsValueAt observers journal acknowledged (observed_cell observers o row) old
  pub talk : Talk
  pub replied : AreRepliesAt observers journal m.start talk
  pub result : ℕ
  pub writes : Writes
  pub meaning : Means observer.program (record_by (tells_old observer.program) (observed_cell observers o row) version acknowledged old) m.start talk result writes
  pub few : AreRunWrites writes
  pub writes_are : m.writes ≡ (acknowledgment observers o row, Content.Stamp (record { 0 = m.start })) ∷ writes

-- each committed transaction of a run is one as above
pub record TellsRuns (journal : List Entry) (state : StateOf) : Type 0 where
  pub run : (m : Member) (o : ℕ) (row : Row) → InHistory state.observers journal m → m.work ≡ Work.Run o row → IsObserverRun state.observers journal m o row
