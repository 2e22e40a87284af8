-- Which declaration is one of its transaction (OSDI 2010, section 2.4): a script declares a batch, and a run what its observer's
-- program makes of the cells that it read. It is defined twice: as a relation, which the laws of runs go by, and as a test, since
-- refusals are computed. Refusal 43 and the case of `Declare` cite them.
use Rattle.std.specs.Prelude.{◌≡◌, ℕ, ◌<◌, Bool, true, false, not, ◌&&◌, ◌==◌, nat_lt, if◌then◌else◌, List, [], ◌∷◌, Option, Some, None, slice_get}
use Rattle.std.specs.Ordering.{eq_by_cmp}
use Rattle.pb_steps.specs.Words.{Cell, Row, Ts, Revision, cell_cmp, same, is_batch, JudgedOf, judged_code, Ask, Reply, Talk, AreRunWrites, Meant, IsMeant, tells_old, record_by, ObserverOf, observed_cell, acknowledgment}
use Rattle.std.specs.Coded.{coded_ℕ, coded_list}
use Rattle.pb_steps.specs.declared.seen.RecordedRead.{RecordedRead}
use Rattle.pb_steps.specs.declared.seen.Seen.{Seen}
use Rattle.pb_steps.specs.declared.step.Work.{Work}
use Rattle.pb_steps.specs.declared.step.Declared.{Declared}
use Rattle.pb_steps.specs.Reads.{asked_cell, version_in, acknowledged_in, value_in, value_code}

-- what every declaration is: a script's writes are a batch; a run is its program's meaning, and writes nothing or what a
-- batch could
abbrev pub IsKnown : Declared → Type 0
IsKnown (Declared.Script batch) = is_batch batch ≡ true
IsKnown (Declared.Run o f) = IsMeant f × AreRunWrites f.writes

-- ---- as a relation

-- a read of this cell, at the timestamp that it named, or at none
pub record IsReadOf (r : RecordedRead) (x : Cell) (named : Option Ts) : Type 0 where
  pub cell : r.cell ≡ x
  pub at : r.at ≡ named

-- the timestamp at which a run reads its cell once more: the acknowledged one, where its program is given the value then and
-- something is acknowledged
abbrev pub old_at : Bool → Ts → Option Ts
old_at second a = if second && not (a.0 == 0) then Some a else None

-- after the reads of cell and acknowledgment: what the cell held at a timestamp that is read at, and the reads after that
abbrev pub WasOld : Option Ts → Cell → List RecordedRead → Reply → List RecordedRead → Type 0
WasOld None x reads old asked = (old ≡ None) × (reads ≡ asked)
WasOld (Some a) x reads old asked = (third : RecordedRead) × IsReadOf third x (Some a) × (old ≡ value_in third.answer) × (reads ≡ third ∷ asked)

-- the reads of a run: its cell, found; its acknowledgment; where its program is given what the cell held at the acknowledged
-- timestamp, the cell at that; and the cells that its program asked for
pub record WasSeen (x ack : Cell) (second : Bool) (reads : List RecordedRead) (seen : Seen) (asked : List RecordedRead) : Type 0 where
  pub found_by : RecordedRead
  pub acknowledged_by : RecordedRead
  pub rest : List RecordedRead
  pub reads_are : reads ≡ found_by ∷ acknowledged_by ∷ rest
  pub observed : IsReadOf found_by x None
  pub found : version_in found_by.answer ≡ Some seen.version
  pub acknowledgment : IsReadOf acknowledged_by ack None
  pub acknowledged : seen.acknowledged ≡ acknowledged_in acknowledged_by.answer
  pub old : WasOld (old_at second seen.acknowledged) x rest seen.old asked

-- each ask read its cell, and was replied the value that was found there, or that there is none
abbrev pub AreReplies : List RecordedRead → Talk → Type 0
AreReplies [] [] = Unit {0}
AreReplies (r ∷ rs) (a ∷ talk) = IsReadOf r (asked_cell a.0) None × (a.1 ≡ value_in r.answer) × AreReplies rs talk
AreReplies _ _ = ⊥

-- what a run found is newer than its acknowledgment, and this is its observer's program run on the record of it, with the
-- replies that were read
pub record IsItsRun (observers : List ObserverOf) (p : ℕ) (row : Row) (s : ℕ) (reads : List RecordedRead) (f : Meant) : Type 0 where
  pub observer : ObserverOf
  pub observer_is : slice_get observers p ≡ Some observer
  pub seen : Seen
  pub asked : List RecordedRead
  pub was : WasSeen (observed_cell observers p row) (acknowledgment observers p row) (tells_old observer.program) reads seen asked
  pub newer : seen.acknowledged.0 < seen.version.commit.0
  pub program : f.judged ≡ observer.program
  pub bytes : f.bytes ≡ record_by (tells_old observer.program) (observed_cell observers p row) seen.version seen.acknowledged.0 seen.old
  pub start : f.start ≡ s
  pub replied : AreReplies asked f.talk

-- a transaction with this work, start and reads may declare it
abbrev pub MayDeclare : List ObserverOf → Work → ℕ → List RecordedRead → Declared → Type 0
MayDeclare observers Work.Script s reads (Declared.Script batch) = Unit {0}
MayDeclare observers (Work.Run p row) s reads (Declared.Run o f) = (o ≡ p) × IsItsRun observers p row s reads f
MayDeclare observers _ s reads _ = ⊥

-- ---- as a test

-- the timestamps that two reads named are one, or they named none
abbrev pub is_at : Option Ts → Option Ts → Bool
is_at None None = true
is_at (Some t) (Some u) = t.0 == u.0
is_at _ _ = false

-- the read is of this cell, at the timestamp that it had to name, or at none
abbrev pub is_read_of : RecordedRead → Cell → Option Ts → Bool
is_read_of r x at = eq_by_cmp cell_cmp r.cell x && is_at r.at at

-- what was seen, with what the cell held at a timestamp that is read at; nothing where that read is missing
abbrev pub with_old : Option Ts → Cell → Seen → List RecordedRead → Option Seen
with_old None x seen reads = Some seen
with_old (Some a) x seen (r ∷ asked) = if is_read_of r x (Some a) then Some (record seen { old = value_in r.answer }) else None
with_old (Some a) x seen [] = None

-- what reads show, if the first found its cell
abbrev pub seen_by : Bool → Cell → Option Revision → Ts → List RecordedRead → Option Seen
seen_by second x None a rest = None
seen_by second x (Some v) a rest = with_old (old_at second a) x (record { version = v; acknowledged = a; old = None }) rest

-- what the reads of a run show of its cell and acknowledgment, which come first and in this order
abbrev pub seen_in : Cell → Cell → Bool → List RecordedRead → Option Seen
seen_in x ack second (r ∷ q ∷ rest) = if is_read_of r x None && is_read_of q ack None then seen_by second x (version_in r.answer) (acknowledged_in q.answer) rest else None
seen_in x ack second _ = None

-- the reads after these two, or after three
abbrev pub asked_in : Option Ts → List RecordedRead → List RecordedRead
asked_in None (r ∷ q ∷ asked) = asked
asked_in (Some a) (r ∷ q ∷ o ∷ asked) = asked
asked_in _ _ = []

-- the ask read its cell, and was replied what the read found; values are compared by their codes, as numbers
abbrev pub is_replied : RecordedRead → Ask × Reply → Bool
is_replied r a = is_read_of r (asked_cell a.0) None && same value_code a.1 (value_in r.answer)

-- one read for each ask, in order, and no more
abbrev pub are_replies : List RecordedRead → Talk → Bool
are_replies [] [] = true
are_replies (r ∷ rs) (a ∷ talk) = is_replied r a && are_replies rs talk
are_replies _ _ = false

-- a run of this program on this record from this start
abbrev pub is_made_of : JudgedOf → List ℕ → ℕ → Meant → Bool
is_made_of program bytes s f = same judged_code f.judged program && same (coded_list coded_ℕ) f.bytes bytes && (f.start == s)

-- the change is newer than the acknowledgment, and the run is of this program on the record of what was seen, with the
-- replies that were read
abbrev pub is_run : JudgedOf → Cell → ℕ → List RecordedRead → Meant → Option Seen → Bool
is_run p x s reads f (Some seen) =
    nat_lt seen.acknowledged.0 seen.version.commit.0 && is_made_of p (record_by (tells_old p) x seen.version seen.acknowledged.0 seen.old) s f
    && are_replies (asked_in (old_at (tells_old p) seen.acknowledged) reads) f.talk
is_run p x s reads f None = false

-- a run by an observer, if there is that one
abbrev pub is_run_by : Option ObserverOf → Cell → Cell → ℕ → List RecordedRead → Meant → Bool
is_run_by (Some o) x ack s reads f = is_run o.program x s reads f (seen_in x ack (tells_old o.program) reads)
is_run_by None x ack s reads f = false

-- the run is one of the observer p on the row, by all that its transaction read
abbrev pub is_run_of : List ObserverOf → ℕ → Row → ℕ → List RecordedRead → Meant → Bool
is_run_of observers p row s reads f = is_run_by (slice_get observers p) (observed_cell observers p row) (acknowledgment observers p row) s reads f

-- whether the declaration is one of a transaction with this work, start and reads
abbrev pub is_its : List ObserverOf → Work → ℕ → List RecordedRead → Declared → Bool
is_its observers Work.Script s reads (Declared.Script batch) = true
is_its observers (Work.Run p row) s reads (Declared.Run o f) = (o == p) && is_run_of observers p row s reads f
is_its observers _ s reads _ = false
