-- Why a table is kept no longer.
use Rattle.std.proofs.Common.{◌≡◌, ℕ, ◌<◌, ◌≤◌, ◌+◌, ◌^◌, ◌||◌, Bool, true, false, List, [], ◌∷◌, ◌++◌, length, Result, Err, refl, sym, ap, subst, ◌∙◌, arith, length-append}
use Rattle.pb_log.specs.declared.fault.LogFault.{LogFault}
use Rattle.pb_log.specs.Causes.{IsNotBegun}
use Rattle.pb_log.specs.Laws.{FilesHaveOneReading}
use Rattle.pb_log.specs.Records.{blocks}
use Rattle.pb_state.specs.declared.carry_fault.CarryFault.{CarryFault}
use Rattle.pb_keeper.specs.Keeps.{BeginningKeepsNone}
use Rattle.pb_keeper.specs.Stops.{IsStop, WantsMemory}
use Rattle.pb_snapshots.specs.RecordLaws.{SnapshotsAreNoTexts}
use Rattle.pb_snapshots.specs.TakenOrder.{IsForMemory}
use Rattle.pb_keep.specs.Words.{HasRecords, IsSnapshotTaken, Keeps, KeptTable, ObserverOf, SnapshotOf, StateOf, Stopped, WhyNotOpened, WhyNotPut, Writes, header}
use Rattle.pb_keep.specs.declared.fault.KeepFault.{KeepFault}
use Rattle.pb_keep.specs.declared.source.InputFault.{InputFault}
use Rattle.pb_keep.specs.declared.waiting.Waits.{Waits}
use Rattle.pb_keep.specs.declared.compact.SnapshotFault.{SnapshotFault}
use Rattle.pb_keep.specs.Anew.{WhyNoRecord, WhyNotAnew, WhyNotBegun}
use Rattle.pb_keep.specs.Changed.{why_refused, why_stopped, WhyNotChanged}
use Rattle.pb_keep.specs.Again.{in_part, IsMadeInPart, WhyNotAllMade}
use Rattle.pb_keep.specs.Causes.{IsOfAnew, IsOfAnswer, IsOfFirst, IsOfLogFile, IsOfPut, IsOfReading, IsOfScript, WhyNotKept, WhyNotMadeAgain, WhyNotServed}
use Rattle.pb_keep.specs.Conversations.{KeeperView}
use Rattle.pb_keep.specs.Input.{is_of_reader}
use Rattle.pb_keep.specs.Kept.{head, origin_of, IsBegunWith}
use Rattle.pb_keep.specs.Left.{fault_by, fault_of_line, IsOfLog, IsOfMaking, IsRefusedMemory, IsRightOf}
use Rattle.pb_keep.specs.Questions.{WhyNotAnswered}
use Rattle.pb_keep.proofs.FirstOpening.{has_log}
use Rattle.pb_keep.proofs.Records.{has_no_changes, no_script_among, one_no_script}

pub stopped_rightly : (e : Stopped) (state : StateOf) → IsStop e state → IsRightOf state (fault_by e)
stopped_rightly (Stopped.NoMemory refused) state h = tt
stopped_rightly (Stopped.Refused why) state h = h.1
stopped_rightly Stopped.Conflict state h = absurd h

pub stopped_for_memory : (e : Stopped) → WantsMemory e → IsRefusedMemory (fault_by e)
stopped_for_memory (Stopped.NoMemory refused) h = tt
stopped_for_memory _ h = absurd h

-- ---- where a table goes on with other observers

pub not_changed_by_stop : (waiting : List Waits) (old new : StateOf) (e : Stopped) → IsStop e new → WhyNotChanged waiting old new (why_stopped e)
not_changed_by_stop waiting old new (Stopped.NoMemory refused) h = tt
not_changed_by_stop waiting old new (Stopped.Refused why) h = h.1
not_changed_by_stop waiting old new Stopped.Conflict h = absurd h

pub not_changed_for_memory : (waiting : List Waits) (old new : StateOf) (e : CarryFault) → IsForMemory e → WhyNotChanged waiting old new (why_refused e)
not_changed_for_memory waiting old new (CarryFault.NoMemory refused) h = tt
not_changed_for_memory waiting old new _ h = absurd h

-- ---- where no log is begun with a snapshot

module _ (waiting : List Waits) (table : KeptTable) (first file : List ℕ) (before now : ℕ) where
  pub not_taken : (e : SnapshotFault) → WhyNotChanged waiting table.state table.state e → WhyNotAnew waiting table first before now file e
  not_taken (SnapshotFault.NoMemory e) h = tt
  not_taken SnapshotFault.LinesWait h = h
  not_taken SnapshotFault.NoTimestamp h = h
  not_taken _ h = absurd h

  pub no_record : (s : SnapshotOf) → IsSnapshotTaken table s → (e : SnapshotFault) → WhyNoRecord s e → WhyNotAnew waiting table first before now file e
  no_record s taken (SnapshotFault.NoMemory e) h = tt
  no_record s taken SnapshotFault.Unwritable h = (s, taken, h)
  no_record s taken SnapshotFault.TooLarge h = (s, taken, h)
  no_record s taken _ h = absurd h

  pub no_log : (e : SnapshotFault) → WhyNotBegun first before now file e → WhyNotAnew waiting table first before now file e
  no_log (SnapshotFault.NoMemory e) h = tt
  no_log (SnapshotFault.Log e) h = h
  no_log SnapshotFault.NotNew h = h
  no_log _ h = absurd h

-- ---- where the log fails

-- a put failed; one that did nothing left the log's end
pub put_why : (before now was end : ℕ) (e : LogFault) → WhyNotPut before now was e → (IsNotBegun e → end ≡ was) → IsOfPut before now end (KeepFault.Log e)
put_why before now was end (LogFault.NoMemory n) h same = tt
put_why before now was end (LogFault.Disk e) h same = h
put_why before now was end LogFault.Full h same = subst (λ n. 2 ^ 62 ≤ n) (sym (same tt)) h
put_why before now was end _ h same = absurd h

pub of_put : (before now end : ℕ) (e : KeepFault) → IsOfPut before now end e → IsOfLog e
of_put before now end (KeepFault.Log e) h = tt
of_put before now end _ h = absurd h

-- the log failed, or what came after
pub not_both : (e : KeepFault) → IsOfMaking e → IsOfLog e → ⊥
not_both (KeepFault.Log e) making of = absurd making
not_both _ making of = of

-- ---- a log of a header alone

-- its end is far from the place from which on no record begins
pub begins_low : (manifest : List ℕ) (end : ℕ) → length manifest < 2 ^ 31 → end ≡ length (blocks 0 (header manifest ∷ [])) → end < 2 ^ 62
begins_low manifest end short ends = grind (arith, short, ends, length-append)

-- what stands in the first record is little more than the manifest
pub head_low : (manifest first : List ℕ) → length manifest < 2 ^ 30 → length first ≤ length manifest + 27 → length first < 2 ^ 31
head_low manifest first short few = omega (arith, short, few)

-- so a put into it fails only as its opening may
pub put_as_opened : (manifest : List ℕ) (before now end : ℕ) (file : List ℕ) (e : LogFault) → end < 2 ^ 62 → WhyNotPut before now end e → WhyNotOpened manifest before now file e
put_as_opened manifest before now end file (LogFault.NoMemory n) low h = tt
put_as_opened manifest before now end file (LogFault.Disk e) low h = h
put_as_opened manifest before now end file LogFault.Full low h = omega (arith, low, h)
put_as_opened manifest before now end file _ low h = absurd h

-- ---- why what waits isn't kept

module _ (before now : ℕ) (failed : Bool) (k : KeeperView) where
  pub not_put : (e : KeepFault) → IsOfPut before now k.end e → WhyNotKept before now failed k e
  not_put (KeepFault.Log e) h = h
  not_put _ h = absurd h

  pub not_made : (e : KeepFault) → IsOfMaking e → IsRefusedMemory e → WhyNotKept before now failed k e
  not_made (KeepFault.NoMemory e) of right = tt
  not_made KeepFault.NoTimestamp of right = absurd right
  not_made _ of right = absurd of

  pub not_written : (e : KeepFault) → e ≡ KeepFault.Output → failed ≡ true → WhyNotKept before now failed k e
  not_written e is has = subst (λ f. WhyNotKept before now failed k f) (sym is) has

  pub not_answered : (e : KeepFault) → IsOfAnswer failed e → WhyNotKept before now failed k e
  not_answered (KeepFault.NoMemory e) of = tt
  not_answered KeepFault.Output of = of
  not_answered _ of = absurd of

  -- keeping is a part of serving
  pub not_served : (unread : Bool) (e : KeepFault) → WhyNotKept before now failed k e → WhyNotServed before now unread failed k e
  not_served unread (KeepFault.Log e) h = h
  not_served unread (KeepFault.NoMemory e) h = tt
  not_served unread KeepFault.Output h = h
  not_served unread _ h = absurd h

-- ---- why a line isn't read

or_true : (b : Bool) → (b || true) ≡ true
or_true true = refl
or_true false = refl

pub not_read : {T : Type 0} (before now : ℕ) (was unread failed : Bool) (k : KeeperView) (result : Result T InputFault) (e : InputFault) → result ≡ Err e → unread ≡ (was || is_of_reader result) → WhyNotServed before now unread failed k (fault_of_line e)
not_read before now was unread failed k result (InputFault.NoMemory e) is raised = tt
not_read before now was unread failed k result InputFault.Reader is raised = raised ∙ ap (λ r. was || is_of_reader r) is ∙ or_true was

pub not_read_alone : {T : Type 0} (was unread failed : Bool) (result : Result T InputFault) (e : InputFault) → result ≡ Err e → unread ≡ (was || is_of_reader result) → WhyNotAnswered unread failed (fault_of_line e)
not_read_alone was unread failed result (InputFault.NoMemory e) is raised = tt
not_read_alone was unread failed result InputFault.Reader is raised = raised ∙ ap (λ r. was || is_of_reader r) is ∙ or_true was

-- ---- when a log is opened

-- a record that is read alone, or among others
pub of_script : (r : List ℕ) (e : KeepFault) → IsOfScript r e → IsOfReading (r ∷ []) e
of_script r (KeepFault.NoMemory e) of = tt
of_script r KeepFault.Record of = one_no_script r of
of_script r _ of = absurd of

pub read_among : (rs : List (List ℕ)) (r : List ℕ) (ss : List (List ℕ)) (e : KeepFault) → IsOfReading (r ∷ []) e → IsOfReading (rs ++ r ∷ ss) e
read_among rs r ss (KeepFault.NoMemory e) of = tt
read_among rs r ss KeepFault.Record of = no_script_among rs r ss of
read_among rs r ss _ of = absurd of

pub made_among : (rs : List (List ℕ)) (r : List ℕ) (ss : List (List ℕ)) (e : KeepFault) → IsOfAnew (r ∷ []) e → IsOfAnew (rs ++ r ∷ ss) e
made_among rs r ss (KeepFault.NoMemory e) of = tt
made_among rs r ss KeepFault.Record of = no_script_among rs r ss of
made_among rs r ss KeepFault.NoTimestamp of = tt
made_among rs r ss _ of = absurd of

pub script_anew : (r : List ℕ) (e : KeepFault) → IsOfScript r e → IsOfAnew (r ∷ []) e
script_anew r (KeepFault.NoMemory e) of = tt
script_anew r KeepFault.Record of = one_no_script r of
script_anew r _ of = absurd of

pub stopped_anew : (records : List (List ℕ)) (e : Stopped) → IsOfAnew records (fault_by e)
stopped_anew records (Stopped.NoMemory refused) = tt
stopped_anew records (Stopped.Refused why) = tt
stopped_anew records Stopped.Conflict = tt

-- a record that isn't read isn't named as a timestamp
pub script_is_right : (r : List ℕ) (state : StateOf) (e : KeepFault) → IsOfScript r e → IsRightOf state e
script_is_right r state (KeepFault.NoMemory e) of = tt
script_is_right r state KeepFault.Record of = tt
script_is_right r state _ of = absurd of

module _ (limit : ℕ) (records : List (List ℕ)) (old : KeptTable) (new : StateOf) where
  pub not_all_read : (e : KeepFault) → IsOfReading records e → WhyNotAllMade limit records old new e
  not_all_read (KeepFault.NoMemory e) of = tt
  not_all_read KeepFault.Record of = of
  not_all_read _ of = absurd of

  -- a fault in the midst of the changes of records
  pub why_left : (e : KeepFault) (made all : ℕ) → IsOfAnew records e → IsMadeInPart limit records old new made all → ((first : KeptTable) (before : List Writes) → Keeps limit first before old → IsRightOf new e)
      → WhyNotAllMade limit records old new (in_part e made all)
  why_left (KeepFault.NoMemory e) made all of part right = part
  why_left KeepFault.Record made all of part right = of
  why_left KeepFault.NoTimestamp made all of part right = record { changes = part.changes; reads = part.reads; texts = part.texts; out = right }
  why_left _ made all of part right = absurd of

-- none of them is what the log's file has
pub first_not_of_file : (observers : List ObserverOf) (records : List (List ℕ)) (e : KeepFault) → IsOfFirst observers records e → IsOfLogFile e → ⊥
first_not_of_file observers records (KeepFault.Log e) of file = of
first_not_of_file observers records _ of file = file

pub made_not_of_file : (limit : ℕ) (records : List (List ℕ)) (old : KeptTable) (new : StateOf) (e : KeepFault) → WhyNotAllMade limit records old new e → IsOfLogFile e → ⊥
made_not_of_file limit records old new (KeepFault.Log e) of file = of
made_not_of_file limit records old new _ of file = file

pub read_not_of_file : (records : List (List ℕ)) (e : KeepFault) → IsOfReading records e → IsOfLogFile e → ⊥
read_not_of_file records (KeepFault.Log e) of file = of
read_not_of_file records _ of file = file

module _ (reading : FilesHaveOneReading) (no_texts : SnapshotsAreNoTexts) (beginning : BeginningKeepsNone) where
  pub not_made_again : (limit : ℕ) (observers : List ObserverOf) (manifest : List ℕ) (before now since : ℕ) (file : List ℕ) (records scripts : List (List ℕ)) (first : KeptTable) (new : StateOf) → IsBegunWith observers records scripts since first
      → HasRecords (head limit manifest) records file → (e : KeepFault) → WhyNotAllMade limit scripts first new e → WhyNotMadeAgain limit observers manifest before now file new e
  not_made_again limit observers manifest before now since file records scripts first new b has (KeepFault.NoMemory e) of = tt
  not_made_again limit observers manifest before now since file records scripts first new b has (KeepFault.MadeInPart e made all) part = record {
    origin = origin_of limit manifest b.snapshot;
    limit_is = refl;
    manifest_is = refl;
    first = first;
    first_is = b.first_is;
    changes = part.changes;
    had = record { fits = b.fits; scripts = scripts; has = subst (λ rs. HasRecords (head limit manifest) rs file) b.records_are has; make = part.reads; texts = part.texts };
    all_is = part.all_is;
    done = part.done;
    rest = part.rest;
    parts = part.parts;
    reached = part.reached;
    keeps = λ past began. (part.keeps first [] (beginning limit past first began)).leads;
    left = part.left;
    made_is = part.made_is;
  }
  not_made_again limit observers manifest before now since file records scripts first new b has KeepFault.Record of =
      has_no_changes reading no_texts limit manifest file b.snapshot scripts b.taken_off (subst (λ rs. HasRecords (head limit manifest) rs file) b.records_are has) of
  not_made_again limit observers manifest before now since file records scripts first new b has KeepFault.NoTimestamp of = record {
    found = has_log limit observers manifest file records scripts since first of.changes b has of.reads of.texts;
    out = λ past began. of.out first [] (beginning limit past first began);
  }
  not_made_again limit observers manifest before now since file records scripts first new b has _ of = absurd of

pub not_begun : (limit : ℕ) (observers : List ObserverOf) (manifest : List ℕ) (before now : ℕ) (file : List ℕ) (records : List (List ℕ)) (new : StateOf) (e : KeepFault) → IsOfFirst observers records e → HasRecords (head limit manifest) records file → WhyNotMadeAgain limit observers manifest before now file new e
not_begun limit observers manifest before now file records new (KeepFault.NoMemory e) of has = tt
not_begun limit observers manifest before now file records new KeepFault.Snapshot of has = (records, has, of)
not_begun limit observers manifest before now file records new _ of has = absurd of
