-- The reads of a committed run at a timestamp, by what it declared.
use Rattle.std.proofs.Common.{◌≡◌, ℕ, Bool, true, false, not, ◌==◌, if◌then◌else◌, inl, inr, List, [], ◌∷◌, Option, Some, None, refl, sym, ap, subst, ◌∙◌}
use Rattle.std.proofs.lemmas.Bool.{eqb-true, eq-eqb}
use Rattle.law_journals.specs.Words.{Cell, Content, Row, Ts, Reply, Talk, tells_old, ObserverOf, observed_cell, observed_column, acknowledgment, Meant, RecordedRead, Answer, Declared, Step, Work, IsReadOf, old_at, WasOld, AreReplies, IsItsRun, MayDeclare, is_reading, acknowledged_in, stamp_of, read_up_to, StateOf, TransactionOf, Entry, Has, IsEntry, Member, InHistory, IsSnapshot, IsSoundTable, reads_recorded}
use Rattle.pb_history.proofs.Agreement.{got, read_of, ts, Agrees}
use Rattle.pb_history.proofs.StepsAgree.{legal_agrees}
use Rattle.pb_history.proofs.HistoryTold.{is_committed}
use Rattle.pb_history.proofs.JournalsAreSound.{legal_sound}
use Rattle.pb_history.proofs.SnapshotsTold.{TellsRecorded, recorded_tells}
use Rattle.pb_history.proofs.Acknowledgments.{acknowledged_by}
use Rattle.law_journals.specs.LooksBack.{IsAnswered, LooksBackTo, RunsLookBackToTheirAcknowledgment}

-- what a program asked for was read at the start
asked_at_start : (asked : List RecordedRead) (talk : Talk) → AreReplies asked talk → (r : RecordedRead) → Has asked r → r.at ≡ None
asked_at_start [] talk h r e = absurd e
asked_at_start (q ∷ qs) [] h r e = absurd h
asked_at_start (q ∷ qs) (a ∷ talk) h r (inl is) = ap (λ (z : RecordedRead). z.at) (sym is) ∙ h.0.at
asked_at_start (q ∷ qs) (a ∷ talk) h r (inr later) = asked_at_start qs talk h.2 r later

-- after the first two reads, one that named a timestamp is that of the value of before
named_is_old : (named : Option Ts) (x : Cell) (rest : List RecordedRead) (old : Reply) (asked : List RecordedRead) (talk : Talk) → WasOld named x rest old asked → AreReplies asked talk
    → (r : RecordedRead) (t : Ts) → Has rest r → r.at ≡ Some t → (named ≡ Some t) × (r.cell ≡ x)
named_is_old None x rest old asked talk w h r t e at =
    let none = asked_at_start asked talk h r (subst (λ rs. Has rs r) w.1 e) in
    absurd cc
named_is_old (Some a) x rest old asked talk w h r t e at = by (subst (λ rs. Has rs r) w.3 e)
  where
    by : Has (w.0 ∷ asked) r → (Some a ≡ Some t) × (r.cell ≡ x)
    by (inl is) = (sym w.1.at ∙ ap (λ (z : RecordedRead). z.at) is ∙ at, ap (λ (z : RecordedRead). z.cell) (sym is) ∙ w.1.cell)
    by (inr later) = let none = asked_at_start asked talk h r later in absurd cc

-- a run reads the value of before at what is acknowledged, where something is
old_is_acknowledged : (second : Bool) (a t : Ts) → old_at second a ≡ Some t → (second ≡ true) × (a ≡ t) × (a.0 ≡ 0 → ⊥)
old_is_acknowledged false a t e = absurd cc
old_is_acknowledged true a t e = by (a.0 == 0) refl e
  where
    by : (b : Bool) → (a.0 == 0) ≡ b → (if not b then Some a else None) ≡ Some t → (true ≡ true) × (a ≡ t) × (a.0 ≡ 0 → ⊥)
    by true is f = absurd cc
    by false is f = (refl, cc, λ z. let zero = eq-eqb a.0 0 z in absurd cc)

-- of the reads of a run, one that named a timestamp is of its cell at what is acknowledged, for a record of version 2
named_read : (observers : List ObserverOf) (o : ℕ) (row : Row) (s : ℕ) (reads : List RecordedRead) (f : Meant) (own : IsItsRun observers o row s reads f) (r : RecordedRead) (t : Ts) → Has reads r → r.at ≡ Some t
    → (tells_old own.observer.program ≡ true) × (own.seen.acknowledged ≡ t) × (own.seen.acknowledged.0 ≡ 0 → ⊥) × (r.cell ≡ observed_cell observers o row)
named_read observers o row s reads f own r t e at = by (subst (λ rs. Has rs r) own.was.reads_are e)
  where
    by : Has (own.was.found_by ∷ own.was.acknowledged_by ∷ own.was.rest) r → (tells_old own.observer.program ≡ true) × (own.seen.acknowledged ≡ t) × (own.seen.acknowledged.0 ≡ 0 → ⊥) × (r.cell ≡ observed_cell observers o row)
    by (inl is) = let none : r.at ≡ None = ap (λ (z : RecordedRead). z.at) (sym is) ∙ own.was.observed.at in absurd cc
    by (inr (inl is)) = let none : r.at ≡ None = ap (λ (z : RecordedRead). z.at) (sym is) ∙ own.was.acknowledgment.at in absurd cc
    by (inr (inr later)) =
        let named = named_is_old (old_at (tells_old own.observer.program) own.seen.acknowledged) (observed_cell observers o row) own.was.rest own.seen.old own.asked f.talk own.was.old own.replied r t later at in
        let is = old_is_acknowledged (tells_old own.observer.program) own.seen.acknowledged t named.0 in
        (is.0, is.1, is.2, named.1)

-- the second read of a run is that of its acknowledgment
second_read : (observers : List ObserverOf) (o : ℕ) (row : Row) (s : ℕ) (reads : List RecordedRead) (f : Meant) (own : IsItsRun observers o row s reads f) → Has reads own.was.acknowledged_by
second_read observers o row s reads f own = subst (λ rs. Has rs own.was.acknowledged_by) (sym own.was.reads_are) (inr (inl refl))

module _ (journal : List Entry) (state : StateOf) (g : Agrees journal state) (i : IsSoundTable state) where
  -- a stamp other than 0 that was read from an acknowledgment is its snapshot
  stamp_is : (s : ℕ) (o : ℕ) (row : Row) (answer : Answer) → TellsRecorded state.observers journal s (acknowledgment state.observers o row) answer → ((acknowledged_in answer).0 ≡ 0 → ⊥)
      → (by : ℕ) × (at : ℕ) × IsSnapshot state.observers journal s (acknowledgment state.observers o row) by at (Content.Stamp (acknowledged_in answer))
  stamp_is s o row (Answer.Found start commit content) h some =
      let k = acknowledged_by journal state g i h.m h.in_history o row (observed_column state.observers o) content h.writes in
      let is : content ≡ Content.Stamp (stamp_of content) = k.stamp ∙ ap (λ z. Content.Stamp (stamp_of z)) (sym k.stamp) in
      (start.0, commit.0, subst (IsSnapshot state.observers journal s (acknowledgment state.observers o row) start.0 commit.0) is h)
  stamp_is s o row Answer.Absent h some = absurd (some refl)
  stamp_is s o row _ h some = absurd h

  -- a read that named no timestamp is of the snapshot at the start
  read_at_start : (s : ℕ) (r : RecordedRead) (x : Cell) → IsReadOf r x None → TellsRecorded state.observers journal (read_up_to s r.at) r.cell r.answer → TellsRecorded state.observers journal s x r.answer
  read_at_start s r x is h = subst (λ n. TellsRecorded state.observers journal (read_up_to s n) x r.answer) is.at (subst (λ y. TellsRecorded state.observers journal (read_up_to s r.at) y r.answer) is.cell h)

  -- a read at a timestamp that was answered is one that its transaction recorded
  is_recorded : (seat s : ℕ) (x : Cell) (t : Ts) (answer : Answer) → IsEntry journal seat (Step.ReadAt (ts s) x t) answer → IsAnswered answer → Has (reads_recorded (got state s)) (read_of x (Some t) answer)
  is_recorded seat s x t (Answer.Found start commit content) e is = let told = g.told _ e in subst (λ o. Has (reads_recorded o) (read_of x (Some t) (Answer.Found start commit content))) (sym told.1) told.2
  is_recorded seat s x t Answer.Absent e is = let told = g.told _ e in subst (λ o. Has (reads_recorded o) (read_of x (Some t) Answer.Absent)) (sym told.1) told.2
  is_recorded seat s x t _ e is = absurd is

  recorded_in : (s : ℕ) (r : RecordedRead) (u : TransactionOf) → got state s ≡ Some u → Has (reads_recorded (got state s)) r → Has u.reads r
  recorded_in s r u there h = subst (λ o. Has (reads_recorded o) r) there h

  recorded_by : (s : ℕ) (r : RecordedRead) (u : TransactionOf) → got state s ≡ Some u → Has u.reads r → Has (reads_recorded (got state s)) r
  recorded_by s r u there h = subst (λ o. Has (reads_recorded o) r) (sym there) h

  same_stamp : (s : ℕ) (x : Cell) (by at : ℕ) (a t : Ts) → a ≡ t → IsSnapshot state.observers journal s x by at (Content.Stamp a) → IsSnapshot state.observers journal s x by at (Content.Stamp t)
  same_stamp s x by at a t e h = subst (λ u. IsSnapshot state.observers journal s x by at (Content.Stamp u)) e h

  own_run : (o : ℕ) (row : Row) (s : ℕ) (reads : List RecordedRead) (what : Declared) → MayDeclare state.observers (Work.Run o row) s reads what → (f : Meant) × IsItsRun state.observers o row s reads f
  own_run o row s reads (Declared.Script batch) may = absurd may
  own_run o row s reads (Declared.Run by f) may = (f, may.1)

  look_back_in : (m : Member) (o : ℕ) (row : Row) → InHistory state.observers journal m → m.work ≡ Work.Run o row → (seat : ℕ) (x : Cell) (t : Ts) (answer : Answer) → IsEntry journal seat (Step.ReadAt (ts m.start) x t) answer → IsAnswered answer
      → LooksBackTo state.observers journal m.start o row x t
  look_back_in m o row h work seat x t answer e told =
      let c = is_committed journal state g m h in
      let d = (g.logged m.start c.t c.there).declared (ap is_reading c.phase) in
      let run = own_run o row m.start c.t.reads d.0 (subst (λ w. MayDeclare state.observers w m.start c.t.reads d.0) (sym c.work ∙ work) d.4) in
      let own = run.1 in
      let has = recorded_in m.start (read_of x (Some t) answer) c.t c.there (is_recorded seat m.start x t answer e told) in
      let named = named_read state.observers o row m.start c.t.reads run.0 own (read_of x (Some t) answer) t has refl in
      let second = own.was.acknowledged_by in
      let there = recorded_by m.start second c.t c.there (second_read state.observers o row m.start c.t.reads run.0 own) in
      let its = read_at_start m.start second (acknowledgment state.observers o row) own.was.acknowledgment (recorded_tells journal state g i m.start second.cell second.at second.answer there) in
      let stamp = stamp_is m.start o row second.answer its (λ z. named.2 (ap (λ (u : Ts). u.0) own.was.acknowledged ∙ z)) in
      record {
        observer = own.observer;
        observer_is = own.observer_is;
        second = eqb-true own.observer.program.record_size 120 named.0;
        cell = named.3;
        by = stamp.0;
        at = stamp.1;
        acknowledged = same_stamp m.start (acknowledgment state.observers o row) stamp.0 stamp.1 (acknowledged_in second.answer) t (sym own.was.acknowledged ∙ named.1) stamp.2;
      }

pub look_back : RunsLookBackToTheirAcknowledgment
look_back observers seats clock journal state l = look_back_in journal state (legal_agrees observers seats clock journal state l) (legal_sound observers seats clock journal state l)
