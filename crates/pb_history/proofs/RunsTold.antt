-- What the history of a legal journal shows of runs and of reads.
use Rattle.std.proofs.Common.{◌≡◌, ℕ, ◌==◌, not, cond, Bool, inl, inr, true, false, List, [], ◌∷◌, Option, Some, None, refl, sym, ap, subst, ◌∙◌, arith}
use Rattle.std.proofs.lemmas.Bool.{eqb-true}
use Rattle.pb_history.specs.Words.{Cell, Content, Revision, Row, Ts, Reply, Talk, Means, JudgedOf, AreRunWrites, Meant, IsMeant, tells_old, record_by, RecordedRead, Declared, Work, Step, Answer, StateOf, opening, cells_of, ObserverOf, observed_cell, observed_column, acknowledgment, IsKnown, IsReadOf, old_at, WasOld, AreReplies, IsItsRun, MayDeclare, is_reading, asked_cell, read_up_to, stamp_of, value_in, found_answer, version_in, acknowledged_in, StepCase}
use Rattle.pb_history.specs.declared.entry.Entry.{Entry}
use Rattle.pb_history.specs.Journals.{JournalLeads, IsLegal}
use Rattle.pb_history.specs.TableView.{reads_recorded}
use Rattle.pb_history.specs.Sound.{IsSoundTable}
use Rattle.pb_history.specs.History.{Has, Member, InHistory, IsSnapshot, NoSnapshot}
use Rattle.pb_history.specs.ReadsTold.{TellsVersion, TellsReads}
use Rattle.pb_history.specs.RunsTold.{IsAcknowledgedAt, IsValueAt, AreRepliesAt, IsObserverRun, TellsRuns}
use Rattle.pb_history.proofs.JournalParts.{leads_around}
use Rattle.pb_history.proofs.Agreement.{Agrees}
use Rattle.pb_history.proofs.StepsAgree.{legal_agrees}
use Rattle.pb_history.proofs.HistoryTold.{is_committed}
use Rattle.pb_history.proofs.JournalsAreSound.{legal_sound}
use Rattle.pb_history.proofs.SnapshotsTold.{TellsRecorded, phase_in_view, recorded_tells}
use Rattle.pb_history.proofs.Acknowledgments.{acknowledged_by}

-- ---- reads

-- what a read is answered stands in the table when it is made
case_tells : (old : StateOf) (seat : ℕ) (step : Step) (answer : Answer) (new : StateOf) → StepCase old seat step answer new → TellsVersion old step answer
case_tells old seat step answer new c = grind arith

pub tells_reads : (observers : List ObserverOf) (seats clock : ℕ) (journal : List Entry) (state : StateOf) → IsLegal observers seats clock journal state → TellsReads observers seats clock journal
tells_reads observers seats clock journal state l = record {
  at = λ before e after is.
      let p = leads_around (opening observers seats clock) before e after state (subst (λ j. JournalLeads (opening observers seats clock) j state) is l.run) in
      record { state = p.0; run = p.1; tells = case_tells p.0 e.seat e.step e.answer p.2 p.3.taken };
}

-- ---- runs

-- the answer in which a version was found
found_is : (a : Answer) (v : Revision) → version_in a ≡ Some v → a ≡ found_answer v
found_is a v e = grind arith

-- what a run may declare
run_declared : (observers : List ObserverOf) (o : ℕ) (row : Row) (s : ℕ) (reads : List RecordedRead) (what : Declared) → MayDeclare observers (Work.Run o row) s reads what → (by : ℕ) × (f : Meant) × (what ≡ Declared.Run by f) × IsItsRun observers o row s reads f
run_declared observers o row s reads what may = grind arith

module _ (journal : List Entry) (state : StateOf) (a : Agrees journal state) (i : IsSoundTable state) where
  -- every read of a transaction of start s shows this of the history
  abbrev Tells : ℕ → RecordedRead → Type 0
  Tells s r = TellsRecorded state.observers journal (read_up_to s r.at) r.cell r.answer

  told_of : (s : ℕ) (r : RecordedRead) (x : Cell) (named : Option Ts) → IsReadOf r x named → Tells s r → TellsRecorded state.observers journal (read_up_to s named) x r.answer
  told_of s r x named is h = subst (λ z. TellsRecorded state.observers journal (read_up_to s z) x r.answer) is.at (subst (λ y. TellsRecorded state.observers journal (read_up_to s r.at) y r.answer) is.cell h)

  stamp_told : (s : ℕ) (o : ℕ) (row : Row) (answer : Answer) → TellsRecorded state.observers journal s (acknowledgment state.observers o row) answer → IsAcknowledgedAt state.observers journal s (acknowledgment state.observers o row) (acknowledged_in answer).0
  stamp_told s o row (Answer.Found start commit content) h =
      let k = acknowledged_by journal state a i h.m h.in_history o row (observed_column state.observers o) content h.writes in
      let is : content ≡ Content.Stamp (record { 0 = (stamp_of content).0 }) = k.stamp ∙ ap (λ z. Content.Stamp (record { 0 = (stamp_of z).0 })) (sym k.stamp) in
      inr (start.0, commit.0, subst (IsSnapshot state.observers journal s (acknowledgment state.observers o row) start.0 commit.0) is h)
  stamp_told s o row Answer.Absent h = inl (h, refl)
  stamp_told s o row _ h = absurd h

  value_told : (s : ℕ) (x : Cell) (answer : Answer) (value : Reply) → value ≡ value_in answer → TellsRecorded state.observers journal s x answer → IsValueAt state.observers journal s x value
  value_told s x answer value e h = grind arith

  replies_told : (s : ℕ) (asked : List RecordedRead) (talk : Talk) → AreReplies asked talk → ((r : RecordedRead) → Has asked r → Tells s r) → AreRepliesAt state.observers journal s talk
  replies_told s [] [] h t = tt
  replies_told s (r ∷ rs) (q ∷ talk) h t = (value_told s (asked_cell q.0) r.answer q.1 h.1 (told_of s r (asked_cell q.0) None h.0 (t r (inl refl))), replies_told s rs talk h.2 (λ z g. t z (inr g)))
  replies_told s [] (q ∷ talk) h t = absurd h
  replies_told s (r ∷ rs) [] h t = absurd h

  -- nothing is committed at 0
  none_at_zero : (x : Cell) → NoSnapshot state.observers journal 0 x
  none_at_zero x m k h w = let above = (i.stamped m.start m.commit (inr (phase_in_view journal state a i m h))).0 in omega arith

  -- the reads of the asks are among those after the first two
  are_behind : (named : Option Ts) (x : Cell) (rest : List RecordedRead) (old : Reply) (asked : List RecordedRead) → WasOld named x rest old asked → (r : RecordedRead) → Has asked r → Has rest r
  are_behind named x rest old asked was r h = grind arith

  -- what was read at the acknowledged timestamp, or nothing is acknowledged
  old_told : (s : ℕ) (x : Cell) (second : Bool) (stamp : Ts) (rest : List RecordedRead) (old : Reply) (asked : List RecordedRead) → WasOld (old_at second stamp) x rest old asked → ((r : RecordedRead) → Has rest r → Tells s r)
      → second ≡ true → IsValueAt state.observers journal stamp.0 x old
  old_told s x second stamp rest old asked was told is = by (stamp.0 == 0) refl (subst (λ b. WasOld (old_at b stamp) x rest old asked) is was)
    where
      by : (b : Bool) → (stamp.0 == 0) ≡ b → WasOld (cond (not b) (Some stamp) None) x rest old asked → IsValueAt state.observers journal stamp.0 x old
      by true e w = inl (subst (λ n. NoSnapshot state.observers journal n x) (sym (eqb-true stamp.0 0 e)) (none_at_zero x), w.0)
      by false e w = value_told stamp.0 x w.0.answer old w.2 (told_of s w.0 x (Some stamp) w.1 (told w.0 (subst (λ rs. Has rs w.0) (sym w.3) (inl refl))))

  -- a declared run of a transaction, in the words of the history
  run_is : (m : Member) (o : ℕ) (row : Row) (reads : List RecordedRead) (by : ℕ) (f : Meant) → ((r : RecordedRead) → Has reads r → Tells m.start r) → IsItsRun state.observers o row m.start reads f → IsMeant f × AreRunWrites f.writes
      → m.writes ≡ cells_of state.observers (Work.Run o row) m.start (Declared.Run by f) → IsObserverRun state.observers journal m o row
  run_is m o row reads by f told own known writes =
      let was = own.was in
      let x = observed_cell state.observers o row in
      let ack = acknowledgment state.observers o row in
      let all : (r : RecordedRead) → Has (was.found_by ∷ was.acknowledged_by ∷ was.rest) r → Tells m.start r = λ r h. told r (subst (λ rs. Has rs r) (sym was.reads_are) h) in
      let stamp : own.seen.acknowledged ≡ acknowledged_in was.acknowledged_by.answer = was.acknowledged in
      record {
        observer = own.observer;
        observer_is = own.observer_is;
        version = own.seen.version;
        found = subst (TellsRecorded state.observers journal m.start x) (found_is was.found_by.answer own.seen.version was.found) (told_of m.start was.found_by x None was.observed (all was.found_by (inl refl)));
        acknowledged = own.seen.acknowledged.0;
        acknowledges = subst (λ (t : Ts). IsAcknowledgedAt state.observers journal m.start ack t.0) (sym stamp) (stamp_told m.start o row was.acknowledged_by.answer (told_of m.start was.acknowledged_by ack None was.acknowledgment (all was.acknowledged_by (inr (inl refl)))));
        newer = own.newer;
        old = own.seen.old;
        old_is = old_told m.start x (tells_old own.observer.program) own.seen.acknowledged was.rest own.seen.old own.asked was.old (λ r h. all r (inr (inr h)));
        talk = f.talk;
        replied = replies_told m.start own.asked f.talk own.replied (λ r h. all r (inr (inr (are_behind (old_at (tells_old own.observer.program) own.seen.acknowledged) x was.rest own.seen.old own.asked was.old r h))));
        result = f.result;
        writes = f.writes;
        meaning = means_by f own.observer.program (record_by (tells_old own.observer.program) x own.seen.version own.seen.acknowledged.0 own.seen.old) m.start own.program own.bytes own.start known.0;
        few = known.1;
        writes_are = writes;
      }
    where
      means_by : (f : Meant) (p : JudgedOf) (bytes : List ℕ) (s : ℕ) → f.judged ≡ p → f.bytes ≡ bytes → f.start ≡ s → IsMeant f → Means p bytes s f.talk f.result f.writes
      means_by f p bytes s e g h m = subst (λ z. Means p bytes z f.talk f.result f.writes) h (subst (λ z. Means p z f.start f.talk f.result f.writes) g (subst (λ z. Means z f.bytes f.start f.talk f.result f.writes) e m))

  pub run_of_member : (m : Member) (o : ℕ) (row : Row) → InHistory state.observers journal m → m.work ≡ Work.Run o row → IsObserverRun state.observers journal m o row
  run_of_member m o row h work =
      let c = is_committed journal state a m h in
      let l = a.logged m.start c.t c.there in
      let past : is_reading c.t.phase ≡ false = ap is_reading c.phase in
      let d = l.declared past in
      let mine : c.t.work ≡ Work.Run o row = sym c.work ∙ work in
      let may = subst (λ w. MayDeclare state.observers w m.start c.t.reads d.0) mine d.4 in
      let r = run_declared state.observers o row m.start c.t.reads d.0 may in
      let known = subst IsKnown r.2 d.3 in
      run_is m o row c.t.reads r.0 r.1
      (λ q g. recorded_tells journal state a i m.start q.cell q.at q.answer (subst (λ o. Has (reads_recorded o) q) (sym c.there) g))
      r.3 known (c.writes ∙ d.2 ∙ (λ j. cells_of state.observers (mine j) m.start (r.2 j)))

pub tells_runs : (observers : List ObserverOf) (seats clock : ℕ) (journal : List Entry) (state : StateOf) → IsLegal observers seats clock journal state → TellsRuns journal state
tells_runs observers seats clock journal state l = record { run = run_of_member journal state (legal_agrees observers seats clock journal state l) (legal_sound observers seats clock journal state l) }
