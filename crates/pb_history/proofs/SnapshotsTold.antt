-- The committed transactions of a legal journal are a history of snapshots.
use Rattle.std.proofs.Common.{◌≡◌, ◌≢◌, ℕ, ◌<◌, ◌≤◌, ◌⊎◌, inl, inr, List, [], ◌∷◌, Option, Some, None, refl, sym, ap, subst, ◌∙◌, arith, option_map}
use Rattle.pb_history.specs.Words.{Cell, Content, Ts, content_in, Phase, RecordedRead, Step, Answer, ObserverOf, read_up_to, StateOf, TransactionOf, lock_at, write_at}
use Rattle.pb_history.specs.declared.entry.Entry.{Entry}
use Rattle.pb_history.specs.Journals.{JournalLeads, IsLegal}
use Rattle.pb_history.specs.History.{Has, IsEntry, Member, InHistory, WritesTo, IsSnapshot, NoSnapshot}
use Rattle.pb_history.specs.TableView.{declared_by, reads_recorded, view_of}
use Rattle.pb_history.specs.Sound.{IsSoundTable}
use Rattle.pb_history.specs.SnapshotsTold.{TellsSnapshot, TellsSnapshots}
use Rattle.pb_history.specs.WritersTold.{DoNotOverlap, TellsWriters}
use Rattle.pb_history.specs.RecordsTold.{WroteAt, TellsRecords}
use Rattle.pb_history.proofs.Agreement.{read_of, Agrees}
use Rattle.pb_history.proofs.StepsAgree.{legal_agrees}
use Rattle.pb_history.proofs.HistoryTold.{is_committed, is_member}
use Rattle.pb_history.proofs.PhasesKeepSound.{committed_at}
use Rattle.pb_history.proofs.JournalsAreSound.{legal_sound}

-- the transaction of a phase
transaction_there : (o : Option TransactionOf) (h : Phase) → option_map (λ (t : TransactionOf). t.phase) o ≡ Some h → (t : TransactionOf) × (o ≡ Some t) × (t.phase ≡ h)
transaction_there o h e = grind arith

-- what a recorded read returned
abbrev pub TellsRecorded : List ObserverOf → List Entry → ℕ → Cell → Answer → Type 0
TellsRecorded observers journal s x (Answer.Found start commit content) = IsSnapshot observers journal s x start.0 commit.0 content
TellsRecorded observers journal s x Answer.Absent = NoSnapshot observers journal s x
TellsRecorded observers journal s x _ = ⊥

module _ (journal : List Entry) (state : StateOf) (a : Agrees journal state) (i : IsSoundTable state) where
  pub phase_in_view : (m : Member) → InHistory state.observers journal m → (view_of state).phase m.start ≡ Some (committed_at m.commit)
  phase_in_view m h = let k = is_committed journal state a m h in ap (option_map (λ (t : TransactionOf). t.phase)) k.there ∙ ap Some k.phase

  pub content_in_view : (m : Member) → InHistory state.observers journal m → (x : Cell) → (view_of state).content m.start x ≡ content_in m.writes x
  content_in_view m h x = let k = is_committed journal state a m h in ap (λ o. content_in (declared_by o) x) k.there ∙ ap (λ ws. content_in ws x) (sym k.writes)

  -- ---- what stands

  pub stands_at : (m : Member) → InHistory state.observers journal m → (x : Cell) (k : Content) → WritesTo m x k → (write_at state.entries x m.commit ≡ Some m.start) ⊎ ((p : Cell) × (lock_at state.entries x m.start ≡ Some p))
  stands_at m h x k w = i.stands m.start m.commit x k (phase_in_view m h) (content_in_view m h x ∙ w)

  pub written_by : (x : Cell) (c s : ℕ) → write_at state.entries x c ≡ Some s → WroteAt state.observers journal x c s
  written_by x c s e =
      let t = transaction_there _ (committed_at c) (i.record_committed x c s e) in
      let m : Member = record { start = s; commit = c; seat = t.0.seat; work = t.0.work; writes = t.0.declared } in
      let h = is_member journal state a m (record { t = t.0; there = t.1; phase = t.2; seat = refl; work = refl; writes = refl }) in
      let k = i.was_declared s x (i.record_prewritten x c s e) in
      record { m = m; in_history = h; start_is = refl; commit_is = refl; content = k.0; writes = sym (content_in_view m h x) ∙ k.1 }

  records : TellsRecords journal state
  records = record {
    stands = stands_at;
    written = written_by;
    uncommitted = λ s none x c e. let w = written_by x c s e in none w.m w.in_history w.start_is;
  }

  -- ---- two writers

  pub no_writers_overlap : (m n : Member) → InHistory state.observers journal m → InHistory state.observers journal n → m.start ≢ n.start → (x : Cell) (j k : Content) → WritesTo m x j → WritesTo n x k → DoNotOverlap m n
  no_writers_overlap m n hm hn other x j k wm wn = elim (stands_at m hm x j wm) [
    | inl p ↦ grind (arith, stands_at, i.apart, m.commit, m.start, n.commit, n.start, i.behind_lock)
    | inr p ↦ grind (arith, stands_at, m.start, n.commit, n.start, i.behind_lock, i.one_lock)
  ]

  -- ---- reads

  -- a transaction that writes x with a commit at most the timestamp that s has read x at has its write record
  recorded : (s : ℕ) (r : RecordedRead) → Has ((view_of state).reads s) r → (m : Member) (k : Content) → InHistory state.observers journal m → WritesTo m r.cell k → m.commit ≤ read_up_to s r.at → write_at state.entries r.cell m.commit ≡ Some m.start
  recorded s r is m k h w l =
      elim (i.settled s r m.start m.commit k is (inr (phase_in_view m h)) l (content_in_view m h r.cell ∙ w)) [
        | inl q ↦ q
        | inr q ↦ absurd (q.0 (phase_in_view m h))
      ]

  found_at : (s : ℕ) (x : Cell) (at : Option Ts) (start commit : Ts) (content : Content) → Has ((view_of state).reads s) (record { cell = x; at = at; answer = Answer.Found start commit content }) → IsSnapshot state.observers journal (read_up_to s at) x start.0 commit.0 content
  found_at s x at start commit content is =
      let r : RecordedRead = record { cell = x; at = at; answer = Answer.Found start commit content } in
      let t = i.tells s r is in
      let w = written_by x commit.0 start.0 t.1 in
      let kept_there : (view_of state).stored x start.0 ≡ (view_of state).content start.0 x = i.record_data x commit.0 start.0 t.1 in
      record {
        m = w.m;
        in_history = w.in_history;
        start_is = w.start_is;
        commit_is = w.commit_is;
        writes = sym (content_in_view w.m w.in_history x) ∙ ap (λ z. (view_of state).content z x) w.start_is ∙ sym kept_there ∙ t.2;
        seen = t.0;
        greatest = λ n k h v l. t.3 n.commit n.start l (recorded s r is n k h v l);
      }

  absent_at : (s : ℕ) (x : Cell) (at : Option Ts) → Has ((view_of state).reads s) (record { cell = x; at = at; answer = Answer.Absent }) → NoSnapshot state.observers journal (read_up_to s at) x
  absent_at s x at is n k h w =
      let r : RecordedRead = record { cell = x; at = at; answer = Answer.Absent } in
      let t = i.tells s r is in
      elim (below n.commit (read_up_to s at)) [ inl l ↦ absurd (t n.commit n.start l (recorded s r is n k h w l)) | inr l ↦ l ]
    where
      below : (a b : ℕ) → (a ≤ b) ⊎ (b < a)
      below a b = grind arith

  -- a read that is recorded found a version, or none
  pub recorded_tells : (s : ℕ) (x : Cell) (at : Option Ts) (answer : Answer) → Has ((view_of state).reads s) (record { cell = x; at = at; answer = answer }) → TellsRecorded state.observers journal (read_up_to s at) x answer
  recorded_tells s x at answer is = grind (arith, found_at, absent_at)

  read_tells : (seat : ℕ) (s : Ts) (x : Cell) (answer : Answer) → IsEntry journal seat (Step.Read s x) answer → TellsSnapshot state.observers journal s.0 x answer
  read_tells seat s x (Answer.Found start commit content) e = let told = a.told _ e in found_at s.0 x None start commit content (subst (λ o. Has (reads_recorded o) (read_of x None (Answer.Found start commit content))) (sym told.1) told.2)
  read_tells seat s x Answer.Absent e = let told = a.told _ e in absent_at s.0 x None (subst (λ o. Has (reads_recorded o) (read_of x None Answer.Absent)) (sym told.1) told.2)
  read_tells seat s x _ e = tt

  read_at_tells : (seat : ℕ) (s : Ts) (x : Cell) (t : Ts) (answer : Answer) → IsEntry journal seat (Step.ReadAt s x t) answer → TellsSnapshot state.observers journal t.0 x answer
  read_at_tells seat s x t (Answer.Found start commit content) e = let told = a.told _ e in found_at s.0 x (Some t) start commit content (subst (λ o. Has (reads_recorded o) (read_of x (Some t) (Answer.Found start commit content))) (sym told.1) told.2)
  read_at_tells seat s x t Answer.Absent e = let told = a.told _ e in absent_at s.0 x (Some t) (subst (λ o. Has (reads_recorded o) (read_of x (Some t) Answer.Absent)) (sym told.1) told.2)
  read_at_tells seat s x t _ e = tt

-- a read at a timestamp names none above its transaction's start, else it is refused
reads_in_time : (old : StateOf) (journal : List Entry) (new : StateOf) → JournalLeads old journal new → (seat : ℕ) (s : Ts) (x : Cell) (t : Ts) (answer : Answer) → IsEntry journal seat (Step.ReadAt s x t) answer → t.0 ≤ s.0
reads_in_time old [] new r seat s x t answer e = absurd e
reads_in_time old (d ∷ ds) new r seat s x t answer (inl is) = grind arith
reads_in_time old (d ∷ ds) new r seat s x t answer (inr later) = reads_in_time r.0 ds new r.2 seat s x t answer later

module _ (observers : List ObserverOf) (seats clock : ℕ) (journal : List Entry) (state : StateOf) (l : IsLegal observers seats clock journal state) where
  pub tells_snapshots : TellsSnapshots journal state
  tells_snapshots = grind (arith, read_tells, legal_agrees, legal_sound, read_at_tells, reads_in_time, l.run)

  pub tells_writers : TellsWriters journal state
  tells_writers = record { apart = no_writers_overlap journal state (legal_agrees observers seats clock journal state l) (legal_sound observers seats clock journal state l) }

  pub tells_records : TellsRecords journal state
  tells_records = records journal state (legal_agrees observers seats clock journal state l) (legal_sound observers seats clock journal state l)
