-- What stands of a table in each generation, and that it goes on: as opened, with each step, in a table that begins anew, and in one
-- with other observers.
use Rattle.std.proofs.Common.{◌≡◌, ℕ, ◌<◌, ◌≤◌, arith, inl, inr, Bool, true, false, not, cond, List, [], ◌∷◌, ◌++◌, length, Some, None, refl, sym, ap, subst, ◌∙◌, is_some, slice_get, option_map, append-nil, length-append}
use Rattle.std.proofs.lemmas.Bool.{cases_lt}
use Rattle.std.proofs.lemmas.List.Elements.{filter-append}
use Rattle.std.proofs.lemmas.Option.{none-some}
use Rattle.std.specs.FinMap as map
use Rattle.std.specs.Ordering.{nat_cmp}
use Rattle.pb_generations.specs.Words.{cell_cmp, Cell, Content, Revision, Row, Ts, ObserverOf, Entries, stamp_of, is_marked, slot_at, slot_cmp, Sort, IsVersion, data_at, last_timestamp, lock_at, primary_of, start_of, write_at, StateOf, Transactions, opening, TableStep, Answer, Step, IsQuiet, IsLegal, HasData, SoundHasData, IsSoundTable, Entry, HasMoreObservers, IsMarkedBehind}
use Rattle.pb_history.proofs.Agreement.{Agrees}
use Rattle.pb_history.proofs.JournalParts.{one_more}
use Rattle.pb_history.proofs.JournalsAreSound.{legal_sound}
use Rattle.pb_history.proofs.MarksCover.{observed_one, stamp_is}
use Rattle.pb_history.proofs.StepsAgree.{legal_agrees}
use Rattle.pb_history.proofs.TransactionAfter.{case_observers}
use Rattle.pb_history.proofs.Updates.{none_if}
use Rattle.pb_generations.specs.Chosen.{AreChosen, IsChosenSnapshot, chosen_state, new_number}
use Rattle.pb_generations.specs.KeptTables.{AreCovered, IsStepOfJob, ReadsAcknowledged}
use Rattle.pb_generations.specs.LateSteps.{Carries, IsServedStep, NamesLate, ServesAt, StepsCarryOver}
use Rattle.pb_generations.specs.LeftOut.{AnswersKnown, GoesWithOthers, LacksOthers, MarksMissNothing, NamesKnown, OthersAreNeverMissed, OthersAreNeverNamed, OthersMayBeLeftOut, SnapshotsServeWithoutOthers, is_known_cell, without_others}
use Rattle.pb_generations.specs.Mirrored.{IsMirroredBy, IsUnlocked, IsPartOf, QuietMirrorsItself, SameVersion, carried, unmarked}
use Rattle.pb_generations.specs.Renumbered.{IsRenumbered, JournalsMayBeRenumbered, renumbered_cell, renumbered_journal}
use Rattle.pb_generations.specs.SameButMarks.{IsLegalButMarks, SameButMarks, is_of_marks, without_marks}
use Rattle.pb_generations.specs.Snapshots.{AreAcknowledgedLate, AreEnded, IsSnapshotOf, ServeAcknowledged, ShowsViewed, SnapshotsCarryOver}
use Rattle.pb_generations.proofs.AcknowledgedReads.{AcknowledgeLate, acknowledged_at}
use Rattle.pb_generations.proofs.BehindMarks.{marked_covered, written_there}
use Rattle.pb_generations.proofs.ChosenNumbers.{numbers_one_to_one, numbers_stand, renumbered_same}
use Rattle.pb_generations.proofs.ChosenSnapshots.{both_covered, chosen_shows, chosen_within}
use Rattle.pb_generations.proofs.HistoryButMarks.{same_entry, same_on}
use Rattle.pb_generations.proofs.JoinedJournals.{journal_observers}
use Rattle.pb_generations.proofs.KnownEntries.{known_nothing}
use Rattle.pb_generations.proofs.KnownMarks.{covered_after, covered_marks, whole_unlocked}
use Rattle.pb_generations.proofs.LateStarts.{AreUnseated, late_names, unseated_after}
use Rattle.pb_generations.proofs.LeanTables.{known_ack, lean_record, lean_version, same_clock, version_there, whole_record, whole_stored}
use Rattle.pb_generations.proofs.LongerLists.{stay_in_front}
use Rattle.pb_generations.proofs.SameVersions.{same_later}
use Rattle.pb_generations.proofs.ServingSnapshots.{legal_bounded, record_by_clock, snapshot_shows}

-- What holds of each generation: what is stated, and that earlier transactions are of no seat, and that what was kept serves for
-- reads at what the observers had acknowledged when it began.
pub record Stands (observers gone : List ObserverOf) (seats clock c : ℕ) (journal : List Entry) (now : StateOf) : Type 0 where
  pub whole : StateOf
  pub lean : StateOf
  pub entries : Entries
  pub transactions : Transactions
  pub legal : IsLegalButMarks (observers ++ gone) seats clock journal whole
  pub lacks : LacksOthers c gone whole lean
  pub mirrors : IsMirroredBy c lean entries transactions
  pub within : IsPartOf lean.entries entries
  pub now_is : now ≡ carried lean entries transactions
  pub observers_are : lean.observers ≡ observers
  pub unseated : AreUnseated c (carried lean entries transactions)
  pub acknowledged : ServeAcknowledged observers c lean.entries entries
  pub covered : AreCovered observers lean.marks whole.entries

-- the laws that it rests on
pub record Laws : Type 0 where
  pub itself : QuietMirrorsItself
  pub steps : StepsCarryOver
  pub over : SnapshotsCarryOver
  pub begin : OthersMayBeLeftOut
  pub missed : OthersAreNeverMissed
  pub named : OthersAreNeverNamed
  pub marks : MarksMissNothing
  pub serve : SnapshotsServeWithoutOthers
  pub renumber : JournalsMayBeRenumbered
  pub has : SoundHasData

-- a step that names none and reads at no timestamp but such is served
served : (c : ℕ) (whole : Entries) (old : StateOf) (step : Step) → NamesLate c step → ((s : Ts) (x : Cell) (t : Ts) → step ≡ Step.ReadAt s x t → ServesAt c whole old.entries x t.0) → IsServedStep c whole old step
served c whole old (Step.ReadAt s x t) late reads = (late, reads s x t refl)
served c whole old _ late reads = late

-- a journal stays the same but for steps of marks where one of these is added
same_with_mark : (a b : List Entry) (e : Entry) → is_of_marks e.step ≡ true → SameButMarks a b → SameButMarks a (b ++ e ∷ [])
same_with_mark a b e of same =
    same
    ∙ sym (append-nil (without_marks b))
    ∙ ap (λ (l : List Entry). without_marks b ++ l) (sym (ap (λ (k : Bool). cond (not k) (e ∷ []) []) of))
    ∙ sym (filter-append (λ (d : Entry). not (is_of_marks d.step)) b (e ∷ []))

-- ---- as opened

module _ (laws : Laws) (observers : List ObserverOf) (seats clock : ℕ) (room : clock < last_timestamp) where
  abbrev start : StateOf
  start = opening observers seats clock

  abbrev first : StateOf
  first = opening (observers ++ []) seats clock

  no_lock_at_first : (x : Cell) (u : ℕ) → primary_of (map.get start.entries (slot_at x Sort.Lock u)) ≡ None
  no_lock_at_first x u = ap primary_of (map.get-empty slot_cmp (slot_at x Sort.Lock u))

  no_record_at_first : (x : Cell) (u s : ℕ) → write_at start.entries x u ≡ Some s → ⊥
  no_record_at_first x u s is = none-some s (sym (ap start_of (map.get-empty slot_cmp (slot_at x Sort.Write u))) ∙ is)

  legal_first : (os : List ObserverOf) → IsLegal os seats clock [] (opening os seats clock)
  legal_first os = record { fits = omega (arith, room); run = refl }

  quiet_at_first : IsQuiet start
  quiet_at_first = record { unmarked = λ x. ap is_some (map.get-empty cell_cmp x); unlocked = λ x u fits. no_lock_at_first x u }

  lacks_at_first : LacksOthers clock [] first start
  lacks_at_first =
      subst (λ (e : Entries). LacksOthers clock [] first (record start { entries = e })) (known_nothing (length observers))
      (laws.begin observers [] first map.empty (legal_sound (observers ++ []) seats clock [] first (legal_first (observers ++ []))) (λ x u fits. no_lock_at_first x u) refl)

  pub at_first : Stands observers [] seats clock clock [] start
  at_first = record {
    whole = first;
    lean = start;
    entries = map.empty;
    transactions = map.empty;
    legal = record { past = []; same = refl; legal = legal_first (observers ++ []) };
    lacks = lacks_at_first;
    mirrors = laws.itself start (legal_sound observers seats clock [] start (legal_first observers)) quiet_at_first room;
    within = record { records = λ x d s there. there; stored = λ x s k there. there };
    now_is = refl;
    observers_are = refl;
    unseated = λ u t there low. absurd (none-some t (sym (map.get-empty nat_cmp u) ∙ there));
    acknowledged = λ x t a. absurd (no_record_at_first (Cell.Ack a.o a.row a.observer.column) a.w.commit.0 a.w.start.0 a.is.written);
    covered = λ o observer there row unmarked d u is. absurd (no_record_at_first (Cell.Data row observer.column) d u is);
  }

-- ---- what stands goes on

module _ (laws : Laws) (observers gone : List ObserverOf) (seats clock c : ℕ) (journal : List Entry) (old : StateOf) (h : Stands observers gone seats clock c journal old) where
  abbrev kept : StateOf
  kept = carried h.lean h.entries h.transactions

  agrees : Agrees h.legal.past h.whole
  agrees = legal_agrees (observers ++ gone) seats clock h.legal.past h.whole h.legal.legal

  sound : IsSoundTable h.whole
  sound = legal_sound (observers ++ gone) seats clock h.legal.past h.whole h.legal.legal

  covered_lean : AreCovered h.lean.observers h.lean.marks h.whole.entries
  covered_lean = subst (λ (os : List ObserverOf). AreCovered os h.lean.marks h.whole.entries) (sym h.observers_are) h.covered

  -- an acknowledgment of one of the observers is known, as is each data cell
  known_here : (o : ℕ) (observer : ObserverOf) (row : Row) → slice_get observers o ≡ Some observer → is_known_cell (length h.lean.observers) (Cell.Ack o row observer.column) ≡ true
  known_here o observer row there = subst (λ (os : List ObserverOf). is_known_cell (length os) (Cell.Ack o row observer.column) ≡ true) (sym h.observers_are) (known_ack observers o observer row observer.column there)

  -- ---- a step

  -- what it has read it has read in the past that is legal, too
  read_there : (s : ℕ) (x : Cell) (t : ℕ) → ReadsAcknowledged observers journal s x t → ReadsAcknowledged observers h.legal.past s x t
  read_there s x t r = record {
    o = r.o;
    row = r.row;
    observer = r.observer;
    observer_is = r.observer_is;
    cell = r.cell;
    seat = r.seat;
    answer = r.answer;
    read = same_entry _ refl journal h.legal.past (sym h.legal.same) r.read;
    held = r.held;
    acknowledged = r.acknowledged;
    some = r.some;
  }

  later : AcknowledgeLate observers c h.whole.entries
  later o row observer there d s above is =
      h.mirrors.entries_are.starts (Cell.Ack o row observer.column) d s above (lean_record c gone h.whole h.lean h.lacks (Cell.Ack o row observer.column) (known_here o observer row there) d ∙ is)

  -- for what it reads so, what was kept serves
  read_serves : (s : ℕ) (x : Cell) (t : ℕ) → c < s → ReadsAcknowledged observers journal s x t → ServesAt c h.lean.entries h.entries x t
  read_serves s x t late r =
      acknowledged_at observers h.legal.past h.whole agrees sound c later (ServesAt c h.lean.entries h.entries) (λ y u above. inl (λ v is. omega (arith, is.low, above)))
      (λ o row observer there w is. h.acknowledged (Cell.Data row observer.column) (stamp_of w.content).0
      (record { o = o; row = row; observer = observer; there = there; cell = refl; w = w; is = lean_version c gone h.whole h.lean h.lacks (Cell.Ack o row observer.column) (known_here o observer row there) c w is; stamp = refl }))
      s x t late (read_there s x t r)

  reads_serve : (step : Step) → IsStepOfJob observers journal step → NamesLate c step → (s : Ts) (x : Cell) (t : Ts) → step ≡ Step.ReadAt s x t → ServesAt c h.lean.entries h.entries x t.0
  reads_serve (Step.ReadAt s x t) job late s' x' t' is = subst (λ (k : Step). At k) is (read_serves s.0 x t.0 late job)
    where
      At : Step → Type 0
      At (Step.ReadAt _ y u) = ServesAt c h.lean.entries h.entries y u.0
      At _ = Unit {0}
  reads_serve step job late s x t is = cc

  module _ (seat : ℕ) (step : Step) (answer : Answer) (new : StateOf) (job : IsStepOfJob observers journal step) (names : NamesKnown (length observers) step) (taken : TableStep kept seat step answer new) where
    is_late : NamesLate c step
    is_late = late_names c kept h.unseated seat step taken.allowed

    is_served : IsServedStep c h.lean.entries kept step
    is_served = served c h.lean.entries kept step is_late (reads_serve step job is_late)

    one : Carries c h.lean h.entries seat step answer new
    one = laws.steps c h.lean new h.entries h.transactions seat step answer h.mirrors is_served taken

    names_known : NamesKnown (length h.lean.observers) step
    names_known = subst (λ (os : List ObserverOf). NamesKnown (length os) step) (sym h.observers_are) names

    -- what it answers names none that is gone
    pub answers_known : AnswersKnown (length observers) answer
    answers_known = subst (λ (os : List ObserverOf). AnswersKnown (length os) answer) h.observers_are (laws.named c gone h.whole h.lean one.after seat step answer h.lacks names_known one.taken)

  module _ (e : Entry) (new : StateOf) (job : IsStepOfJob observers journal e.step) (names : NamesKnown (length observers) e.step) (taken : TableStep kept e.seat e.step e.answer new) where
    abbrev by_lean : Carries c h.lean h.entries e.seat e.step e.answer new
    by_lean = one e.seat e.step e.answer new job names taken

    abbrev late : NamesLate c e.step
    late = is_late e.seat e.step e.answer new job names taken

    observers_stay : by_lean.after.observers ≡ h.lean.observers
    observers_stay = case_observers h.lean e.seat by_lean.after 0 e.step e.answer by_lean.taken.taken

    -- the version that was kept at c is the same
    version_before : (x : Cell) (v : Revision) → IsVersion by_lean.entries x c v → IsVersion h.entries x c v
    version_before x v is = ((h.mirrors.entries_are.versions x).there v).0 ((by_lean.versions x v).1 (((by_lean.mirrors.entries_are.versions x).there v).1 is))

    -- and for what it served it still does
    still_serves : (x : Cell) (t : ℕ) → ServesAt c h.lean.entries h.entries x t → ServesAt c by_lean.after.entries by_lean.entries x t
    still_serves x t (inl low) = inl (λ v is. low v (version_before x v is))
    still_serves x t (inr same) = elim (cases_lt c t) [
      | inl above ↦ inl (λ v is. omega (arith, is.low, above))
      | inr under ↦ inr (by_lean.before x t under same)
    ]

    -- with a whole table after it
    with_whole : (whole : StateOf) → IsLegalButMarks (observers ++ gone) seats clock (journal ++ e ∷ []) whole → LacksOthers c gone whole by_lean.after → AreCovered h.lean.observers by_lean.after.marks whole.entries
        → Stands observers gone seats clock c (journal ++ e ∷ []) new
    with_whole whole legal lacks covered =
        let unseated : AreUnseated c new = λ u t there low. unseated_after c kept h.unseated e.seat new h.mirrors.since u low e.step e.answer late taken.taken t there in
        record {
          whole = whole;
          lean = by_lean.after;
          entries = by_lean.entries;
          transactions = by_lean.transactions;
          legal = legal;
          lacks = lacks;
          mirrors = by_lean.mirrors;
          within = by_lean.within h.within;
          now_is = by_lean.new_is;
          observers_are = observers_stay ∙ h.observers_are;
          unseated = subst (AreUnseated c) by_lean.new_is unseated;
          acknowledged = λ x t a. still_serves x t (h.acknowledged x t
              (record { o = a.o; row = a.row; observer = a.observer; there = a.there; cell = a.cell; w = a.w; is = (by_lean.versions (Cell.Ack a.o a.row a.observer.column) a.w).1 a.is; stamp = a.stamp }));
          covered = subst (λ (os : List ObserverOf). AreCovered os by_lean.after.marks whole.entries) h.observers_are covered;
        }

    after_other : is_of_marks e.step ≡ false → Stands observers gone seats clock c (journal ++ e ∷ []) new
    after_other of =
        let goes : GoesWithOthers c gone h.whole e.seat e.step e.answer by_lean.after =
        laws.missed c gone h.whole h.lean by_lean.after e.seat e.step e.answer h.lacks of late (names_known e.seat e.step e.answer new job names taken) by_lean.taken in
        with_whole goes.after
        (record {
          past = h.legal.past ++ e ∷ [];
          same = same_on h.legal.past journal (e ∷ []) h.legal.same;
          legal = record { fits = h.legal.legal.fits; run = one_more (opening (observers ++ gone) seats clock) h.legal.past h.whole e goes.after h.legal.legal.run goes.taken };
        })
        goes.lacks
        (covered_after h.legal.past c gone h.whole h.lean goes.after by_lean.after e.seat e.step e.answer agrees sound h.lacks covered_lean goes.taken.taken by_lean.taken.taken)

    after_marks : is_of_marks e.step ≡ true → Stands observers gone seats clock c (journal ++ e ∷ []) new
    after_marks of =
        with_whole h.whole (record { past = h.legal.past; same = same_with_mark h.legal.past journal e of h.legal.same; legal = h.legal.legal })
        (laws.marks c gone h.whole h.lean by_lean.after e.seat e.step e.answer h.lacks of by_lean.taken)
        (covered_marks h.legal.past c gone h.whole h.lean by_lean.after e.seat e.step e.answer agrees sound h.lacks covered_lean of by_lean.taken.taken)

    pub next_stands : Stands observers gone seats clock c (journal ++ e ∷ []) new
    next_stands = elim (is_of_marks e.step) as (λ b. is_of_marks e.step ≡ b → Stands observers gone seats clock c (journal ++ e ∷ []) new) [
      | true ↦ after_marks
      | false ↦ after_other
    ] refl

  -- ---- where no lock stands

  -- what was kept is of no later commit or start
  kept_record : (x : Cell) (d s : ℕ) → write_at h.entries x d ≡ Some s → (d ≤ h.lean.clock) × (s ≤ h.lean.clock)
  kept_record x d s there = elim (cases_lt c d) [
    | inl later ↦
        let in_lean = sym (h.mirrors.entries_are.records x d later) ∙ there in
        let by = record_by_clock h.whole sound x d s (whole_record c gone h.whole h.lean h.lacks x d s in_lean) in
        let clock = same_clock c gone h.whole h.lean h.lacks in
        (omega (arith, by.0, clock), omega (arith, by.1, clock))
    | inr early ↦
        let start = h.mirrors.entries_are.kept_early x d s early there in
        let since = h.mirrors.since in
        (omega (arith, early, since), omega (arith, start, since))
  ]

  kept_stored : (x : Cell) (s : ℕ) (k : Content) → data_at h.entries x s ≡ Some k → s ≤ h.lean.clock
  kept_stored x s k there = elim (cases_lt c s) [
    | inl later ↦
        let in_lean = sym (h.mirrors.entries_are.stored x s later) ∙ there in
        let by = legal_bounded laws.has (observers ++ gone) seats clock h.legal.past h.whole h.legal.legal x s k (whole_stored c gone h.whole h.lean h.lacks x s k in_lean) in
        let same = same_clock c gone h.whole h.lean h.lacks in
        omega (arith, by, same)
    | inr early ↦ let since = h.mirrors.since in omega (arith, early, since)
  ]

  -- it serves at what observers had acknowledged, and what they acknowledged since is later
  serve_lean : ServeAcknowledged h.lean.observers c h.lean.entries h.entries
  serve_lean = subst (λ (os : List ObserverOf). ServeAcknowledged os c h.lean.entries h.entries) (sym h.observers_are) h.acknowledged

  late_lean : AreAcknowledgedLate h.lean.observers c h.lean
  late_lean o row observer there w is above =
      let ack : Cell = Cell.Ack o row observer.column in
      let its : slice_get observers o ≡ Some observer = subst (λ (os : List ObserverOf). slice_get os o ≡ Some observer) h.observers_are there in
      let version = version_there c gone h.whole h.lean h.lacks ack (known_here o observer row its) h.lean.clock w is in
      let start = later o row observer its w.commit.0 w.start.0 above version.written in
      let stamp = stamp_is h.legal.past h.whole agrees sound o row observer.column h.lean.clock w version in
      omega (arith, start, stamp)

  module _ (unlocked : IsUnlocked kept) (room : kept.clock < last_timestamp) where
    no_lock : IsUnlocked h.whole
    no_lock = whole_unlocked c gone h.whole h.lean sound h.lacks (λ x s. sym (h.mirrors.entries_are.locks x s) ∙ unlocked x s)

    same_clock_here : h.lean.clock ≡ h.whole.clock
    same_clock_here = same_clock c gone h.whole h.lean h.lacks

    same_seats_here : h.lean.seats ≡ h.whole.seats
    same_seats_here = ap (λ (z : StateOf). z.seats) h.lacks.lean_is

    room_whole : h.whole.clock < last_timestamp
    room_whole = subst (λ (n : ℕ). n < last_timestamp) same_clock_here room

    -- no transaction of it began later
    none_above : (ts : Transactions) → AreEnded kept ts → (s : ℕ) → h.whole.clock < s → map.get ts s ≡ None
    none_above ts ended s above = none_if (map.get ts s) (λ t there. let by = (ended s t there).0 in omega (arith, above, by, same_clock_here))

    has_data : (f : Entries) → ((x : Cell) (s : ℕ) → lock_at f x s ≡ None) → ((x : Cell) (d s : ℕ) → write_at f x d ≡ Some s → (k : Content) × (data_at f x s ≡ Some k)) → HasData f
    has_data f none stored = record {
      locked = λ x s p there. absurd (none-some p (sym (none x s) ∙ there));
      written = λ x d s there. ap is_some (stored x d s there).1;
    }

    -- ---- a new generation

    module _ (f : Entries) (ts : Transactions) (new : StateOf) (snapshot : IsSnapshotOf kept f) (ended : AreEnded kept ts) (behind : IsMarkedBehind (unmarked (carried kept f ts)) new) where
      abbrev marked : StateOf
      marked = without_others h.lean.observers h.whole new.marks

      lacks_marked : LacksOthers h.whole.clock gone h.whole marked
      lacks_marked = laws.begin h.lean.observers gone h.whole new.marks sound (λ x u fits. no_lock x u) h.lacks.observers

      shows_lean : ShowsViewed h.lean f
      shows_lean = laws.over c h.lean h.entries h.transactions h.mirrors serve_lean late_lean f (snapshot_shows kept kept_record kept_stored f snapshot)

      shows_marked : ShowsViewed marked f
      shows_marked =
          subst (λ (z : StateOf). ShowsViewed (record z { marks = new.marks }) f) h.lacks.lean_is
          (record { viewed = shows_lean.viewed; by_then = shows_lean.by_then; stored_by_then = shows_lean.stored_by_then; unlocked = shows_lean.unlocked })

      served_marked : IsMirroredBy h.whole.clock marked f ts × ServeAcknowledged h.lean.observers h.whole.clock marked.entries f
      served_marked = laws.serve (observers ++ gone) gone seats clock h.legal.past h.whole marked h.legal.legal (λ x u fits. no_lock x u) room_whole lacks_marked f ts shows_marked (none_above ts ended)

      within_lean : IsPartOf h.lean.entries f
      within_lean = record {
        records = λ x d s there. h.within.records x d s (snapshot.within.records x d s there);
        stored = λ x s k there. h.within.stored x s k (snapshot.within.stored x s k there);
      }

      within_marked : IsPartOf marked.entries f
      within_marked = subst (λ (z : StateOf). IsPartOf z.entries f) h.lacks.lean_is within_lean

      covered_marked : AreCovered h.lean.observers new.marks h.whole.entries
      covered_marked =
          marked_covered h.legal.past h.whole.clock gone h.whole marked agrees sound lacks_marked f (has_data f snapshot.unlocked snapshot.stored)
          (λ x. same_later h.whole.clock marked.entries f served_marked.0.entries_are x last_timestamp (omega (arith, room_whole))) h.lean.observers
          (λ o observer row column there. known_ack h.lean.observers o observer row column there) new.marks behind.marked

      pub begun_anew : Stands observers gone seats clock h.lean.clock journal new
      begun_anew = subst (λ (n : ℕ). Stands observers gone seats clock n journal new) (sym same_clock_here) (record {
        whole = h.whole;
        lean = marked;
        entries = f;
        transactions = ts;
        legal = h.legal;
        lacks = lacks_marked;
        mirrors = served_marked.0;
        within = within_marked;
        now_is = behind.is ∙ (λ i. record { entries = f; marks = new.marks; observers = h.lean.observers; clock = same_clock_here i; seats = same_seats_here i; transactions = ts });
        observers_are = h.observers_are;
        unseated = λ u t there low. let by = (ended u t there).1 in omega (arith, by, same_seats_here);
        acknowledged = subst (λ (os : List ObserverOf). ServeAcknowledged os h.whole.clock marked.entries f) h.observers_are served_marked.1;
        covered = subst (λ (os : List ObserverOf). AreCovered os new.marks h.whole.entries) h.observers_are covered_marked;
      })

    -- ---- other observers

    module _ (places : List ℕ) (front added : List ObserverOf) (f : Entries) (ts : Transactions) (between new : StateOf) (are : AreChosen places observers front) (snapshot : IsChosenSnapshot places kept f) (ended : AreEnded kept ts)
        (behind : IsMarkedBehind (unmarked (chosen_state kept front f ts)) between) (more : HasMoreObservers added between new) where
      abbrev number : ℕ → ℕ
      number = new_number places (length (front ++ added))

      abbrev others : List ObserverOf
      others = (front ++ added) ++ (observers ++ gone)

      as_many : length places ≤ length (front ++ added)
      as_many = omega (arith, are.as_many, length-append front added)

      moved : (whole : StateOf) × IsRenumbered number h.whole whole × IsLegalButMarks others seats clock (renumbered_journal number h.legal.past) whole
      moved = laws.renumber number (observers ++ gone) others seats clock h.legal.past h.whole (numbers_one_to_one places (length (front ++ added)) as_many) (numbers_stand places observers gone front added are) h.legal.legal

      abbrev whole : StateOf
      whole = moved.0

      abbrev lean : StateOf
      lean = without_others (front ++ added) whole new.marks

      sound_moved : IsSoundTable whole
      sound_moved = legal_sound others seats clock moved.2.past whole moved.2.legal

      agrees_moved : Agrees moved.2.past whole
      agrees_moved = legal_agrees others seats clock moved.2.past whole moved.2.legal

      no_lock_moved : (x : Cell) (s : ℕ) → lock_at whole.entries x s ≡ None
      no_lock_moved x s = none_if (lock_at whole.entries x s) (λ p there.
          let y = moved.1.entries.no_more_locks x s p there in
          none-some p (sym (ap (λ (z : Cell). lock_at whole.entries z s) y.1 ∙ moved.1.entries.locks y.0 s ∙ ap (option_map (renumbered_cell number)) (no_lock y.0 s)) ∙ there))

      clock_moved : whole.clock ≡ h.lean.clock
      clock_moved = moved.1.clock ∙ sym same_clock_here

      seats_moved : whole.seats ≡ h.lean.seats
      seats_moved = moved.1.seats ∙ sym (ap (λ (z : StateOf). z.seats) h.lacks.lean_is)

      observers_moved : whole.observers ≡ others
      observers_moved = journal_observers (opening others seats clock) moved.2.past whole moved.2.legal.run

      lacks_moved : LacksOthers whole.clock (observers ++ gone) whole lean
      lacks_moved = laws.begin (front ++ added) (observers ++ gone) whole new.marks sound_moved (λ x u fits. no_lock_moved x u) observers_moved

      are_lean : AreChosen places h.lean.observers front
      are_lean = subst (λ (os : List ObserverOf). AreChosen places os front) (sym h.observers_are) are

      shows_moved : ShowsViewed lean f
      shows_moved = chosen_shows c gone h.whole h.lean whole h.entries h.transactions new.marks places front added f h.lacks h.mirrors serve_lean late_lean are_lean moved.1 snapshot kept_record kept_stored

      within_moved : IsPartOf lean.entries f
      within_moved = chosen_within c gone h.whole h.lean whole h.entries h.transactions places front added f h.lacks h.mirrors serve_lean late_lean are_lean moved.1 snapshot h.within

      room_moved : whole.clock < last_timestamp
      room_moved = subst (λ (n : ℕ). n < last_timestamp) (sym clock_moved) room

      served_moved : IsMirroredBy whole.clock lean f ts × ServeAcknowledged (front ++ added) whole.clock lean.entries f
      served_moved =
          laws.serve others (observers ++ gone) seats clock moved.2.past whole lean moved.2.legal (λ x u fits. no_lock_moved x u) room_moved lacks_moved f ts shows_moved
          (λ s above. none_above ts ended s (omega (arith, above, clock_moved, same_clock_here)))

      same_moved : (x : Cell) → SameVersion last_timestamp lean.entries f x
      same_moved x = same_later whole.clock lean.entries f served_moved.0.entries_are x last_timestamp (omega (arith, room_moved))

      has_moved : HasData f
      has_moved = has_data f snapshot.unlocked snapshot.stored

      known_moved : (o : ℕ) (observer : ObserverOf) (row : Row) (column : ℕ) → slice_get front o ≡ Some observer → is_known_cell (length (front ++ added)) (Cell.Ack o row column) ≡ true
      known_moved o observer row column there = known_ack (front ++ added) o observer row column (stay_in_front front added o observer there)

      -- for one that comes each change is marked
      comes_marked : (o : ℕ) (observer : ObserverOf) → slice_get added o ≡ Some observer → (row : Row) (d u : ℕ) → write_at whole.entries (Cell.Data row observer.column) d ≡ Some u → is_marked new.marks (Cell.Data row observer.column) ≡ true
      comes_marked o observer there row d u written =
          let low = (record_by_clock whole sound_moved (Cell.Data row observer.column) d u written).0 in
          let v = written_there moved.2.past whole.clock (observers ++ gone) whole lean agrees_moved sound_moved lacks_moved f has_moved same_moved front known_moved row observer.column d (omega (arith, low, room_moved)) (ap is_some written) in
          more.marked (Cell.Data row observer.column) v.0.commit.0 v.0.start.0 (observed_one added o observer there) (ap (λ (z : StateOf). write_at z.entries (Cell.Data row observer.column) v.0.commit.0) behind.is ∙ v.1.written)

      covered_moved : AreCovered (front ++ added) new.marks whole.entries
      covered_moved =
          both_covered front added between.marks new.marks whole.entries
          (marked_covered moved.2.past whole.clock (observers ++ gone) whole lean agrees_moved sound_moved lacks_moved f has_moved same_moved front known_moved between.marks behind.marked)
          more.kept comes_marked

      new_is : new ≡ carried lean f ts
      new_is =
          more.is
          ∙ ap (λ (z : StateOf). record z { observers = z.observers ++ added; marks = new.marks }) behind.is
          ∙ (λ i. record { entries = f; marks = new.marks; observers = front ++ added; clock = sym clock_moved i; seats = sym seats_moved i; transactions = ts })

      pub with_others : Stands (front ++ added) (observers ++ gone) seats clock h.lean.clock (renumbered_journal number journal) new
      with_others = subst (λ (n : ℕ). Stands (front ++ added) (observers ++ gone) seats clock n (renumbered_journal number journal) new) clock_moved (record {
        whole = whole;
        lean = lean;
        entries = f;
        transactions = ts;
        legal = record { past = moved.2.past; same = moved.2.same ∙ renumbered_same number h.legal.past journal h.legal.same; legal = moved.2.legal };
        lacks = lacks_moved;
        mirrors = served_moved.0;
        within = within_moved;
        now_is = new_is;
        observers_are = refl;
        unseated = λ u t there low. omega (arith, (ended u t there).1, seats_moved);
        acknowledged = served_moved.1;
        covered = covered_moved;
      })
