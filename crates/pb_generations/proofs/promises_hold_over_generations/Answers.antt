use Rattle.std.proofs.Common.{◌≡◌, ℕ, ◌≤◌, true, List, ◌++◌, length, Option, Some, None, slice_get, arith, refl, sym, ap, subst, ◌∙◌}
use Rattle.pb_generations.specs.Words.{Cell, Content, Revision, Row, ObserverOf, Entries, IsNewestVersion, NoLock, last_timestamp, StateOf, Handles, IsQuiet, TellsOneHandler, InHistory, Member, WritesTo, IsLegal, TellsSnapshot, TellsSnapshots, IsSoundTable, AreRising, TellsTimestamps, timestamps, Entry}
use Rattle.pb_history.proofs.Agreement.{Agrees}
use Rattle.pb_history.proofs.ChangesHandled.{handled_by_then, stands_unlocked}
use Rattle.pb_history.proofs.JournalsAreSound.{legal_sound}
use Rattle.pb_history.proofs.StepsAgree.{legal_agrees}
use Rattle.pb_generations.specs.KeptTables.{StandsForAll, IsNewestWrite, HasWritesAbove, with_gone}
use Rattle.pb_generations.specs.LeftOut.{is_known_cell}
use Rattle.pb_generations.specs.SameButMarks.{SameButMarks}
use Rattle.pb_generations.proofs.HistoryButMarks.{same_handled, same_one_handler, same_reads, same_timestamps, same_snapshot, same_absence, same_member, same_writer}
use Rattle.pb_generations.proofs.LeanTables.{lean_lock, lean_record, lean_stored, same_clock, version_there}
use Rattle.pb_generations.proofs.NewestWrites.{SameAbove, newest_write, writes_above}
use Rattle.pb_generations.proofs.VersionsAbove.{whole_none, whole_version}
use Rattle.pb_generations.proofs.promises_hold_over_generations.Goals as goal

-- Each is a law of the whole table's journal, which is the same but for steps of marks. What stands on a cell of the table that is
-- kept stands there in the whole one too, since that cell is of no observer that is gone.

-- ---- two journals, the same but for steps of marks

same_newest : (observers : List ObserverOf) (a b : List Entry) → SameButMarks a b → (x : Cell) (v : Option Revision) → IsNewestWrite observers a x v → IsNewestWrite observers b x v
same_newest observers a b same x None is = same_absence observers a b same last_timestamp x is
same_newest observers a b same x (Some v) is = same_snapshot observers a b same last_timestamp x v.start.0 v.commit.0 v.content is

same_above : (observers : List ObserverOf) (a b : List Entry) → SameButMarks a b → (c : ℕ) (e : Entries) (x : Cell) → HasWritesAbove observers c a e x → HasWritesAbove observers c b e x
same_above observers a b same c e x is = record {
  each = λ m k there. is.each m k (same_member observers b a (sym same) m there);
  only = λ d s above there. same_writer observers a b same x d s (is.only d s above there);
}

-- ---- the whole table

module _ (observers gone : List ObserverOf) (seats clock g : ℕ) (journal : List Entry) (now : StateOf) (w : StandsForAll observers gone seats clock g journal now) where
  abbrev whole : StateOf
  whole = w.whole

  abbrev past : List Entry
  past = w.legal.past

  legal : IsLegal (observers ++ gone) seats clock past whole
  legal = w.legal.legal

  agrees : Agrees past whole
  agrees = legal_agrees (observers ++ gone) seats clock past whole legal

  sound : IsSoundTable whole
  sound = legal_sound (observers ++ gone) seats clock past whole legal

  lean_observers : w.lean.observers ≡ observers
  lean_observers = sym (ap (λ (s : StateOf). s.observers) w.now_is) ∙ w.observers_are

  all_observers : whole.observers ≡ observers ++ gone
  all_observers = w.lacks.observers ∙ ap (λ (os : List ObserverOf). os ++ gone) lean_observers

  -- also those of the table as it is
  all_there : whole.observers ≡ now.observers ++ gone
  all_there = all_observers ∙ ap (λ (os : List ObserverOf). os ++ gone) (sym w.observers_are)

  clock_is : whole.clock ≡ now.clock
  clock_is = sym (ap (λ (s : StateOf). s.clock) w.now_is ∙ same_clock g gone whole w.lean w.lacks)

  -- ---- what stands on a known cell

  module _ (x : Cell) (known : is_known_cell (length observers) x ≡ true) where
    known_there : is_known_cell (length w.lean.observers) x ≡ true
    known_there = ap (λ (os : List ObserverOf). is_known_cell (length os) x) lean_observers ∙ known

    unlocked_there : NoLock now.entries x → NoLock whole.entries x
    unlocked_there none u fits = sym (w.mirrors.entries_are.locks x u ∙ lean_lock g gone whole w.lean w.lacks x known_there u) ∙ none u fits

    newest_there : (v : Option Revision) → IsNewestVersion now.entries x v → IsNewestVersion whole.entries x v
    newest_there None is = λ d low.
        sym (lean_record g gone whole w.lean w.lacks x known_there d)
        ∙ whole_none g w.lean.entries now.entries w.mirrors.entries_are x last_timestamp (omega (arith, w.mirrors.room)) is d low
    newest_there (Some v) is =
        version_there g gone whole w.lean w.lacks x known_there last_timestamp v (whole_version g w.lean.entries now.entries w.mirrors.entries_are x last_timestamp (omega (arith, w.mirrors.room)) v is)

    later_there : SameAbove g whole.entries now.entries x
    later_there =
        let m = w.mirrors.entries_are in
        let record_of = lean_record g gone whole w.lean w.lacks x known_there in
        record {
          records = λ d above. m.records x d above ∙ record_of d;
          starts = λ d s above is. m.starts x d s above (record_of d ∙ is);
          stored = λ s above. m.stored x s above ∙ lean_stored g gone whole w.lean w.lacks x known_there s;
        }

  -- ---- the promises

  once : TellsOneHandler past whole → TellsOneHandler journal (with_gone gone now)
  once law = subst (λ (os : List ObserverOf). TellsOneHandler journal (record whole { observers = os })) all_there (same_one_handler past journal whole w.legal.same law)

  handled : IsQuiet now → (u : Member) → InHistory (observers ++ gone) journal u → (o : ℕ) (observer : ObserverOf) → slice_get observers o ≡ Some observer
      → (row : Row) (content : Content) → WritesTo u (Cell.Data row observer.column) content → (m : Member) × InHistory (observers ++ gone) journal m × Handles (observers ++ gone) journal m o row u.commit
  handled quiet u there o observer its row content writes =
      let x : Cell = Cell.Data row observer.column in
      let same = w.legal.same in
      let h = same_member whole.observers journal past (sym same) u (subst (λ (os : List ObserverOf). InHistory os journal u) (sym all_observers) there) in
      let written = stands_unlocked past whole agrees sound u h x content writes (unlocked_there x refl (quiet.unlocked x)) in
      let by = w.covered o observer its row (quiet.unmarked x) u.commit u.start written in
      let m = handled_by_then past whole agrees sound u h o row observer.column by.0 by.1 by.2 by.3 in
      subst (λ (os : List ObserverOf). (m : Member) × InHistory os journal m × Handles os journal m o row u.commit) all_observers
      (m.0, same_member whole.observers past journal same m.0 m.1, same_handled whole.observers past journal same m.0 o row u.commit m.2)

  snapshots : TellsSnapshots past whole → TellsSnapshots journal (with_gone gone now)
  snapshots law =
      let told = same_reads past journal whole w.legal.same law in
      record {
        read = λ seat s x answer is. subst (λ (os : List ObserverOf). TellsSnapshot os journal s.0 x answer) all_there (told.read seat s x answer is);
        read_at = λ seat s x t answer is. subst (λ (os : List ObserverOf). TellsSnapshot os journal t.0 x answer) all_there (told.read_at seat s x t answer is);
        earlier = told.earlier;
      }

  newest : (x : Cell) (v : Option Revision) → is_known_cell (length observers) x ≡ true → NoLock now.entries x → IsNewestVersion now.entries x v → IsNewestWrite (observers ++ gone) journal x v
  newest x v known unlocked is =
      subst (λ (os : List ObserverOf). IsNewestWrite os journal x v) all_observers
      (same_newest whole.observers past journal w.legal.same x v (newest_write past whole agrees sound x (unlocked_there x known unlocked) v (newest_there x known v is)))

  later : (x : Cell) → is_known_cell (length observers) x ≡ true → NoLock now.entries x → HasWritesAbove (observers ++ gone) g journal now.entries x
  later x known unlocked =
      subst (λ (os : List ObserverOf). HasWritesAbove os g journal now.entries x) all_observers
      (same_above whole.observers past journal w.legal.same g now.entries x (writes_above past whole agrees sound x (unlocked_there x known unlocked) g now.entries (later_there x known)))

  rise : TellsTimestamps clock past whole → TellsTimestamps clock journal (with_gone gone now)
  rise law =
      let told = same_timestamps past journal whole w.legal.same clock law in
      record {
        rising = subst (λ (n : ℕ). AreRising clock n (timestamps journal)) clock_is told.rising;
        commits = λ m is. subst (λ (n : ℕ). m.commit ≤ n) clock_is (told.commits m (subst (λ (os : List ObserverOf). InHistory os journal m) (sym all_there) is));
      }

pub returns-clause-once : goal.returns-clause-once
returns-clause-once c observers gone seats clock g journal now kept =
    let w = c.kept_tables_are_whole.ensures.whole observers gone seats clock g journal now kept in
    once observers gone seats clock g journal now w (c.handled_at_most_once.ensures (observers ++ gone) seats clock w.legal.past w.whole w.legal.legal)

pub returns-clause-handled : goal.returns-clause-handled
returns-clause-handled c observers gone seats clock g journal now kept =
    handled observers gone seats clock g journal now (c.kept_tables_are_whole.ensures.whole observers gone seats clock g journal now kept)

pub returns-clause-snapshots : goal.returns-clause-snapshots
returns-clause-snapshots c observers gone seats clock g journal now kept =
    let w = c.kept_tables_are_whole.ensures.whole observers gone seats clock g journal now kept in
    snapshots observers gone seats clock g journal now w (c.reads_tell_snapshots.ensures (observers ++ gone) seats clock w.legal.past w.whole w.legal.legal)

pub returns-clause-newest : goal.returns-clause-newest
returns-clause-newest c observers gone seats clock g journal now kept =
    newest observers gone seats clock g journal now (c.kept_tables_are_whole.ensures.whole observers gone seats clock g journal now kept)

pub returns-clause-later : goal.returns-clause-later
returns-clause-later c observers gone seats clock g journal now kept =
    later observers gone seats clock g journal now (c.kept_tables_are_whole.ensures.whole observers gone seats clock g journal now kept)

pub returns-clause-timestamps : goal.returns-clause-timestamps
returns-clause-timestamps c observers gone seats clock g journal now kept =
    let w = c.kept_tables_are_whole.ensures.whole observers gone seats clock g journal now kept in
    rise observers gone seats clock g journal now w (c.timestamps_rise.ensures (observers ++ gone) seats clock w.legal.past w.whole w.legal.legal)
