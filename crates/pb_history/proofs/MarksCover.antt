-- Where an observed cell isn't marked, each of its changes is acknowledged by a run that began later.
use Rattle.std.proofs.Common.{◌≡◌, ℕ, zero, suc, ◌<◌, ◌≤◌, Bool, true, false, cond, ◌⊎◌, inl, inr, List, [], ◌∷◌, ◌++◌, Option, Some, None, refl, sym, ap, subst, ◌∙◌, arith, ◌==◌, is_some, slice_get}
use Rattle.std.specs.List.{list_any}
use Rattle.std.specs.Ordering.{eq_by_cmp}
use Rattle.std.specs.FinMap as map
use Rattle.std.proofs.lemmas.Bool.{or_right as or_true}
use Rattle.pb_history.specs.Words.{Cell, Row, Revision, cell_cmp, cell_cmp_total, Sort, slot_cmp, Marks, slot_at, Step, Answer, StateOf, opening, ObserverOf, write_at, lock_at, start_of, last_timestamp, IsVersion, IsNewestVersion, is_observed, with_mark, is_marked, stamp_in, IsBehind, SomeBehind, AllUpToDate, commits, CommitsSecondary, if_locked, StepCase}
use Rattle.pb_history.specs.declared.entry.Entry.{Entry}
use Rattle.pb_history.specs.Journals.{JournalLeads, IsLegal}
use Rattle.pb_history.specs.TableView.{view_of}
use Rattle.pb_history.specs.Sound.{IsSoundTable}
use Rattle.pb_history.specs.MarksTold.{TellsMarks}
use Rattle.pb_history.proofs.Updates.{same_cell, same_cell_is, same_cell_itself, same_number, placed_or_before}
use Rattle.pb_history.proofs.Agreement.{ts, Agrees}
use Rattle.pb_history.proofs.StepsAgree.{legal_agrees}
use Rattle.pb_history.proofs.JournalParts.{one_more}
use Rattle.pb_history.proofs.JournalsAreSound.{legal_sound}
use Rattle.pb_history.proofs.PhasesKeepSound.{stamped_at, committed_at}
use Rattle.pb_history.proofs.LocksKeepSound.{write_on}
use Rattle.pb_history.proofs.ViewsAfter.{write_after_commit, write_after_back, write_after_put}
use Rattle.pb_history.proofs.StepsKeepSound.{phase_by, some_is}
use Rattle.pb_history.proofs.Acknowledgments.{stamp_stands}

-- by observers, whether a cell is marked, and write records
abbrev pub Covers : List ObserverOf → (Cell → Bool) → (Cell → ℕ → Option ℕ) → Type 0
Covers observers marked write =
    (o : ℕ) (observer : ObserverOf) → slice_get observers o ≡ Some observer → (row : Row) → marked (Cell.Data row observer.column) ≡ false
    → (c u : ℕ) → write (Cell.Data row observer.column) c ≡ Some u → (d : ℕ) × (s : ℕ) × (write (Cell.Ack o row observer.column) d ≡ Some s) × (c ≤ s)

-- where an observed cell isn't marked, each of its write records has a later run's acknowledgment
pub record IsCovered (state : StateOf) : Type 0 where
  pub covers : Covers state.observers (is_marked state.marks) (write_at state.entries)

-- ---- marks

-- a column that one of the observers has is observed
pub observed_one : (observers : List ObserverOf) (o : ℕ) (observer : ObserverOf) → slice_get observers o ≡ Some observer → list_any (λ z. z.column == observer.column) observers ≡ true
observed_one [] o observer e = cc
observed_one (z ∷ zs) zero observer e = grind arith
observed_one (z ∷ zs) (suc o) observer e = or_true (z.column == observer.column) _ (observed_one zs o observer e)

past_insert : (b : Bool) (o : Option (Unit {0})) → is_some (cond b (Some tt) o) ≡ false → is_some o ≡ false
past_insert b o e = grind arith

module _ (marks : Marks) (x : Cell) where
  marked_more : (y : Cell) → is_marked (map.insert marks x tt) y ≡ false → is_marked marks y ≡ false
  marked_more y e = past_insert (eq_by_cmp cell_cmp y x) (map.get marks y) (ap is_some (sym (map.get-insert cell_cmp_total marks x tt y)) ∙ e)

  marked_here : is_marked (map.insert marks x tt) x ≡ true
  unfolding same_cell
  marked_here = ap is_some (map.get-insert cell_cmp_total marks x tt x) ∙ ap (λ b. is_some (cond b (Some tt) (map.get marks x))) (same_cell_itself x)

  pub marked_less : (y : Cell) → is_marked (map.remove marks x) y ≡ false → (y ≡ x) ⊎ (is_marked marks y ≡ false)
  unfolding same_cell
  marked_less y e =
      elim (eq_by_cmp cell_cmp y x) as (λ b. eq_by_cmp cell_cmp y x ≡ b → is_some (cond b None (map.get marks y)) ≡ false → (y ≡ x) ⊎ (is_marked marks y ≡ false)) [
        | true ↦ λ t f. inl (same_cell_is y x t)
        | false ↦ λ t f. inr f
      ] refl (ap is_some (sym (map.get-remove cell_cmp_total marks x y)) ∙ e)

  pub marks_were : (observers : List ObserverOf) (y : Cell) → is_marked (with_mark observers marks x) y ≡ false → is_marked marks y ≡ false
  marks_were observers y = grind (arith, marked_more)

  pub marked_now : (observers : List ObserverOf) → is_observed observers x ≡ true → is_marked (with_mark observers marks x) x ≡ true
  marked_now observers e = ap (λ b. is_marked (cond b (map.insert marks x tt) marks) x) e ∙ marked_here

-- ---- the steps

module _ (journal : List Entry) (old : StateOf) (a : Agrees journal old) (i : IsSoundTable old) where
  pub small : (x : Cell) (c s : ℕ) → write_at old.entries x c ≡ Some s → c ≤ last_timestamp
  small x c s e = let b = (i.stamped s c (inr (i.record_committed x c s e))).1 in let k = i.small in omega (arith, b, k)

  -- the stamp of an acknowledgment's version is its start
  pub stamp_is : (p : ℕ) (row : Row) (column s : ℕ) (v : Revision) → IsVersion old.entries (Cell.Ack p row column) s v → stamp_in (Some v) ≡ v.start.0
  stamp_is p row column s v n = grind (arith, stamp_stands, ts, n.content, n.written, v.content)

  pub up_to_date : (observers : List ObserverOf) (p : ℕ) (row : Row) (observer : ObserverOf) → slice_get observers p ≡ Some observer → AllUpToDate observers old.entries (Cell.Data row observer.column)
      → (c u : ℕ) → write_at old.entries (Cell.Data row observer.column) c ≡ Some u → (d : ℕ) × (s : ℕ) × (write_at old.entries (Cell.Ack p row observer.column) d ≡ Some s) × (c ≤ s)
  up_to_date observers p row observer there all c u e =
      let above = (i.stamped u c (inr (i.record_committed (Cell.Data row observer.column) c u e))).0 in
      let k = all p observer there refl c (small (Cell.Data row observer.column) c u e) (ap is_some e) in
      by k.0 k.1 k.2 above
    where
      by : (v : Option Revision) → IsNewestVersion old.entries (Cell.Ack p row observer.column) v → c ≤ stamp_in v → u < c → (d : ℕ) × (s : ℕ) × (write_at old.entries (Cell.Ack p row observer.column) d ≡ Some s) × (c ≤ s)
      by None n low above = absurd (omega (arith, low, above))
      by (Some v) n low above = let same = stamp_is p row observer.column last_timestamp v n in (v.commit.0, v.start.0, n.written, omega (arith, low, same))

module _ (journal : List Entry) (old : StateOf) (a : Agrees journal old) (i : IsSoundTable old) (cov : IsCovered old) where
  kept : (new : StateOf) → new.observers ≡ old.observers → new.marks ≡ old.marks → write_at new.entries ≡ write_at old.entries → IsCovered new
  kept new obs marks write = record {
    covers = subst (λ (p : List ObserverOf × Marks × (Cell → ℕ → Option ℕ)). Covers p.0 (is_marked p.1) p.2) (λ j. (sym obs j, sym marks j, sym write j)) cov.covers;
  }

  -- a lock of s becomes its write record c
  committed : (new : StateOf) (s c : ℕ) (x p : Cell) → lock_at old.entries x s ≡ Some p → ((view_of old).phase s ≡ Some (committed_at c)) ⊎ (((view_of old).phase s ≡ Some (stamped_at c)) × (x ≡ p))
      → new.observers ≡ old.observers → new.entries ≡ (commits old x s c).entries → new.marks ≡ with_mark old.observers old.marks x → IsCovered new
  committed new s c x p locked may obs entries marks =
      let w = ap write_at entries ∙ write_after_commit old.entries x s c in
      record {
        covers = λ o observer there row unmarked d u e.
            let y : Cell = Cell.Data row observer.column in
            let known : slice_get old.observers o ≡ Some observer = ap (λ os. slice_get os o) (sym obs) ∙ there in
            let off : is_marked (with_mark old.observers old.marks x) y ≡ false = ap (λ m. is_marked m y) (sym marks) ∙ unmarked in
            let e' = ap (λ (f : Cell → ℕ → Option ℕ). f y d) (sym w) ∙ e in
            elim (placed_or_before (write_at old.entries) x c s y d u e') [
              | inl g ↦
                  (let on = marked_now old.marks x old.observers (ap (is_observed old.observers) (sym g.0) ∙ observed_one old.observers o observer known) in
                  absurd cc)
              | inr b ↦
                  (let was = cov.covers o observer known row (marks_were old.marks x old.observers y off) d u b.0 in
                  (was.0, was.1, ap (λ (f : Cell → ℕ → Option ℕ). f (Cell.Ack o row observer.column) was.0) w ∙ write_on (view_of old) i s c x p locked may (Cell.Ack o row observer.column) was.0 was.1 was.2, was.3))
            ];
      }

  swept : (new : StateOf) (x : Cell) → AllUpToDate old.observers old.entries x → new ≡ record old { marks = map.remove old.marks x } → IsCovered new
  swept new x all is = subst IsCovered (sym is) (record {
    covers = λ o observer there row unmarked c u e. grind (arith, marked_less, up_to_date journal old a i old.observers, old.marks, old.observers, old.entries, cov.covers);
  })

  same : (new : StateOf) → new ≡ old → IsCovered new
  same new e = subst IsCovered (sym e) cov

  -- what leaves marks and write records
  beside : (new to : StateOf) → new ≡ to → to.observers ≡ old.observers → to.marks ≡ old.marks → write_at to.entries ≡ write_at old.entries → IsCovered new
  beside new to is obs marks write = kept new (ap (λ (z : StateOf). z.observers) is ∙ obs) (ap (λ (z : StateOf). z.marks) is ∙ marks) (ap (λ (z : StateOf). write_at z.entries) is ∙ write)

  secondary : (new : StateOf) (seat s : ℕ) (x : Cell) → CommitsSecondary old seat s x new → IsCovered new
  secondary new seat s x m =
      elim (is_some (lock_at old.entries x s)) as (λ b. is_some (lock_at old.entries x s) ≡ b → new ≡ if_locked old b x s m.c → IsCovered new) [
        | true ↦ λ e is. let p = some_is (lock_at old.entries x s) e in
            committed new s m.c x p.0 p.1 (inl (ap phase_by m.own.there ∙ ap Some m.committed)) (ap (λ (z : StateOf). z.observers) is) (ap (λ (z : StateOf). z.entries) is) (ap (λ (z : StateOf). z.marks) is)
        | false ↦ λ e is. same new is
      ] refl m.new_is

  case_covers : (seat : ℕ) (step : Step) (answer : Answer) (new : StateOf) → StepCase old seat step answer new → IsCovered new
  case_covers seat (Step.Begin work) (Answer.At s) new m = beside new _ m.new_is refl refl refl
  case_covers seat (Step.Read s x) (Answer.Locked start primary) new m = same new m.new_is
  case_covers seat (Step.Read s x) (Answer.Found start commit content) new m = beside new _ m.new_is refl refl refl
  case_covers seat (Step.Read s x) Answer.Absent new m = beside new _ m.new_is refl refl refl
  case_covers seat (Step.ReadAt s x t) (Answer.Locked start primary) new m = same new m.new_is
  case_covers seat (Step.ReadAt s x t) (Answer.Found start commit content) new m = beside new _ m.new_is refl refl refl
  case_covers seat (Step.ReadAt s x t) Answer.Absent new m = beside new _ m.new_is refl refl refl
  case_covers seat (Step.Declare s what) Answer.Done new m = beside new _ m.new_is refl refl refl
  case_covers seat (Step.Prewrite s x) Answer.Done new m = beside new _ m.new_is refl refl (write_after_put old.entries x s.0 m.content m.primary)
  case_covers seat (Step.Prewrite s x) Answer.Conflict new m = beside new _ m.new_is refl refl refl
  case_covers seat (Step.Stamp s) (Answer.At c) new m = beside new _ m.new_is refl refl refl
  case_covers seat (Step.CommitPrimary s) Answer.Committed new m =
      let held = some_is (lock_at old.entries m.primary s.0) m.locked in
      let own = (i.lock_prewritten m.primary s.0 held.0 held.1).1 in
      let is : m.primary ≡ held.0 = cc in
      committed new s.0 m.c m.primary held.0 held.1 (inr (ap phase_by m.own.there ∙ ap Some m.stamped, is)) (ap (λ (z : StateOf). z.observers) m.new_is) (ap (λ (z : StateOf). z.entries) m.new_is) (ap (λ (z : StateOf). z.marks) m.new_is)
  case_covers seat (Step.CommitPrimary s) Answer.Lost new m = beside new _ m.new_is refl refl refl
  case_covers seat (Step.CommitSecondary s x) Answer.Done new m = secondary new seat s.0 x m
  case_covers seat (Step.Settle x) Answer.Absent new m = same new m.new_is
  case_covers seat (Step.Settle x) (Answer.Locked start primary) new m = same new m.new_is
  case_covers seat (Step.Settle x) Answer.RolledBack new m = beside new _ m.new_is refl refl (write_after_back old.entries x m.start)
  case_covers seat (Step.Clear x) Answer.Absent new m = same new m.new_is
  case_covers seat (Step.Clear x) Answer.Waits new m = same new m.new_is
  case_covers seat (Step.Clear x) (Answer.CommittedAt c) new m =
      committed new m.start c.0 x m.primary m.locked.locked (inl (i.record_committed m.primary c.0 m.start m.written)) (ap (λ (z : StateOf). z.observers) m.new_is) (ap (λ (z : StateOf). z.entries) m.new_is) (ap (λ (z : StateOf). z.marks) m.new_is)
  case_covers seat (Step.Clear x) Answer.RolledBack new m = beside new _ m.new_is refl refl (write_after_back old.entries x m.start)
  case_covers seat (Step.NextMark after) (Answer.Marked x) new m = same new m.new_is
  case_covers seat (Step.NextMark after) Answer.NoMark new m = same new m.new_is
  case_covers seat (Step.Sweep x) Answer.NoMark new m = same new m.new_is
  case_covers seat (Step.Sweep x) Answer.StillBehind new m = same new m.new_is
  case_covers seat (Step.Sweep x) Answer.Done new m = swept new x m.up_to_date m.new_is
  case_covers seat _ _ new m = absurd m

-- ---- a legal journal

module _ (observers : List ObserverOf) (seats clock : ℕ) where
  run_covers : (before es : List Entry) (old new : StateOf) → IsLegal observers seats clock before old → IsCovered old → JournalLeads old es new → IsCovered new
  run_covers before [] old new l cov r = subst IsCovered (sym r) cov
  run_covers before (e ∷ es) old new l cov r =
      let legal : IsLegal observers seats clock (before ++ e ∷ []) r.0 = record { fits = l.fits; run = one_more (opening observers seats clock) before old e r.0 l.run r.1 } in
      let next = case_covers before old (legal_agrees observers seats clock before old l) (legal_sound observers seats clock before old l) cov e.seat e.step e.answer r.0 r.1.taken in
      run_covers (before ++ e ∷ []) es r.0 new legal next r.2

  nothing_covers : IsCovered (opening observers seats clock)
  nothing_covers = record { covers = λ o observer there row unmarked c u e. let none = ap start_of (map.get-empty slot_cmp (slot_at (Cell.Data row observer.column) Sort.Write c)) in absurd cc }

  pub legal_covers : (journal : List Entry) (state : StateOf) → IsLegal observers seats clock journal state → IsCovered state
  legal_covers journal state l = run_covers [] journal (opening observers seats clock) state (record { fits = l.fits; run = refl }) nothing_covers l.run

-- ---- a cell on which an observer isn't up to date is marked

module _ (journal : List Entry) (state : StateOf) (a : Agrees journal state) (i : IsSoundTable state) where
  -- of two write records on one cell, the later commit is of the later start
  in_order : (x : Cell) (d s c u : ℕ) → write_at state.entries x d ≡ Some s → write_at state.entries x c ≡ Some u → c ≤ d → u ≤ s
  in_order x d s c u e f low = elim (same_number u s) [
    | inl q ↦ omega (arith, q)
    | inr n ↦
        (let second = (i.stamped u c (inr (i.record_committed x c u f))).0 in
        elim (i.apart x c u d s f e n) [ inl g ↦ omega (arith, second, g, low) | inr g ↦ absurd (omega (arith, second, g, low)) ])
  ]

  -- an acknowledgment of a start at least c has a stamp at least c
  pub acknowledged_by_then : (p : ℕ) (row : Row) (column c d s : ℕ) (v : Option Revision) → IsNewestVersion state.entries (Cell.Ack p row column) v → write_at state.entries (Cell.Ack p row column) d ≡ Some s → c ≤ s → c ≤ stamp_in v
  acknowledged_by_then p row column c d s None n e low = let none = n d (small journal state a i (Cell.Ack p row column) d s e) in absurd cc
  acknowledged_by_then p row column c d s (Some v) n e low =
      let same = stamp_is journal state a i p row column last_timestamp v n in
      elim (above d v.commit.0) [
        | inl g ↦ (let none = n.newest d g (small journal state a i (Cell.Ack p row column) d s e) in absurd cc)
        | inr g ↦ (let order = in_order (Cell.Ack p row column) v.commit.0 v.start.0 d s n.written e g in omega (arith, order, low, same))
      ]
    where
      above : (b c : ℕ) → (c < b) ⊎ (b ≤ c)
      above b c = grind arith

module _ (journal : List Entry) (state : StateOf) (a : Agrees journal state) (i : IsSoundTable state) (cov : IsCovered state) where
  unmarked_is_current : (row : Row) (column p : ℕ) → IsBehind state.observers state.entries row column p → is_marked state.marks (Cell.Data row column) ≡ false → ⊥
  unmarked_is_current row column p h off =
      let k = h.acknowledges in
      let at : is_marked state.marks (Cell.Data row k.observer.column) ≡ false = ap (λ c. is_marked state.marks (Cell.Data row c)) k.observes ∙ off in
      let written : write_at state.entries (Cell.Data row k.observer.column) h.version.commit.0 ≡ Some h.version.start.0 = ap (λ c. write_at state.entries (Cell.Data row c) h.version.commit.0) k.observes ∙ h.newest.written in
      let w = cov.covers p k.observer k.there row at h.version.commit.0 h.version.start.0 written in
      let ack : write_at state.entries (Cell.Ack p row column) w.0 ≡ Some w.1 = ap (λ c. write_at state.entries (Cell.Ack p row c) w.0) (sym k.observes) ∙ w.2 in
      let low = acknowledged_by_then journal state a i p row column h.version.commit.0 w.0 w.1 h.acknowledged k.newest ack w.3 in
      omega (arith, low)

  behind_marked : (x : Cell) → SomeBehind state.observers state.entries x → is_marked state.marks x ≡ true
  behind_marked (Cell.Data row column) h = by (is_marked state.marks (Cell.Data row column)) (unmarked_is_current row column h.0 h.1)
    where
      by : (b : Bool) → (b ≡ false → ⊥) → b ≡ true
      by true n = refl
      by false n = absurd (n refl)
  behind_marked (Cell.Ack o row column) h = absurd h

pub tells_marks : (observers : List ObserverOf) (seats clock : ℕ) (journal : List Entry) (state : StateOf) → IsLegal observers seats clock journal state → TellsMarks state
tells_marks observers seats clock journal state l = behind_marked journal state (legal_agrees observers seats clock journal state l) (legal_sound observers seats clock journal state l) (legal_covers observers seats clock journal state l)
