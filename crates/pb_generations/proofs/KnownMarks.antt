-- What a table without some of its observers shows of the whole one: where no lock stands in it, none does there; and with its marks,
-- no change is left unmarked that isn't acknowledged.
use Rattle.std.proofs.Common.{◌≡◌, ℕ, ◌<◌, Bool, true, false, ◌⊎◌, inl, inr, List, [], ◌∷◌, length, Option, Some, None, refl, sym, ap, subst, ◌∙◌, cond, is_some}
use Rattle.std.proofs.lemmas.Bool.{and_parts}
use Rattle.std.proofs.lemmas.Option.{none-some, slice_get_within}
use Rattle.std.specs.FinMap as map
use Rattle.std.specs.Ordering.{eq_by_cmp}
use Rattle.pb_generations.specs.Words.{Writes, content_in, primary_in, cell_cmp, Cell, Content, Revision, Row, ObserverOf, Entries, Marks, CommitsPrimary, CommitsSecondary, if_locked, commit_lock, AllUpToDate, is_marked, is_observed, with_mark, IsNewestVersion, last_timestamp, lock_at, write_at, StateOf, TransactionOf, StepCase, Answer, Step, IsSoundTable, declared_by, view_of, Entry}
use Rattle.pb_base.proofs.Logic.{one_value}
use Rattle.pb_history.proofs.Agreement.{Agrees}
use Rattle.pb_history.proofs.LocksKeepSound.{write_on}
use Rattle.pb_history.proofs.MarksCover.{marked_less, marked_now, marks_were, observed_one, up_to_date}
use Rattle.pb_history.proofs.PhasesKeepSound.{committed_at, stamped_at}
use Rattle.pb_history.proofs.StepsKeepSound.{phase_by, some_is}
use Rattle.pb_history.proofs.Updates.{none_if, placed_or_before, same_cell, same_cell_is}
use Rattle.pb_history.proofs.ViewsAfter.{write_after_back, write_after_commit, write_after_put}
use Rattle.pb_generations.specs.KeptTables.{AreCovered}
use Rattle.pb_generations.specs.LeftOut.{LacksOthers, are_known_writes, is_known_cell}
use Rattle.pb_generations.specs.SameButMarks.{is_of_marks}
use Rattle.pb_generations.proofs.LeanTables.{lean_lock, lean_record}
use Rattle.pb_generations.proofs.LeftOutDeclarations.{number_is_known}
use Rattle.pb_generations.proofs.LeftOutSteps.{no_version, version_there}

-- ---- locks

-- each cell that is written is known
known_write : (n : ℕ) (ws : Writes) (x : Cell) (k : Content) → are_known_writes n ws ≡ true → content_in ws x ≡ Some k → is_known_cell n x ≡ true
unfolding same_cell
known_write n [] x k known is = absurd (none-some k is)
known_write n (w ∷ ws) x k known is =
    let parts = and_parts (is_known_cell n w.0) (are_known_writes n ws) known in
    elim (eq_by_cmp cell_cmp x w.0) as (λ b. eq_by_cmp cell_cmp x w.0 ≡ b → cond b (Some w.1) (content_in ws x) ≡ Some k → is_known_cell n x ≡ true) [
      | true ↦ λ here _. subst (λ (y : Cell). is_known_cell n y ≡ true) (sym (same_cell_is x w.0 here)) parts.0
      | false ↦ λ _ there. known_write n ws x k parts.1 there
    ] refl is

module _ (c : ℕ) (gone : List ObserverOf) (whole lean : StateOf) (lacks : LacksOthers c gone whole lean) where
  abbrev n : ℕ
  n = length lean.observers

  declared_known : (s : ℕ) (x : Cell) (k : Content) (o : Option TransactionOf) → c < s → map.get whole.transactions s ≡ o → content_in (declared_by o) x ≡ Some k → is_known_cell n x ≡ true
  declared_known s x k None late there is = absurd (none-some k is)
  declared_known s x k (Some t) late there is = known_write n t.declared x k (lacks.declared s t late there) is

  pub newest_there : (x : Cell) → is_known_cell n x ≡ true → (v : Option Revision) → IsNewestVersion lean.entries x v → IsNewestVersion whole.entries x v
  newest_there x known None is = no_version n whole.entries x known last_timestamp (subst (λ (z : StateOf). IsNewestVersion z.entries x None) lacks.lean_is is)
  newest_there x known (Some v) is = version_there n whole.entries x known last_timestamp v (subst (λ (z : StateOf). IsNewestVersion z.entries x (Some v)) lacks.lean_is is)

-- a lock of the whole table is one of a late transaction, which declares to write known cells alone
pub whole_unlocked : (c : ℕ) (gone : List ObserverOf) (whole lean : StateOf) → IsSoundTable whole → LacksOthers c gone whole lean → ((x : Cell) (s : ℕ) → lock_at lean.entries x s ≡ None)
    → (x : Cell) (s : ℕ) → lock_at whole.entries x s ≡ None
whole_unlocked c gone whole lean sound lacks none x s = none_if (lock_at whole.entries x s) (λ p there.
    let content = sound.was_declared s x (sound.lock_prewritten x s p there).0 in
    let known = declared_known c gone whole lean lacks s x content.0 (map.get whole.transactions s) (lacks.late x s p there) refl content.1 in
    none-some p (sym (none x s) ∙ lean_lock c gone whole lean lacks x known s ∙ there))

-- ---- marks

module _ (journal : List Entry) (c : ℕ) (gone : List ObserverOf) (whole lean : StateOf) (a : Agrees journal whole) (sound : IsSoundTable whole) (lacks : LacksOthers c gone whole lean)
    (covered : AreCovered lean.observers lean.marks whole.entries) where
  abbrev os : List ObserverOf
  os = lean.observers

  -- a cell that isn't marked wasn't before
  abbrev Stays : Marks → Type 0
  Stays marks = (y : Cell) → is_marked marks y ≡ false → is_marked lean.marks y ≡ false

  stays_same : (marks : Marks) → marks ≡ lean.marks → Stays marks
  stays_same marks is y off = ap (λ (m : Marks). is_marked m y) (sym is) ∙ off

  stays_with : (marks : Marks) (x : Cell) → marks ≡ with_mark os lean.marks x → Stays marks
  stays_with marks x is y off = marks_were lean.marks x os y (ap (λ (m : Marks). is_marked m y) (sym is) ∙ off)

  marked_with : (marks : Marks) (x : Cell) → marks ≡ with_mark os lean.marks x → is_observed os x ≡ true → is_marked marks x ≡ true
  marked_with marks x is seen = ap (λ (m : Marks). is_marked m x) is ∙ marked_now lean.marks x os seen

  -- ---- what a step leaves

  -- write records stay
  kept : (marks : Marks) (e : Entries) → Stays marks → write_at e ≡ write_at whole.entries → AreCovered os marks e
  kept marks e stays write o observer there row off d u is =
      let x : Cell = Cell.Data row observer.column in
      let was = covered o observer there row (stays x off) d u (ap (λ (f : Cell → ℕ → Option ℕ). f x d) (sym write) ∙ is) in
      (was.0, was.1, ap (λ (f : Cell → ℕ → Option ℕ). f (Cell.Ack o row observer.column) was.0) write ∙ was.2, was.3)

  -- a lock of s becomes its write record d
  committed : (marks : Marks) (e : Entries) (s d : ℕ) (x p : Cell) → lock_at whole.entries x s ≡ Some p → ((view_of whole).phase s ≡ Some (committed_at d)) ⊎ (((view_of whole).phase s ≡ Some (stamped_at d)) × (x ≡ p))
      → Stays marks → (is_observed os x ≡ true → is_marked marks x ≡ true) → e ≡ commit_lock whole.entries x s d → AreCovered os marks e
  committed marks e s d x p locked may stays now is o observer there row off b u written =
      let y : Cell = Cell.Data row observer.column in
      let w = ap write_at is ∙ write_after_commit whole.entries x s d in
      elim (placed_or_before (write_at whole.entries) x d s y b u (ap (λ (f : Cell → ℕ → Option ℕ). f y b) (sym w) ∙ written)) [
        | inl here ↦
            (let on = now (ap (is_observed os) (sym here.0) ∙ observed_one os o observer there) in
            let unmarked = ap (is_marked marks) (sym here.0) ∙ off in
            absurd cc)
        | inr before ↦
            (let was = covered o observer there row (stays y off) b u before.0 in
            (was.0, was.1, ap (λ (f : Cell → ℕ → Option ℕ). f (Cell.Ack o row observer.column) was.0) w ∙ write_on (view_of whole) sound s d x p locked may (Cell.Ack o row observer.column) was.0 was.1 was.2, was.3))
      ]

  module _ (after new : StateOf) where
    abbrev Covered : Type 0
    Covered = AreCovered os new.marks after.entries

    beside : (to : StateOf) → after ≡ to → write_at to.entries ≡ write_at whole.entries → (left : StateOf) → new ≡ left → left.marks ≡ lean.marks → Covered
    beside to is write left there marks = kept new.marks after.entries (stays_same new.marks (ap (λ (z : StateOf). z.marks) there ∙ marks)) (ap (λ (z : StateOf). write_at z.entries) is ∙ write)

    same : after ≡ whole → new ≡ lean → Covered
    same is there = beside whole is refl lean there refl

    -- ---- commits

    primary : (seat s : ℕ) → CommitsPrimary whole seat s after → CommitsPrimary lean seat s new → Covered
    primary seat s taken is =
        let held = some_is (lock_at whole.entries taken.primary s) taken.locked in
        let own = (sound.lock_prewritten taken.primary s held.0 held.1).1 in
        let first : taken.primary ≡ held.0 = cc in
        let t = one_value (map.get whole.transactions s) taken.t is.t taken.own.there (sym (ap (λ (z : StateOf). map.get z.transactions s) lacks.lean_is) ∙ is.own.there) in
        let it : is.primary ≡ taken.primary = one_value (primary_in taken.t.declared) is.primary taken.primary (ap (λ (z : TransactionOf). primary_in z.declared) t ∙ is.primary_is) taken.primary_is in
        let marks : new.marks ≡ with_mark os lean.marks taken.primary = ap (λ (z : StateOf). z.marks) is.new_is ∙ ap (with_mark os lean.marks) it in
        committed new.marks after.entries s taken.c taken.primary held.0 held.1 (inr (ap phase_by taken.own.there ∙ ap Some taken.stamped, first)) (stays_with new.marks taken.primary marks) (marked_with new.marks taken.primary marks)
        (ap (λ (z : StateOf). z.entries) taken.new_is)

    -- an observed cell is locked in both or in none
    seen_alike : (x : Cell) (s : ℕ) → is_observed os x ≡ true → is_some (lock_at lean.entries x s) ≡ is_some (lock_at whole.entries x s)
    seen_alike (Cell.Data row column) s seen = ap is_some (lean_lock c gone whole lean lacks (Cell.Data row column) refl s)
    seen_alike (Cell.Ack o row column) s seen = absurd cc

    secondary : (seat s : ℕ) (x : Cell) → CommitsSecondary whole seat s x after → CommitsSecondary lean seat s x new → Covered
    secondary seat s x taken is = by (is_some (lock_at whole.entries x s)) (is_some (lock_at lean.entries x s)) refl refl taken.new_is is.new_is
      where
        may_stay : (b : Bool) → new ≡ if_locked lean b x s is.c → Stays new.marks
        may_stay true there = stays_with new.marks x (ap (λ (z : StateOf). z.marks) there)
        may_stay false there = stays_same new.marks (ap (λ (z : StateOf). z.marks) there)

        now : (b : Bool) → is_some (lock_at lean.entries x s) ≡ b → is_some (lock_at whole.entries x s) ≡ true → new ≡ if_locked lean b x s is.c → is_observed os x ≡ true → is_marked new.marks x ≡ true
        now true there locked to seen = marked_with new.marks x (ap (λ (z : StateOf). z.marks) to) seen
        now false there locked to seen = let alike = seen_alike x s seen in absurd cc

        by : (a b : Bool) → is_some (lock_at whole.entries x s) ≡ a → is_some (lock_at lean.entries x s) ≡ b → after ≡ if_locked whole a x s taken.c → new ≡ if_locked lean b x s is.c → Covered
        by true b locked there to left =
            let held = some_is (lock_at whole.entries x s) locked in
            committed new.marks after.entries s taken.c x held.0 held.1 (inl (ap phase_by taken.own.there ∙ ap Some taken.committed)) (may_stay b left) (now b there locked left) (ap (λ (z : StateOf). z.entries) to)
        by false b locked there to left = kept new.marks after.entries (may_stay b left) (ap (λ (z : StateOf). write_at z.entries) to)

  -- ---- steps of marks

  -- who is up to date in one is in the other
  all_up_to_date : (row : Row) (column : ℕ) → AllUpToDate os lean.entries (Cell.Data row column) → AllUpToDate os whole.entries (Cell.Data row column)
  all_up_to_date row column all p observer there observes d low written =
      let k = all p observer there observes d low (ap is_some (lean_record c gone whole lean lacks (Cell.Data row column) refl d) ∙ written) in
      (k.0, newest_there c gone whole lean lacks (Cell.Ack p row column) (number_is_known p (length os) (slice_get_within os p observer there)) k.0 k.1, k.2)

  swept : (new : StateOf) (x : Cell) → AllUpToDate os lean.entries x → new ≡ record lean { marks = map.remove lean.marks x } → AreCovered os new.marks whole.entries
  swept new x all is o observer there row off d u written =
      let y : Cell = Cell.Data row observer.column in
      elim (marked_less lean.marks x y (ap (λ (z : StateOf). is_marked z.marks y) (sym is) ∙ off)) [
        | inl here ↦ up_to_date journal whole a sound os o row observer there (all_up_to_date row observer.column (subst (AllUpToDate os lean.entries) (sym here) all)) d u written
        | inr before ↦ covered o observer there row before d u written
      ]

  left : (new : StateOf) → new ≡ lean → AreCovered os new.marks whole.entries
  left new is = same whole new refl is

  marks_cover : (seat : ℕ) (step : Step) (answer : Answer) (new : StateOf) → is_of_marks step ≡ true → StepCase lean seat step answer new → AreCovered os new.marks whole.entries
  marks_cover seat (Step.NextMark after) (Answer.Marked x) new of is = left new is.new_is
  marks_cover seat (Step.NextMark after) Answer.NoMark new of is = left new is.new_is
  marks_cover seat (Step.Sweep x) Answer.NoMark new of is = left new is.new_is
  marks_cover seat (Step.Sweep x) Answer.StillBehind new of is = left new is.new_is
  marks_cover seat (Step.Sweep x) Answer.Done new of is = swept new x is.up_to_date is.new_is
  marks_cover seat (Step.Begin work) answer new of is = absurd cc
  marks_cover seat (Step.Read s x) answer new of is = absurd cc
  marks_cover seat (Step.ReadAt s x t) answer new of is = absurd cc
  marks_cover seat (Step.Declare s what) answer new of is = absurd cc
  marks_cover seat (Step.Prewrite s x) answer new of is = absurd cc
  marks_cover seat (Step.Stamp s) answer new of is = absurd cc
  marks_cover seat (Step.CommitPrimary s) answer new of is = absurd cc
  marks_cover seat (Step.CommitSecondary s x) answer new of is = absurd cc
  marks_cover seat (Step.Settle x) answer new of is = absurd cc
  marks_cover seat (Step.Clear x) answer new of is = absurd cc
  marks_cover seat step answer new of is = absurd is

  -- ---- all steps

  module _ (after new : StateOf) where
    -- where the whole table stays but for its marks
    by_marks : (seat : ℕ) (step : Step) (answer : Answer) → is_of_marks step ≡ true → after.entries ≡ whole.entries → StepCase lean seat step answer new → AreCovered os new.marks after.entries
    by_marks seat step answer of to is = subst (AreCovered os new.marks) (sym to) (marks_cover seat step answer new of is)

    entries_of : (to : StateOf) → after ≡ to → after.entries ≡ to.entries
    entries_of to is = ap (λ (z : StateOf). z.entries) is

    step_covers : (seat : ℕ) (step : Step) (answer : Answer) → StepCase whole seat step answer after → StepCase lean seat step answer new → AreCovered os new.marks after.entries
    step_covers seat (Step.Begin work) (Answer.At s) taken is = beside after new _ taken.new_is refl _ is.new_is refl
    step_covers seat (Step.Read s x) (Answer.Locked start p) taken is = same after new taken.new_is is.new_is
    step_covers seat (Step.Read s x) (Answer.Found start commit content) taken is = beside after new _ taken.new_is refl _ is.new_is refl
    step_covers seat (Step.Read s x) Answer.Absent taken is = beside after new _ taken.new_is refl _ is.new_is refl
    step_covers seat (Step.ReadAt s x t) (Answer.Locked start p) taken is = same after new taken.new_is is.new_is
    step_covers seat (Step.ReadAt s x t) (Answer.Found start commit content) taken is = beside after new _ taken.new_is refl _ is.new_is refl
    step_covers seat (Step.ReadAt s x t) Answer.Absent taken is = beside after new _ taken.new_is refl _ is.new_is refl
    step_covers seat (Step.Declare s what) Answer.Done taken is = beside after new _ taken.new_is refl _ is.new_is refl
    step_covers seat (Step.Prewrite s x) Answer.Done taken is = beside after new _ taken.new_is (write_after_put whole.entries x s.0 taken.content taken.primary) _ is.new_is refl
    step_covers seat (Step.Prewrite s x) Answer.Conflict taken is = beside after new _ taken.new_is refl _ is.new_is refl
    step_covers seat (Step.Stamp s) (Answer.At d) taken is = beside after new _ taken.new_is refl _ is.new_is refl
    step_covers seat (Step.CommitPrimary s) Answer.Committed taken is = primary after new seat s.0 taken is
    step_covers seat (Step.CommitPrimary s) Answer.Lost taken is = beside after new _ taken.new_is refl _ is.new_is refl
    step_covers seat (Step.CommitSecondary s x) Answer.Done taken is = secondary after new seat s.0 x taken is
    step_covers seat (Step.Settle x) Answer.Absent taken is = same after new taken.new_is is.new_is
    step_covers seat (Step.Settle x) (Answer.Locked start p) taken is = same after new taken.new_is is.new_is
    step_covers seat (Step.Settle x) Answer.RolledBack taken is = beside after new _ taken.new_is (write_after_back whole.entries x taken.start) _ is.new_is refl
    step_covers seat (Step.Clear x) Answer.Absent taken is = same after new taken.new_is is.new_is
    step_covers seat (Step.Clear x) Answer.Waits taken is = same after new taken.new_is is.new_is
    step_covers seat (Step.Clear x) (Answer.CommittedAt d) taken is =
        let marks = ap (λ (z : StateOf). z.marks) is.new_is in
        committed new.marks after.entries taken.start d.0 x taken.primary taken.locked.locked (inl (sound.record_committed taken.primary d.0 taken.start taken.written)) (stays_with new.marks x marks) (marked_with new.marks x marks)
        (entries_of _ taken.new_is)
    step_covers seat (Step.Clear x) Answer.RolledBack taken is = beside after new _ taken.new_is (write_after_back whole.entries x taken.start) _ is.new_is refl
    step_covers seat (Step.NextMark at) (Answer.Marked x) taken is = by_marks seat (Step.NextMark at) (Answer.Marked x) refl (entries_of _ taken.new_is) is
    step_covers seat (Step.NextMark at) Answer.NoMark taken is = by_marks seat (Step.NextMark at) Answer.NoMark refl (entries_of _ taken.new_is) is
    step_covers seat (Step.Sweep x) Answer.NoMark taken is = by_marks seat (Step.Sweep x) Answer.NoMark refl (entries_of _ taken.new_is) is
    step_covers seat (Step.Sweep x) Answer.StillBehind taken is = by_marks seat (Step.Sweep x) Answer.StillBehind refl (entries_of _ taken.new_is) is
    step_covers seat (Step.Sweep x) Answer.Done taken is = by_marks seat (Step.Sweep x) Answer.Done refl (entries_of _ taken.new_is) is
    step_covers seat _ _ taken is = absurd is

-- with the marks that a step leaves in the one, all that it leaves in the other is covered
pub covered_after : (journal : List Entry) (c : ℕ) (gone : List ObserverOf) (whole lean after new : StateOf) (seat : ℕ) (step : Step) (answer : Answer) → Agrees journal whole → IsSoundTable whole → LacksOthers c gone whole lean
    → AreCovered lean.observers lean.marks whole.entries → StepCase whole seat step answer after → StepCase lean seat step answer new → AreCovered lean.observers new.marks after.entries
covered_after journal c gone whole lean after new seat step answer a sound lacks covered taken is = step_covers journal c gone whole lean a sound lacks covered after new seat step answer taken is

-- and so is the whole table as it is, where it is a step of marks
pub covered_marks : (journal : List Entry) (c : ℕ) (gone : List ObserverOf) (whole lean new : StateOf) (seat : ℕ) (step : Step) (answer : Answer) → Agrees journal whole → IsSoundTable whole → LacksOthers c gone whole lean
    → AreCovered lean.observers lean.marks whole.entries → is_of_marks step ≡ true → StepCase lean seat step answer new → AreCovered lean.observers new.marks whole.entries
covered_marks journal c gone whole lean new seat step answer a sound lacks covered of is = marks_cover journal c gone whole lean a sound lacks covered seat step answer new of is
