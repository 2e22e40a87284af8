-- A state that was opened with the versions of a snapshot carries the table over, also where its cells have become others.
use Rattle.std.proofs.Common.{◌≡◌, ◌⊎◌, ℕ, ◌<◌, ◌≤◌, arith, inl, inr, List, Option, Some, None, refl, sym, ap, ◌∙◌, subst}
use Rattle.std.proofs.lemmas.Bool.{cases_lt}
use Rattle.std.proofs.lemmas.Option.{none-some}
use Rattle.std.specs.FinMap as map
use Rattle.pb_base.proofs.Logic.{same_some}
use Rattle.pb_snapshots.specs.Words.{content_in, Cell, Content, Revision, Ts, ObserverOf, SomeBehind, IsVersion, data_at, last_timestamp, write_at, StateOf, TransactionOf, phase_in, Phase, Has, IsSoundTable, SameVersionOn, carried, unmarked, AreLeft, HasAcknowledged, IsLeftOf, IsSnapshotOf, IsViewedAt, IsCarriedOver, IsLeftOver}
use Rattle.pb_history.proofs.SoundHasData.{keeps_data}
use Rattle.pb_history.proofs.Updates.{none_if}
use Rattle.pb_generations.proofs.NewestVersions.{newest_or_none}
use Rattle.pb_generations.proofs.QuietTables.{no_record_above}
use Rattle.pb_generations.proofs.SameVersions.{both_have}
use Rattle.pb_snapshots.specs.Taken.{IsLastRecord, IsTakenOf}

one_phase : (c d : Ts) → Some (Phase.Committed c) ≡ Some (Phase.Committed d) → c ≡ d
one_phase c d is = cc

-- a cell of the table becomes this one of the new table, if any, and no two become one
module _ (old new : StateOf) (becomes : Cell → Option Cell) (one_cell : (x y z : Cell) → becomes x ≡ Some z → becomes y ≡ Some z → x ≡ y) (front : List ObserverOf) (cells : List (Cell × Revision)) (sound : IsSoundTable old)
    (each : (y : Cell) (v : Revision) → Has cells (y, v) → (x : Cell) × (becomes x ≡ Some y) × IsTakenOf old x v)
    (all : (x y : Cell) (v : Revision) → becomes x ≡ Some y → IsTakenOf old x v → Has cells (y, v))
    (is : IsCarriedOver front old.seats old.clock cells new) where
  -- versions of one start are of one commit
  one_commit : (x y : Cell) (v w : Revision) → Has cells (x, v) → Has cells (y, w) → v.start.0 ≡ w.start.0 → v.commit ≡ w.commit
  one_commit x y v w a b same =
      let p = each x v a in
      let q = each y w b in
      one_phase v.commit w.commit (sym (sound.record_committed p.0 v.commit.0 v.start.0 p.2.written) ∙ ap (phase_in old) same ∙ sound.record_committed q.0 w.commit.0 w.start.0 q.2.written)

  pub state_becomes : new ≡ unmarked (record (carried old new.entries new.transactions) { observers = front })
  state_becomes = λ i. record { entries = new.entries; marks = is.marks_are i; observers = is.observers_are i; clock = is.clock_is i; seats = is.seats_are i; transactions = new.transactions }

  -- what stands in it was taken
  pub only_those : (y : Cell) (d s : ℕ) → write_at new.entries y d ≡ Some s → (x : Cell) × (becomes x ≡ Some y) × (write_at old.entries x d ≡ Some s)
  only_those y d s there =
      let v = is.entries_are.only y d s there in
      let x = each y v.0 v.1 in
      (x.0, x.1, ap (λ (c : ℕ). write_at old.entries x.0 c) (sym v.2) ∙ x.2.written ∙ ap (λ (n : ℕ). Some n) v.3)

  pub no_more : (y : Cell) (s : ℕ) (k : Content) → data_at new.entries y s ≡ Some k → (x : Cell) × (becomes x ≡ Some y) × (data_at old.entries x s ≡ Some k)
  no_more y s k there =
      let v = is.entries_are.no_more y s k there in
      let x = each y v.0 v.1 in
      (x.0, x.1, ap (data_at old.entries x.0) (sym v.2) ∙ x.2.content ∙ ap (λ (c : Content). Some c) v.3)

  pub stored_beside : (y : Cell) (d s : ℕ) → write_at new.entries y d ≡ Some s → (k : Content) × (data_at new.entries y s ≡ Some k)
  stored_beside y d s there =
      let v = is.entries_are.only y d s there in
      (v.0.content, ap (data_at new.entries y) (sym v.3) ∙ (is.entries_are.kept y v.0 v.1).1)

  -- where a version is taken it stands
  module _ (x y : Cell) (e : becomes x ≡ Some y) (t : ℕ) (taken : (v : Revision) → IsVersion old.entries x t v → IsTakenOf old x v) where
    same_record : (d s : ℕ) → write_at new.entries y d ≡ Some s → write_at old.entries x d ≡ Some s
    same_record d s there = let z = only_those y d s there in subst (λ (w : Cell). write_at old.entries w d ≡ Some s) (one_cell z.0 x y z.1 e) z.2

    stands_on : (v : Revision) → IsVersion old.entries x t v → IsVersion new.entries y t v
    stands_on v there =
        let k = is.entries_are.kept y v (all x y v e (taken v there)) in
        record {
          low = there.low;
          written = k.0;
          content = k.1;
          newest = λ d above low. none_if (write_at new.entries y d) (λ s here. none-some s (sym (there.newest d above low) ∙ same_record d s here));
        }

    pub same_version : SameVersionOn t old.entries x new.entries y
    same_version = elim (newest_or_none old.entries (keeps_data old sound).whole x t) [
      | inl v ↦ both_have t old.entries x new.entries y v.0 v.1 (stands_on v.0 v.1)
      | inr none ↦
          let none_there : (d : ℕ) → d ≤ t → write_at new.entries y d ≡ None = λ d low. none_if (write_at new.entries y d) (λ s here. none-some s (sym (none d low) ∙ same_record d s here)) in
          record {
            there = λ v. (
              λ here. absurd (none-some v.start.0 (sym (none v.commit.0 here.low) ∙ here.written)),
              λ here. absurd (none-some v.start.0 (sym (none_there v.commit.0 here.low) ∙ here.written)),
            );
            none = (λ _. none_there, λ _. none);
          }
    ]

  module _ (s : ℕ) (t : TransactionOf) (over : IsLeftOver old.seats cells s t) where
    -- a version of the transaction stands at its commit
    stands : (x : Cell) (v : Revision) → Has cells (x, v) → v.start.0 ≡ s → (write_at new.entries x over.commit.0 ≡ Some s) × (data_at new.entries x s ≡ Some v.content)
    stands x v has start =
        let w = over.some in
        let commit : v.commit ≡ over.commit = one_commit x w.0 v w.1 has w.2 (start ∙ sym w.3) ∙ w.4 in
        let k = is.entries_are.kept x v has in
        (sym (ap (λ (c : Ts). write_at new.entries x c.0) commit) ∙ k.0 ∙ ap Some start, sym (ap (data_at new.entries x) start) ∙ k.1)

    is_declared : (x : Cell) (k : Content) → content_in t.declared x ≡ Some k → (write_at new.entries x over.commit.0 ≡ Some s) × (data_at new.entries x s ≡ Some k)
    is_declared x k declared =
        let v = (over.declared x k).0 declared in
        let there = stands x v.0 v.1 v.2 in
        (there.0, there.1 ∙ ap Some v.3)

    was_declared : (x : Cell) (k : Content) → write_at new.entries x over.commit.0 ≡ Some s → data_at new.entries x s ≡ Some k → content_in t.declared x ≡ Some k
    was_declared x k written stored =
        let v = is.entries_are.only x over.commit.0 s written in
        let there = stands x v.0 v.1 v.3 in
        (over.declared x k).1 (v.0, v.1, v.3, same_some v.0.content k (sym there.1 ∙ stored))

    pub left_carried : IsLeftOf old new.entries s t
    left_carried = record {
      commit = over.commit;
      phase = over.phase;
      some = let w = over.some in (w.0, (stands w.0 w.1 w.2 w.3).0);
      unread = over.unread;
      unseated = over.unseated;
      declared = λ x k. (is_declared x k, λ p. was_declared x k p.0 p.1);
      prewritten = over.prewritten;
    }

  pub are_left_carried : AreLeft old new.entries new.transactions
  are_left_carried = record {
    each = λ s t there. left_carried s t (is.transactions_are.each s t there);
    all = λ x c s there.
        let v = is.entries_are.only x c s there in
        let k = is.transactions_are.all x v.0 v.1 in
        (k.0, ap (map.get new.transactions) (sym v.3) ∙ k.1);
  }

-- ---- what may still be viewed is taken

module _ (old : StateOf) (sound : IsSoundTable old) (room : old.clock < last_timestamp) where
  -- a version at the clock is the newest
  newest_of : (x : Cell) (v : Revision) → IsVersion old.entries x old.clock v → IsVersion old.entries x last_timestamp v
  newest_of x v is = record {
    low = let low = is.low in omega (arith, low, room);
    written = is.written;
    content = is.content;
    newest = λ d above low. elim (cases_lt old.clock d) [ inl past ↦ no_record_above old sound x d past | inr by_then ↦ is.newest d above by_then ];
  }

  by_clock : (x : Cell) (v : Revision) → write_at old.entries x v.commit.0 ≡ Some v.start.0 → v.commit.0 ≤ old.clock
  by_clock x v written = (sound.stamped v.start.0 v.commit.0 (inr (sound.record_committed x v.commit.0 v.start.0 written))).1

  -- one that isn't the last is viewed by an observer that isn't up to date
  by_observer : (x : Cell) (t : ℕ) → HasAcknowledged old.observers old.entries old.clock x t → (v : Revision) → IsVersion old.entries x t v → IsLastRecord old.entries old.clock x v.commit.0 ⊎ SomeBehind old.observers old.entries x
  by_observer x t a v is = elim (newest_or_none old.entries (keeps_data old sound).whole x old.clock) [
    | inl last ↦ elim (cases_lt v.commit.0 last.0.commit.0) [
      | inl later ↦
          let over : t < last.0.commit.0 = elim (cases_lt t last.0.commit.0) [
            | inl above ↦ above
            | inr by_then ↦ absurd (none-some last.0.start.0 (sym (is.newest last.0.commit.0 later by_then) ∙ last.1.written))
          ] in
          let cell = a.cell in
          let stamp = a.stamp in
          inr (subst (SomeBehind old.observers old.entries) (sym cell) (
            a.o,
            record {
              version = last.0;
              newest = subst (λ (y : Cell). IsVersion old.entries y last_timestamp last.0) cell (newest_of x last.0 last.1);
              acknowledged = Some a.w;
              acknowledges = record { observer = a.observer; there = a.there; observes = refl; newest = newest_of (Cell.Ack a.o a.row a.observer.column) a.w a.is };
              newer = omega (arith, over, stamp);
            },
          ))
      | inr not_later ↦ inl (λ d above low. last.1.newest d (omega (arith, above, not_later)) low)
    ]
    | inr none ↦ absurd (none-some v.start.0 (sym (none v.commit.0 (by_clock x v is.written)) ∙ is.written))
  ]

  pub viewed_taken : (x : Cell) (t : ℕ) → IsViewedAt old x t → (v : Revision) → IsVersion old.entries x t v → IsTakenOf old x v
  viewed_taken x t (inl at) v is = record {
    low = by_clock x v is.written;
    written = is.written;
    content = is.content;
    wanted = inl (λ d above low. is.newest d above (omega (arith, at, low)));
  }
  viewed_taken x t (inr a) v is = record { low = by_clock x v is.written; written = is.written; content = is.content; wanted = by_observer x t a v is }

-- ---- each cell stays what it is

module _ (old new : StateOf) (cells : List (Cell × Revision)) (sound : IsSoundTable old) (room : old.clock < last_timestamp)
    (each : (x : Cell) (v : Revision) → Has cells (x, v) → IsTakenOf old x v)
    (all : (x : Cell) (v : Revision) → IsTakenOf old x v → Has cells (x, v))
    (is : IsCarriedOver old.observers old.seats old.clock cells new) where
  each_stays : (y : Cell) (v : Revision) → Has cells (y, v) → (x : Cell) × (Some x ≡ Some y) × IsTakenOf old x v
  each_stays y v has = (y, refl, each y v has)

  all_stay : (x y : Cell) (v : Revision) → Some x ≡ Some y → IsTakenOf old x v → Has cells (y, v)
  all_stay x y v same there = subst (λ (z : Cell). Has cells (z, v)) (same_some x y same) (all x v there)

  one : (x y z : Cell) → Some x ≡ Some z → Some y ≡ Some z → x ≡ y
  one x y z a b = same_some x y (a ∙ sym b)

  pub state_carried : new ≡ unmarked (carried old new.entries new.transactions)
  state_carried = state_becomes old new Some one old.observers cells sound each_stays all_stay is

  pub snapshot_carried : IsSnapshotOf old new.entries
  snapshot_carried = record {
    viewed = λ x t at. same_version old new Some one old.observers cells sound each_stays all_stay is x x refl t (viewed_taken old sound room x t at);
    within = record {
      records = λ y d s there. let k = only_those old new Some one old.observers cells sound each_stays all_stay is y d s there in subst (λ (z : Cell). write_at old.entries z d ≡ Some s) (same_some k.0 y k.1) k.2;
      stored = λ y s c there. let k = no_more old new Some one old.observers cells sound each_stays all_stay is y s c there in subst (λ (z : Cell). data_at old.entries z s ≡ Some c) (same_some k.0 y k.1) k.2;
    };
    stored = stored_beside old new Some one old.observers cells sound each_stays all_stay is;
    unlocked = is.entries_are.unlocked;
  }

  pub snapshot_left : AreLeft old new.entries new.transactions
  snapshot_left = are_left_carried old new Some one old.observers cells sound each_stays all_stay is
