-- What is left of the transactions of a snapshot makes it a sound table, and is of no seat.
use Rattle.std.proofs.Common.{◌≡◌, ℕ, ◌<◌, ◌≤◌, ◌⊎◌, inl, inr, refl, sym, ◌∙◌, ap, subst, arith, Some, None, is_some, option_map}
use Rattle.std.specs.FinMap as map
use Rattle.pb_generations.specs.Words.{content_in, Cell, Content, Entries, data_at, lock_at, write_at, StateOf, TransactionOf, Transactions, is_in, Phase, RecordedRead, Has, IsCommittedAt, IsSoundTable, TableView, declared_by, prewritten_by, view_of, IsSnapshotView}
use Rattle.pb_base.proofs.Logic.{same_some}
use Rattle.pb_history.proofs.Agreement.{ts}
use Rattle.pb_history.proofs.HistoryTold.{same_stamp}
use Rattle.pb_generations.specs.Mirrored.{carried}
use Rattle.pb_generations.specs.Snapshots.{IsSnapshotOf, IsLeftOf, AreLeft, AreEnded, LeftAreSound}
use Rattle.pb_state.proofs.GotParts.{first_content, got_content, got_phase, got_prewritten, got_primary, got_read, value_there}
use Rattle.pb_state.proofs.SnapshotViews.{snapshot_sound}

one_commit : (c d : ℕ) → Some (Phase.Committed (ts c)) ≡ Some (Phase.Committed (ts d)) → c ≡ d
one_commit c d both = same_stamp (Phase.Committed (ts d)) c d (same_some _ _ (sym both)) (inr (inl refl))

-- ---- its entries

-- of each write record the table has one on some cell, and its data stand beside it; of two transactions with one on a cell, one was
-- committed before the other began; and there is no lock
pub record HaveVersions (whole : StateOf) (e : Entries) : Type 0 where
  pub written : (y : Cell) (c s : ℕ) → write_at e y c ≡ Some s → ((x : Cell) × (write_at whole.entries x c ≡ Some s)) × ((k : Content) × (data_at e y s ≡ Some k))
  pub apart : (y : Cell) (c s d u : ℕ) → write_at e y c ≡ Some s → write_at e y d ≡ Some u → (s ≡ u → ⊥) → (c < u) ⊎ (d < s)
  pub unlocked : (y : Cell) (s : ℕ) → lock_at e y s ≡ None

module _ (whole : StateOf) (e : Entries) (had : Transactions) (sound : IsSoundTable whole) (snap : HaveVersions whole e) (left : AreLeft whole e had) where
  abbrev now : StateOf
  now = carried whole e had

  abbrev v : TableView
  v = view_of now

  whole_committed : (x : Cell) (c s : ℕ) → write_at e x c ≡ Some s → IsCommittedAt (view_of whole) s c
  whole_committed x c s is = let k = (snap.written x c s is).0 in sound.record_committed k.0 c s k.1

  -- ---- its transactions

  has_read_nothing : (s : ℕ) (r : RecordedRead) → Has (v.reads s) r → ⊥
  has_read_nothing s r is = let g = got_read now s r is in subst (λ rs. Has rs r) (left.each s g.0 g.1).unread g.2

  module _ (s : ℕ) (t : TransactionOf) (there : map.get had s ≡ Some t) where
    abbrev its : IsLeftOf whole e s t
    its = left.each s t there

    phase_there : v.phase s ≡ Some t.phase
    phase_there = ap (option_map (λ (u : TransactionOf). u.phase)) there

    committed_there : IsCommittedAt v s its.commit.0
    committed_there = phase_there ∙ ap (λ (h : Phase). Some h) its.phase

    bounds_there : (s < its.commit.0) × (its.commit.0 ≤ whole.clock)
    bounds_there = sound.stamped s its.commit.0 (inr (whole_committed its.some.0 its.commit.0 s its.some.1))

    -- it is committed where it has a write record, and at no other timestamp
    at_record : (x : Cell) (c : ℕ) → write_at e x c ≡ Some s → its.commit.0 ≡ c
    at_record x c is =
        one_commit its.commit.0 c (sym (whole_committed its.some.0 its.commit.0 s its.some.1) ∙ whole_committed x c s is)

    at_commit : (c : ℕ) → IsCommittedAt v s c → its.commit.0 ≡ c
    at_commit c is =
        one_commit its.commit.0 c (sym committed_there ∙ is)

  is_committed_at : (x : Cell) (c s : ℕ) → write_at e x c ≡ Some s → IsCommittedAt v s c
  is_committed_at x c s is = let g = left.all x c s is in subst (λ (n : ℕ). IsCommittedAt v s n) (at_record s g.0 g.1 x c is) (committed_there s g.0 g.1)

  in_whole : (s c : ℕ) → IsCommittedAt v s c → IsCommittedAt (view_of whole) s c
  in_whole s c is =
      let g = got_phase now s (Phase.Committed (record { 0 = c })) is in
      let k = left.each s g.0 g.1 in
      subst (λ (n : ℕ). IsCommittedAt (view_of whole) s n) (at_commit s g.0 g.1 c is) (whole_committed k.some.0 k.commit.0 s k.some.1)

  snapshot_view : IsSnapshotView v
  snapshot_view = record {
    small = sound.small;
    committed = λ s h is.
        let g = got_phase now s h is in
        let k = left.each s g.0 g.1 in
        let b = bounds_there s g.0 g.1 in
        (k.commit.0, sym g.2 ∙ k.phase, b.0, b.1);
    one = λ s u c a b. sound.one_stamp s u c (inr (in_whole s c a)) (inr (in_whole u c b));
    unlocked = snap.unlocked;
    unread = has_read_nothing;
    declared = λ s x is.
        let g = got_prewritten now s x is in
        let k = left.each s g.0 g.1 in
        let w = value_there (content_in g.0.declared x) (sym (k.prewritten x) ∙ g.2) in
        ((k.commit.0, committed_there s g.0 g.1), (w.0, ap (λ o. content_in (declared_by o) x) g.1 ∙ w.1));
    prewritten = λ s x k is. let g = got_content now s x k is in ap (λ o. is_in (prewritten_by o) x) g.1 ∙ (left.each s g.0 g.1).prewritten x ∙ ap is_some g.2;
    primary = λ s p is. let g = got_primary now s p is in let w = first_content g.0.declared p g.2 in (w.0, ap (λ o. content_in (declared_by o) p) g.1 ∙ w.1);
    written = λ x c s is.
        let g = left.all x c s is in
        let k = left.each s g.0 g.1 in
        let d = (snap.written x c s is).1 in
        let here = ap (λ (n : ℕ). write_at e x n) (at_record s g.0 g.1 x c is) ∙ is in
        (is_committed_at x c s is, (d.0, ap (λ o. content_in (declared_by o) x) g.1 ∙ (k.declared x d.0).1 (here, d.1), d.1));
    stands = λ s c x k is content.
        let g = got_content now s x k content in
        ap (λ (n : ℕ). write_at e x n) (sym (at_commit s g.0 g.1 c is)) ∙ (((left.each s g.0 g.1).declared x k).0 g.2).0;
    apart = snap.apart;
  }

  ended : AreEnded whole had
  ended s t there = let k = left.each s t there in let b = bounds_there s t there in (omega (arith, b.0, b.1), omega (arith, k.unseated))

-- with what is left of its transactions, such entries make a sound table
pub left_sound : (whole : StateOf) (e : Entries) (ts : Transactions) → IsSoundTable whole → HaveVersions whole e → AreLeft whole e ts → IsSoundTable (carried whole e ts) × AreEnded whole ts
left_sound whole e had sound snap left = (snapshot_sound (view_of (carried whole e had)) (snapshot_view whole e had sound snap left), ended whole e had sound snap left)

-- ---- a snapshot

snapshot_has : (whole : StateOf) (e : Entries) → IsSoundTable whole → IsSnapshotOf whole e → HaveVersions whole e
snapshot_has whole e sound snap = record {
  written = λ y c s is. ((y, snap.within.records y c s is), snap.stored y c s is);
  apart = λ y c s d u a b. sound.apart y c s d u (snap.within.records y c s a) (snap.within.records y d u b);
  unlocked = snap.unlocked;
}

pub left_are_sound : LeftAreSound
left_are_sound whole e had sound snap left = left_sound whole e had sound (snapshot_has whole e sound snap) left
