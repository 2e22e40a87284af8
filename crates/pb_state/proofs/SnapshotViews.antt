-- A table as a snapshot leaves it is sound.
use Rattle.std.proofs.Common.{◌≡◌, ℕ, ◌<◌, ◌≤◌, inl, inr, sym, ◌∙◌, ap, arith, Some}
use Rattle.std.proofs.lemmas.Option.{none-some}
use Rattle.pb_state.specs.Words.{Cell, Phase, TableView, IsSoundView, IsCommittedAt}
use Rattle.pb_history.specs.Sound.{HasStamp}
use Rattle.pb_state.specs.SnapshotViews.{IsSnapshotView}

commit_of : Phase → ℕ
commit_of (Phase.Stamped c) = c.0
commit_of (Phase.Committed c) = c.0
commit_of _ = 0

module _ (v : TableView) (m : IsSnapshotView v) where
  not_stamped : (c d : ℕ) → Phase.Stamped (record { 0 = c }) ≡ Phase.Committed (record { 0 = d }) → ⊥
  not_stamped c d is = cc

  -- what has a stamp is committed
  has : (s c : ℕ) → HasStamp v s c → IsCommittedAt v s c
  has s c (inl stamped) = let k = m.committed s (Phase.Stamped (record { 0 = c })) stamped in absurd (not_stamped c k.0 k.1)
  has s c (inr committed) = committed

  bounds : (s c : ℕ) → IsCommittedAt v s c → (s < c) × (c ≤ v.clock)
  unfolding commit_of
  bounds s c is =
      let k = m.committed s (Phase.Committed (record { 0 = c })) is in
      let same : c ≡ k.0 = ap commit_of k.1 in
      (omega (arith, same, k.2), omega (arith, same, k.3))

  locked : (x : Cell) (s : ℕ) (p : Cell) → v.lock x s ≡ Some p → ⊥
  locked x s p is = none-some p (sym (m.unlocked x s) ∙ is)

  pub snapshot_sound : IsSoundView v
  snapshot_sound = record {
    small = m.small;
    begun = λ s h is. let k = m.committed s h is in omega (arith, k.2, k.3);
    stamped = λ s c is. bounds s c (has s c is);
    one_stamp = λ s u c a b. m.one s u c (has s c a) (has u c b);
    was_declared = λ s x is. (m.declared s x is).1;
    past_reading = λ s x is.
        let k = (m.declared s x is).0 in
        (λ reading. no_reading k.0 (sym k.1 ∙ reading), λ none. none-some (Phase.Committed (record { 0 = k.0 })) (sym none ∙ k.1));
    primary_first = λ s x p is primary. let k = m.primary s p primary in m.prewritten s p k.0 k.1;
    all_prewritten = λ s c x k is content. m.prewritten s x k content;
    lock_prewritten = λ x s p is. absurd (locked x s p is);
    lock_data = λ x s p is. absurd (locked x s p is);
    one_lock = λ x s u p q is _. absurd (locked x s p is);
    all_locked = λ s p x _ is _. absurd (locked p s p is);
    record_committed = λ x c s is. (m.written x c s is).0;
    record_prewritten = λ x c s is. let k = (m.written x c s is).1 in m.prewritten s x k.0 k.1;
    record_data = λ x c s is. let k = (m.written x c s is).1 in k.2 ∙ sym k.1;
    record_unlocked = λ x c s is. m.unlocked x s;
    behind_lock = λ x s p c u is _. absurd (locked x s p is);
    apart = m.apart;
    stands = λ s c x k is content. inl (m.stands s c x k is content);
    primary_stands = λ s c p is primary. let k = m.primary s p primary in m.stands s c p k.0 is k.1;
    read_begun = λ s r is. absurd (m.unread s r is);
    tells = λ s r is. absurd (m.unread s r is);
    settled = λ s r u c k is _ _ _. absurd (m.unread s r is);
  }
    where
      no_reading : (c : ℕ) → Some (Phase.Committed (record { 0 = c })) ≡ Some Phase.Reading → ⊥
      no_reading c is = cc
