-- A state that begins with versions in their order is sound.
use Rattle.std.proofs.Common.{arith, ◌≡◌, ℕ, ◌<◌, ◌≤◌, ◌^◌, inl, inr, List, Some, is_some, option_map, refl, sym, ap, ◌∙◌, subst}
use Rattle.std.specs.FinMap as map
use Rattle.pb_history.specs.TableView.{view_of, declared_by, prewritten_by}
use Rattle.pb_state.specs.Words.{Cell, Revision, Ts, ObserverOf, Phase, StateOf, TransactionOf, Has, IsCommittedAt, IsSoundTable, TableView, content_in, data_at, is_in, write_at}
use Rattle.pb_state.specs.CarriedOver.{CellVersions, AreVersionsBy, IsCarriedOver, IsLeftOver}
use Rattle.pb_state.specs.SnapshotViews.{IsSnapshotView}
use Rattle.pb_state.proofs.SnapshotViews.{snapshot_sound}
use Rattle.pb_state.proofs.GotParts.{value_there, first_content, got_phase, got_content, got_primary, got_prewritten, got_read}

-- the commit of a phase that has one
phase_commit : Phase → ℕ
phase_commit (Phase.Committed c) = c.0
phase_commit _ = 0

module _ (observers : List ObserverOf) (seats last : ℕ) (cells : CellVersions) (state : StateOf) (carried : IsCarriedOver observers seats last cells state) (are : AreVersionsBy last cells) (small : last < 2 ^ 64) where
  abbrev v : TableView
  v = view_of state

  abbrev its : (s : ℕ) (t : TransactionOf) → map.get state.transactions s ≡ Some t → IsLeftOver seats cells s t
  its s t there = carried.transactions_are.each s t there

  committed_there : (s : ℕ) (t : TransactionOf) (there : map.get state.transactions s ≡ Some t) → IsCommittedAt v s (its s t there).commit.0
  committed_there s t there = ap (option_map (λ (u : TransactionOf). u.phase)) there ∙ ap (λ (h : Phase). Some h) (its s t there).phase

  -- a version of its start has its commit
  record IsVersionOf (s c : ℕ) : Type 0 where
    x : Cell
    w : Revision
    has : Has cells (x, w)
    start : w.start.0 ≡ s
    commit : w.commit.0 ≡ c

  version_of : (s : ℕ) (t : TransactionOf) (there : map.get state.transactions s ≡ Some t) → IsVersionOf s (its s t there).commit.0
  version_of s t there =
      let k = (its s t there).some in
      record { x = k.0; w = k.1; has = k.2; start = k.3; commit = ap (λ (c : Ts). c.0) k.4 }

  at_commit : (s c : ℕ) → IsCommittedAt v s c → IsVersionOf s c
  unfolding phase_commit
  at_commit s c is =
      let g = got_phase state s (Phase.Committed (record { 0 = c })) is in
      let same : (its s g.0 g.1).commit.0 ≡ c = ap phase_commit (sym (its s g.0 g.1).phase ∙ g.2) in
      subst (IsVersionOf s) same (version_of s g.0 g.1)

  bounds : (s c : ℕ) → IsVersionOf s c → (s < c) × (c ≤ state.clock)
  bounds s c of =
      let above = are.above (of.x, of.w) of.has in
      let low = are.by_then (of.x, of.w) of.has in
      let start = of.start in
      let commit = of.commit in
      let clock = carried.clock_is in
      (omega (arith, above, start, commit), omega (arith, low, commit, clock))

  -- the version that a write record is of, and its transaction
  record IsWrittenBy (x : Cell) (d s : ℕ) : Type 0 where
    w : Revision
    has : Has cells (x, w)
    commit : w.commit.0 ≡ d
    start : w.start.0 ≡ s
    t : TransactionOf
    there : map.get state.transactions s ≡ Some t

  written_by : (x : Cell) (d s : ℕ) → write_at state.entries x d ≡ Some s → IsWrittenBy x d s
  written_by x d s is =
      let k = carried.entries_are.only x d s is in
      let t = carried.transactions_are.all x k.0 k.1 in
      record { w = k.0; has = k.1; commit = k.2; start = k.3; t = t.0; there = ap (λ n. map.get state.transactions n) (sym k.3) ∙ t.1 }

  carried_view : IsSnapshotView v
  carried_view = record {
    small = let clock = carried.clock_is in omega (arith, clock, small);
    committed = λ s h is.
        let g = got_phase state s h is in
        let k = its s g.0 g.1 in
        let b = bounds s k.commit.0 (version_of s g.0 g.1) in
        (k.commit.0, sym g.2 ∙ k.phase, b.0, b.1);
    one = λ s u c a b.
        let p = at_commit s c a in
        let q = at_commit u c b in
        sym p.start ∙ are.one_start (p.x, p.w) (q.x, q.w) p.has q.has (p.commit ∙ sym q.commit) ∙ q.start;
    unlocked = carried.entries_are.unlocked;
    unread = λ s r is. let g = got_read state s r is in subst (λ rs. Has rs r) (its s g.0 g.1).unread g.2;
    declared = λ s x is.
        let g = got_prewritten state s x is in
        let k = its s g.0 g.1 in
        let w = value_there (content_in g.0.declared x) (sym (k.prewritten x) ∙ g.2) in
        ((k.commit.0, committed_there s g.0 g.1), (w.0, ap (λ o. content_in (declared_by o) x) g.1 ∙ w.1));
    prewritten = λ s x k is. let g = got_content state s x k is in ap (λ o. is_in (prewritten_by o) x) g.1 ∙ (its s g.0 g.1).prewritten x ∙ ap is_some g.2;
    primary = λ s p is. let g = got_primary state s p is in let w = first_content g.0.declared p g.2 in (w.0, ap (λ o. content_in (declared_by o) p) g.1 ∙ w.1);
    written = λ x d s is.
        let b = written_by x d s is in
        let k = its s b.t b.there in
        let y = version_of s b.t b.there in
        let same : k.commit.0 ≡ d = sym y.commit ∙ are.one_commit (y.x, y.w) (x, b.w) y.has b.has (y.start ∙ sym b.start) ∙ b.commit in (
          subst (IsCommittedAt v s) same (committed_there s b.t b.there),
          (
            b.w.content,
            ap (λ o. content_in (declared_by o) x) b.there ∙ (k.declared x b.w.content).1 (b.w, b.has, b.start, refl),
            ap (λ n. data_at state.entries x n) (sym b.start) ∙ (carried.entries_are.kept x b.w b.has).1,
          ),
        );
    stands = λ s d x l is content.
        let g = got_content state s x l content in
        let w = ((its s g.0 g.1).declared x l).0 g.2 in
        let y = at_commit s d is in
        let same : w.0.commit.0 ≡ d = are.one_commit (x, w.0) (y.x, y.w) w.1 y.has (w.2 ∙ sym y.start) ∙ y.commit in
        ap (λ n. write_at state.entries x n) (sym same) ∙ (carried.entries_are.kept x w.0 w.1).0 ∙ ap (λ n. Some n) w.2;
    apart = λ x c s d u a b differ.
        let p = written_by x c s a in
        let q = written_by x d u b in
        elim (are.serial (x, p.w) (x, q.w) p.has q.has) [
          | inl same ↦ absurd (differ (sym p.start ∙ same ∙ q.start))
          | inr (inl before) ↦ let at = p.commit in let start = q.start in inl (omega (arith, before, at, start))
          | inr (inr before) ↦ let at = q.commit in let start = p.start in inr (omega (arith, before, at, start))
        ];
  }

  pub carried_sound : IsSoundTable state
  carried_sound = snapshot_sound v carried_view
