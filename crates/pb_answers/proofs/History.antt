-- Write records and their data, against committed transactions.
use Rattle.std.proofs.Common.{◌≡◌, ℕ, ◌<◌, ◌≤◌, ◌^◌, inl, inr, Option, Some, None, nat_lt, refl, sym, ap, subst, ◌∙◌, arith, List}
use Rattle.std.specs.Option.{option_and_then}
use Rattle.std.proofs.lemmas.Bool.{cases_Bool, ltb-true, ltb-false}
use Rattle.pb_base.specs.Batch.{content_in}
use Rattle.pb_history.specs.History.{InHistory, Member, TellsHistory, WritesTo}
use Rattle.pb_history.specs.RecordsTold.{TellsRecords}
use Rattle.pb_history.specs.Sound.{IsSoundTable, KeepsData}
use Rattle.pb_history.specs.TableView.{declared_by}
use Rattle.pb_history.specs.declared.entry.Entry.{Entry}
use Rattle.pb_steps.specs.State.{TransactionOf}
use Rattle.pb_script.specs.Committed.{IsSeenAt, IsWrite}
use Rattle.pb_answers.specs.Words.{Cell, Content, Newest, NoLock, StateOf, data_at, lock_at, write_at}
use Rattle.pb_answers.specs.Seen.{written_at, IsSeenIn}

none_some : {A : Type 0} (o : Option A) (a : A) → o ≡ None → o ≡ Some a → ⊥
none_some o a n s = let both : None ≡ Some a = sym n ∙ s in cc

-- a write has a record that names a start
named : (f : ℕ → Option Content) (o : Option ℕ) (k : Content) → option_and_then f o ≡ Some k → (s : ℕ) × (o ≡ Some s)
named f None k h = cc
named f (Some s) k h = (s, refl)

module _ (journal : List Entry) (state : StateOf) (sound : IsSoundTable state) (keeps : KeepsData state) (history : TellsHistory journal state) (records : TellsRecords journal state)
    (unlocked : (x : Cell) → NoLock state.entries x) where
  started : (m : Member) → InHistory state.observers journal m → m.start < 2 ^ 64
  started m i =
      let c = history.committed m i in
      let early = history.early m.start c.t c.there in
      let fits = keeps.fits in
      omega (arith, early, fits)

  -- the data of a record are what its transaction wrote
  by_record : (m : Member) (x : Cell) (k : Content) → InHistory state.observers journal m → WritesTo m x k → write_at state.entries x m.commit ≡ Some m.start → written_at state.entries x m.commit ≡ Some k
  by_record m x k i w r =
      let c = history.committed m i in
      ap (option_and_then (data_at state.entries x)) r
      ∙ sound.record_data x m.commit m.start r
      ∙ ap (λ (t : Option TransactionOf). content_in (declared_by t) x) c.there
      ∙ ap (λ ws. content_in ws x) (sym c.writes)
      ∙ w

  -- and each committed write has its record, as no lock stands
  recorded : (m : Member) (x : Cell) (k : Content) → InHistory state.observers journal m → WritesTo m x k → written_at state.entries x m.commit ≡ Some k
  recorded m x k i w = elim (records.stands m i x k w) [
    | inl r ↦ by_record m x k i w r
    | inr l ↦ absurd (none_some (lock_at state.entries x m.start) l.0 (unlocked x m.start (started m i)) l.1)
  ]

  above : (s : ℕ) (m : Member) (x : Cell) (k : Content) → InHistory state.observers journal m → WritesTo m x k → ((c : ℕ) → c ≤ s → written_at state.entries x c ≡ None) → s < m.commit
  above s m x k i w none = elim (cases_Bool (nat_lt s m.commit)) [
    | inl later ↦ ltb-true _ _ later
    | inr low ↦ absurd (none_some (written_at state.entries x m.commit) k (none m.commit (ltb-false _ _ low)) (recorded m x k i w))
  ]

  at_most : (s c : ℕ) (m : Member) (x : Cell) (k : Content) → InHistory state.observers journal m → WritesTo m x k → m.commit ≤ s → ((d : ℕ) → c < d → d ≤ s → written_at state.entries x d ≡ None) → m.commit ≤ c
  at_most s c m x k i w le none = elim (cases_Bool (nat_lt c m.commit)) [
    | inl later ↦ absurd (none_some (written_at state.entries x m.commit) k (none m.commit (ltb-true _ _ later) le) (recorded m x k i w))
    | inr low ↦ ltb-false _ _ low
  ]

  same_content : (o : Option Content) (a b : Content) → o ≡ Some a → o ≡ Some b → a ≡ b
  same_content o a b p q = let both : Some a ≡ Some b = sym p ∙ q in cc

  pub seen_at : (s : ℕ) (x : Cell) (r : Option Newest) → IsSeenIn state.entries s x r → IsSeenAt state.observers journal s x r
  seen_at s x None h = λ m k i w. above s m x k i w h
  seen_at s x (Some n) h =
      let start = named (data_at state.entries x) (write_at state.entries x n.commit.0) n.content h.1 in
      let it = records.written x n.commit.0 start.0 start.1 in
      let content : it.content ≡ n.content = same_content (written_at state.entries x n.commit.0) it.content n.content (ap (written_at state.entries x) (sym it.commit_is) ∙ recorded it.m x it.content it.in_history it.writes) h.1 in (
        start.0,
        record {
          m = it.m;
          in_history = it.in_history;
          start_is = it.start_is;
          commit_is = it.commit_is;
          writes = subst (WritesTo it.m x) content it.writes;
          seen = h.0;
          greatest = λ m k i w le. at_most s n.commit.0 m x k i w le h.2;
        },
      )

  -- what the entries have of a commit was written by a committed transaction
  pub is_write : (x : Cell) (c : ℕ) (k : Content) → written_at state.entries x c ≡ Some k → IsWrite state.observers journal x c k
  is_write x c k h =
      let start = named (data_at state.entries x) (write_at state.entries x c) k h in
      let it = records.written x c start.0 start.1 in
      let content : it.content ≡ k = same_content (written_at state.entries x c) it.content k (ap (written_at state.entries x) (sym it.commit_is) ∙ recorded it.m x it.content it.in_history it.writes) h in
      record { m = it.m; in_history = it.in_history; commit_is = it.commit_is; writes = subst (WritesTo it.m x) content it.writes }

  -- and they have what such a transaction wrote
  pub is_written : (x : Cell) (c : ℕ) (k : Content) → IsWrite state.observers journal x c k → written_at state.entries x c ≡ Some k
  is_written x c k w = ap (written_at state.entries x) (sym w.commit_is) ∙ recorded w.m x k w.in_history w.writes
