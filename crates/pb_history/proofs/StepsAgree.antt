-- Each step keeps journal and state in agreement.
use Rattle.std.proofs.Common.{◌≡◌, ℕ, ◌⊎◌, inl, inr, true, false, List, [], ◌∷◌, ◌++◌, Option, Some, None, refl, sym, ap, subst, ◌∙◌, arith, nat_cmp}
use Rattle.std.specs.FinMap as map
use Rattle.pb_history.specs.Words.{Cell, Ts, Work, Declared, Step, RecordedRead, Answer, Phase, StateOf, TransactionOf, opening, new_transaction, cells_of, ObserverOf, MayDeclare, IsOwn, StepCase, is_reading, is_declared, with_read, Begins, Declares, Prewrites, Conflicts, Stamps, CommitsPrimary, Loses, commits, rolls_back, Entries, Marks}
use Rattle.pb_history.specs.declared.entry.Entry.{Entry}
use Rattle.pb_history.specs.Journals.{JournalLeads, IsLegal}
use Rattle.pb_history.specs.History.{IsEntry, IsForWork}
use Rattle.pb_history.proofs.OnlyEntries.{OnlyEntries, only_entries, secondary_keeps}
use Rattle.pb_history.proofs.Updates.{none_if, has_front, has_last, has_more}
use Rattle.pb_history.proofs.PhaseTests.{reading_is}
use Rattle.pb_history.proofs.Agreement.{ts, read_of, step_by, got, PastStamp, Told, Agrees, agrees_change, agrees_new, agrees_same}

abbrev entry : ℕ → Step → Answer → Entry
entry seat step answer = record { seat = seat; step = step; answer = answer }

-- what a transaction may declare is for its work
for_work : (observers : List ObserverOf) (work : Work) (s : ℕ) (reads : List RecordedRead) (what : Declared) → MayDeclare observers work s reads what → IsForWork observers work what
for_work observers Work.Script s reads (Declared.Script batch) may = tt
for_work observers (Work.Run p row) s reads (Declared.Run o f) may = (may.0, _, may.1.seen.version, may.1.seen.acknowledged.0, may.1.seen.old, may.1.bytes)
for_work observers Work.Script s reads (Declared.Run o f) may = absurd may
for_work observers (Work.Run p row) s reads (Declared.Script batch) may = absurd may

no_stamp_declared : (h : Phase) → is_declared h ≡ true → (c : ℕ) → PastStamp h c → ⊥
no_stamp_declared h e c p = grind arith

past_declared : (h : Phase) → is_declared h ≡ true → is_reading h ≡ false
past_declared h e = grind arith

no_commit_declared : (h : Phase) → is_declared h ≡ true → (c : ℕ) → h ≡ Phase.Committed (ts c) → ⊥
no_commit_declared h e c q = no_stamp_declared h e c (inr (inl q))

module _ (journal : List Entry) (seat : ℕ) (old new : StateOf) (a : Agrees journal old) where
  begins : (work : Work) (s : ℕ) → Begins old seat work s new → Agrees (journal ++ entry seat (Step.Begin work) (Answer.At (ts s)) ∷ []) new
  begins work s m =
      let e = entry seat (Step.Begin work) (Answer.At (ts s)) in
      let clock : new.clock ≡ s = ap (λ (z : StateOf). z.clock) m.new_is in
      let unknown : got old s ≡ None = none_if _ (λ t h. let z = a.early s t h in omega (arith, z)) in
      agrees_new journal e old new a s (new_transaction seat work) (ap (λ (z : StateOf). z.transactions) m.new_is) (omega (arith, clock)) (omega (arith, clock)) (ap (λ (z : StateOf). z.observers) m.new_is) unknown
      (λ h. (new_transaction seat work, h, refl, refl))
      (record {
        begun = has_last journal e;
        reads = λ r h. absurd h;
        declared = λ h. cc;
        stamped = λ c p. absurd (elim p [ inl q ↦ cc | inr q ↦ cc ]);
        committed = λ c q. cc;
      })

  -- a read is recorded
  records : (s : Ts) (x : Cell) (at : Option Ts) (b : Answer) (t : TransactionOf) → IsOwn old seat s.0 t → is_reading t.phase ≡ true → new ≡ record old { transactions = map.insert old.transactions s.0 (with_read t x at b) }
      → (got new s.0 ≡ Some (with_read t x at b) → Told new seat (step_by s.0 x at) b) → Agrees (journal ++ entry seat (step_by s.0 x at) b ∷ []) new
  records s x at b t own reading new-is told =
      let e = entry seat (step_by s.0 x at) b in
      let was = own.there in
      let l = a.logged s.0 t was in
      let r = reading_is t.phase reading in
      let clock : new.clock ≡ old.clock = ap (λ (z : StateOf). z.clock) new-is in
      let low = a.early s.0 t was in
      agrees_change journal e old new a s.0 (with_read t x at b) (ap (λ (z : StateOf). z.transactions) new-is) (omega (arith, clock)) (omega (arith, clock, low)) (ap (λ (z : StateOf). z.observers) new-is) t was
      (record { seat = refl; work = refl; past = λ h. cc; reads = λ q h. has_front t.reads (read_of x at b) q h; stamped = λ c p. absurd (elim p [ inl q ↦ cc | inr z ↦ elim z [ inl q ↦ cc | inr q ↦ cc ] ]); committed = λ c q. cc })
      told
      (record {
        begun = has_front journal e _ l.begun;
        reads = λ q h. elim (has_more t.reads (read_of x at b) q h) [
          | inl is ↦ subst (λ (w : RecordedRead). IsEntry (journal ++ e ∷ []) t.seat (step_by s.0 w.cell w.at) w.answer) is (subst (λ n. IsEntry (journal ++ e ∷ []) n (step_by s.0 x at) b) (sym own.mine) (has_last journal e))
          | inr old-one ↦ has_front journal e _ (l.reads q old-one)
        ];
        declared = λ h. cc;
        stamped = λ c p. absurd (elim p [ inl q ↦ cc | inr q ↦ cc ]);
        committed = λ c q. cc;
      })

  declared_now : (s : Ts) (what : Declared) → Declares old seat s.0 what new → Agrees (journal ++ entry seat (Step.Declare s what) Answer.Done ∷ []) new
  declared_now s what m =
      let e = entry seat (Step.Declare s what) Answer.Done in
      let reading = m.reading in
      let obs : new.observers ≡ old.observers = ap (λ (z : StateOf). z.observers) m.new_is in
      let was = m.own.there in
      let mine = m.own.mine in
      let u : TransactionOf = record m.t { phase = Phase.Declared; declared = cells_of old.observers m.t.work s.0 what } in
      let clock : new.clock ≡ old.clock = ap (λ (z : StateOf). z.clock) m.new_is in
      let low = a.early s.0 m.t was in
      agrees_change journal e old new a s.0 u (ap (λ (z : StateOf). z.transactions) m.new_is) (omega (arith, clock)) (omega (arith, clock, low)) obs m.t was
      (record { seat = refl; work = refl; past = λ h. cc; reads = λ r h. h; stamped = λ c p. let r = reading_is m.t.phase reading in absurd (elim p [ inl q ↦ cc | inr z ↦ elim z [ inl q ↦ cc | inr q ↦ cc ] ]); committed = λ c q. let r = reading_is m.t.phase reading in cc })
      (λ h. (u, h, refl, sym (ap (λ o. cells_of o m.t.work s.0 what) obs), m.known, subst (λ o. IsForWork o m.t.work what) (sym obs) (for_work old.observers m.t.work s.0 m.t.reads what m.its)))
      (record {
        begun = has_front journal e _ (a.logged s.0 m.t was).begun;
        reads = λ r h. has_front journal e _ ((a.logged s.0 m.t was).reads r h);
        declared = λ h. (what, subst (λ n. IsEntry (journal ++ e ∷ []) n (Step.Declare s what) Answer.Done) (sym mine) (has_last journal e), refl, m.known, m.its);
        stamped = λ c p. absurd (elim p [ inl q ↦ cc | inr q ↦ cc ]);
        committed = λ c q. cc;
      })

  -- a declared transaction that prewrites or fails
  goes_on : (step : Step) (answer : Answer) (s : ℕ) (t u : TransactionOf) → got old s ≡ Some t → is_declared t.phase ≡ true → u.seat ≡ t.seat → u.work ≡ t.work → u.reads ≡ t.reads → u.declared ≡ t.declared
      → (u.phase ≡ t.phase) ⊎ (u.phase ≡ Phase.Failed) → new.transactions ≡ map.insert old.transactions s u → new.clock ≡ old.clock → new.observers ≡ old.observers → Told new seat step answer → Agrees (journal ++ entry seat step answer ∷ []) new
  goes_on step answer s t u was phase same-seat same-work same-reads same-writes how is clock obs told =
      let low = a.early s t was in
      let l = a.logged s t was in
      let past = past_declared t.phase phase in
      grind (arith, agrees_change, no_stamp_declared, no_commit_declared, ts, has_front, step_by, t.phase, u.work, t.seat, old.observers, u.reads, t.work)

  prewrites : (s : Ts) (x : Cell) → Prewrites old seat s.0 x new → Agrees (journal ++ entry seat (Step.Prewrite s x) Answer.Done ∷ []) new
  prewrites s x m = grind (arith, goes_on, m.t, m.t.prewritten, m.own.there, m.phase, m.new_is)

  conflicts : (s : Ts) (x : Cell) → Conflicts old seat s.0 x new → Agrees (journal ++ entry seat (Step.Prewrite s x) Answer.Conflict ∷ []) new
  conflicts s x m = grind (arith, goes_on, m.t, m.own.there, m.phase, m.new_is)

  stamps : (s : Ts) (c : ℕ) → Stamps old seat s.0 c new → Agrees (journal ++ entry seat (Step.Stamp s) (Answer.At (ts c)) ∷ []) new
  stamps s c m =
      let e = entry seat (Step.Stamp s) (Answer.At (ts c)) in
      let phase = m.phase in
      let was = m.own.there in
      let mine = m.own.mine in
      let l = a.logged s.0 m.t was in
      let past = past_declared m.t.phase phase in
      let low = a.early s.0 m.t was in
      let logged : IsEntry (journal ++ e ∷ []) m.t.seat (Step.Stamp s) (Answer.At (ts c)) = subst (λ n. IsEntry (journal ++ e ∷ []) n (Step.Stamp s) (Answer.At (ts c))) (sym mine) (has_last journal e) in
      grind (arith, ts, agrees_change, no_stamp_declared, no_commit_declared, has_front, m.t, m.t.phase, m.new_is, m.t.seat)

  commits_primary : (s : Ts) → CommitsPrimary old seat s.0 new → Agrees (journal ++ entry seat (Step.CommitPrimary s) Answer.Committed ∷ []) new
  commits_primary s m =
      let e = entry seat (Step.CommitPrimary s) Answer.Committed in
      let was = m.own.there in
      let mine = m.own.mine in
      let l = a.logged s.0 m.t was in
      let stamped = m.stamped in
      let past : is_reading m.t.phase ≡ false = ap is_reading stamped in
      let u : TransactionOf = record m.t { phase = Phase.Committed (ts m.c) } in
      let clock : new.clock ≡ old.clock = ap (λ (z : StateOf). z.clock) m.new_is in
      let low = a.early s.0 m.t was in
      agrees_change journal e old new a s.0 u (ap (λ (z : StateOf). z.transactions) m.new_is) (omega (arith, clock)) (omega (arith, clock, low)) (ap (λ (z : StateOf). z.observers) m.new_is) m.t was
      (record {
        seat = refl;
        work = refl;
        past = λ h. (refl, refl);
        reads = λ r h. h;
        stamped = λ d p. inr (inl (elim p [ inl q ↦ (let k : ts m.c ≡ ts d = cc in ap Phase.Committed k) | inr r ↦ elim r [ inl q ↦ cc | inr q ↦ cc ] ]));
        committed = λ d q. cc;
      })
      (λ h. (u, h, m.c, refl))
      (record {
        begun = has_front journal e _ l.begun;
        reads = λ r h. has_front journal e _ (l.reads r h);
        declared = λ h. let d = l.declared past in (d.0, has_front journal e _ d.1, d.2, d.3, d.4);
        stamped = λ d p. has_front journal e _ (l.stamped d (inl (elim p [ inl q ↦ cc | inr q ↦ (let k : ts m.c ≡ ts d = cc in stamped ∙ ap Phase.Stamped k) ])));
        committed = λ d q. subst (λ n. IsEntry (journal ++ e ∷ []) n (Step.CommitPrimary s) Answer.Committed) (sym mine) (has_last journal e);
      })

  loses : (s : Ts) → Loses old seat s.0 new → Agrees (journal ++ entry seat (Step.CommitPrimary s) Answer.Lost ∷ []) new
  loses s m =
      let was = m.own.there in
      let l = a.logged s.0 m.t was in
      let low = a.early s.0 m.t was in
      grind (arith, agrees_change, has_front, m.t, m.new_is)

  nothing_changes : OnlyEntries old old
  nothing_changes = record { transactions = refl; clock = refl; observers = refl }

  entries_change : {e : Entries} {m : Marks} → OnlyEntries old (record old { entries = e; marks = m })
  entries_change = record { transactions = refl; clock = refl; observers = refl }

  changes_entries : (step : Step) (answer : Answer) (to : StateOf) → new ≡ to → OnlyEntries old to → Told new seat step answer → Agrees (journal ++ entry seat step answer ∷ []) new
  changes_entries step answer to is kept told = agrees_same journal (entry seat step answer) old new a (only_entries old new to is kept) told

  case_agrees : (step : Step) (answer : Answer) → StepCase old seat step answer new → Agrees (journal ++ entry seat step answer ∷ []) new
  case_agrees (Step.Begin work) (Answer.At s) m = begins work s.0 m
  case_agrees (Step.Read s x) (Answer.Locked start primary) m = changes_entries (Step.Read s x) (Answer.Locked start primary) old m.new_is nothing_changes tt
  case_agrees (Step.Read s x) (Answer.Found start commit content) m = records s x None (Answer.Found start commit content) m.t m.own m.reading m.new_is (λ h. (with_read m.t x None (Answer.Found start commit content), h, has_last m.t.reads (read_of x None (Answer.Found start commit content))))
  case_agrees (Step.Read s x) Answer.Absent m = records s x None Answer.Absent m.t m.own m.reading m.new_is (λ h. (with_read m.t x None Answer.Absent, h, has_last m.t.reads (read_of x None Answer.Absent)))
  case_agrees (Step.ReadAt s x at) (Answer.Locked start primary) m = changes_entries (Step.ReadAt s x at) (Answer.Locked start primary) old m.new_is nothing_changes tt
  case_agrees (Step.ReadAt s x at) (Answer.Found start commit content) m = records s x (Some at) (Answer.Found start commit content) m.t m.own m.reading m.new_is (λ h. (with_read m.t x (Some at) (Answer.Found start commit content), h, has_last m.t.reads (read_of x (Some at) (Answer.Found start commit content))))
  case_agrees (Step.ReadAt s x at) Answer.Absent m = records s x (Some at) Answer.Absent m.t m.own m.reading m.new_is (λ h. (with_read m.t x (Some at) Answer.Absent, h, has_last m.t.reads (read_of x (Some at) Answer.Absent)))
  case_agrees (Step.Declare s what) Answer.Done m = declared_now s what m
  case_agrees (Step.Prewrite s x) Answer.Done m = prewrites s x m
  case_agrees (Step.Prewrite s x) Answer.Conflict m = conflicts s x m
  case_agrees (Step.Stamp s) (Answer.At c) m = stamps s c.0 m
  case_agrees (Step.CommitPrimary s) Answer.Committed m = commits_primary s m
  case_agrees (Step.CommitPrimary s) Answer.Lost m = loses s m
  case_agrees (Step.CommitSecondary s x) Answer.Done m = agrees_same journal (entry seat (Step.CommitSecondary s x) Answer.Done) old new a (secondary_keeps old seat s.0 x new m) tt
  case_agrees (Step.Settle x) Answer.Absent m = changes_entries (Step.Settle x) Answer.Absent old m.new_is nothing_changes tt
  case_agrees (Step.Settle x) (Answer.Locked start primary) m = changes_entries (Step.Settle x) (Answer.Locked start primary) old m.new_is nothing_changes tt
  case_agrees (Step.Settle x) Answer.RolledBack m = changes_entries (Step.Settle x) Answer.RolledBack (rolls_back old x m.start) m.new_is entries_change tt
  case_agrees (Step.Clear x) Answer.Absent m = changes_entries (Step.Clear x) Answer.Absent old m.new_is nothing_changes tt
  case_agrees (Step.Clear x) Answer.Waits m = changes_entries (Step.Clear x) Answer.Waits old m.new_is nothing_changes tt
  case_agrees (Step.Clear x) (Answer.CommittedAt c) m = changes_entries (Step.Clear x) (Answer.CommittedAt c) (commits old x m.start c.0) m.new_is entries_change tt
  case_agrees (Step.Clear x) Answer.RolledBack m = changes_entries (Step.Clear x) Answer.RolledBack (rolls_back old x m.start) m.new_is entries_change tt
  case_agrees (Step.NextMark after) (Answer.Marked x) m = changes_entries (Step.NextMark after) (Answer.Marked x) old m.new_is nothing_changes tt
  case_agrees (Step.NextMark after) Answer.NoMark m = changes_entries (Step.NextMark after) Answer.NoMark old m.new_is nothing_changes tt
  case_agrees (Step.Sweep x) Answer.NoMark m = changes_entries (Step.Sweep x) Answer.NoMark old m.new_is nothing_changes tt
  case_agrees (Step.Sweep x) Answer.StillBehind m = changes_entries (Step.Sweep x) Answer.StillBehind old m.new_is nothing_changes tt
  case_agrees (Step.Sweep x) Answer.Done m = changes_entries (Step.Sweep x) Answer.Done (record old { marks = map.remove old.marks x }) m.new_is entries_change tt
  case_agrees _ _ m = absurd m

append_one : (xs : List Entry) (y : Entry) (zs : List Entry) → (xs ++ y ∷ []) ++ zs ≡ xs ++ y ∷ zs
append_one [] y zs = refl
append_one (x ∷ xs) y zs = ap (λ es. x ∷ es) (append_one xs y zs)

-- from agreement on to agreement
run_agrees : (before : List Entry) (old : StateOf) (es : List Entry) (new : StateOf) → Agrees before old → JournalLeads old es new → Agrees (before ++ es) new
run_agrees before old [] new a r = subst (λ s. Agrees (before ++ []) s) (sym r) (subst (λ b. Agrees b old) (sym (append_nil before)) a)
  where
    append_nil : (xs : List Entry) → xs ++ [] ≡ xs
    append_nil [] = refl
    append_nil (x ∷ xs) = ap (λ ys. x ∷ ys) (append_nil xs)
run_agrees before old (e ∷ es) new a r =
    let m = r.1 in
    grind (arith, append_one, case_agrees, e.seat, e.step, e.answer, run_agrees (before ++ e ∷ []) r.0 es new (case_agrees before e.seat old r.0 a e.step e.answer m.taken) r.2)

-- an empty journal agrees with a table as opened
nothing_agrees : (observers : List ObserverOf) (seats clock : ℕ) → Agrees [] (opening observers seats clock)
nothing_agrees observers seats clock = record {
  early = λ s t h. let none = map.get-empty {X = TransactionOf} nat_cmp s in cc;
  told = λ e h. absurd h;
  logged = λ s t h. let none = map.get-empty {X = TransactionOf} nat_cmp s in absurd cc;
}

-- a legal journal agrees with its state, since each step keeps that
pub legal_agrees : (observers : List ObserverOf) (seats clock : ℕ) (journal : List Entry) (state : StateOf) → IsLegal observers seats clock journal state → Agrees journal state
legal_agrees observers seats clock journal state l = run_agrees [] (opening observers seats clock) journal state (nothing_agrees observers seats clock) l.run
