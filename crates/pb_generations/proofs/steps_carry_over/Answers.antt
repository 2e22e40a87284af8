use Rattle.std.proofs.Common.{if◌then◌else◌, ◌≡◌, ◌⊎◌, ℕ, ◌<◌, ◌≤◌, inl, inr, refl, sym, ◌∙◌, ap, subst, arith, Bool, true, false, [], ◌∷◌, ◌++◌, Option, Some, None, is_some}
use Rattle.std.proofs.lemmas.Bool.{cases_lt}
use Rattle.std.specs.FinMap as map
use Rattle.pb_generations.specs.Words.{Cell, Revision, Row, Ts, Reason, Entries, NoWriteOf, commit_reasons, CommitsSecondary, if_locked, secondary_reasons, commit_lock, commits, erase_lock, rolls_back, declare_reasons, AllUpToDate, IsUpToDate, SomeBehind, prewrite_reasons, put_lock, ReadsAbsent, ReadsFound, ReadsLocked, read_at_reasons, read_reasons, read_step, with_read, IsLockOn, IsNewestVersion, IsVersion, NoLock, NoLockUpTo, NoVersion, SomeLock, SomeWriteFrom, last_timestamp, lock_at, write_at, read_up_to, IsOwn, Reasons, first_reason, if_of_seat, is_out, no_seat, own_reasons, reasons_of, unstamped_reasons, StateOf, TransactionOf, Transactions, cells_of, new_transaction, with_transaction, StepCase, TableStep, step_reason, Phase, Answer, Step}
use Rattle.pb_generations.specs.Mirrored.{IsMirroredBy, IsLatePhase, SameVersion, carried}
use Rattle.pb_generations.specs.LateSteps.{IsServedStep, ServesAt, Carries}
use Rattle.pb_generations.proofs.SameVersions.{same_later, serves_same}
use Rattle.pb_generations.proofs.Kept.{with_both, lock_put, lock_committed, lock_erased}
use Rattle.pb_generations.proofs.steps_carry_over.Goals as goal

module _ (c : ℕ) (whole : StateOf) (e : Entries) (ts : Transactions) (m : IsMirroredBy c whole e ts) where
  -- ---- what is read

  -- a timestamp above c, or one for which what was kept serves
  abbrev Reaches : Cell → ℕ → Type 0
  Reaches x u = (c < u) ⊎ ServesAt c whole.entries e x u

  reached : (x : Cell) (u : ℕ) → Reaches x u → SameVersion u whole.entries e x
  reached x u (inl later) = same_later c whole.entries e m.entries_are x u (omega (arith, later))
  reached x u (inr serves) = serves_same c whole.entries e m.entries_are x u serves

  version_of : (x : Cell) (u : ℕ) (v : Revision) → Reaches x u → IsVersion e x u v → IsVersion whole.entries x u v
  version_of x u v reaches = ((reached x u reaches).there v).1

  none_of : (x : Cell) (u : ℕ) → Reaches x u → NoVersion e x u → NoVersion whole.entries x u
  none_of x u reaches = (reached x u reaches).none.1

  newest_of : (x : Cell) (v : Option Revision) → IsNewestVersion e x v → IsNewestVersion whole.entries x v
  newest_of x None is = none_of x last_timestamp (inl m.room) is
  newest_of x (Some v) is = version_of x last_timestamp v (inl m.room) is

  no_lock : (x : Cell) → NoLock e x → NoLock whole.entries x
  no_lock x is u fits = sym (m.entries_are.locks x u) ∙ is u fits

  no_lock_to : (x : Cell) (u : ℕ) → NoLockUpTo e x u → NoLockUpTo whole.entries x u
  no_lock_to x u is w low = sym (m.entries_are.locks x w) ∙ is w low

  lock_on : (x : Cell) (s : ℕ) (p : Cell) → IsLockOn e x s p → IsLockOn whole.entries x s p
  lock_on x s p is = record { fits = is.fits; locked = sym (m.entries_are.locks x s) ∙ is.locked; newest = λ u above fits. sym (m.entries_are.locks x u) ∙ is.newest u above fits }

  late_lock : (x : Cell) (s : ℕ) (p : Cell) → IsLockOn e x s p → c < s
  late_lock x s p is = m.entries_are.late x s p (lock_on x s p is).locked

  same_some : (x : Cell) (s : ℕ) (b : Bool) → is_some (lock_at e x s) ≡ b → is_some (lock_at whole.entries x s) ≡ b
  same_some x s b is = ap is_some (sym (m.entries_are.locks x s)) ∙ is

  -- ---- whose it is

  own_of : (seat s : ℕ) (t : TransactionOf) → c < s → IsOwn (carried whole e ts) seat s t → IsOwn whole seat s t
  own_of seat s t later is = record { there = sym (m.transactions_are.same s later) ∙ is.there; mine = is.mine }

  phase_of : (seat s : ℕ) (t : TransactionOf) → c < s → IsOwn (carried whole e ts) seat s t → IsLatePhase c t.phase
  phase_of seat s t later is = m.transactions_are.phases s t later (own_of seat s t later is).there

  allowed_own : (seat s : ℕ) (why : TransactionOf → Reasons) → c < s → first_reason (own_reasons (carried whole e ts) seat s why) ≡ None → first_reason (own_reasons whole seat s why) ≡ None
  allowed_own seat s why later is = ap (λ (o : Option TransactionOf). first_reason (reasons_of (if no_seat whole seat then None else if_of_seat seat o) why)) (sym (m.transactions_are.same s later)) ∙ is

  allowed_stamp : (seat s : ℕ) → c < s → first_reason ((Reason.OutOfTimestamps, is_out whole) ∷ own_reasons (carried whole e ts) seat s unstamped_reasons) ≡ None → first_reason ((Reason.OutOfTimestamps, is_out whole) ∷ own_reasons whole seat s unstamped_reasons) ≡ None
  allowed_stamp seat s later is = ap (λ (o : Option TransactionOf). first_reason ((Reason.OutOfTimestamps, is_out whole) ∷ reasons_of (if no_seat whole seat then None else if_of_seat seat o) unstamped_reasons)) (sym (m.transactions_are.same s later)) ∙ is

  -- ---- what it leaves

  stays : (seat : ℕ) (step : Step) (answer : Answer) (new : StateOf) → step_reason whole seat step ≡ None → StepCase whole seat step answer whole → new ≡ carried whole e ts → Carries c whole e seat step answer new
  stays seat step answer new allowed taken is = record { after = whole; entries = e; transactions = ts; taken = record { allowed = allowed; taken = taken }; mirrors = m; new_is = is; versions = λ x v. (λ is. is, λ is. is); before = λ x u under same. same; within = λ had. had }

  turns : (seat : ℕ) (step : Step) (answer : Answer) (new : StateOf) (s : ℕ) (t : TransactionOf) → c < s → IsLatePhase c t.phase → step_reason whole seat step ≡ None → StepCase whole seat step answer (with_transaction whole s t) → new ≡ with_transaction (carried whole e ts) s t → Carries c whole e seat step answer new
  turns seat step answer new s t later phase allowed taken is = record {
    after = with_transaction whole s t;
    entries = e;
    transactions = map.insert ts s t;
    taken = record { allowed = allowed; taken = taken };
    mirrors = record { since = m.since; room = m.room; entries_are = m.entries_are; transactions_are = with_both c whole.transactions ts s t m.transactions_are later phase };
    new_is = is;
    versions = λ x v. (λ is. is, λ is. is);
    before = λ x u under same. same;
    within = λ had. had;
  }

  -- a lock becomes a write record
  commits_both : (seat : ℕ) (step : Step) (answer : Answer) (new : StateOf) (x : Cell) (s d : ℕ) → c < s → c < d → step_reason whole seat step ≡ None → StepCase whole seat step answer (commits whole x s d) → new ≡ commits (carried whole e ts) x s d → Carries c whole e seat step answer new
  commits_both seat step answer new x s d later late allowed taken is = record {
    after = commits whole x s d;
    entries = commit_lock e x s d;
    transactions = ts;
    taken = record { allowed = allowed; taken = taken };
    mirrors = record { since = m.since; room = m.room; entries_are = (lock_committed c whole.entries e m.entries_are x s later d late).same; transactions_are = m.transactions_are };
    new_is = is;
    versions = (lock_committed c whole.entries e m.entries_are x s later d late).versions;
    before = (lock_committed c whole.entries e m.entries_are x s later d late).before;
    within = (lock_committed c whole.entries e m.entries_are x s later d late).within;
  }

  backs_both : (seat : ℕ) (step : Step) (answer : Answer) (new : StateOf) (x : Cell) (s : ℕ) → c < s → step_reason whole seat step ≡ None → StepCase whole seat step answer (rolls_back whole x s) → new ≡ rolls_back (carried whole e ts) x s → Carries c whole e seat step answer new
  backs_both seat step answer new x s later allowed taken is = record {
    after = rolls_back whole x s;
    entries = erase_lock e x s;
    transactions = ts;
    taken = record { allowed = allowed; taken = taken };
    mirrors = record { since = m.since; room = m.room; entries_are = (lock_erased c whole.entries e m.entries_are x s later).same; transactions_are = m.transactions_are };
    new_is = is;
    versions = (lock_erased c whole.entries e m.entries_are x s later).versions;
    before = (lock_erased c whole.entries e m.entries_are x s later).before;
    within = (lock_erased c whole.entries e m.entries_are x s later).within;
  }

  -- ---- marks

  behind_of : (x : Cell) → SomeBehind whole.observers e x → SomeBehind whole.observers whole.entries x
  behind_of (Cell.Data row column) is =
      let b = is.1 in (
        is.0,
        record {
          version = b.version;
          newest = version_of (Cell.Data row column) last_timestamp b.version (inl m.room) b.newest;
          acknowledged = b.acknowledged;
          acknowledges = record { observer = b.acknowledges.observer; there = b.acknowledges.there; observes = b.acknowledges.observes; newest = newest_of (Cell.Ack is.0 row column) b.acknowledged b.acknowledges.newest };
          newer = b.newer;
        },
      )
  behind_of (Cell.Ack o row column) is = absurd is

  written_some : (x : Cell) (d s : ℕ) → write_at e x d ≡ Some s → is_some (write_at e x d) ≡ true
  written_some x d s is = ap is_some is

  up_to_date_of : (row : Row) (column p : ℕ) → IsUpToDate whole.observers e row column p → IsUpToDate whole.observers whole.entries row column p
  up_to_date_of row column p is observer there observes d fits some =
      let x = Cell.Data row column in elim (cases_lt c d) [
        | inl past ↦ let k = is observer there observes d fits (ap is_some (m.entries_are.records x d past) ∙ some) in (k.0, newest_of (Cell.Ack p row column) k.0 k.1, k.2)
        | inr by_then ↦ elim (m.entries_are.either x) [
          | inl v ↦
              let kept = ((m.entries_are.versions x).there v.0).0 v.1 in
              let k = is observer there observes v.0.commit.0 (omega (arith, kept.low, m.room)) (written_some x v.0.commit.0 v.0.start.0 kept.written) in
              let under : d ≤ v.0.commit.0 = elim (cases_lt v.0.commit.0 d) [
                | inl above ↦ absurd (false-ne (sym (ap is_some (v.1.newest d above by_then)) ∙ some))
                | inr fine ↦ fine
              ] in
              (k.0, newest_of (Cell.Ack p row column) k.0 k.1, omega (arith, under, k.2))
          | inr none ↦ absurd (false-ne (sym (ap is_some (none d by_then)) ∙ some))
        ]
      ]
    where
      false-ne : false ≡ true → ⊥
      false-ne is = grind (arith, is)

  all_of : (x : Cell) → AllUpToDate whole.observers e x → AllUpToDate whole.observers whole.entries x
  all_of (Cell.Data row column) is = λ p. up_to_date_of row column p (is p)
  all_of (Cell.Ack o row column) is = tt

  -- ---- the steps

  -- reads at the start or at a timestamp
  found : (seat : ℕ) (s : Ts) (x : Cell) (w : Option Ts) (v : Revision) (new : StateOf) → c < s.0 → Reaches x (read_up_to s.0 w)
      → step_reason whole seat (read_step s x w) ≡ None → ReadsFound (carried whole e ts) seat s.0 x w v new
      → ((n : StateOf) → ReadsFound whole seat s.0 x w v n → StepCase whole seat (read_step s x w) (Answer.Found v.start v.commit v.content) n)
      → Carries c whole e seat (read_step s x w) (Answer.Found v.start v.commit v.content) new
  found seat s x w v new later reaches allowed is case =
      turns seat (read_step s x w) (Answer.Found v.start v.commit v.content) new s.0 (with_read is.t x w (Answer.Found v.start v.commit v.content)) later (phase_of seat s.0 is.t later is.own) allowed
      (case _ (record { t = is.t; own = own_of seat s.0 is.t later is.own; reading = is.reading; in_time = is.in_time; unlocked = no_lock_to x _ is.unlocked; version = version_of x _ v reaches is.version; new_is = refl }))
      is.new_is

  absent : (seat : ℕ) (s : Ts) (x : Cell) (w : Option Ts) (new : StateOf) → c < s.0 → Reaches x (read_up_to s.0 w)
      → step_reason whole seat (read_step s x w) ≡ None → ReadsAbsent (carried whole e ts) seat s.0 x w new
      → ((n : StateOf) → ReadsAbsent whole seat s.0 x w n → StepCase whole seat (read_step s x w) Answer.Absent n)
      → Carries c whole e seat (read_step s x w) Answer.Absent new
  absent seat s x w new later reaches allowed is case =
      turns seat (read_step s x w) Answer.Absent new s.0 (with_read is.t x w Answer.Absent) later (phase_of seat s.0 is.t later is.own) allowed
      (case _ (record { t = is.t; own = own_of seat s.0 is.t later is.own; reading = is.reading; in_time = is.in_time; unlocked = no_lock_to x _ is.unlocked; none = none_of x _ reaches is.none; new_is = refl }))
      is.new_is

  locked_read : (seat : ℕ) (s : Ts) (x : Cell) (w : Option Ts) (start : Ts) (primary : Cell) (new : StateOf) → c < s.0
      → step_reason whole seat (read_step s x w) ≡ None → ReadsLocked (carried whole e ts) seat s.0 x w (start.0, primary) new
      → (ReadsLocked whole seat s.0 x w (start.0, primary) whole → StepCase whole seat (read_step s x w) (Answer.Locked start primary) whole)
      → Carries c whole e seat (read_step s x w) (Answer.Locked start primary) new
  locked_read seat s x w start primary new later allowed is case =
      stays seat (read_step s x w) (Answer.Locked start primary) new allowed
      (case (record { t = is.t; own = own_of seat s.0 is.t later is.own; reading = is.reading; in_time = is.in_time; low = is.low; locked = sym (m.entries_are.locks x start.0) ∙ is.locked; newest = λ u above low. sym (m.entries_are.locks x u) ∙ is.newest u above low; new_is = refl }))
      is.new_is

  no_write_of : (x : Cell) (s : ℕ) → c < s → NoWriteOf e x s → NoWriteOf whole.entries x s
  no_write_of x s later is d fits written = elim (cases_lt c d) [
    | inl past ↦ is d fits (m.entries_are.records x d past ∙ written)
    | inr by_then ↦ omega (arith, later, m.entries_are.early x d s by_then written)
  ]

  -- the write record of a later start is a later one
  late_record : (x : Cell) (s d : ℕ) → c < s → write_at e x d ≡ Some s → c < d
  late_record x s d later is = elim (cases_lt c d) [
    | inl past ↦ past
    | inr by_then ↦ omega (arith, later, m.entries_are.kept_early x d s by_then is)
  ]

  secondary : (seat : ℕ) (s : Ts) (x : Cell) (new : StateOf) → c < s.0 → step_reason whole seat (Step.CommitSecondary s x) ≡ None → CommitsSecondary (carried whole e ts) seat s.0 x new
      → (b : Bool) → is_some (lock_at e x s.0) ≡ b → Carries c whole e seat (Step.CommitSecondary s x) Answer.Done new
  secondary seat s x new later allowed is true there =
      let late : c < is.c = subst (IsLatePhase c) is.committed (phase_of seat s.0 is.t later is.own) in
      commits_both seat (Step.CommitSecondary s x) Answer.Done new x s.0 is.c later late allowed
      (record { t = is.t; own = own_of seat s.0 is.t later is.own; c = is.c; committed = is.committed; declares = is.declares; new_is = sym (ap (λ (b : Bool). if_locked whole b x s.0 is.c) (same_some x s.0 true there)) })
      (is.new_is ∙ ap (λ (b : Bool). if_locked (carried whole e ts) b x s.0 is.c) there)
  secondary seat s x new later allowed is false there =
      stays seat (Step.CommitSecondary s x) Answer.Done new allowed
      (record { t = is.t; own = own_of seat s.0 is.t later is.own; c = is.c; committed = is.committed; declares = is.declares; new_is = sym (ap (λ (b : Bool). if_locked whole b x s.0 is.c) (same_some x s.0 false there)) })
      (is.new_is ∙ ap (λ (b : Bool). if_locked (carried whole e ts) b x s.0 is.c) there)

  carry : (new : StateOf) (seat : ℕ) (step : Step) (answer : Answer) → IsServedStep c whole.entries (carried whole e ts) step → TableStep (carried whole e ts) seat step answer new → Carries c whole e seat step answer new
  carry new seat (Step.Begin work) (Answer.At s) late t =
      let is = t.taken in
      let above : c < s.0 = omega (arith, is.fresh, m.since) in
      record {
        after = record whole { clock = s.0; transactions = map.insert whole.transactions s.0 (new_transaction seat work) };
        entries = e;
        transactions = map.insert ts s.0 (new_transaction seat work);
        taken = record { allowed = t.allowed; taken = record { left = is.left; fresh = is.fresh; new_is = refl } };
        mirrors = record { since = omega (arith, above); room = m.room; entries_are = m.entries_are; transactions_are = with_both c whole.transactions ts s.0 (new_transaction seat work) m.transactions_are above tt };
        new_is = is.new_is;
        versions = λ x v. (λ is. is, λ is. is);
        before = λ x u under same. same;
        within = λ had. had;
      }
  carry new seat (Step.Read s x) (Answer.Locked start primary) late t = locked_read seat s x None start primary new late (allowed_own seat s.0 read_reasons late t.allowed) t.taken (λ k. k)
  carry new seat (Step.Read s x) (Answer.Found start commit content) late t = found seat s x None (record { start = start; commit = commit; content = content }) new late (inl late) (allowed_own seat s.0 read_reasons late t.allowed) t.taken (λ n k. k)
  carry new seat (Step.Read s x) Answer.Absent late t = absent seat s x None new late (inl late) (allowed_own seat s.0 read_reasons late t.allowed) t.taken (λ n k. k)
  carry new seat (Step.ReadAt s x u) (Answer.Locked start primary) late t = locked_read seat s x (Some u) start primary new late.0 (allowed_own seat s.0 (read_at_reasons s.0 u.0) late.0 t.allowed) t.taken (λ k. k)
  carry new seat (Step.ReadAt s x u) (Answer.Found start commit content) late t = found seat s x (Some u) (record { start = start; commit = commit; content = content }) new late.0 (inr late.1) (allowed_own seat s.0 (read_at_reasons s.0 u.0) late.0 t.allowed) t.taken (λ n k. k)
  carry new seat (Step.ReadAt s x u) Answer.Absent late t = absent seat s x (Some u) new late.0 (inr late.1) (allowed_own seat s.0 (read_at_reasons s.0 u.0) late.0 t.allowed) t.taken (λ n k. k)
  carry new seat (Step.Declare s what) Answer.Done late t =
      let is = t.taken in
      turns seat (Step.Declare s what) Answer.Done new s.0 (record is.t { phase = Phase.Declared; declared = cells_of whole.observers is.t.work s.0 what }) late tt (allowed_own seat s.0 (declare_reasons whole.observers s.0 what) late t.allowed)
      (record { t = is.t; own = own_of seat s.0 is.t late is.own; reading = is.reading; known = is.known; its = is.its; new_is = refl }) is.new_is
  carry new seat (Step.Prewrite s x) Answer.Done late t =
      let is = t.taken in
      let done : TransactionOf = record is.t { prewritten = is.t.prewritten ++ x ∷ [] } in
      record {
        after = record whole { entries = put_lock whole.entries x s.0 is.content is.primary; transactions = map.insert whole.transactions s.0 done };
        entries = put_lock e x s.0 is.content is.primary;
        transactions = map.insert ts s.0 done;
        taken = record { allowed = allowed_own seat s.0 (prewrite_reasons x) late t.allowed; taken = record { t = is.t; own = own_of seat s.0 is.t late is.own; phase = is.phase; in_order = is.in_order; content = is.content; declares = is.declares; once = is.once; primary = is.primary; primary_is = is.primary_is; unlocked = no_lock x is.unlocked; no_later = λ d from fits. sym (m.entries_are.records x d (omega (arith, late, from))) ∙ is.no_later d from fits; new_is = refl } };
        mirrors = record { since = m.since; room = m.room; entries_are = (lock_put c whole.entries e m.entries_are x s.0 late is.content is.primary).same; transactions_are = with_both c whole.transactions ts s.0 done m.transactions_are late (phase_of seat s.0 is.t late is.own) };
        new_is = is.new_is;
        versions = (lock_put c whole.entries e m.entries_are x s.0 late is.content is.primary).versions;
        before = (lock_put c whole.entries e m.entries_are x s.0 late is.content is.primary).before;
        within = (lock_put c whole.entries e m.entries_are x s.0 late is.content is.primary).within;
      }
  carry new seat (Step.Prewrite s x) Answer.Conflict late t =
      let is = t.taken in
      let why : SomeLock whole.entries x ⊎ SomeWriteFrom whole.entries x s.0 = elim is.why [
        | inl l ↦ inl (l.0, l.1, same_some x l.0 true l.2)
        | inr w ↦ inr (w.0, w.1, w.2, ap is_some (sym (m.entries_are.records x w.0 (omega (arith, late, w.1)))) ∙ w.3)
      ] in
      turns seat (Step.Prewrite s x) Answer.Conflict new s.0 (record is.t { phase = Phase.Failed }) late tt (allowed_own seat s.0 (prewrite_reasons x) late t.allowed)
      (record { t = is.t; own = own_of seat s.0 is.t late is.own; phase = is.phase; why = why; new_is = refl }) is.new_is
  carry new seat (Step.Stamp s) (Answer.At d) late t =
      let is = t.taken in
      let above : c < d.0 = omega (arith, is.fresh, m.since) in
      let stamped : TransactionOf = record is.t { phase = Phase.Stamped (record { 0 = d.0 }) } in
      record {
        after = record whole { clock = d.0; transactions = map.insert whole.transactions s.0 stamped };
        entries = e;
        transactions = map.insert ts s.0 stamped;
        taken = record { allowed = allowed_stamp seat s.0 late t.allowed; taken = record { t = is.t; own = own_of seat s.0 is.t late is.own; left = is.left; phase = is.phase; whole = is.whole; fresh = is.fresh; new_is = refl } };
        mirrors = record { since = omega (arith, above); room = m.room; entries_are = m.entries_are; transactions_are = with_both c whole.transactions ts s.0 stamped m.transactions_are late above };
        new_is = is.new_is;
        versions = λ x v. (λ is. is, λ is. is);
        before = λ x u under same. same;
        within = λ had. had;
      }
  carry new seat (Step.CommitPrimary s) Answer.Committed late t =
      let is = t.taken in
      let above : c < is.c = subst (IsLatePhase c) is.stamped (phase_of seat s.0 is.t late is.own) in
      let done : TransactionOf = record is.t { phase = Phase.Committed (record { 0 = is.c }) } in
      record {
        after = with_transaction (commits whole is.primary s.0 is.c) s.0 done;
        entries = commit_lock e is.primary s.0 is.c;
        transactions = map.insert ts s.0 done;
        taken = record { allowed = allowed_own seat s.0 commit_reasons late t.allowed; taken = record { t = is.t; own = own_of seat s.0 is.t late is.own; c = is.c; stamped = is.stamped; primary = is.primary; primary_is = is.primary_is; locked = same_some is.primary s.0 true is.locked; new_is = refl } };
        mirrors = record { since = m.since; room = m.room; entries_are = (lock_committed c whole.entries e m.entries_are is.primary s.0 late is.c above).same; transactions_are = with_both c whole.transactions ts s.0 done m.transactions_are late above };
        new_is = is.new_is;
        versions = (lock_committed c whole.entries e m.entries_are is.primary s.0 late is.c above).versions;
        before = (lock_committed c whole.entries e m.entries_are is.primary s.0 late is.c above).before;
        within = (lock_committed c whole.entries e m.entries_are is.primary s.0 late is.c above).within;
      }
  carry new seat (Step.CommitPrimary s) Answer.Lost late t =
      let is = t.taken in
      turns seat (Step.CommitPrimary s) Answer.Lost new s.0 (record is.t { phase = Phase.Failed }) late tt (allowed_own seat s.0 commit_reasons late t.allowed)
      (record { t = is.t; own = own_of seat s.0 is.t late is.own; c = is.c; stamped = is.stamped; primary = is.primary; primary_is = is.primary_is; unlocked = same_some is.primary s.0 false is.unlocked; new_is = refl }) is.new_is
  carry new seat (Step.CommitSecondary s x) Answer.Done late t = secondary seat s x new late (allowed_own seat s.0 (secondary_reasons x) late t.allowed) t.taken (is_some (lock_at e x s.0)) refl
  carry new seat (Step.Settle x) Answer.Absent late t = let is = t.taken in stays seat (Step.Settle x) Answer.Absent new t.allowed (record { unlocked = no_lock x is.unlocked; new_is = refl }) is.new_is
  carry new seat (Step.Settle x) (Answer.Locked start primary) late t =
      let is = t.taken in stays seat (Step.Settle x) (Answer.Locked start primary) new t.allowed (record { locked = lock_on x start.0 primary is.locked; other = is.other; new_is = refl }) is.new_is
  carry new seat (Step.Settle x) Answer.RolledBack late t =
      let is = t.taken in backs_both seat (Step.Settle x) Answer.RolledBack new x is.start (late_lock x is.start x is.locked) t.allowed (record { start = is.start; locked = lock_on x is.start x is.locked; new_is = refl }) is.new_is
  carry new seat (Step.Clear x) Answer.Absent late t = let is = t.taken in stays seat (Step.Clear x) Answer.Absent new t.allowed (record { unlocked = no_lock x is.unlocked; new_is = refl }) is.new_is
  carry new seat (Step.Clear x) Answer.Waits late t =
      let is = t.taken in
      stays seat (Step.Clear x) Answer.Waits new t.allowed
      (record { start = is.start; primary = is.primary; locked = lock_on x is.start is.primary is.locked; why = elim is.why [ inl own ↦ inl own | inr there ↦ inr (same_some is.primary is.start true there) ]; new_is = refl }) is.new_is
  carry new seat (Step.Clear x) (Answer.CommittedAt d) late t =
      let is = t.taken in
      let later = late_lock x is.start is.primary is.locked in
      let above = late_record is.primary is.start d.0 later is.written in
      commits_both seat (Step.Clear x) (Answer.CommittedAt d) new x is.start d.0 later above t.allowed
      (record { start = is.start; primary = is.primary; locked = lock_on x is.start is.primary is.locked; other = is.other; unlocked = same_some is.primary is.start false is.unlocked; written = sym (m.entries_are.records is.primary d.0 above) ∙ is.written; new_is = refl }) is.new_is
  carry new seat (Step.Clear x) Answer.RolledBack late t =
      let is = t.taken in
      let later = late_lock x is.start is.primary is.locked in
      backs_both seat (Step.Clear x) Answer.RolledBack new x is.start later t.allowed
      (record { start = is.start; primary = is.primary; locked = lock_on x is.start is.primary is.locked; other = is.other; unlocked = same_some is.primary is.start false is.unlocked; none = no_write_of is.primary is.start later is.none; new_is = refl }) is.new_is
  carry new seat (Step.NextMark after) (Answer.Marked x) late t = let is = t.taken in stays seat (Step.NextMark after) (Answer.Marked x) new t.allowed (record { first = is.first; new_is = refl }) is.new_is
  carry new seat (Step.NextMark after) Answer.NoMark late t = let is = t.taken in stays seat (Step.NextMark after) Answer.NoMark new t.allowed (record { none = is.none; new_is = refl }) is.new_is
  carry new seat (Step.Sweep x) Answer.NoMark late t = let is = t.taken in stays seat (Step.Sweep x) Answer.NoMark new t.allowed (record { unmarked = is.unmarked; new_is = refl }) is.new_is
  carry new seat (Step.Sweep x) Answer.StillBehind late t = let is = t.taken in stays seat (Step.Sweep x) Answer.StillBehind new t.allowed (record { marked = is.marked; behind = behind_of x is.behind; new_is = refl }) is.new_is
  carry new seat (Step.Sweep x) Answer.Done late t =
      let is = t.taken in
      record {
        after = record whole { marks = map.remove whole.marks x };
        entries = e;
        transactions = ts;
        taken = record { allowed = t.allowed; taken = record { marked = is.marked; up_to_date = all_of x is.up_to_date; new_is = refl } };
        mirrors = record { since = m.since; room = m.room; entries_are = m.entries_are; transactions_are = m.transactions_are };
        new_is = is.new_is;
        versions = λ x v. (λ is. is, λ is. is);
        before = λ x u under same. same;
        within = λ had. had;
      }
  carry new seat step answer late t = absurd t.taken

pub returns : goal.returns
returns c t whole new e ts seat step answer m late taken = carry t whole e ts m new seat step answer late taken
