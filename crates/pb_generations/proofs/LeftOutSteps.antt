-- A step of a table without some observers is one of the whole table, with the same answer, where it names known cells.
use Rattle.std.proofs.Common.{◌≡◌, ℕ, ◌<◌, Bool, true, false, List, [], ◌∷◌, ◌++◌, length, Option, Some, None, refl, sym, ap, subst, ◌∙◌, inl, inr, ◌⊎◌, is_some}
use Rattle.std.specs.FinMap as map
use Rattle.std.specs.Ordering.{nat_cmp, eq_by_cmp}
use Rattle.std.specs.Cmp.{nat_cmp_total}
use Rattle.pb_generations.specs.Words.{cell_cmp, Cell, Revision, Ts, ObserverOf, Entries, Marks, Sort, NoWriteOf, CommitsSecondary, if_locked, commit_lock, commits, erase_lock, rolls_back, with_mark, put_lock, ReadsAbsent, ReadsFound, ReadsLocked, read_step, with_read, IsLockOn, IsVersion, NoLock, NoLockUpTo, NoVersion, SomeLock, SomeWriteFrom, data_at, data_of, lock_at, primary_of, start_of, write_at, read_up_to, IsOwn, StateOf, TransactionOf, Transactions, new_transaction, with_transaction, StepCase, TableStep, Phase, Answer, Step}
use Rattle.pb_history.proofs.Updates.{placed_or_before, left_after_clearing}
use Rattle.pb_history.proofs.ViewsAfter.{lock_after_commit, lock_after_back, lock_after_put}
use Rattle.pb_generations.specs.LateSteps.{NamesLate}
use Rattle.pb_generations.specs.SameButMarks.{is_of_marks}
use Rattle.pb_generations.specs.LeftOut.{LacksOthers, NamesKnown, OthersAreNeverMissed, MarksMissNothing, OthersAreNeverNamed, AnswersKnown, are_known_writes, is_known_cell, known_entries, without_others}
use Rattle.pb_generations.proofs.Kept.{first_or_second, same_there, unwrap}
use Rattle.pb_generations.proofs.KnownEntries.{known_same, known_put, known_commit, known_erase}
use Rattle.pb_generations.proofs.LeftOutDeclarations.{declares_known, primary_is_known}
use Rattle.pb_generations.proofs.LeftOutRefusals.{refused_alike}
use Rattle.pb_generations.proofs.LongerLists.{Stay, stay_in_front, may_stays, cells_stay}

-- ---- what is read

-- an entry of a known cell is the same there
module _ (n : ℕ) (e : Entries) (x : Cell) (known : is_known_cell n x ≡ true) where
  pub same_lock : (s : ℕ) → lock_at (known_entries n e) x s ≡ lock_at e x s
  same_lock s = ap primary_of (known_same n e x Sort.Lock s known)

  pub same_record : (s : ℕ) → write_at (known_entries n e) x s ≡ write_at e x s
  same_record s = ap start_of (known_same n e x Sort.Write s known)

  pub same_data : (s : ℕ) → data_at (known_entries n e) x s ≡ data_at e x s
  same_data s = ap data_of (known_same n e x Sort.Data s known)

  pub version_there : (s : ℕ) (v : Revision) → IsVersion (known_entries n e) x s v → IsVersion e x s v
  version_there s v is = record { low = is.low; written = sym (same_record v.commit.0) ∙ is.written; content = sym (same_data v.start.0) ∙ is.content; newest = λ c above low. sym (same_record c) ∙ is.newest c above low }

  pub no_version : (s : ℕ) → NoVersion (known_entries n e) x s → NoVersion e x s
  no_version s none c low = sym (same_record c) ∙ none c low

  unlocked : NoLock (known_entries n e) x → NoLock e x
  unlocked none u fits = sym (same_lock u) ∙ none u fits

  unlocked_up_to : (s : ℕ) → NoLockUpTo (known_entries n e) x s → NoLockUpTo e x s
  unlocked_up_to s none u low = sym (same_lock u) ∙ none u low

  lock_on : (s : ℕ) (p : Cell) → IsLockOn (known_entries n e) x s p → IsLockOn e x s p
  lock_on s p is = record { fits = is.fits; locked = sym (same_lock s) ∙ is.locked; newest = λ u above fits. sym (same_lock u) ∙ is.newest u above fits }

  has_lock : (s : ℕ) (b : Bool) → is_some (lock_at (known_entries n e) x s) ≡ b → is_some (lock_at e x s) ≡ b
  has_lock s b is = ap is_some (sym (same_lock s)) ∙ is

  no_record_of : (s : ℕ) → NoWriteOf (known_entries n e) x s → NoWriteOf e x s
  no_record_of s none c fits there = none c fits (same_record c ∙ there)

  met : (s : ℕ) → SomeLock (known_entries n e) x ⊎ SomeWriteFrom (known_entries n e) x s → SomeLock e x ⊎ SomeWriteFrom e x s
  met s (inl l) = inl (l.0, l.1, has_lock l.0 true l.2)
  met s (inr w) = inr (w.0, w.1, w.2, ap is_some (sym (same_record w.0)) ∙ w.3)

-- ---- the step

module _ (c : ℕ) (front gone : List ObserverOf) where
  abbrev n : ℕ
  n = length front

  abbrev IsOfFront : Cell → Type 0
  IsOfFront x = is_known_cell n x ≡ true

  abbrev Primaries : Entries → Type 0
  Primaries e = (x : Cell) (s : ℕ) (p : Cell) → IsOfFront x → lock_at e x s ≡ Some p → IsOfFront p

  abbrev LateAreKnown : Transactions → Type 0
  LateAreKnown ts = (s : ℕ) (t : TransactionOf) → c < s → map.get ts s ≡ Some t → are_known_writes n t.declared ≡ true

  abbrev LocksAreLate : Entries → Type 0
  LocksAreLate e = (x : Cell) (s : ℕ) (p : Cell) → lock_at e x s ≡ Some p → c < s

  -- what the step leaves
  pub record GoesThere (whole : StateOf) (seat : ℕ) (step : Step) (answer : Answer) (new : StateOf) : Type 0 where
    pub after : StateOf
    pub left : Marks
    pub taken : StepCase whole seat step answer after
    pub observers : after.observers ≡ front ++ gone
    pub new_is : new ≡ without_others front after left
    pub primaries : Primaries after.entries
    pub declared : LateAreKnown after.transactions
    pub locks : LocksAreLate after.entries

  module _ (whole : StateOf) (os : whole.observers ≡ front ++ gone) (marks : Marks) (primaries : Primaries whole.entries) (declared : LateAreKnown whole.transactions)
      (locks : LocksAreLate whole.entries) where
    abbrev e : Entries
    e = whole.entries

    abbrev ts : Transactions
    ts = whole.transactions

    abbrev lean : StateOf
    lean = without_others front whole marks

    -- ---- what stays known

    known_with : (s : ℕ) (t : TransactionOf) → are_known_writes n t.declared ≡ true → LateAreKnown (map.insert ts s t)
    known_with s t known u w above is = elim (first_or_second (eq_by_cmp nat_cmp u s) (Some t) (map.get ts u) (Some w) (sym (map.get-insert nat_cmp_total ts s t u) ∙ is)) [
      | inl here ↦ subst (λ (z : TransactionOf). are_known_writes n z.declared ≡ true) (ap (unwrap t) here) known
      | inr there ↦ declared u w above there
    ]

    primaries_put : (x : Cell) (s : ℕ) (k : _) (p : Cell) → IsOfFront p → Primaries (put_lock e x s k p)
    primaries_put x s k p known y u q of is = elim (placed_or_before (lock_at e) x s p y u q (sym (same_there (lock_after_put e x s k p) y u) ∙ is)) [
      | inl here ↦ subst IsOfFront here.2 known
      | inr there ↦ primaries y u q of there.0
    ]

    primaries_commit : (x : Cell) (s d : ℕ) → Primaries (commit_lock e x s d)
    primaries_commit x s d y u q of is = primaries y u q of (left_after_clearing (lock_at e) x s y u q (sym (same_there (lock_after_commit e x s d) y u) ∙ is)).0

    primaries_back : (x : Cell) (s : ℕ) → Primaries (erase_lock e x s)
    primaries_back x s y u q of is = primaries y u q of (left_after_clearing (lock_at e) x s y u q (sym (same_there (lock_after_back e x s) y u) ∙ is)).0

    late_put : (x : Cell) (s : ℕ) (k : _) (p : Cell) → c < s → LocksAreLate (put_lock e x s k p)
    late_put x s k p late y u q is = elim (placed_or_before (lock_at e) x s p y u q (sym (same_there (lock_after_put e x s k p) y u) ∙ is)) [
      | inl here ↦ subst (λ (w : ℕ). c < w) (sym here.1) late
      | inr there ↦ locks y u q there.0
    ]

    late_commit : (x : Cell) (s d : ℕ) → LocksAreLate (commit_lock e x s d)
    late_commit x s d y u q is = locks y u q (left_after_clearing (lock_at e) x s y u q (sym (same_there (lock_after_commit e x s d) y u) ∙ is)).0

    late_back : (x : Cell) (s : ℕ) → LocksAreLate (erase_lock e x s)
    late_back x s y u q is = locks y u q (left_after_clearing (lock_at e) x s y u q (sym (same_there (lock_after_back e x s) y u) ∙ is)).0

    own : (seat s : ℕ) (t : TransactionOf) → IsOwn lean seat s t → IsOwn whole seat s t
    own seat s t is = record { there = is.there; mine = is.mine }

    writes_known : (seat s : ℕ) (t : TransactionOf) → c < s → IsOwn lean seat s t → are_known_writes n t.declared ≡ true
    writes_known seat s t late is = declared s t late is.there

    stay : Stay front whole.observers
    stay = subst (Stay front) (sym os) (stay_in_front front gone)

    module _ (new : StateOf) where
      -- ---- what leaves the entries

      stays : (seat : ℕ) (step : Step) (answer : Answer) → new ≡ lean → StepCase whole seat step answer whole → GoesThere whole seat step answer new
      stays seat step answer is taken = record { after = whole; left = marks; taken = taken; observers = os; new_is = is; primaries = primaries; declared = declared; locks = locks }

      turns : (seat : ℕ) (step : Step) (answer : Answer) (s : ℕ) (t : TransactionOf) → are_known_writes n t.declared ≡ true → new ≡ with_transaction lean s t → StepCase whole seat step answer (with_transaction whole s t) → GoesThere whole seat step answer new
      turns seat step answer s t known is taken = record { after = with_transaction whole s t; left = marks; taken = taken; observers = os; new_is = is; primaries = primaries; declared = known_with s t known; locks = locks }

      -- ---- what changes them

      commits_there : (seat : ℕ) (step : Step) (answer : Answer) (x : Cell) (s d : ℕ) → IsOfFront x → new ≡ commits lean x s d → StepCase whole seat step answer (commits whole x s d) → GoesThere whole seat step answer new
      commits_there seat step answer x s d known is taken = record {
        after = commits whole x s d;
        left = with_mark front marks x;
        taken = taken;
        observers = os;
        new_is = is ∙ ap (λ (f : Entries). record lean { entries = f; marks = with_mark front marks x }) (sym (known_commit n e x s known d));
        primaries = primaries_commit x s d;
        declared = declared;
        locks = late_commit x s d;
      }

      backs_there : (seat : ℕ) (step : Step) (answer : Answer) (x : Cell) (s : ℕ) → IsOfFront x → new ≡ rolls_back lean x s → StepCase whole seat step answer (rolls_back whole x s) → GoesThere whole seat step answer new
      backs_there seat step answer x s known is taken = record {
        after = rolls_back whole x s;
        left = marks;
        taken = taken;
        observers = os;
        new_is = is ∙ ap (λ (f : Entries). record lean { entries = f }) (sym (known_erase n e x s known));
        primaries = primaries_back x s;
        declared = declared;
        locks = late_back x s;
      }

      -- ---- reads

      found : (seat : ℕ) (s : Ts) (x : Cell) (at : Option Ts) (v : Revision) → c < s.0 → IsOfFront x → ReadsFound lean seat s.0 x at v new
          → ((to : StateOf) → ReadsFound whole seat s.0 x at v to → StepCase whole seat (read_step s x at) (Answer.Found v.start v.commit v.content) to)
          → GoesThere whole seat (read_step s x at) (Answer.Found v.start v.commit v.content) new
      found seat s x at v late known is case =
          turns seat (read_step s x at) (Answer.Found v.start v.commit v.content) s.0 (with_read is.t x at (Answer.Found v.start v.commit v.content)) (writes_known seat s.0 is.t late is.own) is.new_is
          (case _ (record { t = is.t; own = own seat s.0 is.t is.own; reading = is.reading; in_time = is.in_time; unlocked = unlocked_up_to n e x known (read_up_to s.0 at) is.unlocked; version = version_there n e x known (read_up_to s.0 at) v is.version; new_is = refl }))

      absent : (seat : ℕ) (s : Ts) (x : Cell) (at : Option Ts) → c < s.0 → IsOfFront x → ReadsAbsent lean seat s.0 x at new
          → ((to : StateOf) → ReadsAbsent whole seat s.0 x at to → StepCase whole seat (read_step s x at) Answer.Absent to)
          → GoesThere whole seat (read_step s x at) Answer.Absent new
      absent seat s x at late known is case =
          turns seat (read_step s x at) Answer.Absent s.0 (with_read is.t x at Answer.Absent) (writes_known seat s.0 is.t late is.own) is.new_is
          (case _ (record { t = is.t; own = own seat s.0 is.t is.own; reading = is.reading; in_time = is.in_time; unlocked = unlocked_up_to n e x known (read_up_to s.0 at) is.unlocked; none = no_version n e x known (read_up_to s.0 at) is.none; new_is = refl }))

      locked : (seat : ℕ) (s : Ts) (x : Cell) (at : Option Ts) (start : Ts) (primary : Cell) → IsOfFront x → ReadsLocked lean seat s.0 x at (start.0, primary) new
          → (ReadsLocked whole seat s.0 x at (start.0, primary) whole → StepCase whole seat (read_step s x at) (Answer.Locked start primary) whole)
          → GoesThere whole seat (read_step s x at) (Answer.Locked start primary) new
      locked seat s x at start primary known is case = stays seat (read_step s x at) (Answer.Locked start primary) is.new_is
          (case (record { t = is.t; own = own seat s.0 is.t is.own; reading = is.reading; in_time = is.in_time; low = is.low; locked = sym (same_lock n e x known start.0) ∙ is.locked; newest = λ u above low. sym (same_lock n e x known u) ∙ is.newest u above low; new_is = refl }))

      -- ---- the steps

      secondary : (seat : ℕ) (s : Ts) (x : Cell) → IsOfFront x → (is : CommitsSecondary lean seat s.0 x new) → (b : Bool) → is_some (lock_at e x s.0) ≡ b → GoesThere whole seat (Step.CommitSecondary s x) Answer.Done new
      secondary seat s x known is true there = commits_there seat (Step.CommitSecondary s x) Answer.Done x s.0 is.c known
          (is.new_is ∙ ap (λ (b : Bool). if_locked lean b x s.0 is.c) (ap is_some (same_lock n e x known s.0) ∙ there))
          (record { t = is.t; own = own seat s.0 is.t is.own; c = is.c; committed = is.committed; declares = is.declares; new_is = sym (ap (λ (b : Bool). if_locked whole b x s.0 is.c) there) })
      secondary seat s x known is false there = stays seat (Step.CommitSecondary s x) Answer.Done
          (is.new_is ∙ ap (λ (b : Bool). if_locked lean b x s.0 is.c) (ap is_some (same_lock n e x known s.0) ∙ there))
          (record { t = is.t; own = own seat s.0 is.t is.own; c = is.c; committed = is.committed; declares = is.declares; new_is = sym (ap (λ (b : Bool). if_locked whole b x s.0 is.c) there) })

      pub goes_there : (seat : ℕ) (step : Step) (answer : Answer) → is_of_marks step ≡ false → NamesLate c step → NamesKnown n step → StepCase lean seat step answer new → GoesThere whole seat step answer new
      goes_there seat (Step.Begin work) (Answer.At s) not late known is = record {
        after = record whole { clock = s.0; transactions = map.insert ts s.0 (new_transaction seat work) };
        left = marks;
        taken = record { left = is.left; fresh = is.fresh; new_is = refl };
        observers = os;
        new_is = is.new_is;
        primaries = primaries;
        declared = known_with s.0 (new_transaction seat work) refl;
        locks = locks;
      }
      goes_there seat (Step.Read s x) (Answer.Locked start primary) not late known is = locked seat s x None start primary known is (λ k. k)
      goes_there seat (Step.Read s x) (Answer.Found start commit content) not late known is = found seat s x None (record { start = start; commit = commit; content = content }) late known is (λ to k. k)
      goes_there seat (Step.Read s x) Answer.Absent not late known is = absent seat s x None late known is (λ to k. k)
      goes_there seat (Step.ReadAt s x t) (Answer.Locked start primary) not late known is = locked seat s x (Some t) start primary known is (λ k. k)
      goes_there seat (Step.ReadAt s x t) (Answer.Found start commit content) not late known is = found seat s x (Some t) (record { start = start; commit = commit; content = content }) late known is (λ to k. k)
      goes_there seat (Step.ReadAt s x t) Answer.Absent not late known is = absent seat s x (Some t) late known is (λ to k. k)
      goes_there seat (Step.Declare s what) Answer.Done not late known is =
          let cells = cells_stay front whole.observers stay is.t.work s.0 is.t.reads what is.its in
          turns seat (Step.Declare s what) Answer.Done s.0 _ (declares_known front is.t.work s.0 is.t.reads what is.known is.its) is.new_is
          (record { t = is.t; own = own seat s.0 is.t is.own; reading = is.reading; known = is.known; its = may_stays front whole.observers stay is.t.work s.0 is.t.reads what is.its; new_is = ap (λ (ws : _). with_transaction whole s.0 (record is.t { phase = Phase.Declared; declared = ws })) (sym cells) })
      goes_there seat (Step.Prewrite s x) Answer.Done not late known is =
          let t = record is.t { prewritten = is.t.prewritten ++ x ∷ [] } in
          let writes = writes_known seat s.0 is.t late is.own in
          record {
            after = record whole { entries = put_lock e x s.0 is.content is.primary; transactions = map.insert ts s.0 t };
            left = marks;
            taken = record { t = is.t; own = own seat s.0 is.t is.own; phase = is.phase; in_order = is.in_order; content = is.content; declares = is.declares; once = is.once; primary = is.primary; primary_is = is.primary_is; unlocked = unlocked n e x known is.unlocked; no_later = λ d from fits. sym (same_record n e x known d) ∙ is.no_later d from fits; new_is = refl };
            observers = os;
            new_is = is.new_is ∙ ap (λ (f : Entries). record lean { entries = f; transactions = map.insert ts s.0 t }) (sym (known_put n e x s.0 known is.content is.primary));
            primaries = primaries_put x s.0 is.content is.primary (primary_is_known n is.t.declared is.primary writes is.primary_is);
            declared = known_with s.0 t writes;
            locks = late_put x s.0 is.content is.primary late;
          }
      goes_there seat (Step.Prewrite s x) Answer.Conflict not late known is = turns seat (Step.Prewrite s x) Answer.Conflict s.0 _ (writes_known seat s.0 is.t late is.own) is.new_is
          (record { t = is.t; own = own seat s.0 is.t is.own; phase = is.phase; why = met n e x known s.0 is.why; new_is = refl })
      goes_there seat (Step.Stamp s) (Answer.At d) not late known is =
          let t = record is.t { phase = Phase.Stamped (record { 0 = d.0 }) } in
          record {
            after = record whole { clock = d.0; transactions = map.insert ts s.0 t };
            left = marks;
            taken = record { t = is.t; own = own seat s.0 is.t is.own; left = is.left; phase = is.phase; whole = is.whole; fresh = is.fresh; new_is = refl };
            observers = os;
            new_is = is.new_is;
            primaries = primaries;
            declared = known_with s.0 t (writes_known seat s.0 is.t late is.own);
            locks = locks;
          }
      goes_there seat (Step.CommitPrimary s) Answer.Committed not late known is =
          let t = record is.t { phase = Phase.Committed (record { 0 = is.c }) } in
          let writes = writes_known seat s.0 is.t late is.own in
          let first = primary_is_known n is.t.declared is.primary writes is.primary_is in
          record {
            after = with_transaction (commits whole is.primary s.0 is.c) s.0 t;
            left = with_mark front marks is.primary;
            taken = record { t = is.t; own = own seat s.0 is.t is.own; c = is.c; stamped = is.stamped; primary = is.primary; primary_is = is.primary_is; locked = has_lock n e is.primary first s.0 true is.locked; new_is = refl };
            observers = os;
            new_is = is.new_is ∙ ap (λ (f : Entries). record lean { entries = f; marks = with_mark front marks is.primary; transactions = map.insert ts s.0 t }) (sym (known_commit n e is.primary s.0 first is.c));
            primaries = primaries_commit is.primary s.0 is.c;
            declared = known_with s.0 t writes;
            locks = late_commit is.primary s.0 is.c;
          }
      goes_there seat (Step.CommitPrimary s) Answer.Lost not late known is =
          let writes = writes_known seat s.0 is.t late is.own in
          turns seat (Step.CommitPrimary s) Answer.Lost s.0 _ writes is.new_is
          (record { t = is.t; own = own seat s.0 is.t is.own; c = is.c; stamped = is.stamped; primary = is.primary; primary_is = is.primary_is; unlocked = has_lock n e is.primary (primary_is_known n is.t.declared is.primary writes is.primary_is) s.0 false is.unlocked; new_is = refl })
      goes_there seat (Step.CommitSecondary s x) Answer.Done not late known is = secondary seat s x known is (is_some (lock_at e x s.0)) refl
      goes_there seat (Step.Settle x) Answer.Absent not late known is = stays seat (Step.Settle x) Answer.Absent is.new_is (record { unlocked = unlocked n e x known is.unlocked; new_is = refl })
      goes_there seat (Step.Settle x) (Answer.Locked start primary) not late known is = stays seat (Step.Settle x) (Answer.Locked start primary) is.new_is (record { locked = lock_on n e x known start.0 primary is.locked; other = is.other; new_is = refl })
      goes_there seat (Step.Settle x) Answer.RolledBack not late known is = backs_there seat (Step.Settle x) Answer.RolledBack x is.start known is.new_is (record { start = is.start; locked = lock_on n e x known is.start x is.locked; new_is = refl })
      goes_there seat (Step.Clear x) Answer.Absent not late known is = stays seat (Step.Clear x) Answer.Absent is.new_is (record { unlocked = unlocked n e x known is.unlocked; new_is = refl })
      goes_there seat (Step.Clear x) Answer.Waits not late known is =
          let on = lock_on n e x known is.start is.primary is.locked in
          stays seat (Step.Clear x) Answer.Waits is.new_is (record { start = is.start; primary = is.primary; locked = on; why = waits (primaries x is.start is.primary known on.locked) is.why; new_is = refl })
        where
          waits : IsOfFront is.primary → (eq_by_cmp cell_cmp is.primary x ≡ true) ⊎ (is_some (lock_at (known_entries n e) is.primary is.start) ≡ true) → (eq_by_cmp cell_cmp is.primary x ≡ true) ⊎ (is_some (lock_at e is.primary is.start) ≡ true)
          waits of (inl its) = inl its
          waits of (inr there) = inr (has_lock n e is.primary of is.start true there)
      goes_there seat (Step.Clear x) (Answer.CommittedAt d) not late known is =
          let on = lock_on n e x known is.start is.primary is.locked in
          let of = primaries x is.start is.primary known on.locked in
          commits_there seat (Step.Clear x) (Answer.CommittedAt d) x is.start d.0 known is.new_is
          (record { start = is.start; primary = is.primary; locked = on; other = is.other; unlocked = has_lock n e is.primary of is.start false is.unlocked; written = sym (same_record n e is.primary of d.0) ∙ is.written; new_is = refl })
      goes_there seat (Step.Clear x) Answer.RolledBack not late known is =
          let on = lock_on n e x known is.start is.primary is.locked in
          let of = primaries x is.start is.primary known on.locked in
          backs_there seat (Step.Clear x) Answer.RolledBack x is.start known is.new_is
          (record { start = is.start; primary = is.primary; locked = on; other = is.other; unlocked = has_lock n e is.primary of is.start false is.unlocked; none = no_record_of n e is.primary of is.start is.none; new_is = refl })
      goes_there seat (Step.NextMark after) answer not late known is = absurd cc
      goes_there seat (Step.Sweep x) answer not late known is = absurd cc
      goes_there seat step answer not late known is = absurd is

      -- what is there with these marks is there with its own
      by_marks : (left : Marks) → new ≡ without_others front whole left → new ≡ without_others front whole new.marks
      by_marks left is = is ∙ ap (λ (z : StateOf). without_others front whole z.marks) (sym is)

      pub marks_stay : (seat : ℕ) (step : Step) (answer : Answer) → is_of_marks step ≡ true → StepCase lean seat step answer new → new ≡ without_others front whole new.marks
      marks_stay seat (Step.NextMark after) (Answer.Marked x) of is = by_marks marks is.new_is
      marks_stay seat (Step.NextMark after) Answer.NoMark of is = by_marks marks is.new_is
      marks_stay seat (Step.Sweep x) Answer.NoMark of is = by_marks marks is.new_is
      marks_stay seat (Step.Sweep x) Answer.StillBehind of is = by_marks marks is.new_is
      marks_stay seat (Step.Sweep x) Answer.Done of is = by_marks (map.remove marks x) is.new_is
      marks_stay seat (Step.Begin work) answer of is = absurd cc
      marks_stay seat (Step.Read s x) answer of is = absurd cc
      marks_stay seat (Step.ReadAt s x t) answer of is = absurd cc
      marks_stay seat (Step.Declare s what) answer of is = absurd cc
      marks_stay seat (Step.Prewrite s x) answer of is = absurd cc
      marks_stay seat (Step.Stamp s) answer of is = absurd cc
      marks_stay seat (Step.CommitPrimary s) answer of is = absurd cc
      marks_stay seat (Step.CommitSecondary s x) answer of is = absurd cc
      marks_stay seat (Step.Settle x) answer of is = absurd cc
      marks_stay seat (Step.Clear x) answer of is = absurd cc
      marks_stay seat step answer of is = absurd is

-- a lock that is answered is one of a known cell
module _ (c : ℕ) (front gone : List ObserverOf) (whole : StateOf) (marks : Marks) (primaries : Primaries c front gone whole.entries) (new : StateOf) where
  abbrev answered_by : StateOf
  answered_by = without_others front whole marks

  primary_of_known : (x : Cell) (s : ℕ) (p : Cell) → is_known_cell (length front) x ≡ true → lock_at answered_by.entries x s ≡ Some p → is_known_cell (length front) p ≡ true
  primary_of_known x s p known there = primaries x s p known (sym (same_lock (length front) whole.entries x known s) ∙ there)

  primary_answered : (seat : ℕ) (step : Step) (answer : Answer) → NamesKnown (length front) step → StepCase answered_by seat step answer new → AnswersKnown (length front) answer
  primary_answered seat (Step.Read s x) (Answer.Locked start primary) known is = primary_of_known x start.0 primary known is.locked
  primary_answered seat (Step.ReadAt s x t) (Answer.Locked start primary) known is = primary_of_known x start.0 primary known is.locked
  primary_answered seat (Step.Settle x) (Answer.Locked start primary) known is = primary_of_known x start.0 primary known is.locked.locked
  primary_answered seat (Step.Begin work) (Answer.Locked start primary) known is = absurd is
  primary_answered seat (Step.Declare s what) (Answer.Locked start primary) known is = absurd is
  primary_answered seat (Step.Prewrite s x) (Answer.Locked start primary) known is = absurd is
  primary_answered seat (Step.Stamp s) (Answer.Locked start primary) known is = absurd is
  primary_answered seat (Step.CommitPrimary s) (Answer.Locked start primary) known is = absurd is
  primary_answered seat (Step.CommitSecondary s x) (Answer.Locked start primary) known is = absurd is
  primary_answered seat (Step.Clear x) (Answer.Locked start primary) known is = absurd is
  primary_answered seat (Step.NextMark after) (Answer.Locked start primary) known is = absurd is
  primary_answered seat (Step.Sweep x) (Answer.Locked start primary) known is = absurd is
  primary_answered seat step answer known is = tt

-- ---- the laws

-- a state that is another without the observers at its end, with any marks
pub lacks_by : (c : ℕ) (front gone : List ObserverOf) (whole new : StateOf) (left : Marks) → new ≡ without_others front whole left → whole.observers ≡ front ++ gone → Primaries c front gone whole.entries → LateAreKnown c front gone whole.transactions
    → LocksAreLate c front gone whole.entries → LacksOthers c gone whole new
lacks_by c front gone whole new left is os primaries declared locks =
    subst (LacksOthers c gone whole) (sym is) (record { observers = os; lean_is = refl; primaries = primaries; declared = declared; late = locks })

pub others_are_never_missed : OthersAreNeverMissed
others_are_never_missed c gone whole lean new seat step answer lacks not late known t =
    let front = lean.observers in
    let table : TableStep (without_others front whole lean.marks) seat step answer new = subst (λ (z : StateOf). TableStep z seat step answer new) lacks.lean_is t in
    let there = goes_there c front gone whole lacks.observers lean.marks lacks.primaries lacks.declared lacks.late new seat step answer not late known table.taken in
    record {
      after = there.after;
      taken = record { allowed = sym (refused_alike front gone whole lacks.observers lean.marks seat step known) ∙ table.allowed; taken = there.taken };
      lacks = lacks_by c front gone there.after new there.left there.new_is there.observers there.primaries there.declared there.locks;
    }

pub marks_miss_nothing : MarksMissNothing
marks_miss_nothing c gone whole lean new seat step answer lacks of t =
    let front = lean.observers in
    let table : TableStep (without_others front whole lean.marks) seat step answer new = subst (λ (z : StateOf). TableStep z seat step answer new) lacks.lean_is t in
    lacks_by c front gone whole new new.marks (marks_stay c front gone whole lacks.observers lean.marks lacks.primaries lacks.declared lacks.late new seat step answer of table.taken) lacks.observers lacks.primaries lacks.declared lacks.late

pub others_are_never_named : OthersAreNeverNamed
others_are_never_named c gone whole lean new seat step answer lacks known t =
    primary_answered c lean.observers gone whole lean.marks lacks.primaries new seat step answer known (subst (λ (z : StateOf). StepCase z seat step answer new) lacks.lean_is t.taken)
