-- A step that isn't of marks is, renumbered, one of the table that has the observers under other numbers, with the renumbered
-- answer, and what it leaves is the same but for these numbers.
use Rattle.std.proofs.Common.{◌≡◌, ℕ, Bool, true, false, List, [], ◌∷◌, ◌++◌, Option, Some, None, refl, sym, ap, subst, ◌∙◌, inl, inr, ◌⊎◌, is_some, option_map, map}
use mathlib.Core.List.{map-append}
use Rattle.std.specs.FinMap as finite
use Rattle.std.specs.Ordering.{eq_by_cmp}
use Rattle.pb_generations.specs.Words.{cell_cmp, Cell, Revision, Ts, ObserverOf, Entries, Marks, NoWriteOf, CommitsSecondary, if_locked, commit_lock, erase_lock, with_mark, put_lock, ReadsAbsent, ReadsFound, ReadsLocked, read_step, with_read, IsLockOn, IsVersion, NoLock, NoLockUpTo, NoVersion, SomeLock, SomeWriteFrom, lock_at, write_at, read_up_to, IsOwn, StateOf, TransactionOf, Transactions, new_transaction, StepCase, Phase, RecordedRead, Answer, Step}
use Rattle.pb_generations.specs.SameButMarks.{is_of_marks}
use Rattle.pb_generations.specs.Renumbered.{AreNumberedBy, IsOneToOne, TransactionsAreRenumbered, renumbered_answer, renumbered_cell, renumbered_read, renumbered_step, renumbered_transaction, renumbered_work}
use Rattle.pb_generations.proofs.RenumberedCells.{tie_renumbered, content_renumbered, primary_renumbered, whole_renumbered, early_renumbered, in_renumbered}
use Rattle.pb_generations.proofs.RenumberedDeclarations.{cells_renumbered, may_renumbered, still_known}
use Rattle.pb_generations.proofs.RenumberedEntries.{AreMoved, moved_after_put, moved_after_commit, moved_after_back, renumbered_insert}
use Rattle.pb_generations.proofs.RenumberedRefusals.{under_numbers, own_renumbered}

module _ (number : ℕ → ℕ) (one : IsOneToOne number) (old : StateOf) (many : List ObserverOf) (by : AreNumberedBy number old.observers many) (e : Entries) (ts : Transactions) (marks : Marks) (moved : AreMoved number one old.entries e) (same : TransactionsAreRenumbered number old.transactions ts) where
  abbrev renumbered : StateOf
  renumbered = under_numbers old e ts many marks

  abbrev cell_for : Cell → Cell
  cell_for = renumbered_cell number

  abbrev transaction_for : TransactionOf → TransactionOf
  transaction_for = renumbered_transaction number

  -- what the step leaves there
  pub record GoesRenumbered (seat : ℕ) (step : Step) (answer : Answer) (new : StateOf) : Type 0 where
    pub entries : Entries
    pub transactions : Transactions
    pub left : Marks
    pub taken : StepCase renumbered seat (renumbered_step number step) (renumbered_answer number answer) (under_numbers new entries transactions many left)
    pub moved_after : AreMoved number one new.entries entries
    pub same_after : TransactionsAreRenumbered number new.transactions transactions

  -- ---- what is read there

  some_moved : (o : Option Cell) → is_some (option_map cell_for o) ≡ is_some o
  some_moved None = refl
  some_moved (Some x) = refl

  lock_moved : (x : Cell) (s : ℕ) (o : Option Cell) → lock_at old.entries x s ≡ o → lock_at e (cell_for x) s ≡ option_map cell_for o
  lock_moved x s o is = moved.locked.same x s ∙ ap (option_map cell_for) is

  has_lock : (x : Cell) (s : ℕ) (b : Bool) → is_some (lock_at old.entries x s) ≡ b → is_some (lock_at e (cell_for x) s) ≡ b
  has_lock x s b is = ap is_some (moved.locked.same x s) ∙ some_moved (lock_at old.entries x s) ∙ is

  record_moved : (x : Cell) (c : ℕ) (o : Option ℕ) → write_at old.entries x c ≡ o → write_at e (cell_for x) c ≡ o
  record_moved x c o is = moved.written.same x c ∙ is

  lock_on : (x : Cell) (start : ℕ) (primary : Cell) → IsLockOn old.entries x start primary → IsLockOn e (cell_for x) start (cell_for primary)
  lock_on x start primary is = record { fits = is.fits; locked = lock_moved x start (Some primary) is.locked; newest = λ u above fits. lock_moved x u None (is.newest u above fits) }

  unlocked : (x : Cell) → NoLock old.entries x → NoLock e (cell_for x)
  unlocked x none u fits = lock_moved x u None (none u fits)

  unlocked_up_to : (x : Cell) (s : ℕ) → NoLockUpTo old.entries x s → NoLockUpTo e (cell_for x) s
  unlocked_up_to x s none u low = lock_moved x u None (none u low)

  version_moved : (x : Cell) (s : ℕ) (v : Revision) → IsVersion old.entries x s v → IsVersion e (cell_for x) s v
  version_moved x s v is = record { low = is.low; written = record_moved x v.commit.0 (Some v.start.0) is.written; content = moved.stored.same x v.start.0 ∙ is.content; newest = λ c above low. record_moved x c None (is.newest c above low) }

  no_version : (x : Cell) (s : ℕ) → NoVersion old.entries x s → NoVersion e (cell_for x) s
  no_version x s none c low = record_moved x c None (none c low)

  met : (x : Cell) (s : ℕ) → SomeLock old.entries x ⊎ SomeWriteFrom old.entries x s → SomeLock e (cell_for x) ⊎ SomeWriteFrom e (cell_for x) s
  met x s (inl l) = inl (l.0, l.1, has_lock x l.0 true l.2)
  met x s (inr w) = inr (w.0, w.1, w.2, ap is_some (moved.written.same x w.0) ∙ w.3)

  no_record_of : (x : Cell) (s : ℕ) → NoWriteOf old.entries x s → NoWriteOf e (cell_for x) s
  no_record_of x s none c fits there = none c fits (sym (moved.written.same x c) ∙ there)

  apart : (p x : Cell) → eq_by_cmp cell_cmp p x ≡ false → eq_by_cmp cell_cmp (cell_for p) (cell_for x) ≡ false
  apart p x is = tie_renumbered number one p x ∙ is

  -- ---- the steps

  module _ (new : StateOf) where
    goes : (seat : ℕ) (step : Step) (answer : Answer) (to : StateOf) (f : Entries) (us : Transactions) (left : Marks) → new ≡ to → AreMoved number one to.entries f → TransactionsAreRenumbered number to.transactions us
        → (under_numbers new f us many left ≡ under_numbers to f us many left → StepCase renumbered seat (renumbered_step number step) (renumbered_answer number answer) (under_numbers new f us many left)) → GoesRenumbered seat step answer new
    goes seat step answer to f us left is m s case = record {
      entries = f;
      transactions = us;
      left = left;
      taken = case (ap (λ (z : StateOf). under_numbers z f us many left) is);
      moved_after = subst (λ (z : StateOf). AreMoved number one z.entries f) (sym is) m;
      same_after = subst (λ (z : StateOf). TransactionsAreRenumbered number z.transactions us) (sym is) s;
    }

    -- what leaves entries and transactions
    stays : (seat : ℕ) (step : Step) (answer : Answer) → new ≡ old → (under_numbers new e ts many marks ≡ renumbered → StepCase renumbered seat (renumbered_step number step) (renumbered_answer number answer) (under_numbers new e ts many marks)) → GoesRenumbered seat step answer new
    stays seat step answer is = goes seat step answer old e ts marks is moved same

    mine : (seat s : ℕ) (t : TransactionOf) → IsOwn old seat s t → IsOwn renumbered seat s (transaction_for t)
    mine = own_renumbered number one old many by e ts marks same

    with_one : (s : ℕ) (t w : TransactionOf) → w ≡ transaction_for t → TransactionsAreRenumbered number (finite.insert old.transactions s t) (finite.insert ts s w)
    with_one = renumbered_insert number old.transactions ts same

    -- ---- reads

    read_once_more : (t : TransactionOf) (x : Cell) (at : Option Ts) (answer : Answer) → with_read (transaction_for t) (cell_for x) at (renumbered_answer number answer) ≡ transaction_for (with_read t x at answer)
    read_once_more t x at answer = ap (λ (l : List RecordedRead). record (transaction_for t) { reads = l }) (sym (map-append (renumbered_read number) t.reads (record { cell = x; at = at; answer = answer } ∷ [])))

    found : (seat : ℕ) (s : Ts) (x : Cell) (at : Option Ts) (v : Revision) → ReadsFound old seat s.0 x at v new
        → ((us : Transactions) → ReadsFound renumbered seat s.0 (cell_for x) at v (under_numbers new e us many marks) → StepCase renumbered seat (renumbered_step number (read_step s x at)) (Answer.Found v.start v.commit v.content) (under_numbers new e us many marks))
        → GoesRenumbered seat (read_step s x at) (Answer.Found v.start v.commit v.content) new
    found seat s x at v is case =
        let answer = Answer.Found v.start v.commit v.content in
        let us = finite.insert ts s.0 (with_read (transaction_for is.t) (cell_for x) at answer) in
        goes seat (read_step s x at) answer _ e us marks is.new_is moved (with_one s.0 _ _ (read_once_more is.t x at answer))
        (λ q. case us (record { t = transaction_for is.t; own = mine seat s.0 is.t is.own; reading = is.reading; in_time = is.in_time; unlocked = unlocked_up_to x (read_up_to s.0 at) is.unlocked; version = version_moved x (read_up_to s.0 at) v is.version; new_is = q }))

    absent : (seat : ℕ) (s : Ts) (x : Cell) (at : Option Ts) → ReadsAbsent old seat s.0 x at new
        → ((us : Transactions) → ReadsAbsent renumbered seat s.0 (cell_for x) at (under_numbers new e us many marks) → StepCase renumbered seat (renumbered_step number (read_step s x at)) Answer.Absent (under_numbers new e us many marks))
        → GoesRenumbered seat (read_step s x at) Answer.Absent new
    absent seat s x at is case =
        let us = finite.insert ts s.0 (with_read (transaction_for is.t) (cell_for x) at Answer.Absent) in
        goes seat (read_step s x at) Answer.Absent _ e us marks is.new_is moved (with_one s.0 _ _ (read_once_more is.t x at Answer.Absent))
        (λ q. case us (record { t = transaction_for is.t; own = mine seat s.0 is.t is.own; reading = is.reading; in_time = is.in_time; unlocked = unlocked_up_to x (read_up_to s.0 at) is.unlocked; none = no_version x (read_up_to s.0 at) is.none; new_is = q }))

    locked : (seat : ℕ) (s : Ts) (x : Cell) (at : Option Ts) (start : Ts) (primary : Cell) → ReadsLocked old seat s.0 x at (start.0, primary) new
        → (ReadsLocked renumbered seat s.0 (cell_for x) at (start.0, cell_for primary) (under_numbers new e ts many marks) → StepCase renumbered seat (renumbered_step number (read_step s x at)) (Answer.Locked start (cell_for primary)) (under_numbers new e ts many marks))
        → GoesRenumbered seat (read_step s x at) (Answer.Locked start primary) new
    locked seat s x at start primary is case = stays seat (read_step s x at) (Answer.Locked start primary) is.new_is
        (λ q. case (record { t = transaction_for is.t; own = mine seat s.0 is.t is.own; reading = is.reading; in_time = is.in_time; low = is.low; locked = lock_moved x start.0 (Some primary) is.locked; newest = λ u above low. lock_moved x u None (is.newest u above low); new_is = q }))

    -- ---- a lock becomes a write record, or goes

    commits_there : (seat : ℕ) (step : Step) (answer : Answer) (x : Cell) (s c : ℕ) → new ≡ record old { entries = commit_lock old.entries x s c; marks = with_mark old.observers old.marks x }
        → (under_numbers new (commit_lock e (cell_for x) s c) ts many (with_mark many marks (cell_for x)) ≡ record renumbered { entries = commit_lock e (cell_for x) s c; marks = with_mark many marks (cell_for x) }
        → StepCase renumbered seat (renumbered_step number step) (renumbered_answer number answer) (under_numbers new (commit_lock e (cell_for x) s c) ts many (with_mark many marks (cell_for x)))) → GoesRenumbered seat step answer new
    commits_there seat step answer x s c is = goes seat step answer _ (commit_lock e (cell_for x) s c) ts (with_mark many marks (cell_for x)) is (moved_after_commit number one old.entries e moved x s c) same

    backs_there : (seat : ℕ) (step : Step) (answer : Answer) (x : Cell) (s : ℕ) → new ≡ record old { entries = erase_lock old.entries x s }
        → (under_numbers new (erase_lock e (cell_for x) s) ts many marks ≡ record renumbered { entries = erase_lock e (cell_for x) s }
        → StepCase renumbered seat (renumbered_step number step) (renumbered_answer number answer) (under_numbers new (erase_lock e (cell_for x) s) ts many marks)) → GoesRenumbered seat step answer new
    backs_there seat step answer x s is = goes seat step answer _ (erase_lock e (cell_for x) s) ts marks is (moved_after_back number one old.entries e moved x s) same

    secondary : (seat : ℕ) (s : Ts) (x : Cell) (is : CommitsSecondary old seat s.0 x new) (b : Bool) → is_some (lock_at old.entries x s.0) ≡ b → GoesRenumbered seat (Step.CommitSecondary s x) Answer.Done new
    secondary seat s x is true there = commits_there seat (Step.CommitSecondary s x) Answer.Done x s.0 is.c (is.new_is ∙ ap (λ (b : Bool). if_locked old b x s.0 is.c) there)
        (λ q. record { t = transaction_for is.t; own = mine seat s.0 is.t is.own; c = is.c; committed = is.committed; declares = ap is_some (content_renumbered number one is.t.declared x) ∙ is.declares; new_is = q ∙ sym (ap (λ (b : Bool). if_locked renumbered b (cell_for x) s.0 is.c) (has_lock x s.0 true there)) })
    secondary seat s x is false there = stays seat (Step.CommitSecondary s x) Answer.Done (is.new_is ∙ ap (λ (b : Bool). if_locked old b x s.0 is.c) there)
        (λ q. record { t = transaction_for is.t; own = mine seat s.0 is.t is.own; c = is.c; committed = is.committed; declares = ap is_some (content_renumbered number one is.t.declared x) ∙ is.declares; new_is = q ∙ sym (ap (λ (b : Bool). if_locked renumbered b (cell_for x) s.0 is.c) (has_lock x s.0 false there)) })

    -- a transaction alone is changed
    turns : (seat : ℕ) (step : Step) (answer : Answer) (s : ℕ) (t w : TransactionOf) → w ≡ transaction_for t → new ≡ record old { transactions = finite.insert old.transactions s t }
        → (under_numbers new e (finite.insert ts s w) many marks ≡ record renumbered { transactions = finite.insert ts s w } → StepCase renumbered seat (renumbered_step number step) (renumbered_answer number answer) (under_numbers new e (finite.insert ts s w) many marks)) → GoesRenumbered seat step answer new
    turns seat step answer s t w is new_is = goes seat step answer _ e (finite.insert ts s w) marks new_is moved (with_one s t w is)

    pub goes_renumbered : (seat : ℕ) (step : Step) (answer : Answer) → is_of_marks step ≡ false → StepCase old seat step answer new → GoesRenumbered seat step answer new
    goes_renumbered seat (Step.Begin work) (Answer.At s) not is =
        let t = new_transaction seat (renumbered_work number work) in
        goes seat (Step.Begin work) (Answer.At s) _ e (finite.insert ts s.0 t) marks is.new_is moved (with_one s.0 (new_transaction seat work) t refl) (λ q. record { left = is.left; fresh = is.fresh; new_is = q })
    goes_renumbered seat (Step.Read s x) (Answer.Locked start primary) not is = locked seat s x None start primary is (λ k. k)
    goes_renumbered seat (Step.Read s x) (Answer.Found start commit content) not is = found seat s x None (record { start = start; commit = commit; content = content }) is (λ us k. k)
    goes_renumbered seat (Step.Read s x) Answer.Absent not is = absent seat s x None is (λ us k. k)
    goes_renumbered seat (Step.ReadAt s x t) (Answer.Locked start primary) not is = locked seat s x (Some t) start primary is (λ k. k)
    goes_renumbered seat (Step.ReadAt s x t) (Answer.Found start commit content) not is = found seat s x (Some t) (record { start = start; commit = commit; content = content }) is (λ us k. k)
    goes_renumbered seat (Step.ReadAt s x t) Answer.Absent not is = absent seat s x (Some t) is (λ us k. k)
    goes_renumbered seat (Step.Declare s what) Answer.Done not is =
        let cells = cells_renumbered number old.observers many by is.t.work s.0 is.t.reads what is.known is.its in
        turns seat (Step.Declare s what) Answer.Done s.0 _ (record (transaction_for is.t) { phase = Phase.Declared; declared = _ }) (ap (λ ws. record (transaction_for is.t) { phase = Phase.Declared; declared = ws }) cells) is.new_is
        (λ q. record { t = transaction_for is.t; own = mine seat s.0 is.t is.own; reading = is.reading; known = still_known number what is.known; its = may_renumbered number old.observers many by is.t.work s.0 is.t.reads what is.its; new_is = q })
    goes_renumbered seat (Step.Prewrite s x) Answer.Done not is =
        let w = record (transaction_for is.t) { prewritten = map cell_for is.t.prewritten ++ cell_for x ∷ [] } in
        goes seat (Step.Prewrite s x) Answer.Done _ (put_lock e (cell_for x) s.0 is.content (cell_for is.primary)) (finite.insert ts s.0 w) marks is.new_is (moved_after_put number one old.entries e moved x s.0 is.content is.primary)
        (with_one s.0 _ w (ap (λ (l : List Cell). record (transaction_for is.t) { prewritten = l }) (sym (map-append cell_for is.t.prewritten (x ∷ [])))))
        (λ q. record {
          t = transaction_for is.t;
          own = mine seat s.0 is.t is.own;
          phase = is.phase;
          in_order = early_renumbered number one is.t x ∙ is.in_order;
          content = is.content;
          declares = content_renumbered number one is.t.declared x ∙ is.declares;
          once = in_renumbered number one is.t.prewritten x ∙ is.once;
          primary = cell_for is.primary;
          primary_is = primary_renumbered number is.t.declared ∙ ap (option_map cell_for) is.primary_is;
          unlocked = unlocked x is.unlocked;
          no_later = λ c from fits. record_moved x c None (is.no_later c from fits);
          new_is = q;
        })
    goes_renumbered seat (Step.Prewrite s x) Answer.Conflict not is = turns seat (Step.Prewrite s x) Answer.Conflict s.0 _ (record (transaction_for is.t) { phase = Phase.Failed }) refl is.new_is
        (λ q. record { t = transaction_for is.t; own = mine seat s.0 is.t is.own; phase = is.phase; why = met x s.0 is.why; new_is = q })
    goes_renumbered seat (Step.Stamp s) (Answer.At c) not is =
        let w = record (transaction_for is.t) { phase = Phase.Stamped (record { 0 = c.0 }) } in
        goes seat (Step.Stamp s) (Answer.At c) _ e (finite.insert ts s.0 w) marks is.new_is moved (with_one s.0 _ w refl)
        (λ q. record { t = transaction_for is.t; own = mine seat s.0 is.t is.own; left = is.left; phase = is.phase; whole = whole_renumbered number one is.t ∙ is.whole; fresh = is.fresh; new_is = q })
    goes_renumbered seat (Step.CommitPrimary s) Answer.Committed not is =
        let w = record (transaction_for is.t) { phase = Phase.Committed (record { 0 = is.c }) } in
        let p = cell_for is.primary in
        goes seat (Step.CommitPrimary s) Answer.Committed _ (commit_lock e p s.0 is.c) (finite.insert ts s.0 w) (with_mark many marks p) is.new_is (moved_after_commit number one old.entries e moved is.primary s.0 is.c) (with_one s.0 _ w refl)
        (λ q. record { t = transaction_for is.t; own = mine seat s.0 is.t is.own; c = is.c; stamped = is.stamped; primary = p; primary_is = primary_renumbered number is.t.declared ∙ ap (option_map cell_for) is.primary_is; locked = has_lock is.primary s.0 true is.locked; new_is = q })
    goes_renumbered seat (Step.CommitPrimary s) Answer.Lost not is = turns seat (Step.CommitPrimary s) Answer.Lost s.0 _ (record (transaction_for is.t) { phase = Phase.Failed }) refl is.new_is
        (λ q. record { t = transaction_for is.t; own = mine seat s.0 is.t is.own; c = is.c; stamped = is.stamped; primary = cell_for is.primary; primary_is = primary_renumbered number is.t.declared ∙ ap (option_map cell_for) is.primary_is; unlocked = has_lock is.primary s.0 false is.unlocked; new_is = q })
    goes_renumbered seat (Step.CommitSecondary s x) Answer.Done not is = secondary seat s x is (is_some (lock_at old.entries x s.0)) refl
    goes_renumbered seat (Step.Settle x) Answer.Absent not is = stays seat (Step.Settle x) Answer.Absent is.new_is (λ q. record { unlocked = unlocked x is.unlocked; new_is = q })
    goes_renumbered seat (Step.Settle x) (Answer.Locked start primary) not is = stays seat (Step.Settle x) (Answer.Locked start primary) is.new_is (λ q. record { locked = lock_on x start.0 primary is.locked; other = apart primary x is.other; new_is = q })
    goes_renumbered seat (Step.Settle x) Answer.RolledBack not is = backs_there seat (Step.Settle x) Answer.RolledBack x is.start is.new_is (λ q. record { start = is.start; locked = lock_on x is.start x is.locked; new_is = q })
    goes_renumbered seat (Step.Clear x) Answer.Absent not is = stays seat (Step.Clear x) Answer.Absent is.new_is (λ q. record { unlocked = unlocked x is.unlocked; new_is = q })
    goes_renumbered seat (Step.Clear x) Answer.Waits not is = stays seat (Step.Clear x) Answer.Waits is.new_is (λ q. record { start = is.start; primary = cell_for is.primary; locked = lock_on x is.start is.primary is.locked; why = waits is.why; new_is = q })
      where
        waits : (eq_by_cmp cell_cmp is.primary x ≡ true) ⊎ (is_some (lock_at old.entries is.primary is.start) ≡ true) → (eq_by_cmp cell_cmp (cell_for is.primary) (cell_for x) ≡ true) ⊎ (is_some (lock_at e (cell_for is.primary) is.start) ≡ true)
        waits (inl its) = inl (tie_renumbered number one is.primary x ∙ its)
        waits (inr there) = inr (has_lock is.primary is.start true there)
    goes_renumbered seat (Step.Clear x) (Answer.CommittedAt c) not is = commits_there seat (Step.Clear x) (Answer.CommittedAt c) x is.start c.0 is.new_is
        (λ q. record { start = is.start; primary = cell_for is.primary; locked = lock_on x is.start is.primary is.locked; other = apart is.primary x is.other; unlocked = has_lock is.primary is.start false is.unlocked; written = record_moved is.primary c.0 (Some is.start) is.written; new_is = q })
    goes_renumbered seat (Step.Clear x) Answer.RolledBack not is = backs_there seat (Step.Clear x) Answer.RolledBack x is.start is.new_is
        (λ q. record { start = is.start; primary = cell_for is.primary; locked = lock_on x is.start is.primary is.locked; other = apart is.primary x is.other; unlocked = has_lock is.primary is.start false is.unlocked; none = no_record_of is.primary is.start is.none; new_is = q })
    goes_renumbered seat (Step.NextMark after) answer not is = absurd cc
    goes_renumbered seat (Step.Sweep x) answer not is = absurd cc
    goes_renumbered seat step answer not is = absurd is
