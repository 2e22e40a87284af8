-- A step of a sound table has one outcome.
use Rattle.std.proofs.Common.{◌≡◌, ℕ, ◌⊎◌, true, false, inl, inr, List, Option, Some, None, refl, sym, ap, ◌∙◌, arith, is_some}
use Rattle.std.specs.Ordering.{eq_by_cmp}
use Rattle.std.specs.FinMap as map
use Rattle.pb_history.specs.Words.{Cell, Ts, Revision, cell_cmp, Entries, Marks, IsNextMark, Step, Work, Declared, Answer, Phase, ObserverOf, stamp_in, SomeBehind, AllUpToDate, StateOf, TransactionOf, with_transaction, read_up_to, found_answer, IsOwn, NoLockUpTo, lock_at, write_at, IsVersion, IsNewestVersion, NoVersion, IsLockOn, NoLock, last_timestamp, Begins, with_read, ReadsLocked, ReadsFound, ReadsAbsent, Declares, Prewrites, Conflicts, Stamps, rolls_back, CommitsPrimary, Loses, CommitsSecondary, MeetsNoLock, MeetsSecondary, Settles, ClearWaits, ClearsCommitted, ClearsBack, FindsMark, FindsNone, SweepsNothing, StaysMarked, Sweeps, StepCase, TableStep}
use Rattle.pb_history.specs.Outcomes.{AreSame}
use Rattle.pb_history.specs.Sound.{IsSoundTable}
use Rattle.pb_history.proofs.Progress.{first_of_two}
use Rattle.pb_base.proofs.Logic.{one_value, not_none as some_none}

-- ---- of two things that a definition names, one

-- a start names one transaction
one_transaction : (state : StateOf) (seat s : ℕ) (t u : TransactionOf) → IsOwn state seat s t → IsOwn state seat s u → t ≡ u
one_transaction state seat s t u p q = one_value (map.get state.transactions s) t u p.there q.there

-- a snapshot has one newest version of a cell
pub one_version : (e : Entries) (x : Cell) (s : ℕ) (v w : Revision) → IsVersion e x s v → IsVersion e x s w → v ≡ w
one_version e x s v w p q = grind arith

-- or none, and not both
version_or_none : (e : Entries) (x : Cell) (s : ℕ) (v : Revision) → IsVersion e x s v → NoVersion e x s → ⊥
version_or_none e x s v p none = some_none _ _ p.written (none v.commit.0 p.low)

-- a cell has one newest version, if it has any
one_newest : (e : Entries) (x : Cell) (v w : Option Revision) → IsNewestVersion e x v → IsNewestVersion e x w → v ≡ w
one_newest e x None None p q = refl
one_newest e x None (Some w) p q = absurd (version_or_none e x last_timestamp w q p)
one_newest e x (Some v) None p q = absurd (version_or_none e x last_timestamp v p q)
one_newest e x (Some v) (Some w) p q = ap Some (one_version e x last_timestamp v w p q)

-- the newest lock on a cell is one
one_lock_on : (e : Entries) (x : Cell) (s u : ℕ) (p q : Cell) → IsLockOn e x s p → IsLockOn e x u q → (s ≡ u) × (p ≡ q)
one_lock_on e x s u p q a b = grind arith

-- a lock stands, or none does
lock_or_none : (e : Entries) (x : Cell) (s : ℕ) (p : Cell) → IsLockOn e x s p → NoLock e x → ⊥
lock_or_none e x s p a none = some_none _ _ a.locked (none s a.fits)

-- the first mark after a cell is one
one_mark : (marks : Marks) (after : Option Cell) (x y : Cell) → IsNextMark marks after (Some x) → IsNextMark marks after (Some y) → x ≡ y
one_mark marks after x y p q = grind (arith, first_of_two)

-- that an observer isn't up to date, and that all are, exclude each other
pub behind_or_not : (observers : List ObserverOf) (e : Entries) (x : Cell) → SomeBehind observers e x → AllUpToDate observers e x → ⊥
behind_or_not observers e (Cell.Data row column) b all =
    let o = b.1.acknowledges in
    let u = all b.0 o.observer o.there o.observes b.1.version.commit.0 b.1.newest.low (ap is_some b.1.newest.written) in
    let same = ap stamp_in (one_newest e (Cell.Ack b.0 row column) u.0 b.1.acknowledged u.1 o.newest) in
    omega (arith, same)
behind_or_not observers e (Cell.Ack o row column) b all = absurd b

-- ---- the steps, each case against each that the same step may have

module _ (old : StateOf) (i : IsSoundTable old) (seat : ℕ) (new other : StateOf) where
  abbrev Same : Answer → Answer → Type 0
  Same a b = AreSame a new b other

  -- two that leave one state
  left : (a : Answer) (to : StateOf) → new ≡ to → other ≡ to → Same a a
  left a to p q = record { answer = refl; state = p ∙ sym q }

  -- ---- reads

  module _ (s : ℕ) (x : Cell) (at : Option Ts) where
    locked_once : (start stop : Ts) (p q : Cell) → ReadsLocked old seat s x at (start.0, p) new → ReadsLocked old seat s x at (stop.0, q) other → Same (Answer.Locked start p) (Answer.Locked stop q)
    locked_once start stop p q m n = grind arith

    found_once : (v w : Revision) → ReadsFound old seat s x at v new → ReadsFound old seat s x at w other → Same (found_answer v) (found_answer w)
    found_once v w m n = grind arith

    absent_once : ReadsAbsent old seat s x at new → ReadsAbsent old seat s x at other → Same Answer.Absent Answer.Absent
    absent_once m n = record { answer = refl; state = m.new_is ∙ ap (λ u. with_transaction old s (with_read u x at Answer.Absent)) (one_transaction old seat s m.t n.t m.own n.own) ∙ sym n.new_is }

  -- a lock, and no lock, up to the timestamp read at
  locked_or_not : (s start : ℕ) (x : Cell) (at : Option Ts) (p : Cell) (to : StateOf) → ReadsLocked old seat s x at (start, p) to → NoLockUpTo old.entries x (read_up_to s at) → ⊥
  locked_or_not s start x at p to m none = some_none _ _ m.locked (none start m.low)

  -- what a read may have, by its answer
  ReadCase : ℕ → Cell → Option Ts → Answer → StateOf → Type 0
  ReadCase s x at (Answer.Locked start primary) to = ReadsLocked old seat s x at (start.0, primary) to
  ReadCase s x at (Answer.Found start commit content) to = ReadsFound old seat s x at (record { start = start; commit = commit; content = content }) to
  ReadCase s x at Answer.Absent to = ReadsAbsent old seat s x at to
  ReadCase s x at _ to = ⊥

  after_locked : (s : ℕ) (x : Cell) (at : Option Ts) (start : Ts) (p : Cell) (b : Answer) → ReadsLocked old seat s x at (start.0, p) new → ReadCase s x at b other → Same (Answer.Locked start p) b
  unfolding ReadCase
  after_locked s x at start p b m n = grind arith

  after_found : (s : ℕ) (x : Cell) (at : Option Ts) (v : Revision) (b : Answer) → ReadsFound old seat s x at v new → ReadCase s x at b other → Same (found_answer v) b
  unfolding ReadCase
  after_found s x at v b m n = grind arith

  after_absent : (s : ℕ) (x : Cell) (at : Option Ts) (b : Answer) → ReadsAbsent old seat s x at new → ReadCase s x at b other → Same Answer.Absent b
  unfolding ReadCase
  after_absent s x at (Answer.Locked stop q) m n = absurd (locked_or_not s stop.0 x at q other n m.unlocked)
  after_absent s x at (Answer.Found a c k) m n = absurd (version_or_none old.entries x (read_up_to s at) (record { start = a; commit = c; content = k }) n.version m.none)
  after_absent s x at Answer.Absent m n = absent_once s x at m n
  after_absent s x at _ m n = absurd n

  reads : (s : ℕ) (x : Cell) (at : Option Ts) (a b : Answer) → ReadCase s x at a new → ReadCase s x at b other → Same a b
  unfolding ReadCase
  reads s x at a b m n = grind (arith, after_locked, after_found, after_absent)

  read_case : (s : Ts) (x : Cell) (a : Answer) (to : StateOf) → StepCase old seat (Step.Read s x) a to → ReadCase s.0 x None a to
  unfolding ReadCase
  read_case s x a to m = grind arith

  read_at_case : (s : Ts) (x : Cell) (t : Ts) (a : Answer) (to : StateOf) → StepCase old seat (Step.ReadAt s x t) a to → ReadCase s.0 x (Some t) a to
  unfolding ReadCase
  read_at_case s x t a to m = grind arith

  -- ---- a transaction's own steps

  prewrites_or_conflicts : (s : ℕ) (x : Cell) (to from : StateOf) → Prewrites old seat s x to → Conflicts old seat s x from → ⊥
  prewrites_or_conflicts s x to from m n = grind arith

  conflicts : (s : ℕ) (x : Cell) → Conflicts old seat s x new → Conflicts old seat s x other → Same Answer.Conflict Answer.Conflict
  conflicts s x m n = record { answer = refl; state = m.new_is ∙ ap (λ (u : TransactionOf). with_transaction old s (record u { phase = Phase.Failed })) (one_transaction old seat s m.t n.t m.own n.own) ∙ sym n.new_is }

  -- ---- steps of anyone

  waits_or_goes : (x : Cell) (s u : ℕ) (p q : Cell) → IsLockOn old.entries x s p → (eq_by_cmp cell_cmp p x ≡ true) ⊎ (is_some (lock_at old.entries p s) ≡ true) → IsLockOn old.entries x u q → eq_by_cmp cell_cmp q x ≡ false → is_some (lock_at old.entries q u) ≡ false → ⊥
  waits_or_goes x s u p q a why b other gone = elim why [
    | inl own ↦ (let l = one_lock_on old.entries x s u p q a b in let not_own : eq_by_cmp cell_cmp p x ≡ false = ap (λ z. eq_by_cmp cell_cmp z x) l.1 ∙ other in cc)
    | inr there ↦ (let l = one_lock_on old.entries x s u p q a b in let none : is_some (lock_at old.entries p s) ≡ false = (λ j. is_some (lock_at old.entries (l.1 j) (l.0 j))) ∙ gone in cc)
  ]

  clears_committed : (x : Cell) (c d : Ts) → ClearsCommitted old x c.0 new → ClearsCommitted old x d.0 other → Same (Answer.CommittedAt c) (Answer.CommittedAt d)
  clears_committed x c d m n = grind arith

  committed_or_back : (x : Cell) (c : ℕ) (to from : StateOf) → ClearsCommitted old x c to → ClearsBack old x from → ⊥
  committed_or_back x c to from m n =
      let l = one_lock_on old.entries x m.start n.start m.primary n.primary m.locked n.locked in
      let le = (i.stamped m.start c (inr (i.record_committed m.primary c m.start m.written))).1 in
      n.none c (omega (arith, le)) ((λ j. write_at old.entries (sym l.1 j) c) ∙ m.written ∙ ap Some l.0)

  clears_back : (x : Cell) → ClearsBack old x new → ClearsBack old x other → Same Answer.RolledBack Answer.RolledBack
  clears_back x m n = record { answer = refl; state = m.new_is ∙ ap (rolls_back old x) (one_lock_on old.entries x m.start n.start m.primary n.primary m.locked n.locked).0 ∙ sym n.new_is }

  marks_found : (after : Option Cell) (x y : Cell) → FindsMark old after x new → FindsMark old after y other → Same (Answer.Marked x) (Answer.Marked y)
  marks_found after x y m n = record { answer = ap Answer.Marked (one_mark old.marks after x y m.first n.first); state = m.new_is ∙ sym n.new_is }

  mark_or_none : (after : Option Cell) (x : Cell) (to from : StateOf) → FindsMark old after x to → FindsNone old after from → ⊥
  mark_or_none after x to from m n = let marked = m.first.0 in let unmarked = n.none x m.first.1 in cc

  -- ---- by step and answer

  begin_case : (work : Work) (s : Ts) (b : Answer) → Begins old seat work s.0 new → StepCase old seat (Step.Begin work) b other → Same (Answer.At s) b
  begin_case work s b m n = grind arith

  declare_case : (s : Ts) (what : Declared) (b : Answer) → Declares old seat s.0 what new → StepCase old seat (Step.Declare s what) b other → Same Answer.Done b
  declare_case s what b m n = grind arith

  prewrite_case : (s : Ts) (x : Cell) (b : Answer) → Prewrites old seat s.0 x new → StepCase old seat (Step.Prewrite s x) b other → Same Answer.Done b
  prewrite_case s x b m n = grind arith

  conflict_case : (s : Ts) (x : Cell) (b : Answer) → Conflicts old seat s.0 x new → StepCase old seat (Step.Prewrite s x) b other → Same Answer.Conflict b
  conflict_case s x Answer.Done m n = absurd (prewrites_or_conflicts s.0 x other new n m)
  conflict_case s x Answer.Conflict m n = conflicts s.0 x m n
  conflict_case s x _ m n = absurd n

  stamp_case : (s c : Ts) (b : Answer) → Stamps old seat s.0 c.0 new → StepCase old seat (Step.Stamp s) b other → Same (Answer.At c) b
  stamp_case s c b m n = grind arith

  commit_case : (s : Ts) (b : Answer) → CommitsPrimary old seat s.0 new → StepCase old seat (Step.CommitPrimary s) b other → Same Answer.Committed b
  commit_case s b m n = grind arith

  lost_case : (s : Ts) (b : Answer) → Loses old seat s.0 new → StepCase old seat (Step.CommitPrimary s) b other → Same Answer.Lost b
  lost_case s b m n = grind arith

  secondary_case : (s : Ts) (x : Cell) (b : Answer) → CommitsSecondary old seat s.0 x new → StepCase old seat (Step.CommitSecondary s x) b other → Same Answer.Done b
  secondary_case s x b m n = grind arith

  unsettled_case : (x : Cell) (b : Answer) → MeetsNoLock old x new → StepCase old seat (Step.Settle x) b other → Same Answer.Absent b
  unsettled_case x Answer.Absent m n = left Answer.Absent old m.new_is n.new_is
  unsettled_case x (Answer.Locked s p) m n = absurd (lock_or_none old.entries x s.0 p n.locked m.unlocked)
  unsettled_case x Answer.RolledBack m n = absurd (lock_or_none old.entries x n.start x n.locked m.unlocked)
  unsettled_case x _ m n = absurd n

  other_lock_case : (x : Cell) (s : Ts) (p : Cell) (b : Answer) → MeetsSecondary old x s.0 p new → StepCase old seat (Step.Settle x) b other → Same (Answer.Locked s p) b
  other_lock_case x s p b m n = grind arith

  settled_case : (x : Cell) (b : Answer) → Settles old x new → StepCase old seat (Step.Settle x) b other → Same Answer.RolledBack b
  settled_case x b m n = grind arith

  uncleared_case : (x : Cell) (b : Answer) → MeetsNoLock old x new → StepCase old seat (Step.Clear x) b other → Same Answer.Absent b
  uncleared_case x Answer.Absent m n = left Answer.Absent old m.new_is n.new_is
  uncleared_case x Answer.Waits m n = absurd (lock_or_none old.entries x n.start n.primary n.locked m.unlocked)
  uncleared_case x (Answer.CommittedAt c) m n = absurd (lock_or_none old.entries x n.start n.primary n.locked m.unlocked)
  uncleared_case x Answer.RolledBack m n = absurd (lock_or_none old.entries x n.start n.primary n.locked m.unlocked)
  uncleared_case x _ m n = absurd n

  waits_case : (x : Cell) (b : Answer) → ClearWaits old x new → StepCase old seat (Step.Clear x) b other → Same Answer.Waits b
  waits_case x Answer.Absent m n = absurd (lock_or_none old.entries x m.start m.primary m.locked n.unlocked)
  waits_case x Answer.Waits m n = left Answer.Waits old m.new_is n.new_is
  waits_case x (Answer.CommittedAt c) m n = absurd (waits_or_goes x m.start n.start m.primary n.primary m.locked m.why n.locked n.other n.unlocked)
  waits_case x Answer.RolledBack m n = absurd (waits_or_goes x m.start n.start m.primary n.primary m.locked m.why n.locked n.other n.unlocked)
  waits_case x _ m n = absurd n

  cleared_case : (x : Cell) (c : Ts) (b : Answer) → ClearsCommitted old x c.0 new → StepCase old seat (Step.Clear x) b other → Same (Answer.CommittedAt c) b
  cleared_case x c Answer.Absent m n = absurd (lock_or_none old.entries x m.start m.primary m.locked n.unlocked)
  cleared_case x c Answer.Waits m n = absurd (waits_or_goes x n.start m.start n.primary m.primary n.locked n.why m.locked m.other m.unlocked)
  cleared_case x c (Answer.CommittedAt d) m n = clears_committed x c d m n
  cleared_case x c Answer.RolledBack m n = absurd (committed_or_back x c.0 new other m n)
  cleared_case x c _ m n = absurd n

  back_case : (x : Cell) (b : Answer) → ClearsBack old x new → StepCase old seat (Step.Clear x) b other → Same Answer.RolledBack b
  back_case x Answer.Absent m n = absurd (lock_or_none old.entries x m.start m.primary m.locked n.unlocked)
  back_case x Answer.Waits m n = absurd (waits_or_goes x n.start m.start n.primary m.primary n.locked n.why m.locked m.other m.unlocked)
  back_case x (Answer.CommittedAt d) m n = absurd (committed_or_back x d.0 other new n m)
  back_case x Answer.RolledBack m n = clears_back x m n
  back_case x _ m n = absurd n

  mark_case : (after : Option Cell) (x : Cell) (b : Answer) → FindsMark old after x new → StepCase old seat (Step.NextMark after) b other → Same (Answer.Marked x) b
  mark_case after x (Answer.Marked y) m n = marks_found after x y m n
  mark_case after x Answer.NoMark m n = absurd (mark_or_none after x new other m n)
  mark_case after x _ m n = absurd n

  no_mark_case : (after : Option Cell) (b : Answer) → FindsNone old after new → StepCase old seat (Step.NextMark after) b other → Same Answer.NoMark b
  no_mark_case after b m n = grind arith

  unswept_case : (x : Cell) (b : Answer) → SweepsNothing old x new → StepCase old seat (Step.Sweep x) b other → Same Answer.NoMark b
  unswept_case x b m n = grind arith

  behind_case : (x : Cell) (b : Answer) → StaysMarked old x new → StepCase old seat (Step.Sweep x) b other → Same Answer.StillBehind b
  behind_case x b m n = grind (arith, left, behind_or_not)

  swept_case : (x : Cell) (b : Answer) → Sweeps old x new → StepCase old seat (Step.Sweep x) b other → Same Answer.Done b
  swept_case x b m n = grind (arith, behind_or_not, left)

  case_outcome : (step : Step) (a b : Answer) → StepCase old seat step a new → StepCase old seat step b other → Same a b
  case_outcome (Step.Begin work) (Answer.At s) b m n = begin_case work s b m n
  case_outcome (Step.Read s x) a b m n = reads s.0 x None a b (read_case s x a new m) (read_case s x b other n)
  case_outcome (Step.ReadAt s x t) a b m n = reads s.0 x (Some t) a b (read_at_case s x t a new m) (read_at_case s x t b other n)
  case_outcome (Step.Declare s what) Answer.Done b m n = declare_case s what b m n
  case_outcome (Step.Prewrite s x) Answer.Done b m n = prewrite_case s x b m n
  case_outcome (Step.Prewrite s x) Answer.Conflict b m n = conflict_case s x b m n
  case_outcome (Step.Stamp s) (Answer.At c) b m n = stamp_case s c b m n
  case_outcome (Step.CommitPrimary s) Answer.Committed b m n = commit_case s b m n
  case_outcome (Step.CommitPrimary s) Answer.Lost b m n = lost_case s b m n
  case_outcome (Step.CommitSecondary s x) Answer.Done b m n = secondary_case s x b m n
  case_outcome (Step.Settle x) Answer.Absent b m n = unsettled_case x b m n
  case_outcome (Step.Settle x) (Answer.Locked s p) b m n = other_lock_case x s p b m n
  case_outcome (Step.Settle x) Answer.RolledBack b m n = settled_case x b m n
  case_outcome (Step.Clear x) Answer.Absent b m n = uncleared_case x b m n
  case_outcome (Step.Clear x) Answer.Waits b m n = waits_case x b m n
  case_outcome (Step.Clear x) (Answer.CommittedAt c) b m n = cleared_case x c b m n
  case_outcome (Step.Clear x) Answer.RolledBack b m n = back_case x b m n
  case_outcome (Step.NextMark after) (Answer.Marked x) b m n = mark_case after x b m n
  case_outcome (Step.NextMark after) Answer.NoMark b m n = no_mark_case after b m n
  case_outcome (Step.Sweep x) Answer.NoMark b m n = unswept_case x b m n
  case_outcome (Step.Sweep x) Answer.StillBehind b m n = behind_case x b m n
  case_outcome (Step.Sweep x) Answer.Done b m n = swept_case x b m n
  case_outcome _ _ b m n = absurd m

pub one_outcome : (old : StateOf) (seat : ℕ) (step : Step) (a : Answer) (new : StateOf) (b : Answer) (other : StateOf) → IsSoundTable old → TableStep old seat step a new → TableStep old seat step b other → AreSame a new b other
one_outcome old seat step a new b other i m n = case_outcome old i seat new other step a b m.taken n.taken
