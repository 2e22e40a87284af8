-- Which reads are taken, and what they are answered past later locks.
use Rattle.std.proofs.Common.{◌≡◌, ℕ, ◌<◌, ◌≤◌, true, Option, Some, None, refl, arith}
use Rattle.std.proofs.lemmas.Bool.Decides.{nat_tests}
use Rattle.law_journals.specs.Words.{Cell, Ts, Reason, Entries, Step, is_reading, lock_at, NoLockUpTo, IsOwn, own_transaction, StateOf, step_reason}
use Rattle.law_journals.specs.EarlierReads.{MayRead, ReadsUpToTheStartAreTaken, LocksAreLater, IsAnsweredUpTo, LaterLocksHideNothing}

-- the transaction that a step names is the seat's own
own_is : (state : StateOf) (seat s : ℕ) (m : MayRead state seat s) → own_transaction state seat s ≡ Some m.t
own_is state seat s m = grind (arith, nat_tests, m.seated, m.there, m.mine)

-- a read at the start isn't refused
taken_at_start : (state : StateOf) (seat : ℕ) (s : Ts) (x : Cell) → MayRead state seat s.0 → step_reason state seat (Step.Read s x) ≡ None
taken_at_start state seat s x m = rw (own_is state seat s.0 m) (grind (arith, m.reading))

-- nor is one at an earlier timestamp
taken_at : (state : StateOf) (seat : ℕ) (s : Ts) (x : Cell) (t : Ts) → MayRead state seat s.0 → t.0 ≤ s.0 → step_reason state seat (Step.ReadAt s x t) ≡ None
taken_at state seat s x t m low = rw (own_is state seat s.0 m) (grind (arith, nat_tests, m.reading, low))

refused_above : (state : StateOf) (seat : ℕ) (s : Ts) (x : Cell) (t : Ts) → MayRead state seat s.0 → s.0 < t.0 → step_reason state seat (Step.ReadAt s x t) ≡ Some Reason.LaterThanStart
refused_above state seat s x t m high = rw (own_is state seat s.0 m) (grind (arith, nat_tests, m.reading, high))

pub reads_are_taken : ReadsUpToTheStartAreTaken
reads_are_taken state seat s x t m = (taken_at state seat s x t m, refused_above state seat s x t m)

-- where each lock is later, none stands up to t
no_lock : (e : Entries) (x : Cell) (t : ℕ) → LocksAreLater e x t → NoLockUpTo e x t
no_lock e x t later u low = by (lock_at e x u) refl
  where
    by : (o : Option Cell) → lock_at e x u ≡ o → lock_at e x u ≡ None
    by None is = is
    by (Some p) is = let above = later u p is in absurd (omega arith)

own : (state : StateOf) (seat s : ℕ) (m : MayRead state seat s) → IsOwn state seat s m.t
own state seat s m = record { there = m.there; mine = m.mine }

module _ (old : StateOf) (seat : ℕ) (s : Ts) (x : Cell) (m : MayRead old seat s.0) where
  reading : is_reading m.t.phase ≡ true
  reading = grind (arith, m.reading)

  at_start : LocksAreLater old.entries x s.0 → IsAnsweredUpTo old seat (Step.Read s x) x s.0
  at_start later = record {
    found = λ v is.
        (_, record { allowed = taken_at_start old seat s x m; taken = record { t = m.t; own = own old seat s.0 m; reading = reading; in_time = omega arith; unlocked = no_lock old.entries x s.0 later; version = is; new_is = refl } });
    absent = λ none.
        (_, record { allowed = taken_at_start old seat s x m; taken = record { t = m.t; own = own old seat s.0 m; reading = reading; in_time = omega arith; unlocked = no_lock old.entries x s.0 later; none = none; new_is = refl } });
    not_locked = λ start primary new step. let above = later start.0 primary step.taken.locked in let low = step.taken.low in omega (arith, above, low);
  }

  at_earlier : (t : Ts) → t.0 ≤ s.0 → LocksAreLater old.entries x t.0 → IsAnsweredUpTo old seat (Step.ReadAt s x t) x t.0
  at_earlier t low later = record {
    found = λ v is.
        (_, record { allowed = taken_at old seat s x t m low; taken = record { t = m.t; own = own old seat s.0 m; reading = reading; in_time = low; unlocked = no_lock old.entries x t.0 later; version = is; new_is = refl } });
    absent = λ none.
        (_, record { allowed = taken_at old seat s x t m low; taken = record { t = m.t; own = own old seat s.0 m; reading = reading; in_time = low; unlocked = no_lock old.entries x t.0 later; none = none; new_is = refl } });
    not_locked = λ start primary new step. let above = later start.0 primary step.taken.locked in let low = step.taken.low in omega (arith, above, low);
  }

pub hide_nothing : LaterLocksHideNothing
hide_nothing old seat s x m = (at_start old seat s x m, at_earlier old seat s x m)
