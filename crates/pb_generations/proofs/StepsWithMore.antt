-- A step that isn't of marks is one of the table with more observers and other marks too, with the same answer.
use Rattle.std.proofs.Common.{◌≡◌, ℕ, Bool, true, false, not, List, [], ◌∷◌, Option, Some, None, refl, sym, ap, ◌∙◌, is_some}
use Rattle.std.proofs.lemmas.Option.{none-some}
use Rattle.pb_generations.specs.Words.{Cell, Revision, Ts, Reason, ObserverOf, Marks, is_unknown, CommitsSecondary, if_locked, is_its, declare_reasons, with_mark, is_reading, ReadsAbsent, ReadsFound, ReadsLocked, read_step, lock_at, IsOwn, Reasons, first_reason, is_out, no_seat, reasons_of, StateOf, TransactionOf, with_transaction, StepCase, step_reason, Phase, Answer, Declared, Step, Work}
use Rattle.pb_generations.specs.SameButMarks.{is_of_marks}
use Rattle.pb_generations.proofs.LongerLists.{Stay, known_stays, its_stays, may_stays, cells_stay}

-- a state with these observers and marks in the place of its own
abbrev pub with_more : StateOf → List ObserverOf → Marks → StateOf
with_more s many marks = record s { observers = many; marks = marks }

-- ---- why it is refused

pub first_loose : (r : Reason) (a b : Bool) (rs : Reasons) → (a ≡ false → b ≡ false) → first_reason ((r, a) ∷ rs) ≡ None → first_reason ((r, b) ∷ rs) ≡ None
first_loose r true b rs on e = absurd (none-some r (sym e))
first_loose r false b rs on e = ap (λ z. first_reason ((r, z) ∷ rs)) (on refl) ∙ e

pub rest_loose : (r : Reason) (a : Bool) (rs qs : Reasons) → (first_reason rs ≡ None → first_reason qs ≡ None) → first_reason ((r, a) ∷ rs) ≡ None → first_reason ((r, a) ∷ qs) ≡ None
rest_loose r true rs qs on e = e
rest_loose r false rs qs on e = on e

module _ (few many : List ObserverOf) (stay : Stay few many) where
  begin_allowed : (a b : Reason × Bool) (work : Work) → first_reason (a ∷ b ∷ (Reason.NoSuchObserver, is_unknown few work) ∷ []) ≡ None → first_reason (a ∷ b ∷ (Reason.NoSuchObserver, is_unknown many work) ∷ []) ≡ None
  begin_allowed a b work =
      let first : Reasons = (Reason.NoSuchObserver, is_unknown few work) ∷ [] in
      let second : Reasons = (Reason.NoSuchObserver, is_unknown many work) ∷ [] in
      rest_loose a.0 a.1 (b ∷ first) (b ∷ second) (rest_loose b.0 b.1 first second (first_loose Reason.NoSuchObserver (is_unknown few work) (is_unknown many work) [] (known_stays few many stay work)))

  declare_allowed : (s : ℕ) (what : Declared) (t : Option TransactionOf) → first_reason (reasons_of t (declare_reasons few s what)) ≡ None → first_reason (reasons_of t (declare_reasons many s what)) ≡ None
  declare_allowed s what None e = e
  declare_allowed s what (Some t) e =
      rest_loose Reason.WrongPhase (not (is_reading t.phase)) ((Reason.NotItsDeclaration, not (is_its few t.work s t.reads what)) ∷ []) ((Reason.NotItsDeclaration, not (is_its many t.work s t.reads what)) ∷ [])
      (first_loose Reason.NotItsDeclaration (not (is_its few t.work s t.reads what)) (not (is_its many t.work s t.reads what)) [] (its_stays few many stay t.work s t.reads what)) e

-- ---- the step

-- the step of the table with more observers, and the marks that it leaves
pub record GoesWithMore (old : StateOf) (many : List ObserverOf) (marks : Marks) (seat : ℕ) (step : Step) (answer : Answer) (new : StateOf) : Type 0 where
  pub left : Marks
  pub taken : StepCase (with_more old many marks) seat step answer (with_more new many left)

module _ (old : StateOf) (many : List ObserverOf) (stay : Stay old.observers many) (marks : Marks) where
  abbrev more : StateOf
  more = with_more old many marks

  pub allowed_more : (seat : ℕ) (step : Step) → step_reason old seat step ≡ None → step_reason more seat step ≡ None
  allowed_more seat (Step.Begin work) e = begin_allowed old.observers many stay (Reason.OutOfTimestamps, is_out old) (Reason.NotOfSeat, no_seat old seat) work e
  allowed_more seat (Step.Read s x) e = e
  allowed_more seat (Step.ReadAt s x t) e = e
  allowed_more seat (Step.Declare s what) e = declare_allowed old.observers many stay s.0 what _ e
  allowed_more seat (Step.Prewrite s x) e = e
  allowed_more seat (Step.Stamp s) e = e
  allowed_more seat (Step.CommitPrimary s) e = e
  allowed_more seat (Step.CommitSecondary s x) e = e
  allowed_more seat (Step.Settle x) e = e
  allowed_more seat (Step.Clear x) e = e
  allowed_more seat (Step.NextMark after) e = e
  allowed_more seat (Step.Sweep x) e = e

  own : (seat s : ℕ) (t : TransactionOf) → IsOwn old seat s t → IsOwn more seat s t
  own seat s t is = record { there = is.there; mine = is.mine }

  module _ (new : StateOf) where
    -- what marks no cell
    stays : (seat : ℕ) (step : Step) (answer : Answer) (to : StateOf) → new ≡ to → (with_more new many marks ≡ with_more to many marks → StepCase more seat step answer (with_more new many marks)) → GoesWithMore old many marks seat step answer new
    stays seat step answer to is case = record { left = marks; taken = case (ap (λ (z : StateOf). with_more z many marks) is) }

    -- what puts a write record on x
    writes : (seat : ℕ) (step : Step) (answer : Answer) (x : Cell) (to : StateOf) → new ≡ to
        → (with_more new many (with_mark many marks x) ≡ with_more to many (with_mark many marks x) → StepCase more seat step answer (with_more new many (with_mark many marks x))) → GoesWithMore old many marks seat step answer new
    writes seat step answer x to is case = record { left = with_mark many marks x; taken = case (ap (λ (z : StateOf). with_more z many (with_mark many marks x)) is) }

    found : (seat : ℕ) (s : Ts) (x : Cell) (at : Option Ts) (v : Revision) → ReadsFound old seat s.0 x at v new
        → (ReadsFound more seat s.0 x at v (with_more new many marks) → StepCase more seat (read_step s x at) (Answer.Found v.start v.commit v.content) (with_more new many marks)) → GoesWithMore old many marks seat (read_step s x at) (Answer.Found v.start v.commit v.content) new
    found seat s x at v is case = stays seat (read_step s x at) (Answer.Found v.start v.commit v.content) _ is.new_is
        (λ e. case (record { t = is.t; own = own seat s.0 is.t is.own; reading = is.reading; in_time = is.in_time; unlocked = is.unlocked; version = is.version; new_is = e }))

    absent : (seat : ℕ) (s : Ts) (x : Cell) (at : Option Ts) → ReadsAbsent old seat s.0 x at new
        → (ReadsAbsent more seat s.0 x at (with_more new many marks) → StepCase more seat (read_step s x at) Answer.Absent (with_more new many marks)) → GoesWithMore old many marks seat (read_step s x at) Answer.Absent new
    absent seat s x at is case = stays seat (read_step s x at) Answer.Absent _ is.new_is
        (λ e. case (record { t = is.t; own = own seat s.0 is.t is.own; reading = is.reading; in_time = is.in_time; unlocked = is.unlocked; none = is.none; new_is = e }))

    locked : (seat : ℕ) (s : Ts) (x : Cell) (at : Option Ts) (start : Ts) (primary : Cell) → ReadsLocked old seat s.0 x at (start.0, primary) new
        → (ReadsLocked more seat s.0 x at (start.0, primary) (with_more new many marks) → StepCase more seat (read_step s x at) (Answer.Locked start primary) (with_more new many marks)) → GoesWithMore old many marks seat (read_step s x at) (Answer.Locked start primary) new
    locked seat s x at start primary is case = stays seat (read_step s x at) (Answer.Locked start primary) _ is.new_is
        (λ e. case (record { t = is.t; own = own seat s.0 is.t is.own; reading = is.reading; in_time = is.in_time; low = is.low; locked = is.locked; newest = is.newest; new_is = e }))

    secondary : (seat : ℕ) (s : Ts) (x : Cell) (is : CommitsSecondary old seat s.0 x new) (b : Bool) → is_some (lock_at old.entries x s.0) ≡ b → GoesWithMore old many marks seat (Step.CommitSecondary s x) Answer.Done new
    secondary seat s x is true there = writes seat (Step.CommitSecondary s x) Answer.Done x _ (is.new_is ∙ ap (λ (b : Bool). if_locked old b x s.0 is.c) there)
        (λ e. record { t = is.t; own = own seat s.0 is.t is.own; c = is.c; committed = is.committed; declares = is.declares; new_is = e ∙ sym (ap (λ (b : Bool). if_locked more b x s.0 is.c) there) })
    secondary seat s x is false there = stays seat (Step.CommitSecondary s x) Answer.Done old (is.new_is ∙ ap (λ (b : Bool). if_locked old b x s.0 is.c) there)
        (λ e. record { t = is.t; own = own seat s.0 is.t is.own; c = is.c; committed = is.committed; declares = is.declares; new_is = e ∙ sym (ap (λ (b : Bool). if_locked more b x s.0 is.c) there) })

    pub goes_with_more : (seat : ℕ) (step : Step) (answer : Answer) → is_of_marks step ≡ false → StepCase old seat step answer new → GoesWithMore old many marks seat step answer new
    goes_with_more seat (Step.Begin work) (Answer.At s) not is = stays seat (Step.Begin work) (Answer.At s) _ is.new_is (λ e. record { left = is.left; fresh = is.fresh; new_is = e })
    goes_with_more seat (Step.Read s x) (Answer.Locked start primary) not is = locked seat s x None start primary is (λ k. k)
    goes_with_more seat (Step.Read s x) (Answer.Found start commit content) not is = found seat s x None (record { start = start; commit = commit; content = content }) is (λ k. k)
    goes_with_more seat (Step.Read s x) Answer.Absent not is = absent seat s x None is (λ k. k)
    goes_with_more seat (Step.ReadAt s x t) (Answer.Locked start primary) not is = locked seat s x (Some t) start primary is (λ k. k)
    goes_with_more seat (Step.ReadAt s x t) (Answer.Found start commit content) not is = found seat s x (Some t) (record { start = start; commit = commit; content = content }) is (λ k. k)
    goes_with_more seat (Step.ReadAt s x t) Answer.Absent not is = absent seat s x (Some t) is (λ k. k)
    goes_with_more seat (Step.Declare s what) Answer.Done not is =
        let cells = cells_stay old.observers many stay is.t.work s.0 is.t.reads what is.its in
        stays seat (Step.Declare s what) Answer.Done _ is.new_is
        (λ e. record { t = is.t; own = own seat s.0 is.t is.own; reading = is.reading; known = is.known; its = may_stays old.observers many stay is.t.work s.0 is.t.reads what is.its; new_is = e ∙ ap (λ (ws : _). with_transaction more s.0 (record is.t { phase = Phase.Declared; declared = ws })) (sym cells) })
    goes_with_more seat (Step.Prewrite s x) Answer.Done not is = stays seat (Step.Prewrite s x) Answer.Done _ is.new_is
        (λ e. record { t = is.t; own = own seat s.0 is.t is.own; phase = is.phase; in_order = is.in_order; content = is.content; declares = is.declares; once = is.once; primary = is.primary; primary_is = is.primary_is; unlocked = is.unlocked; no_later = is.no_later; new_is = e })
    goes_with_more seat (Step.Prewrite s x) Answer.Conflict not is = stays seat (Step.Prewrite s x) Answer.Conflict _ is.new_is (λ e. record { t = is.t; own = own seat s.0 is.t is.own; phase = is.phase; why = is.why; new_is = e })
    goes_with_more seat (Step.Stamp s) (Answer.At c) not is = stays seat (Step.Stamp s) (Answer.At c) _ is.new_is (λ e. record { t = is.t; own = own seat s.0 is.t is.own; left = is.left; phase = is.phase; whole = is.whole; fresh = is.fresh; new_is = e })
    goes_with_more seat (Step.CommitPrimary s) Answer.Committed not is = writes seat (Step.CommitPrimary s) Answer.Committed is.primary _ is.new_is
        (λ e. record { t = is.t; own = own seat s.0 is.t is.own; c = is.c; stamped = is.stamped; primary = is.primary; primary_is = is.primary_is; locked = is.locked; new_is = e })
    goes_with_more seat (Step.CommitPrimary s) Answer.Lost not is = stays seat (Step.CommitPrimary s) Answer.Lost _ is.new_is
        (λ e. record { t = is.t; own = own seat s.0 is.t is.own; c = is.c; stamped = is.stamped; primary = is.primary; primary_is = is.primary_is; unlocked = is.unlocked; new_is = e })
    goes_with_more seat (Step.CommitSecondary s x) Answer.Done not is = secondary seat s x is (is_some (lock_at old.entries x s.0)) refl
    goes_with_more seat (Step.Settle x) Answer.Absent not is = stays seat (Step.Settle x) Answer.Absent _ is.new_is (λ e. record { unlocked = is.unlocked; new_is = e })
    goes_with_more seat (Step.Settle x) (Answer.Locked start primary) not is = stays seat (Step.Settle x) (Answer.Locked start primary) _ is.new_is (λ e. record { locked = is.locked; other = is.other; new_is = e })
    goes_with_more seat (Step.Settle x) Answer.RolledBack not is = stays seat (Step.Settle x) Answer.RolledBack _ is.new_is (λ e. record { start = is.start; locked = is.locked; new_is = e })
    goes_with_more seat (Step.Clear x) Answer.Absent not is = stays seat (Step.Clear x) Answer.Absent _ is.new_is (λ e. record { unlocked = is.unlocked; new_is = e })
    goes_with_more seat (Step.Clear x) Answer.Waits not is = stays seat (Step.Clear x) Answer.Waits _ is.new_is (λ e. record { start = is.start; primary = is.primary; locked = is.locked; why = is.why; new_is = e })
    goes_with_more seat (Step.Clear x) (Answer.CommittedAt c) not is = writes seat (Step.Clear x) (Answer.CommittedAt c) x _ is.new_is
        (λ e. record { start = is.start; primary = is.primary; locked = is.locked; other = is.other; unlocked = is.unlocked; written = is.written; new_is = e })
    goes_with_more seat (Step.Clear x) Answer.RolledBack not is = stays seat (Step.Clear x) Answer.RolledBack _ is.new_is
        (λ e. record { start = is.start; primary = is.primary; locked = is.locked; other = is.other; unlocked = is.unlocked; none = is.none; new_is = e })
    goes_with_more seat (Step.NextMark after) answer not is = absurd cc
    goes_with_more seat (Step.Sweep x) answer not is = absurd cc
    goes_with_more seat step answer not is = absurd is
