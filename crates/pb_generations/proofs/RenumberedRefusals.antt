-- A step that a table takes is not refused by one that has the observers under other numbers.
use Rattle.std.proofs.Common.{◌≡◌, ℕ, ◌<◌, Bool, true, false, cond, not, nat_lt, ◌==◌, arith, List, [], ◌∷◌, Option, Some, None, refl, ap, ◌∙◌, option_map}
use Rattle.std.specs.FinMap as map
use Rattle.pb_generations.specs.Words.{Ts, Reason, ObserverOf, Entries, Marks, is_unknown, commit_reasons, secondary_reasons, prewrite_reasons, read_at_reasons, read_reasons, IsOwn, Reasons, first_reason, if_of_seat, is_out, no_seat, own_reasons, own_transaction, reasons_of, unstamped_reasons, StateOf, TransactionOf, Transactions, TableStep, step_reason, Answer, Declared, Step, Work}
use Rattle.pb_history.proofs.Updates.{none_if}
use Rattle.pb_notify.proofs.OwnSteps.{declares_in_time}
use Rattle.pb_generations.specs.Renumbered.{AreNumberedBy, IsOneToOne, TransactionsAreRenumbered, renumbered_step, renumbered_transaction, renumbered_work}
use Rattle.pb_generations.proofs.LateStarts.{step_seated}
use Rattle.pb_generations.proofs.RenumberedCells.{prewrite_reasons_renumbered, secondary_reasons_renumbered, unstamped_reasons_renumbered}
use Rattle.pb_generations.proofs.RenumberedDeclarations.{its_by_test, known_renumbered, may_renumbered}
use Rattle.pb_generations.proofs.StepsWithMore.{first_loose, rest_loose}

-- a state with these entries, transactions, observers and marks in the place of its own
abbrev pub under_numbers : StateOf → Entries → Transactions → List ObserverOf → Marks → StateOf
under_numbers s e ts many marks = record s { entries = e; transactions = ts; observers = many; marks = marks }

module _ (number : ℕ → ℕ) (one : IsOneToOne number) (old : StateOf) (many : List ObserverOf) (by : AreNumberedBy number old.observers many) (e : Entries) (ts : Transactions) (marks : Marks) (same : TransactionsAreRenumbered number old.transactions ts) where
  abbrev other : StateOf
  other = under_numbers old e ts many marks

  abbrev to_transaction : TransactionOf → TransactionOf
  to_transaction = renumbered_transaction number

  pub own_renumbered : (seat s : ℕ) (t : TransactionOf) → IsOwn old seat s t → IsOwn other seat s (to_transaction t)
  own_renumbered seat s t is = record { there = same s ∙ ap (option_map to_transaction) is.there; mine = is.mine }

  -- ---- a transaction of the seat

  mine_renumbered : (seat : ℕ) (o : Option TransactionOf) → if_of_seat seat (option_map to_transaction o) ≡ option_map to_transaction (if_of_seat seat o)
  mine_renumbered seat None = refl
  mine_renumbered seat (Some t) = by_seat (t.seat == seat)
    where
      by_seat : (b : Bool) → cond b (Some (to_transaction t)) None ≡ option_map to_transaction (cond b (Some t) None)
      by_seat true = refl
      by_seat false = refl

  its_transaction : (seat s : ℕ) → own_transaction other seat s ≡ option_map to_transaction (own_transaction old seat s)
  its_transaction seat s = by_none (no_seat old seat)
    where
      by_none : (b : Bool) → cond b None (if_of_seat seat (map.get ts s)) ≡ option_map to_transaction (cond b None (if_of_seat seat (map.get old.transactions s)))
      by_none true = refl
      by_none false = ap (if_of_seat seat) (same s) ∙ mine_renumbered seat (map.get old.transactions s)

  reasons_renumbered : (why also : TransactionOf → Reasons) → ((t : TransactionOf) → also (to_transaction t) ≡ why t) → (o : Option TransactionOf) → reasons_of (option_map to_transaction o) also ≡ reasons_of o why
  reasons_renumbered why also is None = refl
  reasons_renumbered why also is (Some t) = is t

  own_reasons_renumbered : (why also : TransactionOf → Reasons) → ((t : TransactionOf) → also (to_transaction t) ≡ why t) → (seat s : ℕ) → own_reasons other seat s also ≡ own_reasons old seat s why
  own_reasons_renumbered why also is seat s = ap (λ o. reasons_of o also) (its_transaction seat s) ∙ reasons_renumbered why also is (own_transaction old seat s)

  allowed_by : (why also : TransactionOf → Reasons) → ((t : TransactionOf) → also (to_transaction t) ≡ why t) → (seat s : ℕ) → first_reason (own_reasons old seat s why) ≡ None → first_reason (own_reasons other seat s also) ≡ None
  allowed_by why also is seat s none = ap first_reason (own_reasons_renumbered why also is seat s) ∙ none

  -- ---- each kind of step

  begin_allowed : (seat : ℕ) (work : Work) → step_reason old seat (Step.Begin work) ≡ None → step_reason other seat (Step.Begin (renumbered_work number work)) ≡ None
  begin_allowed seat work =
      let first : Reasons = (Reason.NoSuchObserver, is_unknown old.observers work) ∷ [] in
      let second : Reasons = (Reason.NoSuchObserver, is_unknown many (renumbered_work number work)) ∷ [] in
      rest_loose Reason.OutOfTimestamps (is_out old) ((Reason.NotOfSeat, no_seat old seat) ∷ first) ((Reason.NotOfSeat, no_seat old seat) ∷ second)
      (rest_loose Reason.NotOfSeat (no_seat old seat) first second
      (first_loose Reason.NoSuchObserver (is_unknown old.observers work) (is_unknown many (renumbered_work number work)) [] (known_renumbered number old.observers many by work)))

  under_seats : (seat seats : ℕ) → not (nat_lt seat seats) ≡ false → seat < seats
  under_seats seat seats h = grind (arith, h)

  declare_allowed : (seat : ℕ) (s : Ts) (what : Declared) (new : StateOf) → TableStep old seat (Step.Declare s what) Answer.Done new → step_reason other seat (renumbered_step number (Step.Declare s what)) ≡ None
  declare_allowed seat s what new step =
      let is = step.taken in
      none_if _ (λ why. declares_in_time other seat why (under_seats seat old.seats (step_seated old seat (Step.Declare s what) step.allowed)) s.0 (to_transaction is.t) (own_renumbered seat s.0 is.t is.own) s _ refl is.reading
      (its_by_test many _ s.0 _ _ (may_renumbered number old.observers many by is.t.work s.0 is.t.reads what is.its)))

  stamp_allowed : (seat s : ℕ) → step_reason old seat (Step.Stamp (record { 0 = s })) ≡ None → step_reason other seat (Step.Stamp (record { 0 = s })) ≡ None
  stamp_allowed seat s = rest_loose Reason.OutOfTimestamps (is_out old) (own_reasons old seat s unstamped_reasons) (own_reasons other seat s unstamped_reasons)
      (allowed_by unstamped_reasons unstamped_reasons (unstamped_reasons_renumbered number one) seat s)

  pub allowed_renumbered : (seat : ℕ) (step : Step) (answer : Answer) (new : StateOf) → TableStep old seat step answer new → step_reason other seat (renumbered_step number step) ≡ None
  allowed_renumbered seat (Step.Begin work) answer new t = begin_allowed seat work t.allowed
  allowed_renumbered seat (Step.Read s x) answer new t = allowed_by read_reasons read_reasons (λ w. refl) seat s.0 t.allowed
  allowed_renumbered seat (Step.ReadAt s x u) answer new t = allowed_by (read_at_reasons s.0 u.0) (read_at_reasons s.0 u.0) (λ w. refl) seat s.0 t.allowed
  allowed_renumbered seat (Step.Declare s what) Answer.Done new t = declare_allowed seat s what new t
  allowed_renumbered seat (Step.Declare s what) answer new t = absurd t.taken
  allowed_renumbered seat (Step.Prewrite s x) answer new t = allowed_by (prewrite_reasons x) _ (prewrite_reasons_renumbered number one x) seat s.0 t.allowed
  allowed_renumbered seat (Step.Stamp s) answer new t = stamp_allowed seat s.0 t.allowed
  allowed_renumbered seat (Step.CommitPrimary s) answer new t = allowed_by commit_reasons commit_reasons (λ w. refl) seat s.0 t.allowed
  allowed_renumbered seat (Step.CommitSecondary s x) answer new t = allowed_by (secondary_reasons x) _ (secondary_reasons_renumbered number one x) seat s.0 t.allowed
  allowed_renumbered seat (Step.Settle x) answer new t = t.allowed
  allowed_renumbered seat (Step.Clear x) answer new t = t.allowed
  allowed_renumbered seat (Step.NextMark after) answer new t = t.allowed
  allowed_renumbered seat (Step.Sweep x) answer new t = t.allowed
