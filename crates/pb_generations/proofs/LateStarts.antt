-- No step is taken of a transaction that had ended before the snapshot, since its seat is none of the table's.
use Rattle.std.proofs.Common.{◌≡◌, ℕ, ◌<◌, ◌≤◌, inl, inr, arith, Bool, true, false, cond, not, nat_lt, ◌==◌, if◌then◌else◌, [], ◌∷◌, Option, Some, None, refl, sym, ap, ◌∙◌}
use Rattle.std.proofs.lemmas.Bool.{cases_lt, eqb-true}
use Rattle.std.proofs.lemmas.Option.{none-some}
use Rattle.std.specs.FinMap as map
use Rattle.pb_generations.specs.Words.{Reason, is_unknown, commit_reasons, secondary_reasons, declare_reasons, prewrite_reasons, read_at_reasons, read_reasons, Reasons, first_reason, if_of_seat, is_out, no_seat, own_reasons, reasons_of, unstamped_reasons, StateOf, TransactionOf, StepCase, step_reason, Answer, Step, names_start, transaction_after}
use Rattle.pb_history.proofs.Agreement.{got}
use Rattle.pb_history.proofs.TransactionAfter.{case_tells}
use Rattle.pb_generations.specs.LateSteps.{NamesLate}

-- transactions that had begun by c are of no seat of the table
abbrev pub AreUnseated : ℕ → StateOf → Type 0
AreUnseated c s = (u : ℕ) (t : TransactionOf) → map.get s.transactions u ≡ Some t → u ≤ c → s.seats ≤ t.seat

-- no step changes how many seats there are
pub seats_stay : (old : StateOf) (seat : ℕ) (new : StateOf) (step : Step) (answer : Answer) → StepCase old seat step answer new → new.seats ≡ old.seats
seats_stay old seat new step answer is = grind arith

under : (a b : ℕ) → not (nat_lt a b) ≡ false → a < b
under a b h = grind (arith, h)

refused : first_reason ((Reason.NotOfSeat, true) ∷ []) ≡ None → ⊥
refused is = none-some Reason.NotOfSeat (sym is)

rest_allowed : (b : Bool) (r : Reason) (rs : Reasons) → first_reason ((r, b) ∷ rs) ≡ None → first_reason rs ≡ None
rest_allowed true r rs is = absurd (none-some r (sym is))
rest_allowed false r rs is = is

module _ (c : ℕ) (old : StateOf) (unseated : AreUnseated c old) (seat s : ℕ) (why : TransactionOf → Reasons) where
  of_mine : (t : TransactionOf) → map.get old.transactions s ≡ Some t → seat < old.seats → (b : Bool) → (t.seat == seat) ≡ b → first_reason (reasons_of (if b then Some t else None) why) ≡ None → c < s
  of_mine t there seated true same is = elim (cases_lt c s) [
    | inl late ↦ late
    | inr early ↦ absurd (omega (arith, unseated s t there early, eqb-true t.seat seat same, seated))
  ]
  of_mine t there seated false same is = absurd (refused is)

  of_seat : (b : Bool) → no_seat old seat ≡ b → (o : Option TransactionOf) → map.get old.transactions s ≡ o → first_reason (reasons_of (if b then None else if_of_seat seat o) why) ≡ None → c < s
  of_seat true none o there is = absurd (refused is)
  of_seat false seated None there is = absurd (refused is)
  of_seat false seated (Some t) there is = of_mine t there (under seat old.seats seated) (t.seat == seat) refl is

  late_start : first_reason (own_reasons old seat s why) ≡ None → c < s
  late_start is = of_seat (no_seat old seat) refl (map.get old.transactions s) refl is

-- a step that is allowed is of a seat of the table
seated_by : (b : Bool) (rs : Reasons) → first_reason ((Reason.NotOfSeat, b) ∷ rs) ≡ None → b ≡ false
seated_by true rs is = absurd (refused is)
seated_by false rs is = refl

owner_seated : (o : Option TransactionOf) (why : TransactionOf → Reasons) (b : Bool) → first_reason (reasons_of (if b then None else o) why) ≡ None → b ≡ false
owner_seated o why true is = absurd (refused is)
owner_seated o why false is = refl

pub step_seated : (old : StateOf) (seat : ℕ) (step : Step) → step_reason old seat step ≡ None → no_seat old seat ≡ false
step_seated old seat (Step.Begin work) is = seated_by _ ((Reason.NoSuchObserver, is_unknown old.observers work) ∷ []) (rest_allowed (is_out old) Reason.OutOfTimestamps ((Reason.NotOfSeat, no_seat old seat) ∷ (Reason.NoSuchObserver, is_unknown old.observers work) ∷ []) is)
step_seated old seat (Step.Read s x) is = owner_seated (if_of_seat seat (map.get old.transactions s.0)) read_reasons (no_seat old seat) is
step_seated old seat (Step.ReadAt s x t) is = owner_seated (if_of_seat seat (map.get old.transactions s.0)) (read_at_reasons s.0 t.0) (no_seat old seat) is
step_seated old seat (Step.Declare s what) is = owner_seated (if_of_seat seat (map.get old.transactions s.0)) (declare_reasons old.observers s.0 what) (no_seat old seat) is
step_seated old seat (Step.Prewrite s x) is = owner_seated (if_of_seat seat (map.get old.transactions s.0)) (prewrite_reasons x) (no_seat old seat) is
step_seated old seat (Step.Stamp s) is =
    owner_seated (if_of_seat seat (map.get old.transactions s.0)) unstamped_reasons (no_seat old seat) (rest_allowed (is_out old) Reason.OutOfTimestamps (own_reasons old seat s.0 unstamped_reasons) is)
step_seated old seat (Step.CommitPrimary s) is = owner_seated (if_of_seat seat (map.get old.transactions s.0)) commit_reasons (no_seat old seat) is
step_seated old seat (Step.CommitSecondary s x) is = owner_seated (if_of_seat seat (map.get old.transactions s.0)) (secondary_reasons x) (no_seat old seat) is
step_seated old seat (Step.Settle x) is = seated_by (no_seat old seat) [] is
step_seated old seat (Step.Clear x) is = seated_by (no_seat old seat) [] is
step_seated old seat (Step.NextMark after) is = seated_by (no_seat old seat) [] is
step_seated old seat (Step.Sweep x) is = seated_by (no_seat old seat) [] is

module _ (c : ℕ) (old : StateOf) (unseated : AreUnseated c old) (seat : ℕ) where
  -- so what a step names is late
  pub late_names : (step : Step) → step_reason old seat step ≡ None → NamesLate c step
  late_names (Step.Begin work) is = tt
  late_names (Step.Read s x) is = late_start c old unseated seat s.0 read_reasons is
  late_names (Step.ReadAt s x t) is = late_start c old unseated seat s.0 (read_at_reasons s.0 t.0) is
  late_names (Step.Declare s what) is = late_start c old unseated seat s.0 (declare_reasons old.observers s.0 what) is
  late_names (Step.Prewrite s x) is = late_start c old unseated seat s.0 (prewrite_reasons x) is
  late_names (Step.Stamp s) is = late_start c old unseated seat s.0 unstamped_reasons (rest_allowed _ Reason.OutOfTimestamps (own_reasons old seat s.0 unstamped_reasons) is)
  late_names (Step.CommitPrimary s) is = late_start c old unseated seat s.0 commit_reasons is
  late_names (Step.CommitSecondary s x) is = late_start c old unseated seat s.0 (secondary_reasons x) is
  late_names (Step.Settle x) is = tt
  late_names (Step.Clear x) is = tt
  late_names (Step.NextMark after) is = tt
  late_names (Step.Sweep x) is = tt

  -- ---- and none comes to be of a seat

  apart : (u s : ℕ) → u ≤ c → c < s → (u == s) ≡ false
  apart u s low above = grind (arith, low, above)

  module _ (new : StateOf) (since : c ≤ old.clock) (u : ℕ) (low : u ≤ c) where
    names_late : (step : Step) (answer : Answer) → NamesLate c step → StepCase old seat step answer new → names_start u step answer ≡ false
    names_late (Step.Begin work) (Answer.At s) late is = apart u s.0 low (omega (arith, is.fresh, since))
    names_late (Step.Begin work) answer late is = absurd is
    names_late (Step.Read s x) answer late is = apart u s.0 low late
    names_late (Step.ReadAt s x t) answer late is = apart u s.0 low late
    names_late (Step.Declare s what) answer late is = apart u s.0 low late
    names_late (Step.Prewrite s x) answer late is = apart u s.0 low late
    names_late (Step.Stamp s) answer late is = apart u s.0 low late
    names_late (Step.CommitPrimary s) answer late is = apart u s.0 low late
    names_late (Step.CommitSecondary s x) answer late is = apart u s.0 low late
    names_late (Step.Settle x) answer late is = refl
    names_late (Step.Clear x) answer late is = refl
    names_late (Step.NextMark after) answer late is = refl
    names_late (Step.Sweep x) answer late is = refl

    pub unseated_after : (step : Step) (answer : Answer) → NamesLate c step → StepCase old seat step answer new → (t : TransactionOf) → map.get new.transactions u ≡ Some t → new.seats ≤ t.seat
    unseated_after step answer late is t there =
        let same : got new u ≡ got old u = case_tells old seat new u step answer is ∙ ap (λ b. cond b (transaction_after old.observers seat step answer (got old u)) (got old u)) (names_late step answer late is) in
        omega (arith, unseated u t (sym same ∙ there) low, seats_stay old seat new step answer is)
