-- Why a step of a transaction that the table has is refused.
use Rattle.std.proofs.Common.{◌≡◌, ℕ, ◌<◌, ◌≤◌, Bool, true, false, cond, not, Option, Some, None, slice_get, sym, ap, subst, ◌∙◌, arith, nat_lt}
use Rattle.std.proofs.lemmas.Bool.{lt-ltb}
use Rattle.std.proofs.lemmas.Option.{slice_get_within}
use Rattle.pb_notify.specs.Words.{Cell, Row, Ts, Reason, Work, Declared, Step, is_reading, ObserverOf, StateOf, TransactionOf, is_its, read_up_to, read_step, prewrite_reasons, commit_reasons, Reasons, IsOwn, no_seat, first_reason, own_reasons, step_reason, PlanPlace, IsTimely}
use Rattle.pb_notify.specs.declared.look.Look.{Look}
use Rattle.pb_notify.specs.Looks.{look_step}
use Rattle.pb_notify.proofs.PlanSteps.{IsPlanStep}
use Rattle.pb_base.proofs.Logic.{none_some as none_why}

same_reason : (r why : Reason) → Some r ≡ Some why → why ≡ r
same_reason r why e = cc

-- the first applies, or another
first_or : (b : Bool) (r why : Reason) (rest : Option Reason) → (why ≡ r → ⊥) → cond b (Some r) rest ≡ Some why → rest ≡ Some why
first_or true r why rest isnt e = absurd (isnt (same_reason r why e))
first_or false r why rest isnt e = e

it_or_none : (b : Bool) (r why : Reason) → cond b (Some r) None ≡ Some why → why ≡ r
it_or_none b r why e = grind arith

module _ (state : StateOf) (seat : ℕ) (why : Reason) (seated : seat < state.seats) where
  has_seat : no_seat state seat ≡ false
  has_seat = ap not (lt-ltb seat state.seats seated)

  -- a step that names no transaction isn't refused
  pub no_transaction : cond (no_seat state seat) (Some Reason.NotOfSeat) None ≡ Some why → ⊥
  no_transaction e = none_why why (ap (λ b. cond b (Some Reason.NotOfSeat) None) (sym has_seat) ∙ e)

  -- of an observer that there is
  pub begins_in_time : (o : ℕ) (row : Row) (observer : ObserverOf) → slice_get state.observers o ≡ Some observer → step_reason state seat (Step.Begin (Work.Run o row)) ≡ Some why → why ≡ Reason.OutOfTimestamps
  begins_in_time o row observer there e = grind (arith, it_or_none, has_seat, lt-ltb, slice_get_within, state.observers)

  module _ (s : ℕ) (t : TransactionOf) (own : IsOwn state seat s t) where
    by_own : (reasons : TransactionOf → Reasons) → first_reason (own_reasons state seat s reasons) ≡ first_reason (reasons t)
    by_own reasons = grind arith

    -- a look of one that reads
    pub looks_in_time : (start : Ts) (x : Cell) (at : Option Ts) (look : Look) (step : Step) → start.0 ≡ s → is_reading t.phase ≡ true → read_up_to start.0 at ≤ start.0 → Some (look_step start x at look) ≡ Some step → step_reason state seat step ≡ Some why → ⊥
    looks_in_time start x at look step is reads in_time next e = by look (subst (λ z. step_reason state seat z ≡ Some why) (sym (same_step (look_step start x at look) step next)) e) where
      same_step : (a b : Step) → Some a ≡ Some b → a ≡ b
      same_step a b h = cc

      not_later : (a b : ℕ) → b ≤ a → nat_lt a b ≡ false
      not_later a b le = grind arith

      reads_in_time : (z : Option Ts) → read_up_to start.0 z ≤ start.0 → step_reason state seat (read_step start x z) ≡ Some why → ⊥
      reads_in_time z low h = grind arith

      by : (l : Look) → step_reason state seat (look_step start x at l) ≡ Some why → ⊥
      by l h = grind arith

    -- the declaration of one that reads, where it is its own
    pub declares_in_time : (start : Ts) (what : Declared) → start.0 ≡ s → is_reading t.phase ≡ true → is_its state.observers t.work s t.reads what ≡ true
        → step_reason state seat (Step.Declare start what) ≡ Some why → ⊥
    declares_in_time start what is reads its e = grind arith

    own_step : (start : Ts) (reasons : TransactionOf → Reasons) → start.0 ≡ s → first_reason (own_reasons state seat start.0 reasons) ≡ Some why → first_reason (reasons t) ≡ Some why
    own_step start reasons is e = sym (by_own reasons) ∙ ap (λ n. first_reason (own_reasons state seat n reasons)) (sym is) ∙ e

    -- a later step of a plan, at its time
    pub goes_in_time : (p : PlanPlace) (step : Step) → (p ≡ PlanPlace.Declaring → ⊥) → IsPlanStep s p step → IsTimely why → step_reason state seat step ≡ Some why → why ≡ Reason.OutOfTimestamps
    goes_in_time p (Step.Declare start what) later i timely e = absurd (later i)
    goes_in_time p (Step.Prewrite start x) later i timely e =
        absurd (none_why why (first_or _ Reason.AlreadyPrewritten why None timely.once (first_or _ Reason.NotDeclared why _ timely.declared (first_or _ Reason.WrongPhase why _ timely.phase (own_step start (prewrite_reasons x) i e)))))
    goes_in_time p (Step.Stamp start) later i timely e = grind arith
    goes_in_time p (Step.CommitPrimary start) later i timely e = absurd (none_why why (first_or _ Reason.WrongPhase why None timely.phase (own_step start commit_reasons i e)))
    goes_in_time p (Step.CommitSecondary start x) later i timely e = grind arith
    goes_in_time p (Step.Settle x) later i timely e = absurd (no_transaction e)
    goes_in_time p (Step.Clear x) later i timely e = absurd (no_transaction e)
    goes_in_time p _ later i timely e = absurd i
