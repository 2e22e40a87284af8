-- No step of a plan comes at a wrong time.
use Rattle.std.proofs.Common.{arith, ◌≡◌, ℕ, Bool, true, false, cond, not, ◌||◌, [], ◌∷◌, take, Option, Some, sym, ap, subst, ◌∙◌, slice_get, is_none}
use Rattle.std.specs.List.{list_all}
use Rattle.std.specs.FinMap as finite
use Rattle.pb_txn.specs.Words.{Reason, Cell, content_in, Declared, Step, is_declared, is_committed, prewrite_reasons, is_early, unstamped_reasons, is_whole, secondary_reasons, StateOf, TransactionOf, is_in, Reasons, first_reason, is_out, own_reasons, step_reason, HistoriesAreTold, TransactionsAreTold, JournalsAreSound}
use Rattle.pb_txn.specs.declared.place.PlanPlace.{PlanPlace}
use Rattle.pb_txn.specs.Places.{declared_cells, step_at}
use Rattle.pb_txn.specs.Plans.{fresh}
use Rattle.pb_txn.specs.Allowed.{IsWorkInRange, IsTimely, PlansAreAllowed}
use Rattle.pb_txn.proofs.DistinctCells.{cells_in, has_content, not_before, in_order, all_in}
use Rattle.pb_txn.proofs.WithoutReads.{bare}
use Rattle.pb_txn.proofs.PlanPlaces.{IsAt, cell_of}
use Rattle.pb_txn.proofs.PlanTransactions.{HasCells, HasCellsAt, keeps_start_and_what, cells_by_now, table_at_place}
use Rattle.pb_base.proofs.Logic.{same_some as same_step}

-- ---- reasons

out : IsTimely Reason.OutOfTimestamps
out = record { phase = λ e. cc; declared = λ e. cc; once = λ e. cc }

-- the first applies, and is timely, or it is one of the others
either : (b : Bool) (r why : Reason) (rest : Option Reason) → IsTimely r → (rest ≡ Some why → IsTimely why) → cond b (Some r) rest ≡ Some why → IsTimely why
either b r why rest t h e = grind arith

-- none of these applies
none_of_one : (r why : Reason) (a : Bool) → a ≡ false → first_reason ((r, a) ∷ []) ≡ Some why → ⊥
none_of_one r why a p e = grind arith

none_of_two : (r q why : Reason) (a b : Bool) → a ≡ false → b ≡ false → first_reason ((r, a) ∷ (q, b) ∷ []) ≡ Some why → ⊥
none_of_two r q why a b p u e = grind arith

none_of_three : (r q v why : Reason) (a b c : Bool) → a ≡ false → b ≡ false → c ≡ false → first_reason ((r, a) ∷ (q, b) ∷ (v, c) ∷ []) ≡ Some why → ⊥
none_of_three r q v why a b c p u w e = grind arith

neither : (a b : Bool) → a ≡ true → b ≡ false → (not a || b) ≡ false
neither a b p q = grind arith

-- a stamp isn't refused for its phase where all cells are prewritten
nor : (a b : Bool) → a ≡ true → b ≡ true → (not a || not b) ≡ false
nor a b p q = grind arith

-- ---- the steps at their places

module _ (t : TransactionOf) (what : Declared) (why : Reason) where
  at_prewrite : (k : ℕ) (x : Cell) → slice_get (declared_cells what) k ≡ Some x → IsAt (declared_cells what) (PlanPlace.Prewriting k) (bare t) → HasCells what t
      → first_reason (prewrite_reasons x t) ≡ Some why → ⊥
  at_prewrite k x here at has e =
      let here-in : slice_get (cells_in t.declared) k ≡ Some x = ap (λ xs. slice_get xs k) has.are ∙ here in
      let put : t.prewritten ≡ take k (cells_in t.declared) = at.1 ∙ ap (take k) (sym has.are) in
      let early : is_early t x ≡ false = subst (λ xs. is_early (record t { prewritten = xs }) x ≡ false) (sym put) (in_order t.declared k x here-in) in
      let once : is_in t.prewritten x ≡ false = ap (λ xs. is_in xs x) put ∙ not_before t.declared k x has.apart here-in in
      grind (arith, none_of_three, neither, has_content, t.declared, t.prewritten, t.phase)

  at_stamp : IsAt (declared_cells what) PlanPlace.Stamping (bare t) → HasCells what t → first_reason (unstamped_reasons t) ≡ Some why → ⊥
  at_stamp at has e =
      let all : is_whole t ≡ true = ap (λ xs. list_all (λ w. is_in xs w.0) t.declared) (at.1 ∙ sym has.are) ∙ all_in t.declared in
      none_of_one Reason.WrongPhase why (not (is_declared t.phase) || not (is_whole t)) (nor (is_declared t.phase) (is_whole t) (ap is_declared at.0) all) e

  at_secondary : (k : ℕ) (x : Cell) → slice_get (declared_cells what) k ≡ Some x → is_committed t.phase ≡ true → HasCells what t → first_reason (secondary_reasons x t) ≡ Some why → ⊥
  at_secondary k x here at has e =
      let here-in : slice_get (cells_in t.declared) k ≡ Some x = ap (λ xs. slice_get xs k) has.are ∙ here in
      none_of_two Reason.WrongPhase Reason.NotDeclared why (not (is_committed t.phase)) (is_none (content_in t.declared x)) (ap not at) (has_content t.declared k x here-in) e

-- ---- the step at a place

module _ (state : StateOf) (seat s : ℕ) (what : Declared) (why : Reason) where
  -- what its transaction has come to, if there is one
  abbrev Stands : PlanPlace → Type 0
  Stands p = (t : TransactionOf) → finite.get state.transactions s ≡ Some t → IsAt (declared_cells what) p (bare t) × HasCellsAt p what t

  own : (reasons : TransactionOf → Reasons) → ((t : TransactionOf) → finite.get state.transactions s ≡ Some t → first_reason (reasons t) ≡ Some why → IsTimely why)
      → first_reason (own_reasons state seat s reasons) ≡ Some why → IsTimely why
  own reasons h e = grind arith

  abbrev Timely : Step → Type 0
  Timely z = step_reason state seat z ≡ Some why → IsTimely why

  at_place : (p : PlanPlace) (step : Step) → Stands p → step_at s what p ≡ Some step → Timely step
  at_place PlanPlace.Declaring step is e = grind arith
  at_place (PlanPlace.Prewriting k) step is e =
      let x = cell_of (λ z. Step.Prewrite (record { 0 = s }) z) (slice_get (declared_cells what) k) step e in
      subst Timely x.2 (own (prewrite_reasons x.0) (λ t h f. absurd (at_prewrite t what why k x.0 x.1 (is t h).0 (is t h).1 f)))
  at_place PlanPlace.Stamping step is e =
      subst Timely (same_step (Step.Stamp (record { 0 = s })) step e)
      (either (is_out state) Reason.OutOfTimestamps why (first_reason (own_reasons state seat s unstamped_reasons)) out (own unstamped_reasons (λ t h f. absurd (at_stamp t what why (is t h).0 (is t h).1 f))))
  at_place (PlanPlace.CommittingPrimary c) step is e = grind arith
  at_place (PlanPlace.CommittingSecondary c k) step is e = grind (arith, cell_of, own, at_secondary)
  at_place (PlanPlace.Settling k) step is e = grind arith
  at_place (PlanPlace.Clearing k end o) step is e = grind arith
  at_place (PlanPlace.Over o) step is e = absurd cc

-- a plan's next step is timely, since its transaction has come to where the plan stands
pub plans_allowed : HistoriesAreTold → TransactionsAreTold → JournalsAreSound → PlansAreAllowed
plans_allowed histories transactions sound observers seats clock journal state legal seat s what said q step why range talk has next refused =
    let k = keeps_start_and_what (fresh s what) q said talk in
    let here : step_at s what q.place ≡ Some step = (λ i. step_at (sym k.0 i) (sym k.1 i) q.place) ∙ next in
    let history = histories observers seats clock journal state legal in
    let os-is = (sound observers seats clock journal state legal).observers_stay in
    let told = transactions observers seats clock journal state legal in
    at_place state seat s what why q.place step (λ t h. (
      table_at_place journal state seat s what said q t told h talk has,
      cells_by_now seat s what journal state said q t history h (subst (λ os. IsWorkInRange os t.work) (sym os-is) (range t h)) talk has,
    )) here refused
