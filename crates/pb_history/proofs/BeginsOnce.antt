-- A transaction begins once, before all other entries that name its start.
use Rattle.std.proofs.Common.{◌≡◌, ℕ, ◌+◌, ◌≤◌, ◌⊎◌, inl, inr, Bool, true, false, cond, ◌||◌, List, [], ◌∷◌, Option, Some, None, refl, sym, ap, subst, ◌∙◌, arith, option_map, nat_cmp}
use Rattle.std.specs.List.{list_any}
use Rattle.std.specs.FinMap as map
use Rattle.pb_history.specs.Words.{Step, Answer, ObserverOf, StateOf, TransactionOf, opening, new_transaction, StepCase}
use Rattle.pb_history.specs.declared.entry.Entry.{Entry}
use Rattle.pb_history.specs.Journals.{JournalLeads, IsLegal}
use Rattle.pb_history.specs.Sound.{IsSoundTable}
use Rattle.pb_history.specs.TransactionsTold.{names_start, entries_naming, transaction_after, is_begin, BeginsOnce}
use Rattle.pb_history.proofs.Agreement.{got}
use Rattle.pb_history.proofs.StepsKeepSound.{steps_keep}
use Rattle.pb_history.proofs.OpeningSound.{opening_sound}
use Rattle.pb_history.proofs.TransactionAfter.{case_tells}

-- the state has a transaction of this start
abbrev pub Has : StateOf → ℕ → Type 0
Has state s = (t : TransactionOf) × (got state s ≡ Some t)

-- and it is this seat's
abbrev pub Owns : StateOf → ℕ → ℕ → Type 0
Owns state seat s = (t : TransactionOf) × (got state s ≡ Some t) × (t.seat ≡ seat)

-- nothing is both there and not
pub there_and_not : (o : Option TransactionOf) (t : TransactionOf) → o ≡ Some t → o ≡ None → ⊥
there_and_not o t p q = cc

-- ---- one step

module _ (old : StateOf) (seat : ℕ) (new : StateOf) (s : ℕ) where
  -- what names s begins it, with a fresh start, or finds it there as its seat's
  pub begins_or_finds : (step : Step) (answer : Answer) → StepCase old seat step answer new → names_start s step answer ≡ true
      → ((is_begin step ≡ true) × (s ≡ old.clock + 1)) ⊎ ((is_begin step ≡ false) × Owns old seat s)
  begins_or_finds step answer m e = grind arith

-- ---- the transaction after it

-- a transaction of this seat
abbrev pub IsOf : ℕ → Option TransactionOf → Type 0
IsOf seat o = (u : TransactionOf) × (o ≡ Some u) × (u.seat ≡ seat)

pub after_begin_is_of : (observers : List ObserverOf) (seat s : ℕ) (step : Step) (answer : Answer) (o : Option TransactionOf) → is_begin step ≡ true → names_start s step answer ≡ true
    → IsOf seat (transaction_after observers seat step answer o)
after_begin_is_of observers seat s (Step.Begin work) (Answer.At n) o b e = (new_transaction seat work, refl, refl)
after_begin_is_of observers seat s (Step.Begin work) _ o b e = absurd cc
after_begin_is_of observers seat s _ _ o b e = absurd cc

stays : (observers : List ObserverOf) (seat : ℕ) (step : Step) (answer : Answer) (t : TransactionOf) → is_begin step ≡ false → IsOf t.seat (transaction_after observers seat step answer (Some t))
stays observers seat (Step.Begin work) answer t b = absurd cc
stays observers seat (Step.Read s x) (Answer.Found start commit content) t b = (_, refl, refl)
stays observers seat (Step.Read s x) Answer.Absent t b = (_, refl, refl)
stays observers seat (Step.ReadAt s x at) (Answer.Found start commit content) t b = (_, refl, refl)
stays observers seat (Step.ReadAt s x at) Answer.Absent t b = (_, refl, refl)
stays observers seat (Step.Declare s what) Answer.Done t b = (_, refl, refl)
stays observers seat (Step.Prewrite s x) Answer.Done t b = (_, refl, refl)
stays observers seat (Step.Prewrite s x) Answer.Conflict t b = (_, refl, refl)
stays observers seat (Step.Stamp s) (Answer.At c) t b = (_, refl, refl)
stays observers seat (Step.CommitPrimary s) Answer.Committed t b = (_, refl, refl)
stays observers seat (Step.CommitPrimary s) Answer.Lost t b = (_, refl, refl)
stays observers seat _ _ t b = (t, refl, refl)

pub stays_by : (observers : List ObserverOf) (seat : ℕ) (step : Step) (answer : Answer) (o : Option TransactionOf) (h : (t : TransactionOf) × (o ≡ Some t)) → is_begin step ≡ false
    → IsOf h.0.seat (transaction_after observers seat step answer o)
stays_by observers seat step answer o h b = subst (λ z. IsOf h.0.seat (transaction_after observers seat step answer z)) (sym h.1) (stays observers seat step answer h.0 b)

-- ---- a run of steps

-- a transaction that is there began up to the clock
pub begins_by_clock : (state : StateOf) (s : ℕ) → IsSoundTable state → Has state s → s ≤ state.clock
begins_by_clock state s i h = i.begun s h.0.phase (ap (option_map (λ (u : TransactionOf). u.phase)) h.1)

-- no later entry begins a transaction that is there, since a fresh start is above the clock
none_later : (old : StateOf) (es : List Entry) (new : StateOf) (s : ℕ) → IsSoundTable old → Has old s → JournalLeads old es new → list_any (λ d. is_begin d.step) (entries_naming s es) ≡ false
none_later old [] new s i h r = refl
none_later old (e ∷ es) new s i h r =
    let on = none_later r.0 es new s (steps_keep old e.seat e.step e.answer r.0 i r.1) in
    let after = case_tells old e.seat r.0 s e.step e.answer r.1.taken in
    let told : Bool → Option TransactionOf = λ b. cond b (transaction_after old.observers e.seat e.step e.answer (got old s)) (got old s) in
    elim (names_start s e.step e.answer) as (λ b. names_start s e.step e.answer ≡ b → list_any (λ d. is_begin d.step) (cond b (e ∷ entries_naming s es) (entries_naming s es)) ≡ false) [
      | true ↦ λ n. elim (begins_or_finds old e.seat r.0 s e.step e.answer r.1.taken n) [
        | inl f ↦ (let low = begins_by_clock old s i h in let is = f.1 in absurd (omega (arith, low, is)))
        | inr f ↦ (let u = stays_by old.observers e.seat e.step e.answer (got old s) h f.0 in ap (λ b. b || list_any (λ d. is_begin d.step) (entries_naming s es)) f.0 ∙ on (u.0, after ∙ ap told n ∙ u.1) r.2)
      ]
      | false ↦ λ n. on (h.0, after ∙ ap told n ∙ h.1) r.2
    ] refl

-- the first entry that names a start begins it, since no other step is allowed before
begins_first : (old : StateOf) (es : List Entry) (new : StateOf) (s : ℕ) → IsSoundTable old → got old s ≡ None → JournalLeads old es new → BeginsOnce (entries_naming s es)
begins_first old [] new s i h r = tt
begins_first old (e ∷ es) new s i h r =
    let sound = steps_keep old e.seat e.step e.answer r.0 i r.1 in
    let after = case_tells old e.seat r.0 s e.step e.answer r.1.taken in
    let told : Bool → Option TransactionOf = λ b. cond b (transaction_after old.observers e.seat e.step e.answer (got old s)) (got old s) in
    elim (names_start s e.step e.answer) as (λ b. names_start s e.step e.answer ≡ b → BeginsOnce (cond b (e ∷ entries_naming s es) (entries_naming s es))) [
      | true ↦ λ n. grind (arith, got, begins_or_finds, after_begin_is_of, none_later, there_and_not, e.seat, e.step, e.answer, r.1.taken, old.observers)
      | false ↦ λ n. begins_first r.0 es new s sound (after ∙ ap told n ∙ h) r.2
    ] refl

pub begins_once : (observers : List ObserverOf) (seats clock : ℕ) (journal : List Entry) (state : StateOf) → IsLegal observers seats clock journal state → (s : ℕ) → BeginsOnce (entries_naming s journal)
begins_once observers seats clock journal state l s = begins_first (opening observers seats clock) journal state s (opening_sound observers seats clock l.fits) (map.get-empty {X = TransactionOf} nat_cmp s) l.run
