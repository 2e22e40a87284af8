-- The timestamps of a legal journal rise.
use Rattle.std.proofs.Common.{inl, inr, ◌≡◌, ℕ, ◌<◌, ◌≤◌, List, [], ◌∷◌, ap, subst, arith}
use Rattle.pb_history.specs.Words.{Ts, Step, Answer, StateOf, ObserverOf, StepCase}
use Rattle.pb_history.specs.declared.entry.Entry.{Entry}
use Rattle.pb_history.specs.Journals.{JournalLeads, IsLegal}
use Rattle.pb_history.specs.History.{Has}
use Rattle.pb_history.specs.Timestamps.{with_timestamp, timestamps, AreRising, TellsTimestamps}

-- what holds of the clock and the timestamps after a step, and of a fresh timestamp, holds before it
module _ (old : StateOf) (seat : ℕ) (new : StateOf) (P : ℕ → List ℕ → Type 0) (ts : List ℕ) (rest : P new.clock ts) (next : (n : ℕ) → new.clock ≡ n → old.clock < n → P old.clock (n ∷ ts)) where
  pub case_timestamps : (step : Step) (answer : Answer) → StepCase old seat step answer new → P old.clock (with_timestamp step answer ts)
  case_timestamps step answer m = grind arith

-- what a run of steps gives out rises from its first clock to its last
pub run_rises : (old : StateOf) (es : List Entry) (new : StateOf) → JournalLeads old es new → AreRising old.clock new.clock (timestamps es)
run_rises old [] new r = let clock : new.clock ≡ old.clock = ap (λ (z : StateOf). z.clock) r in omega (arith, clock)
run_rises old (e ∷ es) new r = grind (arith, case_timestamps, e.seat, new.clock, e.step, e.answer, r.1.taken, run_rises r.0 es new r.2)

-- ---- what follows from rising timestamps

pub at_most : (low high : ℕ) (ts : List ℕ) → AreRising low high ts → low ≤ high
at_most low high [] r = r
at_most low high (t ∷ ts) r = let le = at_most t high ts r.1 in let lt = r.0 in omega (arith, le, lt)

pub rising_from_lower : (low to high : ℕ) (ts : List ℕ) → low ≤ to → AreRising to high ts → AreRising low high ts
rising_from_lower low to high [] le r = omega (arith, le, r)
rising_from_lower low to high (t ∷ ts) le r = let lt = r.0 in (omega (arith, le, lt), r.1)

-- those after an entry
pub rising_after_entry : (low high : ℕ) (step : Step) (answer : Answer) (ts : List ℕ) → AreRising low high (with_timestamp step answer ts) → AreRising low high ts
rising_after_entry low high step answer ts r = grind (arith, rising_from_lower)

-- a commit that was given out is at most the clock
commit_at_most : (low high seat : ℕ) (s c : Ts) (es : List Entry) → Has es (record { seat = seat; step = Step.Stamp s; answer = Answer.At c }) → AreRising low high (timestamps es) → c.0 ≤ high
commit_at_most low high seat s c [] has r = absurd has
commit_at_most low high seat s c (e ∷ es) (inl q) r = at_most c.0 high (timestamps es) (subst (λ (d : Entry). AreRising low high (with_timestamp d.step d.answer (timestamps es))) q r).1
commit_at_most low high seat s c (e ∷ es) (inr has) r = commit_at_most low high seat s c es has (rising_after_entry low high e.step e.answer (timestamps es) r)

pub tells_timestamps : (observers : List ObserverOf) (seats clock : ℕ) (journal : List Entry) (state : StateOf) → IsLegal observers seats clock journal state → TellsTimestamps clock journal state
tells_timestamps observers seats clock journal state l = grind (arith, run_rises, commit_at_most, l.run, state.clock)
