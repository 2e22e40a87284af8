-- The timestamps of a journal, which rise (OSDI 2010, section 2.3).
use Rattle.std.specs.Prelude.{ℕ, ◌<◌, ◌≤◌, List, [], ◌∷◌}
use Rattle.pb_history.specs.Words.{Step, Answer, StateOf}
use Rattle.pb_history.specs.declared.entry.Entry.{Entry}
use Rattle.pb_history.specs.History.{Member, InHistory}

-- a begin and a stamp are answered with a timestamp, which comes before these
abbrev pub with_timestamp : Step → Answer → List ℕ → List ℕ
with_timestamp (Step.Begin work) (Answer.At s) ts = s.0 ∷ ts
with_timestamp (Step.Stamp s) (Answer.At c) ts = c.0 ∷ ts
with_timestamp _ _ ts = ts

-- the starts and commits that were handed out, in order
abbrev pub timestamps : List Entry → List ℕ
timestamps [] = []
timestamps (e ∷ es) = with_timestamp e.step e.answer (timestamps es)

-- they rise, from above one number up to another
abbrev pub AreRising : ℕ → ℕ → List ℕ → Type 0
AreRising low high [] = low ≤ high
AreRising low high (t ∷ ts) = (low < t) × AreRising t high ts

-- They rise from above the clock as opened up to that of the state, and so no transaction is committed above that.
pub record TellsTimestamps (clock : ℕ) (journal : List Entry) (state : StateOf) : Type 0 where
  pub rising : AreRising clock state.clock (timestamps journal)
  pub commits : (m : Member) → InHistory state.observers journal m → m.commit ≤ state.clock
