-- A transaction begins: it takes a fresh timestamp as its start (OSDI 2010, section 2.3).
use Rattle.std.specs.Prelude.{◌≡◌, ℕ, ◌+◌, Bool, false, not, nat_lt, List, [], ◌∷◌, length}
use Rattle.std.specs.FinMap as map
use Rattle.pb_steps.specs.Words.{Reason, ObserverOf}
use Rattle.pb_steps.specs.declared.step.Work.{Work}
use Rattle.pb_steps.specs.State.{StateOf, new_transaction}
use Rattle.pb_steps.specs.Reasons.{Reasons, is_out, no_seat}

-- a run of an observer that there isn't
abbrev pub is_unknown : List ObserverOf → Work → Bool
is_unknown observers Work.Script = false
is_unknown observers (Work.Run o row) = not (nat_lt o (length observers))

-- no timestamp is left; there is no such seat; there is no such observer
abbrev pub begin_reasons : StateOf → ℕ → Work → Reasons
begin_reasons s seat work = (Reason.OutOfTimestamps, is_out s) ∷ (Reason.NotOfSeat, no_seat s seat) ∷ (Reason.NoSuchObserver, is_unknown s.observers work) ∷ []

-- the clock goes on by one, and a transaction of that start is there, Reading
pub record Begins (old : StateOf) (seat : ℕ) (work : Work) (s : ℕ) (new : StateOf) : Type 0 where
  pub left : is_out old ≡ false
  pub fresh : s ≡ old.clock + 1
  pub new_is : new ≡ record old { clock = s; transactions = map.insert old.transactions s (new_transaction seat work) }
