-- The clock of a legal journal's state is the greatest timestamp that the journal gave out.
use Rattle.std.proofs.Common.{arith, ℕ, ◌≤◌, List, [], ◌∷◌, ap}
use Rattle.pb_history.specs.Words.{ObserverOf, StateOf, opening}
use Rattle.pb_history.specs.declared.entry.Entry.{Entry}
use Rattle.pb_history.specs.Journals.{JournalLeads, IsLegal}
use Rattle.pb_history.specs.LastGiven.{IsLastGiven}
use Rattle.pb_history.specs.Timestamps.{timestamps}
use Rattle.pb_history.proofs.TimestampsRise.{case_timestamps, run_rises, at_most}

-- a timestamp given out before these
given : (clock n last : ℕ) (ts : List ℕ) → n ≤ last → IsLastGiven n ts last → IsLastGiven clock (n ∷ ts) last
given clock n last ts low h = grind arith

-- after a run of steps the clock is the greatest that they gave out, since each is above the one before
run_given : (old : StateOf) (es : List Entry) (new : StateOf) → JournalLeads old es new → IsLastGiven old.clock (timestamps es) new.clock
run_given old [] new r = ap (λ (z : StateOf). z.clock) r
run_given old (e ∷ es) new r =
    let rest = run_given r.0 es new r.2 in
    let low = at_most r.0.clock new.clock (timestamps es) (run_rises r.0 es new r.2) in
    grind (arith, case_timestamps, given, new.clock, e.seat, old.clock, e.step, e.answer, r.1.taken)

pub last_given : (observers : List ObserverOf) (seats clock : ℕ) (journal : List Entry) (state : StateOf) → IsLegal observers seats clock journal state → IsLastGiven clock (timestamps journal) state.clock
last_given observers seats clock journal state l = run_given (opening observers seats clock) journal state l.run
