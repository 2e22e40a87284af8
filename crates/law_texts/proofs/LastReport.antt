-- A table's report is that at the greatest timestamp that its journal gave out.
use Rattle.std.proofs.Common.{◌≡◌, ℕ, List, [], ◌∷◌, sym, ◌∙◌, arith}
use Rattle.law_texts.specs.Words.{ClockIsLastGiven, IsLastGiven, SharedOf, IsReportIn}
use Rattle.law_texts.specs.LastReport.{IsReportAt, ReportsAreOfTheLastGiven}

-- there is one last timestamp
one_last : (clock : ℕ) (ts : List ℕ) (a b : ℕ) → IsLastGiven clock ts a → IsLastGiven clock ts b → a ≡ b
one_last clock [] a b p q = p ∙ sym q
one_last clock (t ∷ ts) a b p q =
    let above = q.1 a p.0 in
    let below = p.1 b q.0 in
    omega (arith, above, below)

-- a table's report is that at its clock
at_clock : (s : SharedOf) (text : List ℕ) → IsReportIn s text → IsReportAt s.state.clock s text
at_clock s text r = record { runs = r.runs; tallied = r.tallied; reported = r.reported }

-- and the one at its clock is the table's
in_table : (s : SharedOf) (text : List ℕ) → IsReportAt s.state.clock s text → IsReportIn s text
in_table s text r = record { runs = r.runs; tallied = r.tallied; reported = r.reported }

-- so it is that at the last timestamp, which is the clock
pub last_reported : ClockIsLastGiven → ReportsAreOfTheLastGiven
last_reported law s text last legal is = grind (arith, one_last, at_clock, in_table, s.state.observers, s.state.seats, s.opened, s.journal, s.state, s.state.clock)
