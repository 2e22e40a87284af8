use Rattle.std.proofs.Common.{arith, ◌≡◌, ℕ, List, IfOk, Result, String, Global, string_bytes, subst, sym}
use Rattle.std.specs.FinMap as map
use Rattle.pb_script.specs.Words.{NoMemory, lock_count, SharedOf}
use Rattle.pb_script.specs.declared.reports.newest.Put.{Put}
use Rattle.pb_script.specs.Reports.{IsReport}
use Rattle.pb_script.specs.ReportLines.{Tallies}
use Rattle.pb_script.specs.Tallies.{AreTallies}
use Rattle.pb_script.specs.Committed.{AreSeen, Gathers}
use Rattle.pb_script.specs.TableReports.{IsReportIn}
use Rattle.pb_script.proofs.Told.{report_in}
use Rattle.pb_script.proofs.output.text_of.Goals as goal

if_report : (s : SharedOf) (puts : List Put) (marks locks : ℕ) (runs : Tallies) (r : Result (String Global) NoMemory) → Gathers s.state.observers s.journal puts → AreSeen s.state.observers s.journal s.state.clock
    → AreTallies s.state.observers s.journal 0 s.state.observers runs → marks ≡ map.len s.state.marks → locks ≡ lock_count s.state.entries
    → IfOk r (λ t. IsReport puts runs marks locks (string_bytes t)) → IfOk r (λ t. IsReportIn s (string_bytes t))
if_report s puts marks locks runs r g low rs ms ls h = grind (arith, report_in)

pub returns : goal.returns
returns g c =
    let s = c.args.shared.now in
    let n = c.in_ok-table.ensures.newest in
    if_report s n.puts c.marks.result c.locks.result _ c.report_of.result n.gathered c.newest_of.ensures.seen
    (subst (AreTallies s.state.observers s.journal 0 s.state.observers) (sym c.deref.ensures.value) c.in_ok-tallies.ensures) c.marks.ensures c.locks.ensures.count (c.report_of.ensures n.puts n.newest)
