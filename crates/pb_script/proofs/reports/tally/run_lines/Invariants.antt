use Rattle.std.proofs.Common.{◌≡◌, ◌++◌, drop, string_bytes}
use Rattle.pb_script.specs.ReportLines.{run_lines}
use Rattle.pb_script.proofs.reports.tally.run_lines.Given as goal

abbrev pub invariant-loop-tally : goal.invariant-loop-tally
invariant-loop-tally l = string_bytes l.text ++ run_lines (drop l.tally-index l.tallies) ≡ run_lines l.tallies
