use Rattle.std.proofs.Common.{◌≡◌, ◌++◌, string_bytes}
use Rattle.pb_script.specs.ReportLines.{cell_lines}
use Rattle.pb_script.proofs.reports.newest.cell_lines.Given as goal

abbrev pub invariant-loop-cell : goal.invariant-loop-cell
invariant-loop-cell l = string_bytes l.text ++ cell_lines l.cell-iterator ≡ cell_lines l.table.entries
