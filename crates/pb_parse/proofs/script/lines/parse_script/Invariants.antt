use Rattle.std.proofs.Common.{◌≡◌, ◌+◌, ◌≤◌, length}
use Rattle.pb_parse.specs.Words.{in_lines, lines_left}
use Rattle.pb_parse.specs.Codes.{script_code}
use Rattle.pb_parse.specs.ScriptLines.{with_line, script_of}
use Rattle.pb_parse.proofs.script.lines.parse_script.Given as goal

abbrev pub invariant-loop-left : goal.invariant-loop-left
invariant-loop-left l = record {
  so_far : in_lines script_code with_line l.index l.batches.items (lines_left l.left) ≡ script_of l.text;
  counted : l.index + length (lines_left l.left) ≤ length l.text + 1;
}

abbrev pub decreases-loop-left : goal.decreases-loop-left
decreases-loop-left l = length (lines_left l.left)
