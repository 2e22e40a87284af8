use Rattle.std.proofs.Common.{[]}
use Rattle.pb_parse.specs.Codes.{script_code}
use Rattle.pb_parse.specs.ScriptLines.{with_line}
use Rattle.pb_reading.proofs.FirstFault.{stops_at}
use Rattle.pb_parse.proofs.script.lines.fault_is_first.Goals as goal

pub returns : goal.returns
returns c = stops_at script_code with_line []
