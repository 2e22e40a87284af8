use Rattle.pb_parse.proofs.FirstOperation.{stops_with}
use Rattle.pb_parse.proofs.script.lines.operation_fault_is_first.Goals as goal

pub returns : goal.returns
returns c = stops_with
