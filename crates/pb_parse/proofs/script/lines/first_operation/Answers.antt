use Rattle.pb_parse.proofs.Cuts.{cut_some, cut_none}
use Rattle.pb_parse.proofs.script.lines.first_operation.Goals as goal

pub returns-in-Some : goal.returns-in-Some
returns-in-Some c = cut_some c.args.line.now c.in-Some.operation.now c.in-Some.after.now c.in-Some.ensures.cases

pub returns-in-None : goal.returns-in-None
returns-in-None c = cut_none c.args.line.now c.in-None.ensures.cases
