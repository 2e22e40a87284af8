use Rattle.std.proofs.Common.{rules, append_assoc}
use Rattle.std.proofs.lemmas.Result.{IfOk-equal}
use Rattle.pb_story.proofs.trial.add_run.Goals as goal

pub returns : goal.returns
returns c = search (rules, IfOk-equal, append_assoc)
