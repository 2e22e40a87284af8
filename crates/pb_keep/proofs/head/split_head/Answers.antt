use Rattle.pb_keep.proofs.Heads.{no_limit}
use Rattle.pb_keep.proofs.head.split_head.Goals as goal

pub returns-in-None-clause-exact : goal.returns-in-None-clause-exact
returns-in-None-clause-exact c = no_limit c.args.text.now
