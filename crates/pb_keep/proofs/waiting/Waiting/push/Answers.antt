use Rattle.pb_keep.specs.declared.waiting.Waits.{Waits}
use Rattle.pb_keep.proofs.Added.{group_goes_on}
use Rattle.pb_keep.proofs.waiting.Waiting.push.Goals as goal

pub push_other-requires-clause-open_group : goal.push_other-requires-clause-open_group
push_other-requires-clause-open_group c = λ e. group_goes_on c.args.self.now.items.items (Waits.Unmade c.in-Unmade.newest) tt (c.requires.waiting.open_group e)

pub push_other-requires-in-Refused-clause-open_group : goal.push_other-requires-in-Refused-clause-open_group
push_other-requires-in-Refused-clause-open_group c = λ e. group_goes_on c.args.self.now.items.items (Waits.Refused c.in-Refused.code) tt (c.requires.waiting.open_group e)
