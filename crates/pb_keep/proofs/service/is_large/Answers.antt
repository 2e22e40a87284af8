use Rattle.pb_keep.proofs.Added.{none_is_waiting}
use Rattle.pb_keep.proofs.Scripts.{empty_list}
use Rattle.std.proofs.Common.{arith, length, ap}
use Rattle.pb_keep.proofs.service.is_large.Goals as goal

pub returns-then-is_empty-clause-idle : goal.returns-then-is_empty-clause-idle
returns-then-is_empty-clause-idle g c = λ large.
    let waiting = c.args.keeper.now.waiting in
    none_is_waiting waiting c.requires.waiting (empty_list waiting.items.items (grind (arith, c.is_empty.ensures, c.if-is_empty.true)))

pub returns-else-is_empty-clause-small : goal.returns-else-is_empty-clause-small
returns-else-is_empty-clause-small g c = λ no idle. absurd (grind (arith, c.is_empty.ensures, c.if-is_empty.false, ap length idle.items))
