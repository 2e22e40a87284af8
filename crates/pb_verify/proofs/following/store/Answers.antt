use Rattle.std.proofs.Common.{rules}
use Rattle.pb_verify.proofs.following.store.Goals as goal

pub returns-then-in_stack-clause-value : goal.returns-then-in_stack-clause-value
returns-then-in_stack-clause-value c = search rules

pub returns-then-in_stack-clause-near : goal.returns-then-in_stack-clause-near
returns-then-in_stack-clause-near c = search rules

pub returns-else-in_stack-clause-value : goal.returns-else-in_stack-clause-value
returns-else-in_stack-clause-value c = search rules

pub returns-else-in_stack-clause-near : goal.returns-else-in_stack-clause-near
returns-else-in_stack-clause-near c = search rules

pub returns-in_default : goal.returns-in_default
returns-in_default c = search rules
