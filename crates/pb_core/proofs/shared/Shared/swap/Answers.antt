use Rattle.std.proofs.Common.{sym, ◌∙◌}
use Rattle.pb_core.proofs.shared.Shared.swap.Goals as goal
use Rattle.pb_store.proofs.Fresh.{nothing_from_test as nothing_if}

pub returns-then-place-self-clause-handed_back : goal.returns-then-place-self-clause-handed_back
returns-then-place-self-clause-handed_back g c = nothing_if (g.T.Tablet.contents c.args.tablet) (sym c.is_empty.ensures ∙ c.if-is_empty.true)
