use Rattle.std.proofs.Common.{sym, ap, ◌∙◌}
use Rattle.pb_core.specs.Words.{StateOf}
use Rattle.pb_core.proofs.Fresh.{fresh_seats}
use Rattle.pb_core.proofs.shared.Shared.open.Goals as goal
use Rattle.pb_store.proofs.Fresh.{nothing_from_test as nothing_if}

pub new-state-requires-clause-empty : goal.new-state-requires-clause-empty
new-state-requires-clause-empty g c = nothing_if c.args.table.contents (sym c.is_empty.ensures ∙ c.if-not-is_empty.false)

pub returns-clause-seats : goal.returns-clause-seats
returns-clause-seats g c = fresh_seats _ c.args.seats c.in-Ok.made.1.items c.new.ensures.items (ap (λ (s : StateOf). s.seats) c.new-state.ensures) c.in-Ok.ensures.seats
