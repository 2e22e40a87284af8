use Rattle.std.proofs.Common.{subst}
use Rattle.pb_core.specs.Calls.{SharedOf}
use Rattle.pb_core.specs.Words.{TellsQuiet}
use Rattle.pb_core.proofs.Grows.{few_entries}
use Rattle.pb_core.proofs.shared.Shared.locks.Goals as goal

pub locks-requires : goal.locks-requires
locks-requires g c = few_entries _ _ _ _ _ c.self.invariant

pub returns-clause-quiet : goal.returns-clause-quiet
returns-clause-quiet g c =
    let s = c.self.inside in
    subst (λ (v : SharedOf). TellsQuiet v.state) c.self.view_is (c.quiet_is_counted.ensures s.state.observers s.state.seats s.opened s.journal.items s.state c.self.invariant.legal)
