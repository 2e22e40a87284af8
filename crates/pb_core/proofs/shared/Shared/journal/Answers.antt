use Rattle.std.proofs.Common.{subst}
use Rattle.pb_core.specs.Calls.{SharedOf}
use Rattle.pb_core.specs.Histories.{IsLegalTable}
use Rattle.pb_core.specs.Words.{TellsHistory, TellsReads, TellsRunCounts}
use Rattle.pb_core.proofs.shared.Shared.journal.Goals as goal

pub returns-clause-history : goal.returns-clause-history
returns-clause-history g c =
    let s = c.self.inside in
    subst (λ (v : SharedOf). TellsHistory v.journal v.state) c.self.view_is (c.journals_tell.ensures.history s.state.observers s.state.seats s.opened s.journal.items s.state c.self.invariant.legal)

pub returns-clause-reads : goal.returns-clause-reads
returns-clause-reads g c =
    let s = c.self.inside in
    subst (λ (v : SharedOf). TellsReads v.state.observers v.state.seats v.opened v.journal) c.self.view_is (c.journals_tell.ensures.versions s.state.observers s.state.seats s.opened s.journal.items s.state c.self.invariant.legal)

pub returns-clause-counts : goal.returns-clause-counts
returns-clause-counts g c =
    let s = c.self.inside in
    subst (λ (v : SharedOf). TellsRunCounts v.journal v.state) c.self.view_is (c.journals_tell.ensures.counts s.state.observers s.state.seats s.opened s.journal.items s.state c.self.invariant.legal)

pub returns-clause-snapshots : goal.returns-clause-snapshots
returns-clause-snapshots g c = c.legal_tables_tell.ensures.history _ (subst IsLegalTable c.self.view_is c.self.invariant.legal)

pub returns-clause-records : goal.returns-clause-records
returns-clause-records g c = c.legal_tables_tell.ensures.records c.args.self.now (subst IsLegalTable c.self.view_is c.self.invariant.legal)

pub returns-clause-once : goal.returns-clause-once
returns-clause-once g c = c.legal_tables_tell.ensures.once _ (subst IsLegalTable c.self.view_is c.self.invariant.legal)
