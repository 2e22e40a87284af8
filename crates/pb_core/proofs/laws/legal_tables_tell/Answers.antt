use Rattle.std.proofs.Common.{arith}
use Rattle.pb_core.proofs.laws.legal_tables_tell.Goals as goal

pub returns-clause-history : goal.returns-clause-history
returns-clause-history c = grind arith

pub returns-clause-records : goal.returns-clause-records
returns-clause-records c = λ s legal. c.journals_tell.ensures.records s.state.observers s.state.seats s.opened s.journal s.state legal

pub returns-clause-once : goal.returns-clause-once
returns-clause-once c = λ s legal.
    let obs = s.state.observers in
    let n = s.state.seats in
    record {
      behind = c.journals_tell.ensures.behind obs n s.opened s.journal s.state legal;
      most = c.journals_tell.ensures.most obs n s.opened s.journal s.state legal;
      quiet = c.journals_tell.ensures.quiet obs n s.opened s.journal s.state legal;
    }
