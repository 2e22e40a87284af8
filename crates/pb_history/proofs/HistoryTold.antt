-- The history of a legal journal is what its state says is committed.
use Rattle.std.proofs.Common.{arith, ◌≡◌, ℕ, List, Option, Some, ap, ◌∙◌}
use Rattle.pb_history.specs.Words.{are_distinct, Declared, Step, Answer, Phase, StateOf, TransactionOf, ObserverOf}
use Rattle.pb_history.specs.declared.entry.Entry.{Entry}
use Rattle.pb_history.specs.Journals.{IsLegal}
use Rattle.pb_history.specs.History.{IsEntry, Member, InHistory, IsCommitted, IsDeclared, TellsHistory}
use Rattle.pb_history.proofs.Agreement.{ts, Agrees, PastStamp}
use Rattle.pb_history.proofs.StepsAgree.{legal_agrees}
use Rattle.pb_history.proofs.DeclaredCells.{cells_distinct}

-- under a start there is one transaction
pub one_under_start : (o : Option TransactionOf) (t u : TransactionOf) → o ≡ Some t → o ≡ Some u → u ≡ t
one_under_start o t u p q = cc

-- a committed transaction has one commit
pub same_stamp : (h : Phase) (c d : ℕ) → h ≡ Phase.Committed (ts c) → PastStamp h d → c ≡ d
same_stamp h c d e p = grind arith

module _ (journal : List Entry) (state : StateOf) (a : Agrees journal state) where
  pub is_committed : (m : Member) → InHistory state.observers journal m → IsCommitted state m
  is_committed m h = grind arith

  pub is_member : (m : Member) → IsCommitted state m → InHistory state.observers journal m
  is_member m h =
      let l = a.logged m.start h.t h.there in
      grind (arith, ts, m.start, h.phase, m.work, h.seat, h.t.seat, h.work, h.writes, state.observers, m.commit)

  is_declared_by : (seat start : ℕ) (what : Declared) → IsEntry journal seat (Step.Declare (ts start) what) Answer.Done → IsDeclared state start what
  is_declared_by seat start what h = let d = a.told _ h in record { t = d.0; there = d.1; declared = d.3; distinct = ap are_distinct d.3 ∙ cells_distinct state.observers d.0.work start what d.4; known = d.4; for_work = d.5 }

pub legal_tells_history : (observers : List ObserverOf) (seats clock : ℕ) (journal : List Entry) (state : StateOf) → IsLegal observers seats clock journal state → TellsHistory journal state
legal_tells_history observers seats clock journal state l =
    let a = legal_agrees observers seats clock journal state l in
    record { early = a.early; committed = is_committed journal state a; member = is_member journal state a; declared = is_declared_by journal state a }
