-- What a state has of a transaction follows from the entries that name its start.
use Rattle.std.proofs.Common.{arith, ◌≡◌, ℕ, Bool, cond, List, [], ◌∷◌, Option, sym, ap, ◌∙◌, nat_cmp}
use Rattle.std.specs.FinMap as map
use Rattle.pb_history.specs.Words.{ObserverOf, StateOf, TransactionOf, opening}
use Rattle.pb_history.specs.declared.entry.Entry.{Entry}
use Rattle.pb_history.specs.Journals.{JournalLeads, IsLegal}
use Rattle.pb_history.specs.TransactionsTold.{entries_naming, transaction_after, transaction_from, TellsTransactions}
use Rattle.pb_history.proofs.Agreement.{got}
use Rattle.pb_history.proofs.TransactionAfter.{case_tells, case_observers}
use Rattle.pb_history.proofs.BeginsOnce.{begins_once}
use Rattle.pb_history.proofs.OneSeat.{one_seat}

-- the entries that name s, with one more before them
from_first : (observers : List ObserverOf) (s : ℕ) (e : Entry) (es : List Entry) (t : Option TransactionOf) (b : Bool)
    → transaction_from observers (cond b (transaction_after observers e.seat e.step e.answer t) t) (entries_naming s es) ≡ transaction_from observers t (cond b (e ∷ entries_naming s es) (entries_naming s es))
from_first observers s e es t b = grind arith

-- a run of steps leaves of a transaction what the entries that name it make of it
run_tells : (old : StateOf) (es : List Entry) (new : StateOf) (s : ℕ) → JournalLeads old es new → (new.observers ≡ old.observers) × (got new s ≡ transaction_from old.observers (got old s) (entries_naming s es))
run_tells old [] new s r = (ap (λ (z : StateOf). z.observers) r, ap (λ z. got z s) r)
run_tells old (e ∷ es) new s r = grind (arith, case_observers, case_tells, from_first, got, e.seat, e.step, e.answer, r.1.taken, old.observers, run_tells r.0 es new s r.2)

pub tells_transactions : (observers : List ObserverOf) (seats clock : ℕ) (journal : List Entry) (state : StateOf) → IsLegal observers seats clock journal state → TellsTransactions journal state
tells_transactions observers seats clock journal state l = record {
  begins = begins_once observers seats clock journal state l;
  one_seat = one_seat observers seats clock journal state l;
  each = λ s.
      let on = run_tells (opening observers seats clock) journal state s l.run in
      on.1 ∙ (λ i. transaction_from (sym on.0 i) (map.get-empty {X = TransactionOf} nat_cmp s i) (entries_naming s journal));
}
