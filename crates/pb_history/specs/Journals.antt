-- Legal journals: those that a table could have written. The invariant of `Shared` says that its journal is one, and
-- all laws below begin from that.
use Rattle.std.specs.Prelude.{◌≡◌, ℕ, ◌<◌, ◌^◌, List, [], ◌∷◌}
use Rattle.pb_history.specs.Words.{ObserverOf, StateOf, opening, TableStep}
use Rattle.pb_history.specs.declared.entry.Entry.{Entry}

-- the journal is a run of steps from one state to another
abbrev pub JournalLeads : StateOf → List Entry → StateOf → Type 0
JournalLeads old [] new = new ≡ old
JournalLeads old (e ∷ es) new = (mid : StateOf) × TableStep old e.seat e.step e.answer mid × JournalLeads mid es new

-- a journal is legal if it is a run from the state with no entry, mark or transaction, and the clock as opened
pub record IsLegal (observers : List ObserverOf) (seats clock : ℕ) (journal : List Entry) (state : StateOf) : Type 0 where
  pub fits : clock < 2 ^ 64
  pub run : JournalLeads (opening observers seats clock) journal state

-- what holds of each legal journal, and of the state to which it leads
abbrev pub OfLegal : (List ObserverOf → ℕ → ℕ → List Entry → StateOf → Type 0) → Type 0
OfLegal Holds = (observers : List ObserverOf) (seats clock : ℕ) (journal : List Entry) (state : StateOf) → IsLegal observers seats clock journal state → Holds observers seats clock journal state
