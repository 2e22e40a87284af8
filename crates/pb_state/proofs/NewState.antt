-- What a state's changed fields are as one.
use Rattle.std.proofs.Common.{◌≡◌, ℕ, List, subst}
use Rattle.std.specs.FinMap as map
use Rattle.pb_state.specs.Words.{Entries, Marks, TableOf, ObserverOf, StateOf, TransactionOf, Transactions}
use Rattle.pb_state.specs.Keeping.{parts_as_state}

-- the same marks
abbrev pub same_marks : List ObserverOf → Marks → Marks
same_marks observers m = m

module _ (table table' : TableOf) (observers : List ObserverOf) (clock seats : ℕ) (ts ts' : Transactions) (s : ℕ) (u : TransactionOf) (f : Entries → Entries) (h : List ObserverOf → Marks → Marks)
    (tables : table'.contents ≡ record table.contents { entries = f table.contents.entries; marks = h observers table.contents.marks }) (put : ts' ≡ map.insert ts s u) where
  abbrev After : StateOf → Type 0
  After old = parts_as_state table' observers clock seats ts' ≡ record old { entries = f old.entries; marks = h old.observers old.marks; transactions = map.insert old.transactions s u }

  -- entries, marks and one transaction changed
  pub new_state : (old : StateOf) → parts_as_state table observers clock seats ts ≡ old → After old
  new_state old is = subst After is (λ i. record { entries = (tables i).entries; marks = (tables i).marks; observers = observers; clock = clock; seats = seats; transactions = put i })

module _ (table table' : TableOf) (observers : List ObserverOf) (clock seats : ℕ) (ts : Transactions) (f : Entries → Entries) (h : List ObserverOf → Marks → Marks)
    (tables : table'.contents ≡ record table.contents { entries = f table.contents.entries; marks = h observers table.contents.marks }) where
  abbrev AfterEntries : StateOf → Type 0
  AfterEntries old = parts_as_state table' observers clock seats ts ≡ record old { entries = f old.entries; marks = h old.observers old.marks }

  -- entries and marks alone changed
  pub new_entries : (old : StateOf) → parts_as_state table observers clock seats ts ≡ old → AfterEntries old
  new_entries old is = subst AfterEntries is (λ i. record { entries = (tables i).entries; marks = (tables i).marks; observers = observers; clock = clock; seats = seats; transactions = ts })
