-- The states that a legal journal leads to, entry by entry.
use Rattle.std.specs.Prelude.{◌≡◌, ℕ, List, ◌++◌}
use Rattle.pb_history.specs.Words.{StateOf, ObserverOf}
use Rattle.pb_history.specs.declared.entry.Entry.{Entry}
use Rattle.pb_history.specs.Journals.{IsLegal}
use Rattle.pb_history.specs.Sound.{IsSoundTable}

-- a legal journal that leads to a sound state
pub record LeadsToSound (observers : List ObserverOf) (seats clock : ℕ) (journal : List Entry) : Type 0 where
  pub state : StateOf
  pub legal : IsLegal observers seats clock journal state
  pub sound : IsSoundTable state

-- the state of a journal is sound and has the observers that it was opened with, and every beginning of the journal leads to
-- a sound one
pub record TellsSoundness (observers : List ObserverOf) (seats clock : ℕ) (journal : List Entry) (state : StateOf) : Type 0 where
  pub sound : IsSoundTable state
  pub observers_stay : state.observers ≡ observers
  pub beginnings : (before after : List Entry) → journal ≡ before ++ after → LeadsToSound observers seats clock before
