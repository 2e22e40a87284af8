-- What the history of a legal journal shows of the changes of scripts.
use Rattle.std.specs.Prelude.{◌≡◌, true, List}
use Rattle.pb_history.specs.Words.{is_batch, Work, StateOf}
use Rattle.pb_history.specs.declared.entry.Entry.{Entry}
use Rattle.pb_history.specs.History.{Member, InHistory}

-- a script's committed transaction writes a batch
pub record TellsScripts (journal : List Entry) (state : StateOf) : Type 0 where
  pub batch : (m : Member) → InHistory state.observers journal m → m.work ≡ Work.Script → is_batch m.writes ≡ true
