-- A script's committed transaction writes a batch.
use Rattle.std.proofs.Common.{arith, ◌≡◌, ℕ, true, List}
use Rattle.pb_history.specs.Words.{is_batch, Work, ObserverOf, StateOf}
use Rattle.pb_history.specs.declared.entry.Entry.{Entry}
use Rattle.pb_history.specs.Journals.{IsLegal}
use Rattle.pb_history.specs.History.{Member, InHistory}
use Rattle.pb_history.specs.ScriptsTold.{TellsScripts}
use Rattle.pb_history.proofs.Agreement.{Agrees}
use Rattle.pb_history.proofs.StepsAgree.{legal_agrees}

module _ (journal : List Entry) (state : StateOf) (a : Agrees journal state) where
  script_writes : (m : Member) → InHistory state.observers journal m → m.work ≡ Work.Script → is_batch m.writes ≡ true
  script_writes m h script = grind arith

pub tells_scripts : (observers : List ObserverOf) (seats clock : ℕ) (journal : List Entry) (state : StateOf) → IsLegal observers seats clock journal state → TellsScripts journal state
tells_scripts observers seats clock journal state l = record { batch = script_writes journal state (legal_agrees observers seats clock journal state l) }
