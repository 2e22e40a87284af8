-- How many runs of an observer are committed.
use Rattle.std.specs.Prelude.{◌≡◌, ℕ, ◌<◌, ◌==◌, ◌&&◌, Bool, false, count_by, List, [], ◌∷◌, length, Option, Some, None}
use Rattle.pb_history.specs.Words.{Row, Work, Step, Answer, Phase, is_committed, StateOf, phase_in, ObserverOf}
use Rattle.pb_history.specs.declared.entry.Entry.{Entry}
use Rattle.pb_history.specs.History.{Has, Member, InHistory}

-- a run of this observer, on some row
abbrev pub IsRunOf : Member → ℕ → Type 0
IsRunOf m o = (row : Row) × (m.work ≡ Work.Run o row)

-- each starts above the one before
abbrev pub RiseByStart : ℕ → List Member → Type 0
RiseByStart low [] = Unit {0}
RiseByStart low (m ∷ ms) = (low < m.start) × RiseByStart m.start ms

-- so many committed transactions are runs of the observer: here they are by their starts, each once
pub record IsRunCount (observers : List ObserverOf) (journal : List Entry) (o n : ℕ) : Type 0 where
  pub ms : List Member
  pub count : length ms ≡ n
  pub each : (m : Member) → Has ms m → InHistory observers journal m × IsRunOf m o
  pub whole : (m : Member) → InHistory observers journal m → IsRunOf m o → Has ms m
  pub rising : RiseByStart 0 ms

-- there is a phase, and it is committed
abbrev pub phase_is_committed : Option Phase → Bool
phase_is_committed None = false
phase_is_committed (Some phase) = is_committed phase

-- a run of the observer began, and the state has it as committed
abbrev pub begins_committed_run : StateOf → ℕ → Step → Answer → Bool
begins_committed_run state o (Step.Begin (Work.Run p row)) (Answer.At s) = (p == o) && phase_is_committed (phase_in state s.0)
begins_committed_run state o _ _ = false

-- the count by entries that begin such runs
abbrev pub run_count : StateOf → ℕ → List Entry → ℕ
run_count state o journal = count_by (λ e. begins_committed_run state o e.step e.answer) journal

-- is the count of the history
abbrev pub TellsRunCounts : List Entry → StateOf → Type 0
TellsRunCounts journal state = (o : ℕ) → IsRunCount state.observers journal o (run_count state o journal)
