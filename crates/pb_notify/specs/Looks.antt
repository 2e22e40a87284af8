-- Looks at a cell, as of a start or of an earlier timestamp (OSDI 2010, section 2.2): it is read; a lock in the way
-- is cleared, after its primary was settled where it waits for that; and the cell is read again. A job's definitions
-- stand on these for each cell that it reads.
use Rattle.std.specs.Prelude.{ℕ, ◌+◌, nat_lt, if◌then◌else◌, Option}
use Rattle.pb_notify.specs.Words.{Cell, Ts, Step, read_step, Answer}
use Rattle.pb_notify.specs.declared.look.TheConstants.{MAX_LOCKED}
use Rattle.pb_notify.specs.declared.look.Look.{Look}
use Rattle.pb_notify.specs.declared.look.Looked.{Looked}

-- the next step of a look at a cell
abbrev pub look_step : Ts → Cell → Option Ts → Look → Step
look_step s x at Look.Reading = read_step s x at
look_step s x at (Look.Clearing primary) = Step.Clear x
look_step s x at (Look.Settling primary) = Step.Settle primary
look_step s x at Look.ClearingAgain = Step.Clear x

-- ---- where an answer leads, after so many reads of the job that met a lock

-- the last one that it may meet blocks it
abbrev pub after_read : ℕ → Answer → Looked
after_read locked (Answer.Locked start primary) = if nat_lt (locked + 1) MAX_LOCKED then Looked.On (Look.Clearing primary) else Looked.Blocks
after_read locked a = Looked.Tells a

-- a lock that waits for its primary's has that settled; else the cell is read again
abbrev pub after_clear : Cell → Answer → Looked
after_clear primary Answer.Waits = Looked.On (Look.Settling primary)
after_clear primary _ = Looked.On Look.Reading

-- once a lock was settled and cleared its cell is read again, whatever the answers
abbrev pub look_after : ℕ → Look → Answer → Looked
look_after locked Look.Reading a = after_read locked a
look_after locked (Look.Clearing primary) a = after_clear primary a
look_after locked (Look.Settling primary) a = Looked.On Look.ClearingAgain
look_after locked Look.ClearingAgain a = Looked.On Look.Reading

-- ---- how many reads met a lock by then

-- a read that meets a lock is one more, whosever lock it is
abbrev pub locked_by_read : ℕ → Answer → ℕ
locked_by_read locked (Answer.Locked start primary) = locked + 1
locked_by_read locked _ = locked

-- what clears a lock is no read, and isn't counted
abbrev pub locked_after : ℕ → Look → Answer → ℕ
locked_after locked Look.Reading a = locked_by_read locked a
locked_after locked _ a = locked
