-- The call that a kept one is: what contracts see of `KeptCall`, so that no law knows of forms and boxes.
use Rattle.std.specs.Prelude.{Bool, true, false, Some, None}
use Rattle.pb_history.specs.Words.{Cell, Row, Step, Answer, Work}
use Rattle.pb_history.specs.declared.entry.Received.{Received}
use Rattle.pb_history.specs.declared.kept_call.Lane.{Lane}
use Rattle.pb_history.specs.declared.kept_call.CallForm.{CallForm}

-- the cell of a lane in a row
abbrev pub cell_in : Lane → Row → Cell
cell_in (Lane.Data column) row = Cell.Data row column
cell_in (Lane.Ack o column) row = Cell.Ack o row column

-- step and answer that each form stands for
abbrev pub call_of : CallForm → Received
call_of (CallForm.Begun start) = record { step = Step.Begin Work.Script; answer = Answer.At start }
call_of (CallForm.BegunRun o row start) = record { step = Step.Begin (Work.Run o row); answer = Answer.At start }
call_of (CallForm.ReadAbsent lane row start) = record { step = Step.Read start (cell_in lane row); answer = Answer.Absent }
call_of (CallForm.Declared start what) = record { step = Step.Declare start what; answer = Answer.Done }
call_of (CallForm.Prewritten lane row start) = record { step = Step.Prewrite start (cell_in lane row); answer = Answer.Done }
call_of (CallForm.Stamped start commit) = record { step = Step.Stamp start; answer = Answer.At commit }
call_of (CallForm.Committed start) = record { step = Step.CommitPrimary start; answer = Answer.Committed }
call_of (CallForm.CommittedOther lane row start) = record { step = Step.CommitSecondary start (cell_in lane row); answer = Answer.Done }
call_of (CallForm.Marked lane row) = record { step = Step.NextMark None; answer = Answer.Marked (cell_in lane row) }
call_of (CallForm.MarkedAfter before lane before_row row) = record { step = Step.NextMark (Some (cell_in before before_row)); answer = Answer.Marked (cell_in lane row) }
call_of CallForm.NoMark = record { step = Step.NextMark None; answer = Answer.NoMark }
call_of (CallForm.NoMarkAfter lane row) = record { step = Step.NextMark (Some (cell_in lane row)); answer = Answer.NoMark }
call_of (CallForm.Swept lane row) = record { step = Step.Sweep (cell_in lane row); answer = Answer.Done }
call_of (CallForm.Other held) = held.value

-- whether a form has an owner of a declaration, or stands on the heap
abbrev pub is_owned : CallForm → Bool
is_owned (CallForm.Declared start what) = true
is_owned (CallForm.Other held) = true
is_owned _ = false
