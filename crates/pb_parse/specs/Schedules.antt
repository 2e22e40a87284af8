-- A text of lines, each an event or several, and the first line at fault. `parse_schedule` promises it. EventLines defines the
-- same for all lines at once, and a law proves that both agree.
use Rattle.std.specs.Prelude.{ℕ, ◌+◌, nat_lt, replicate, if◌then◌else◌, List, [], ◌++◌, length, Result, Ok, Err}
use Rattle.pb_parse.specs.Words.{MAX_EVENTS, ◌>>=◌, is_skipped, lines_of, in_lines, ObserverOf}
use Rattle.pb_parse.specs.declared.event.Event.{Event}
use Rattle.pb_parse.specs.declared.schedule.words.Order.{Order}
use Rattle.pb_parse.specs.declared.schedule.code.ScheduleCode.{ScheduleCode}
use Rattle.pb_parse.specs.ScheduleCodes.{schedule_code}
use Rattle.pb_parse.specs.ScheduleWords.{order_of}

-- the events so far, with those that an order asks for, if they are no more than a schedule may have
abbrev pub with_order : List Event → Order → Result (List Event) ScheduleCode
with_order before order = if nat_lt MAX_EVENTS (length before + order.times) then Err ScheduleCode.TooMany else Ok (before ++ replicate order.times order.event)

-- The events so far, with those of one more line. That they are too many is the last of a line's faults.
unfoldable pub with_event_line : List ObserverOf → List Event → List ℕ → Result (List Event) ScheduleCode
with_event_line observers before line = if is_skipped line then Ok before else (order_of observers line >>= with_order before)

-- the lines one after the other; the first fault ends it
abbrev pub events_of_lines : List ObserverOf → ℕ → List Event → List (List ℕ) → Result (List Event) (ℕ × ℕ)
events_of_lines observers n before lines = in_lines schedule_code (with_event_line observers) n before lines

-- the events of a text, or the line and the code of its fault
abbrev pub schedule_of : List ObserverOf → List ℕ → Result (List Event) (ℕ × ℕ)
schedule_of observers text = events_of_lines observers 0 [] (lines_of text)
