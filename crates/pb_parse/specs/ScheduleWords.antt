-- The words of a schedule's line, each read from left to right: what is read, and the words after it. Each function of
-- src/schedule/words.rt cites the one of its name; EventLines defines what they read together, without an order.
use Rattle.std.specs.Prelude.{ℕ, ◌-◌, ◌^◌, nat_lt, if◌then◌else◌, List, [], ◌∷◌, length, codes, Result, Ok, Err, bytes_eq}
use Rattle.std.specs.List.{position_or_len}
use Rattle.pb_parse.specs.Words.{COLUMNS, MAX_CHANGES, MAX_EVENTS, MAX_SEATS, Row, Cell, ◌>>=◌, next_word, no_word, numeral_upto, words_of, ObserverOf, acknowledgment}
use Rattle.pb_parse.specs.declared.event.Job.{Job}
use Rattle.pb_parse.specs.declared.event.Event.{Event}
use Rattle.pb_parse.specs.declared.schedule.words.Order.{Order}
use Rattle.pb_parse.specs.declared.schedule.code.ScheduleCode.{ScheduleCode}

-- a number of any length, in this range
abbrev pub number_between : ℕ → ℕ → List ℕ → Result ℕ ScheduleCode
number_between least greatest word = numeral_upto ScheduleCode.Form ScheduleCode.Range greatest word >>= λ n. if nat_lt n least then Err ScheduleCode.Range else Ok n

-- the next word as a number in this range, and the words after it
unfoldable pub next_number : ℕ → ℕ → List (List ℕ) → Result (ℕ × List (List ℕ)) ScheduleCode
next_number least greatest words = do
  word ← next_word ScheduleCode.Form words
  n ← number_between least greatest word.0
  Ok (n, word.1)

-- the actors that a text can name: each seat but the main one
abbrev pub next_actor : List (List ℕ) → Result (ℕ × List (List ℕ)) ScheduleCode
next_actor words = next_number 1 (MAX_SEATS - 1) words

-- the next word as a row, of 64 bits, and the words after it
unfoldable pub next_row : List (List ℕ) → Result (Row × List (List ℕ)) ScheduleCode
next_row words = do
  number ← next_number 0 (2 ^ 64 - 1) words
  Ok (record { 0 = number.0 }, number.1)

-- the place of the first observer of this name; there is none where it is the length
abbrev pub first_named : List ObserverOf → List ℕ → ℕ
first_named observers name = position_or_len (λ o. bytes_eq o.name name) observers

-- the number of the first observer of this name; that there is none is a fault of its own, 93
abbrev pub observer_named : List ObserverOf → List ℕ → Result ℕ ScheduleCode
observer_named observers name = if nat_lt (first_named observers name) (length observers) then Ok (first_named observers name) else Err ScheduleCode.NoObserver

-- the next word as the name of an observer, and the words after it
unfoldable pub next_observer : List ObserverOf → List (List ℕ) → Result (ℕ × List (List ℕ)) ScheduleCode
next_observer observers words = do
  word ← next_word ScheduleCode.Form words
  o ← observer_named observers word.0
  Ok (o, word.1)

-- the number of a change after `change`, from 1 on; whether the script has so many is asked where it is launched
unfoldable pub next_change : List (List ℕ) → Result (Job × List (List ℕ)) ScheduleCode
next_change words = do
  number ← next_number 1 MAX_CHANGES words
  Ok (Job.Change number.0, number.1)

-- the name of an observer and a row, after `run`; the run is on the cell of the observer's column there
unfoldable pub next_run : List ObserverOf → List (List ℕ) → Result (Job × List (List ℕ)) ScheduleCode
next_run observers words = do
  observer ← next_observer observers words
  row ← next_row observer.1
  Ok (Job.Run observer.0 row.0, row.1)

-- what an actor is launched for, by its word, and the words after it
unfoldable pub next_job : List ObserverOf → List (List ℕ) → Result (Job × List (List ℕ)) ScheduleCode
next_job observers words = do
  sort ← next_word ScheduleCode.Form words
  if bytes_eq sort.0 (codes "change") then next_change sort.1 else if bytes_eq sort.0 (codes "run") then next_run observers sort.1 else Err ScheduleCode.Form

-- what is asked for once, if no word is left
unfoldable pub once : Event → List (List ℕ) → Result Order ScheduleCode
once event words = do
  end ← no_word ScheduleCode.Form words
  Ok (record { event = event; times = 1 })

-- after `launch` an actor and its job, and no word more
unfoldable pub launch_of : List ObserverOf → List (List ℕ) → Result Order ScheduleCode
launch_of observers words = do
  actor ← next_actor words
  job ← next_job observers actor.1
  once (Event.Launch actor.0 job.0) job.1

-- how often: once if no word is left
unfoldable pub times_of : List (List ℕ) → Result ℕ ScheduleCode
times_of [] = Ok 1
times_of (word ∷ words) = do
  n ← number_between 1 MAX_EVENTS word
  end ← no_word ScheduleCode.Form words
  Ok n

-- after `step` an actor, and how often its job goes on
unfoldable pub step_of : List (List ℕ) → Result Order ScheduleCode
step_of words = do
  actor ← next_actor words
  times ← times_of actor.1
  Ok (record { event = Event.Step actor.0; times = times })

-- after `crash` an actor, and no word more
unfoldable pub crash_of : List (List ℕ) → Result Order ScheduleCode
crash_of words = do
  actor ← next_actor words
  once (Event.Crash actor.0) actor.1

-- a row and a column, and the words after them
unfoldable pub next_data_cell : List (List ℕ) → Result (Cell × List (List ℕ)) ScheduleCode
next_data_cell words = do
  row ← next_row words
  column ← next_number 0 (COLUMNS - 1) row.1
  Ok (Cell.Data row.0 column.0, column.1)

-- after `ack` a name and a row; the column is the one that the observer observes, so no word names it
unfoldable pub next_acknowledgment : List ObserverOf → List (List ℕ) → Result (Cell × List (List ℕ)) ScheduleCode
next_acknowledgment observers words = do
  observer ← next_observer observers words
  row ← next_row observer.1
  Ok (acknowledgment observers observer.0 row.0, row.1)

-- a data cell, or after `ack` an acknowledgment
abbrev pub next_cell : List ObserverOf → List (List ℕ) → Result (Cell × List (List ℕ)) ScheduleCode
next_cell observers [] = Err ScheduleCode.Form
next_cell observers (word ∷ words) = if bytes_eq word (codes "ack") then next_acknowledgment observers words else next_data_cell (word ∷ words)

-- an event on a cell that is asked for once
unfoldable pub once_on : (Cell → Event) → Result (Cell × List (List ℕ)) ScheduleCode → Result Order ScheduleCode
once_on make cell = cell >>= λ x. once (make x.0) x.1

-- what a verb and the words after it ask for
abbrev pub order_by : List ObserverOf → List ℕ → List (List ℕ) → Result Order ScheduleCode
order_by observers verb words =
    if bytes_eq verb (codes "launch") then launch_of observers words
    else if bytes_eq verb (codes "step") then step_of words
    else if bytes_eq verb (codes "crash") then crash_of words
    else if bytes_eq verb (codes "settle") then once_on Event.Settle (next_cell observers words)
    else if bytes_eq verb (codes "clear") then once_on Event.Clear (next_cell observers words)
    else if bytes_eq verb (codes "sweep") then once_on Event.Sweep (next_data_cell words)
    else Err ScheduleCode.Form

-- what a line's words ask for; a line is never without a word, but a word may be empty
unfoldable pub order_of_words : List ObserverOf → List (List ℕ) → Result Order ScheduleCode
order_of_words observers words = do
  verb ← next_word ScheduleCode.Form words
  order_by observers verb.0 verb.1

-- one line: its words stand with one blank between them
abbrev pub order_of : List ObserverOf → List ℕ → Result Order ScheduleCode
order_of observers line = order_of_words observers (words_of line)
