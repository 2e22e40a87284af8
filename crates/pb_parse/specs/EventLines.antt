-- The lines of a schedule, as they are written: the words of each event, and what may stand there. Nothing is read
-- here, so that a reader and a definition that are loose in one way are refused by `event_lines_are_read_as_written`.
use Rattle.std.specs.Prelude.{◌≡◌, ◌≢◌, ◌⊎◌, ℕ, ◌^◌, ◌<◌, ◌≤◌, ◌==◌, not, true, List, [], ◌∷◌, ◌++◌, length, map, codes, Option, Some, None, slice_get, Ok, replicate, decimal}
use Rattle.std.specs.List.{flat_map, join_with_byte, list_all}
use Rattle.pb_parse.specs.Words.{COLUMNS, MAX_CHANGES, MAX_EVENTS, MAX_SEATS, Row, Cell, shown_lines, ObserverOf, observed_column}
use Rattle.pb_parse.specs.declared.event.Job.{Job}
use Rattle.pb_parse.specs.declared.event.Event.{Event}
use Rattle.pb_parse.specs.declared.schedule.words.Order.{Order}
use Rattle.pb_parse.specs.ScheduleWords.{order_of}

-- an observer's name, and no letters where there is no observer
abbrev pub name_or_none : Option ObserverOf → List ℕ
name_or_none None = []
name_or_none (Some o) = o.name

-- the name of the observer of this number
abbrev pub name_of : List ObserverOf → ℕ → List ℕ
name_of observers o = name_or_none (slice_get observers o)

-- ---- the words of a line

-- a data cell by row and column; an acknowledgment by the observer's name, which gives its column too
abbrev pub cell_words : List ObserverOf → Cell → List (List ℕ)
cell_words observers (Cell.Data row column) = decimal row.0 ∷ decimal column ∷ []
cell_words observers (Cell.Ack o row column) = codes "ack" ∷ name_of observers o ∷ decimal row.0 ∷ []

-- the words of a launch after its actor
abbrev pub job_words : List ObserverOf → Job → List (List ℕ)
job_words observers (Job.Change number) = codes "change" ∷ decimal number ∷ []
job_words observers (Job.Run o row) = codes "run" ∷ name_of observers o ∷ decimal row.0 ∷ []

-- the words of a line that asks for the event once
abbrev pub event_words : List ObserverOf → Event → List (List ℕ)
event_words observers (Event.Launch actor job) = codes "launch" ∷ decimal actor ∷ job_words observers job
event_words observers (Event.Step actor) = codes "step" ∷ decimal actor ∷ []
event_words observers (Event.Crash actor) = codes "crash" ∷ decimal actor ∷ []
event_words observers (Event.Settle x) = codes "settle" ∷ cell_words observers x
event_words observers (Event.Clear x) = codes "clear" ∷ cell_words observers x
event_words observers (Event.Sweep x) = codes "sweep" ∷ cell_words observers x

-- ---- what may stand there

-- an actor's number is that of its seat, and the main seat, 0, has no actor that a text could name
abbrev pub IsActor : ℕ → Type 0
IsActor actor = (1 ≤ actor) × (actor < MAX_SEATS)

-- rows have 64 bits; a number of the definitions has no bound of its own
abbrev pub IsRow : Row → Type 0
IsRow row = row.0 < 2 ^ 64

-- an observer whose name is one word, and which is the first of that name
pub record IsNamed (observers : List ObserverOf) (o : ℕ) : Type 0 where
  pub there : o < length observers
  pub first : (before : ℕ) → before < o → name_of observers before ≢ name_of observers o
  pub word : list_all (λ b. not (b == 32)) (name_of observers o) ≡ true

-- a change has a number that some script may have, and a run's observer can be named
abbrev pub FitsJob : List ObserverOf → Job → Type 0
FitsJob observers (Job.Change number) = (1 ≤ number) × (number ≤ MAX_CHANGES)
FitsJob observers (Job.Run o row) = IsNamed observers o × IsRow row

-- the cell is in the table, and an acknowledgment is of the column that its observer observes
abbrev pub FitsCell : List ObserverOf → Cell → Type 0
FitsCell observers (Cell.Data row column) = IsRow row × (column < COLUMNS)
FitsCell observers (Cell.Ack o row column) = IsNamed observers o × IsRow row × (column ≡ observed_column observers o)

-- a data cell, the one sort of cell that has marks to sweep
abbrev pub IsRowCell : Cell → Type 0
IsRowCell (Cell.Data row column) = Unit {0}
IsRowCell (Cell.Ack o row column) = ⊥

-- what an event names may stand in a line
abbrev pub FitsEvent : List ObserverOf → Event → Type 0
FitsEvent observers (Event.Launch actor job) = IsActor actor × FitsJob observers job
FitsEvent observers (Event.Step actor) = IsActor actor
FitsEvent observers (Event.Crash actor) = IsActor actor
FitsEvent observers (Event.Settle x) = FitsCell observers x
FitsEvent observers (Event.Clear x) = FitsCell observers x
FitsEvent observers (Event.Sweep x) = IsRowCell x × FitsCell observers x

-- ---- lines

-- a step, the only event that a line may ask for several times
abbrev pub IsStep : Event → Type 0
IsStep (Event.Step actor) = Unit {0}
IsStep (Event.Launch actor job) = ⊥
IsStep (Event.Crash actor) = ⊥
IsStep (Event.Settle x) = ⊥
IsStep (Event.Clear x) = ⊥
IsStep (Event.Sweep x) = ⊥

-- The words ask for an event so many times. For once they are the event's; for a step, how often may stand after them.
abbrev pub AreWordsOf : List ObserverOf → Order → List (List ℕ) → Type 0
AreWordsOf observers order words =
    ((order.times ≡ 1) × (words ≡ event_words observers order.event))
    ⊎ (IsStep order.event × (1 ≤ order.times) × (order.times ≤ MAX_EVENTS) × (words ≡ event_words observers order.event ++ decimal order.times ∷ []))

-- the line is such words with one blank between them, and what they name may stand there
abbrev pub IsLineOf : List ObserverOf → Order → List ℕ → Type 0
IsLineOf observers order line = (words : List (List ℕ)) × AreWordsOf observers order words × FitsEvent observers order.event × (line ≡ join_with_byte 32 words)

-- ---- texts

-- each of the lines is read, as the order in its place
abbrev pub AreOrders : List ObserverOf → List (List ℕ) → List Order → Type 0
AreOrders observers lines orders = map (order_of observers) lines ≡ map (λ order. Ok order) orders

-- the events that orders ask for, one after the other
abbrev pub events_of : List Order → List Event
events_of orders = flat_map (λ order. replicate order.times order.event) orders

-- the text's lines ask for these events, which are no more than a schedule may have
pub record IsSchedule (observers : List ObserverOf) (text : List ℕ) (events : List Event) : Type 0 where
  pub orders : List Order
  pub lines : AreOrders observers (shown_lines text) orders
  pub whole : events ≡ events_of orders
  pub few : length events ≤ MAX_EVENTS
