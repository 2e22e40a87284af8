-- Replays: a schedule's events in a world of a manifest's observers and a script's changes, and the report of what
-- they left. `replay_texts` promises it; where an event is at fault, nothing is reported.
use Rattle.std.specs.Prelude.{◌≡◌, ◌≢◌, ℕ, List, length, Result, Ok, Err}
use Rattle.pb_driver.specs.Words.{MAX_SEATS, Writes, ObserverOf, SharedOf, SeatOf, AreSeats, Event, EventFault, WorldFault, Note, fault_code, memory_fault, WorldOf, idle_actors, RunsTo, StopsAtEvent, Taking, TookNothing, WroteTableReport, BeganTableReport}
use Rattle.pb_driver.specs.declared.fault.RunFault.{RunFault}
use Rattle.pb_driver.specs.Texts.{IsReplayRead, IsReplayUnread, table_opened}

-- the fault of a replay with an event at fault
abbrev pub of_event : ℕ → EventFault → RunFault
of_event event (EventFault.NoMemory refused) = RunFault.NoMemory refused
of_event event fault = RunFault.Event (record { event = event; fault = fault })

-- ---- the events and their report

-- the events happened, and the report of the world that they lead to was written
pub record ReplayReported (w : WorldOf) (events : List Event) (out : Taking) : Type 0 where
  pub notes : List Note
  pub after : WorldOf
  pub runs : RunsTo w events notes after
  pub wrote : WroteTableReport after.shared out

-- a beginning of that report was written
pub record BeganReplayReport (w : WorldOf) (events : List Event) (out : Taking) : Type 0 where
  pub notes : List Note
  pub after : WorldOf
  pub runs : RunsTo w events notes after
  pub began : BeganTableReport after.shared out

-- an event was at fault by itself
pub record ReplayStopped (w : WorldOf) (events : List Event) (f : WorldFault) : Type 0 where
  pub other : f.fault ≢ memory_fault
  pub after : WorldOf
  pub stops : StopsAtEvent w events f.event (fault_code f.fault) after

-- how a run of events in a world ended, and what the sink took
abbrev pub EventsEnd : WorldOf → List Event → Taking → Result (Unit {0}) RunFault → Type 0
EventsEnd w events out (Ok u) = ReplayReported w events out
EventsEnd w events out (Err RunFault.Output) = BeganReplayReport w events out
EventsEnd w events out (Err (RunFault.Event f)) = ReplayStopped w events f × TookNothing out
EventsEnd w events out (Err (RunFault.NoMemory refused)) = TookNothing out
EventsEnd w events out (Err _) = ⊥

-- a world of a table with all its seats, where these changes may be launched, as it is opened
abbrev pub opened_world : SharedOf → List SeatOf → List Writes → WorldOf
opened_world shared seats batches = record { shared = shared; seats = seats; actors = idle_actors (length seats); batches = batches }

-- ---- the whole

-- The three texts are read, the last as these events, and this is the world of the manifest's observers and the script's
-- changes, over a table of so many tablets as opened with all its seats and the clock at `last`.
pub record OpensReplay (places last : ℕ) (manifest script schedule : List ℕ) (world : WorldOf) (events : List Event) : Type 0 where
  pub observers : List ObserverOf
  pub batches : List Writes
  pub read : IsReplayRead manifest script schedule observers batches events
  pub seats : List SeatOf
  pub seated : AreSeats (table_opened places observers MAX_SEATS last) seats
  pub opened : world ≡ opened_world (table_opened places observers MAX_SEATS last) seats batches

-- the schedule's events ended so in the world that the three texts open
pub record ReplayedOn (places last : ℕ) (manifest script schedule : List ℕ) (out : Taking) (result : Result (Unit {0}) RunFault) : Type 0 where
  pub world : WorldOf
  pub events : List Event
  pub opens : OpensReplay places last manifest script schedule world events
  pub ends : EventsEnd world events out result

-- how a replay of three texts ended, and what the sink took
abbrev pub ReplaysTexts : ℕ → ℕ → List ℕ → List ℕ → List ℕ → Taking → Result (Unit {0}) RunFault → Type 0
ReplaysTexts places last manifest script schedule out (Ok u) = ReplayedOn places last manifest script schedule out (Ok u)
ReplaysTexts places last manifest script schedule out (Err (RunFault.NoMemory refused)) = TookNothing out
ReplaysTexts places last manifest script schedule out (Err RunFault.Output) = ReplayedOn places last manifest script schedule out (Err RunFault.Output)
ReplaysTexts places last manifest script schedule out (Err (RunFault.Event f)) = ReplayedOn places last manifest script schedule out (Err (RunFault.Event f))
ReplaysTexts places last manifest script schedule out (Err f) = IsReplayUnread manifest script schedule f × TookNothing out
