-- How a run of events ends, by what its calls answered.
use Rattle.std.proofs.Common.{◌≡◌, ℕ, List, Result, Ok, Err}
use Rattle.pb_driver.specs.Words.{Event, EventFault, Note, fault_code, WorldOf, RunsTo, StopsAtEvent, ReportFault, Taking, TookNothing, Reports}
use Rattle.pb_driver.specs.declared.fault.RunFault.{RunFault}
use Rattle.pb_driver.specs.Texts.{of_report}
use Rattle.pb_driver.specs.Replays.{of_event, EventsEnd, OpensReplay, ReplaysTexts}

pub ends_reported : (w : WorldOf) (es : List Event) (ns : List Note) (v : WorldOf) (out : Taking) → RunsTo w es ns v → Reports v.shared out (Ok tt) → EventsEnd w es out (Ok tt)
ends_reported w es ns v out r p = record { notes = ns; after = v; runs = r; wrote = p }

pub ends_cut_short : (w : WorldOf) (es : List Event) (ns : List Note) (v : WorldOf) (out : Taking) (f : ReportFault) → RunsTo w es ns v → Reports v.shared out (Err f) → EventsEnd w es out (Err (of_report f))
ends_cut_short w es ns v out ReportFault.Output r p = record { notes = ns; after = v; runs = r; began = p }
ends_cut_short w es ns v out (ReportFault.NoMemory refused) r p = p

pub ends_at_event : (w : WorldOf) (es : List Event) (at : ℕ) (fault : EventFault) (v : WorldOf) (out : Taking) → TookNothing out → StopsAtEvent w es at (fault_code fault) v → EventsEnd w es out (Err (of_event at fault))
ends_at_event w es at (EventFault.NoMemory refused) v out nothing s = nothing
ends_at_event w es at EventFault.NoSuchActor v out nothing s = (record { other = λ e. cc; after = v; stops = s }, nothing)
ends_at_event w es at EventFault.Busy v out nothing s = (record { other = λ e. cc; after = v; stops = s }, nothing)
ends_at_event w es at EventFault.NoSuchJob v out nothing s = (record { other = λ e. cc; after = v; stops = s }, nothing)

-- events that ended in the world that the texts open
pub texts_are_replayed : (places last : ℕ) (m s e : List ℕ) (w : WorldOf) (es : List Event) (out : Taking) (r : Result (Unit {0}) RunFault) → OpensReplay places last m s e w es → EventsEnd w es out r → ReplaysTexts places last m s e out r
texts_are_replayed places last m s e w es out (Ok u) o h = record { world = w; events = es; opens = o; ends = h }
texts_are_replayed places last m s e w es out (Err RunFault.Output) o h = record { world = w; events = es; opens = o; ends = h }
texts_are_replayed places last m s e w es out (Err (RunFault.Event f)) o h = record { world = w; events = es; opens = o; ends = h }
texts_are_replayed places last m s e w es out (Err (RunFault.NoMemory refused)) o h = h
texts_are_replayed places last m s e w es out (Err RunFault.SeatsDiffer) o h = absurd h
texts_are_replayed places last m s e w es out (Err (RunFault.Manifest f)) o h = absurd h
texts_are_replayed places last m s e w es out (Err (RunFault.Script f)) o h = absurd h
texts_are_replayed places last m s e w es out (Err (RunFault.Schedule f)) o h = absurd h
