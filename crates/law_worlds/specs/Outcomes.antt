-- What comes of an event, and of a list of events: two outcomes of one world are the same. Sound worlds alone have one,
-- since of an unsound table a step may have two.
use Rattle.std.specs.Prelude.{◌≡◌, ◌≢◌, ℕ, List}
use Rattle.law_worlds.specs.Words.{Event, Note, fault_code, memory_fault, WorldOf, Happens, RunsTo, StopsAtEvent, IsSoundWorld, IsOpened}

-- two notes, each with the world that is left, are the same
pub record AreOneEvent (n : Note) (v : WorldOf) (m : Note) (u : WorldOf) : Type 0 where
  pub note : n ≡ m
  pub world : v ≡ u

-- two lists of notes, each with the world that is left, are the same
pub record AreOneRun (ns : List Note) (v : WorldOf) (ms : List Note) (u : WorldOf) : Type 0 where
  pub notes : ns ≡ ms
  pub world : v ≡ u

-- two events that are at fault, each with its number and the world that is left, are the same
pub record AreOneFault (at code : ℕ) (v : WorldOf) (by number : ℕ) (u : WorldOf) : Type 0 where
  pub place : at ≡ by
  pub told : code ≡ number
  pub world : v ≡ u

-- ---- laws

-- a world as it is opened, over any legal table
abbrev pub OpenedWorldsAreSound : Type 0
OpenedWorldsAreSound = (w : WorldOf) → IsOpened w → IsSoundWorld w

-- of any event of a sound world
abbrev pub EventsHaveOneOutcome : Type 0
EventsHaveOneOutcome = (w : WorldOf) (e : Event) (n : Note) (v : WorldOf) (m : Note) (u : WorldOf) → IsSoundWorld w → Happens w e n v → Happens w e m u → AreOneEvent n v m u

-- of any list of events that happen to the last
abbrev pub RunsHaveOneOutcome : Type 0
RunsHaveOneOutcome = (w : WorldOf) (es : List Event) (ns : List Note) (v : WorldOf) (ms : List Note) (u : WorldOf) → IsSoundWorld w → RunsTo w es ns v → RunsTo w es ms u → AreOneRun ns v ms u

-- where events stop for another reason than memory, it is at one event, with one number
abbrev pub FaultsHaveOnePlace : Type 0
FaultsHaveOnePlace =
    (w : WorldOf) (es : List Event) (at code : ℕ) (v : WorldOf) (by number : ℕ) (u : WorldOf) → IsSoundWorld w → StopsAtEvent w es at code v → StopsAtEvent w es by number u
    → code ≢ fault_code memory_fault → number ≢ fault_code memory_fault → AreOneFault at code v by number u

-- events that happen to the last stop for memory alone
abbrev pub WholeRunsHaveNoFault : Type 0
WholeRunsHaveNoFault = (w : WorldOf) (es : List Event) (ns : List Note) (v : WorldOf) (at code : ℕ) (u : WorldOf) → IsSoundWorld w → RunsTo w es ns v → StopsAtEvent w es at code u → code ≡ fault_code memory_fault
