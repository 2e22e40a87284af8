-- Stories: the lines of a list of events, those of an excerpt, and how they are written. A line is written at once, so a story
-- that ends early has lines of the first events; each ending says which. `tell_story` promises it.
use Rattle.std.specs.Prelude.{◌≡◌, ℕ, ◌+◌, ◌≤◌, ◌⊎◌, List, [], ◌∷◌, ◌++◌, length, take, Some, slice_get, Result, Ok, Err}
use Rattle.pb_story.specs.Words.{Excerpt, Event, EventFault, WorldFault, Note, WorldOf, fault_of, Happens, Taking, TookAll, TookPart, TookNothing, IsReportIn}
use Rattle.pb_story.specs.declared.fault.StoryFault.{StoryFault}
use Rattle.pb_story.specs.Lines.{IsLine, shown_line}

-- Each event happens in turn, the first of them that of this number, and the text is the line of each of the excerpt, with its
-- note, in the world before it.
abbrev pub Recounts : Excerpt → WorldOf → ℕ → List Event → List ℕ → WorldOf → Type 0
Recounts x w number [] text v = (text ≡ []) × (v ≡ w)
Recounts x w number (e ∷ es) text v =
    (n : Note) × (m : WorldOf) × (line : List ℕ) × (rest : List ℕ) ×
    Happens w e n m × IsLine w number e n m line × Recounts x m (number + 1) es rest v × (text ≡ shown_line x number n line ++ rest)

-- ---- how the line of one event was written

-- it happened, and this is printed of its line
pub record IsEventTold (x : Excerpt) (w : WorldOf) (number : ℕ) (e : Event) (v : WorldOf) (text : List ℕ) : Type 0 where
  pub note : Note
  pub happens : Happens w e note v
  pub line : List ℕ
  pub is_line : IsLine w number e note v line
  pub text_is : text ≡ shown_line x number note line

-- it is at fault by itself, with this fault
abbrev pub IsAtFault : WorldOf → Event → EventFault → Type 0
IsAtFault w e fault = fault_of w e ≡ Some fault

-- why one event, that of this number, did nothing
abbrev pub IsEventFault : WorldOf → ℕ → Event → WorldOf → StoryFault → Type 0
IsEventFault w number e v (StoryFault.Event f) = (f.event ≡ number) × IsAtFault w e f.fault × (v ≡ w)
IsEventFault w number e v (StoryFault.NoMemory refused) = v ≡ w
IsEventFault w number e v StoryFault.Output = ⊥

-- memory was refused before it happened, or for its line after that
abbrev pub IsUntold : WorldOf → Event → WorldOf → Type 0
IsUntold w e v = (v ≡ w) ⊎ ((n : Note) × Happens w e n v)

-- what the sink took: what is printed of the line, a beginning of that where a write failed, or else nothing
abbrev pub EventEnds : Excerpt → WorldOf → ℕ → Event → WorldOf → Taking → Result (Unit {0}) StoryFault → Type 0
EventEnds x w number e v out (Ok _) = (text : List ℕ) × IsEventTold x w number e v text × TookAll out text
EventEnds x w number e v out (Err StoryFault.Output) = (text : List ℕ) × IsEventTold x w number e v text × TookPart out text
EventEnds x w number e v out (Err (StoryFault.Event f)) = IsEventFault w number e v (StoryFault.Event f) × TookNothing out
EventEnds x w number e v out (Err (StoryFault.NoMemory refused)) = IsUntold w e v × TookNothing out

-- ---- how the lines of all were written

-- the lines of all events of the excerpt were written
pub record AreTold (x : Excerpt) (w : WorldOf) (es : List Event) (v : WorldOf) (out : Taking) : Type 0 where
  pub lines : List ℕ
  pub recounts : Recounts x w 0 es lines v
  pub taken : TookAll out lines

-- the first so many events happened, and a beginning of their lines was written
pub record BeganLines (x : Excerpt) (w : WorldOf) (es : List Event) (v : WorldOf) (out : Taking) : Type 0 where
  pub count : ℕ
  pub within : count ≤ length es
  pub lines : List ℕ
  pub recounts : Recounts x w 0 (take count es) lines v
  pub taken : TookPart out lines

-- an event was at fault by itself, and the lines of those before it were written
pub record Stopped (x : Excerpt) (w : WorldOf) (es : List Event) (v : WorldOf) (f : WorldFault) (out : Taking) : Type 0 where
  pub told : AreTold x w (take f.event es) v out
  pub event : Event
  pub there : slice_get es f.event ≡ Some event
  pub at_fault : IsAtFault v event f.fault

-- there is an event of this number, and memory was refused for it or for its line
abbrev pub IsUntoldAt : WorldOf → List Event → ℕ → WorldOf → Type 0
IsUntoldAt w es number v = (e : Event) × (slice_get es number ≡ Some e) × IsUntold w e v

-- memory was refused, and the lines of the first so many events were written: of all, or of those before one that is untold
pub record LeftOff (x : Excerpt) (w : WorldOf) (es : List Event) (v : WorldOf) (out : Taking) : Type 0 where
  pub count : ℕ
  pub before : WorldOf
  pub told : AreTold x w (take count es) before out
  pub rest : ((count ≡ length es) × (v ≡ before)) ⊎ IsUntoldAt before es count v

-- how the lines ended, before any report: all of them, or up to a write, an event or a growth that failed
abbrev pub LinesEnd : Excerpt → WorldOf → List Event → WorldOf → Taking → Result (Unit {0}) StoryFault → Type 0
LinesEnd x w es v out (Ok _) = AreTold x w es v out
LinesEnd x w es v out (Err StoryFault.Output) = BeganLines x w es v out
LinesEnd x w es v out (Err (StoryFault.Event f)) = Stopped x w es v f out
LinesEnd x w es v out (Err (StoryFault.NoMemory refused)) = LeftOff x w es v out

-- ---- the story of events in a world: their lines, and then the report of what they left

-- the lines of events that happened one after the other, and then the report of the world that they led to
pub record IsStory (x : Excerpt) (w : WorldOf) (es : List Event) (v : WorldOf) (text : List ℕ) : Type 0 where
  pub lines : List ℕ
  pub recounts : Recounts x w 0 es lines v
  pub report : List ℕ
  pub reported : IsReportIn v.shared report
  pub text_is : text ≡ lines ++ report

-- the story was written whole
pub record WroteStory (x : Excerpt) (w : WorldOf) (es : List Event) (v : WorldOf) (out : Taking) : Type 0 where
  pub text : List ℕ
  pub story : IsStory x w es v text
  pub taken : TookAll out text

-- a beginning of the story was written
pub record BeganStory (x : Excerpt) (w : WorldOf) (es : List Event) (v : WorldOf) (out : Taking) : Type 0 where
  pub text : List ℕ
  pub story : IsStory x w es v text
  pub taken : TookPart out text

-- how a story ended, to which world the events led, and what the sink took
abbrev pub StoryEnds : Excerpt → WorldOf → List Event → WorldOf → Taking → Result (Unit {0}) StoryFault → Type 0
StoryEnds x w es v out (Ok _) = WroteStory x w es v out
StoryEnds x w es v out (Err StoryFault.Output) = BeganLines x w es v out ⊎ BeganStory x w es v out
StoryEnds x w es v out (Err (StoryFault.Event f)) = Stopped x w es v f out
StoryEnds x w es v out (Err (StoryFault.NoMemory refused)) = LeftOff x w es v out
